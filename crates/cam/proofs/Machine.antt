-- Runs of any machine, and what a sweep shows: stated once for every machine, order and body.
use Rattle.std.proofs.Common.{◌≡◌, ℕ, zero, suc, ◌+◌, ◌-◌, ◌<◌, ◌≤◌, Bool, true, false, List, [], ◌∷◌, ◌++◌, length, sym, refl, ap, ◌∙◌, subst, ap₂, append_assoc, append-nil, arith}
use Rattle.cam.proofs.Below.{below_suc}
use Rattle.cam.specs.Machine.{after_of, misses_of, upward}

-- f (n - 1), .., f 1, f 0, one after the other
abbrev pub downward : {X : Type 0} → ℕ → (ℕ → List X) → List X
downward zero f = []
downward (suc n) f = f n ++ downward n f

upward_same : {X : Type 0} (n : ℕ) (f g : ℕ → List X) → ((k : ℕ) → k < n → f k ≡ g k) → upward n f ≡ upward n g
upward_same zero f g h = refl
upward_same (suc n) f g h = ap₂ ◌++◌ (upward_same n f g (λ k l. h k (omega arith))) (h n (omega arith))

downward_last : {X : Type 0} (n : ℕ) (f : ℕ → List X) → downward (suc n) f ≡ downward n (λ k. f (suc k)) ++ f 0
downward_last zero f = append-nil (f 0)
downward_last (suc n) f = ap (λ xs. f (suc n) ++ xs) (downward_last n f) ∙ sym (append_assoc (f (suc n)) (downward n (λ k. f (suc k))) (f 0))

-- visits counted from 0 that go down from n - 1
pub upward_reversed : {X : Type 0} (n : ℕ) (f : ℕ → List X) → upward n (λ v. f (n - 1 - v)) ≡ downward n f
upward_reversed zero f = refl
upward_reversed (suc n) f =
    ap₂ ◌++◌
    (upward_same n (λ v. f (suc n - 1 - v)) (λ v. f (suc (n - 1 - v))) (λ k l. let e : suc n - 1 - k ≡ suc (n - 1 - k) = omega arith in ap f e)
    ∙ upward_reversed n (λ k. f (suc k)))
    (let e : suc n - 1 - n ≡ 0 = omega arith in ap f e)
    ∙ sym (downward_last n f)

-- the two orders
abbrev pub sweep : {X : Type 0} → Bool → ℕ → (ℕ → List X) → List X
sweep true n f = upward n f
sweep false n f = downward n f

module _ {X St : Type 0} (step : X → St → St) (missed : X → St → ℕ) where
  pub after-++ : (xs ys : List X) (S : St) → after_of step (xs ++ ys) S ≡ after_of step ys (after_of step xs S)
  after-++ [] ys S = refl
  after-++ (x ∷ xs) ys S = after-++ xs ys (step x S)

  pub misses-++ : (xs ys : List X) (S : St) → misses_of step missed (xs ++ ys) S ≡ misses_of step missed xs S + misses_of step missed ys (after_of step xs S)
  misses-++ [] ys S = omega arith
  misses-++ (x ∷ xs) ys S = omega (arith, misses-++ xs ys (step x S))

  -- a step misses at most once
  pub misses_few : ((x : X) (S : St) → missed x S ≤ 1) → (xs : List X) (S : St) → misses_of step missed xs S ≤ length xs
  misses_few few [] S = omega arith
  misses_few few (x ∷ xs) S = omega (arith, few x S, misses_few few xs (step x S))

  pub first_passes : (xs ys : List X) (S : St) → misses_of step missed (xs ++ ys) S ≡ 0 → misses_of step missed xs S ≡ 0
  first_passes xs ys S h = omega (arith, misses-++ xs ys S)

  pub then_passes : (xs ys : List X) (S : St) → misses_of step missed (xs ++ ys) S ≡ 0 → misses_of step missed ys (after_of step xs S) ≡ 0
  then_passes xs ys S h = omega (arith, misses-++ xs ys S)

  pub both_pass : (xs ys : List X) (S : St) → misses_of step missed xs S ≡ 0 → misses_of step missed ys (after_of step xs S) ≡ 0 → misses_of step missed (xs ++ ys) S ≡ 0
  both_pass xs ys S g h = omega (arith, misses-++ xs ys S)

  module _ (N : ℕ) (f : ℕ → List X) where
    -- what each visit keeps, the sweep keeps
    pub kept : (Q : St → Type 0) (n : ℕ) → n ≤ N → ((k : ℕ) (S : St) → k < n → Q S → Q (after_of step (f k) S))
        → (dir : Bool) (S : St) → Q S → Q (after_of step (sweep dir n f) S)
    kept Q zero l keep true S q = q
    kept Q zero l keep false S q = q
    kept Q (suc n) l keep true S q =
        subst Q (sym (after-++ (upward n f) (f n) S))
        (keep n _ (omega arith) (kept Q n (omega arith) (λ k T g. keep k T (omega arith)) true S q))
    kept Q (suc n) l keep false S q =
        subst Q (sym (after-++ (f n) (downward n f) S))
        (kept Q n (omega arith) (λ k T g. keep k T (omega arith)) false (after_of step (f n) S) (keep n S (omega arith) q))

    -- from a run with no miss: I holds before and after each visit, and a visit of k shows Q k
    pub gather : (I : St → Type 0) (Q : ℕ → St → Type 0)
        → ((k : ℕ) (S : St) → k < N → I S → misses_of step missed (f k) S ≡ 0 → I (after_of step (f k) S) × Q k (after_of step (f k) S))
        → ((k i : ℕ) (S : St) → k < N → i < N → Q i S → Q i (after_of step (f k) S))
        → (dir : Bool) (n : ℕ) → n ≤ N → (S : St) → I S → misses_of step missed (sweep dir n f) S ≡ 0
        → I (after_of step (sweep dir n f) S) × ((i : ℕ) → i < n → Q i (after_of step (sweep dir n f) S))
    gather I Q visit keep true zero l S i h = (i, λ k g. absurd (omega arith))
    gather I Q visit keep false zero l S i h = (i, λ k g. absurd (omega arith))
    gather I Q visit keep true (suc n) l S i h =
        let ih = gather I Q visit keep true n (omega arith) S i (first_passes (upward n f) (f n) S h) in
        let T : St = after_of step (upward n f) S in
        let v = visit n T (omega arith) ih.0 (then_passes (upward n f) (f n) S h) in
        let P : St → Type 0 = λ U. I U × ((k : ℕ) → k < suc n → Q k U) in
        subst P (sym (after-++ (upward n f) (f n) S))
        (v.0, below_suc {P = λ k. Q k (after_of step (f n) T)} n v.1 (λ k g. keep n k T (omega arith) (omega arith) (ih.1 k g)))
    gather I Q visit keep false (suc n) l S i h =
        let v = visit n S (omega arith) i (first_passes (f n) (downward n f) S h) in
        let T : St = after_of step (f n) S in
        let ih = gather I Q visit keep false n (omega arith) T v.0 (then_passes (f n) (downward n f) S h) in
        let P : St → Type 0 = λ U. I U × ((k : ℕ) → k < suc n → Q k U) in
        subst P (sym (after-++ (f n) (downward n f) S))
        (ih.0, below_suc {P = λ k. Q k (after_of step (downward n f) T)} n (kept (Q n) n (omega arith) (λ k U g. keep k n U (omega arith) (omega arith)) false T v.1) ih.1)

    -- that a run has no miss: a visit of k passes where P k holds, and no visit of another word breaks P k
    pub passes : (P : ℕ → St → Type 0) → ((k : ℕ) (S : St) → k < N → P k S → misses_of step missed (f k) S ≡ 0)
        → ((k i : ℕ) (S : St) → k < N → i < N → (i ≡ k → ⊥) → P i S → P i (after_of step (f k) S))
        → (dir : Bool) (n : ℕ) → n ≤ N → (S : St) → ((i : ℕ) → i < n → P i S) → misses_of step missed (sweep dir n f) S ≡ 0
    passes P visit keep true zero l S p = refl
    passes P visit keep false zero l S p = refl
    passes P visit keep true (suc n) l S p =
        both_pass (upward n f) (f n) S (passes P visit keep true n (omega arith) S (λ i g. p i (omega arith)))
        (visit n _ (omega arith) (kept (P n) n (omega arith) (λ k T g. keep k n T (omega arith) (omega arith) (omega arith)) true S (p n (omega arith))))
    passes P visit keep false (suc n) l S p =
        both_pass (f n) (downward n f) S (visit n S (omega arith) (p n (omega arith)))
        (passes P visit keep false n (omega arith) (after_of step (f n) S) (λ i g. keep n i S (omega arith) (omega arith) (omega arith) (p i (omega arith))))
