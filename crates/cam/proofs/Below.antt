-- Facts on a test of every number below n, any_below and all_below, also where the numbers are the places of a list.
use Rattle.std.proofs.Common.{◌≡◌, ℕ, zero, suc, ◌<◌, Bool, true, false, ◌&&◌, ◌||◌, eqb, List, [], ◌∷◌, length, get_or, sym, refl, subst, ap, ◌∙◌, ap₂, arith}
use Rattle.std.specs.List.{list_any, list_all}
use Rattle.std.proofs.lemmas.Bool.{both_ways, eqb-true, eqb-false, and_from, and_parts, or_from, or_parts}
use Rattle.cam.specs.Model.{any_below, all_below}

-- by cases of a test, with the equation in hand
pub split : {P : Type 0} (t : Bool) → (t ≡ true → P) → (t ≡ false → P) → P
split true f g = f refl
split false f g = g refl

pub below_suc : {P : ℕ → Type 0} (n : ℕ) → P n → ((k : ℕ) → k < n → P k) → (k : ℕ) → k < suc n → P k
below_suc {P} n p f k h =
    split (eqb k n)
    (λ e. subst P (sym (eqb-true k n e)) p)
    (λ e. f k (let ne : k ≡ n → ⊥ = eqb-false k n e in omega arith))

pub none_below : (n : ℕ) (f : ℕ → Bool) → any_below n f ≡ false → (k : ℕ) → k < n → f k ≡ false
none_below zero f e k h = absurd (omega arith)
none_below (suc n) f e k h =
    let both = or_parts (f n) (any_below n f) e in
    below_suc {P = λ i. f i ≡ false} n both.0 (none_below n f both.1) k h

pub some_below : (n : ℕ) (f : ℕ → Bool) (k : ℕ) → k < n → f k ≡ true → any_below n f ≡ true
some_below n f k h e =
    split (any_below n f) (λ t. t) (λ t. absurd (both_ways (f k) (none_below n f t k h) e))

pub any_none : (n : ℕ) (f : ℕ → Bool) → ((k : ℕ) → k < n → f k ≡ false) → any_below n f ≡ false
any_none zero f h = refl
any_none (suc n) f h = or_from (f n) (any_below n f) (h n (omega arith)) (any_none n f (λ k l. h k (omega arith)))

pub all_true : (n : ℕ) (f : ℕ → Bool) → ((k : ℕ) → k < n → f k ≡ true) → all_below n f ≡ true
all_true zero f h = refl
all_true (suc n) f h = and_from (f n) (all_below n f) (h n (omega arith)) (all_true n f (λ k l. h k (omega arith)))

pub each_below : (n : ℕ) (f : ℕ → Bool) → all_below n f ≡ true → (k : ℕ) → k < n → f k ≡ true
each_below zero f e k h = absurd (omega arith)
each_below (suc n) f e k h =
    let both = and_parts (f n) (all_below n f) e in
    below_suc {P = λ i. f i ≡ true} n both.0 (each_below n f both.1) k h

pub any_same : (n : ℕ) (f g : ℕ → Bool) → ((k : ℕ) → k < n → f k ≡ g k) → any_below n f ≡ any_below n g
any_same zero f g h = refl
any_same (suc n) f g h = ap₂ ◌||◌ (h n (omega arith)) (any_same n f g (λ k l. h k (omega arith)))

pub all_same : (n : ℕ) (f g : ℕ → Bool) → ((k : ℕ) → k < n → f k ≡ g k) → all_below n f ≡ all_below n g
all_same zero f g h = refl
all_same (suc n) f g h = ap₂ ◌&&◌ (h n (omega arith)) (all_same n f g (λ k l. h k (omega arith)))

any_from_0 : (n : ℕ) (f : ℕ → Bool) → any_below (suc n) f ≡ (f 0 || any_below n (λ k. f (suc k)))
any_from_0 zero f = refl
any_from_0 (suc n) f = let rest = any_from_0 n f in grind arith

all_from_0 : (n : ℕ) (f : ℕ → Bool) → all_below (suc n) f ≡ (f 0 && all_below n (λ k. f (suc k)))
all_from_0 zero f = refl
all_from_0 (suc n) f = let rest = all_from_0 n f in grind arith

-- what `any` answers of a list, as a test of its places
pub any_of_list : {X : Type 0} (test : X → Bool) (d : X) (xs : List X) → list_any test xs ≡ any_below (length xs) (λ k. test (get_or xs k d))
any_of_list test d [] = refl
any_of_list test d (x ∷ xs) =
    ap (λ b. test x || b) (any_of_list test d xs) ∙ sym (any_from_0 (length xs) (λ k. test (get_or (x ∷ xs) k d)))

-- what `all` answers of a list, as a test of its places
pub all_of_list : {X : Type 0} (test : X → Bool) (d : X) (xs : List X) → list_all test xs ≡ all_below (length xs) (λ k. test (get_or xs k d))
all_of_list test d [] = refl
all_of_list test d (x ∷ xs) =
    ap (λ b. test x && b) (all_of_list test d xs) ∙ sym (all_from_0 (length xs) (λ k. test (get_or (x ∷ xs) k d)))
