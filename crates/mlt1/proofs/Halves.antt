-- MLT-1 is a sweep that writes ones, and then two halves that are the same but for the bit and the order. Each half
-- shows something under a condition that the other half meets.
use Rattle.std.proofs.Common.{◌≡◌, ℕ, ◌+◌, ◌<◌, Bool, true, false, cond, not, ◌||◌, eqb, ltb, List, [], ◌∷◌, ◌++◌, map, sym, refl, ap, ◌∙◌, subst, true≢false, le_refl, arith}
use mathlib.Core.Bool.{beq, false≢true}
use Rattle.std.proofs.lemmas.Bool.{both_ways, not-true, eq-eqb, eqb-true, eqb-false, lt-ltb, cond-true, cond-false, and_from, and_left, and_right, or_from, or_left, or_right}
use Rattle.cam.specs.declared.defect.Storage.{Storage}
use Rattle.cam.specs.declared.defect.Storage.TheVariants.{Good, Sa0, Sa1, NoRise, NoFall}
use Rattle.cam.specs.Model.{Build, State, put, agrees, bit, here, read_word, matches, hit, value, all_below}
use Rattle.cam.specs.Defects.{Sound}
use Rattle.cam.specs.Patterns.{equal_bits, all_but}
use Rattle.cam.proofs.Below.{split, none_below, any_none, some_below, all_true}
use Rattle.cam.proofs.BitLaws.{bit_zero}
use Rattle.cam.proofs.Writes.{wr, wr_here, wr_other, wr_mark_here, wr_mark_other}
use Rattle.cam.proofs.Patterns.{bit_but_here, bit_but_other, bit_equal, value_equal, equal_value, agrees_at}
use Rattle.march.specs.declared.step.Step.{Step}
use Rattle.march.specs.declared.element.TestOperation.TheVariants.{Write, Read, Compare}
use Rattle.cam.specs.Machine.{upward}
use Rattle.march.specs.Tests.{at_word, on_column, after, misses}
use Rattle.march.proofs.Masking.{all_fails, no_stand_in}
use Rattle.march.proofs.Sweeps.{sweep, kept, gather, passes, first_passes, then_passes, both_pass}
use Rattle.mlt1.specs.Mlt1.{comparing}

-- a cell

abbrev pub Takes : Bool → Storage → Type 0
Takes true Good = Unit {0}
Takes true Sa0 = ⊥
Takes true Sa1 = Unit {0}
Takes true NoRise = ⊥
Takes true NoFall = Unit {0}
Takes false Good = Unit {0}
Takes false Sa0 = Unit {0}
Takes false Sa1 = ⊥
Takes false NoRise = Unit {0}
Takes false NoFall = ⊥

cycled : (s : Storage) (b h : Bool) → put s (put s h (not b)) b ≡ b → Takes b s
cycled Good true h e = tt
cycled Good false h e = tt
cycled Sa0 true h e = false≢true e
cycled Sa0 false h e = tt
cycled Sa1 true h e = tt
cycled Sa1 false h e = true≢false e
cycled NoRise true true e = false≢true e
cycled NoRise true false e = false≢true e
cycled NoRise false h e = tt
cycled NoFall true h e = tt
cycled NoFall false true e = true≢false e
cycled NoFall false false e = true≢false e

pub takes_good : (s : Storage) → Takes true s → Takes false s → s ≡ Good
takes_good Good t f = refl
takes_good Sa0 t f = absurd t
takes_good Sa1 t f = absurd f
takes_good NoRise t f = absurd t
takes_good NoFall t f = absurd f

module _ (w : Bool → Bool → Bool) (h c : Bool) where
  differ_right : beq h c ≡ false → w h c ≡ false → agrees w h c ≡ false
  differ_right d e = cond-false (w h c) (not (beq h c)) (beq h c) e ∙ d

  differ_wrong : beq h c ≡ false → w h c ≡ true → agrees w h c ≡ true
  differ_wrong d e = cond-true (w h c) (not (beq h c)) (beq h c) e ∙ ap not d

  equal_right : beq h c ≡ true → w h c ≡ false → agrees w h c ≡ true
  equal_right d e = cond-false (w h c) (not (beq h c)) (beq h c) e ∙ d

  equal_needs : beq h c ≡ true → agrees w h c ≡ true → w h c ≡ false
  equal_needs d a =
      split (w h c) (λ e. absurd (both_ways (agrees w h c) (cond-true (w h c) (not (beq h c)) (beq h c) e ∙ ap not d) a)) (λ e. e)

beq_refl : (b : Bool) → beq b b ≡ true
beq_refl true = refl
beq_refl false = refl

beq_not : (b : Bool) → beq b (not b) ≡ false
beq_not true = refl
beq_not false = refl

not_beq : (b : Bool) → beq (not b) b ≡ false
not_beq true = refl
not_beq false = refl

or_last : (a b : Bool) → a ≡ false → (a || b) ≡ true → b ≡ true
or_last false b e h = h
or_last true b e h = absurd (true≢false e)

-- a step's miss

hit_was : (t e : Bool) (y : ℕ) → cond (not (beq t e)) 1 0 + y ≡ 0 → t ≡ e
hit_was true true y h = refl
hit_was true false y h = absurd (omega arith)
hit_was false true y h = absurd (omega arith)
hit_was false false y h = refl

value_was : (u v y : ℕ) → cond (not (eqb u v)) 1 0 + y ≡ 0 → u ≡ v
value_was u v y h =
    split (eqb u v) (eqb-true u v) (λ e. let c : cond {A = ℕ} (not (eqb u v)) 1 0 ≡ 1 = cond-true (not (eqb u v)) 1 0 (ap not e) in absurd (omega arith))

hit_passes : (t e : Bool) → t ≡ e → ◌≡◌ {A = ℕ} (cond (not (beq t e)) 1 0) 0
hit_passes t e p = cond-false (not (beq t e)) 1 0 (ap not (ap (λ x. beq x e) p ∙ beq_refl e))

value_passes : (u v : ℕ) → u ≡ v → ◌≡◌ {A = ℕ} (cond (not (eqb u v)) 1 0) 0
value_passes u v p = cond-false (not (eqb u v)) 1 0 (ap not (eq-eqb u v p))

-- the bodies

module _ (B : Build) where
  abbrev pub turn : Bool → ℕ → List Step
  turn b a = map (at_word B.width a) (Write (not b) ∷ Compare (comparing (not b) true) ∷ Write b ∷ [])

  abbrev pub look : Bool → ℕ → List Step
  look b a = map (at_word B.width a) (Read b ∷ Write (not b) ∷ [])

  abbrev pub column : Bool → ℕ → List Step
  column b j = map (on_column B.width j) (comparing b false ∷ [])

  abbrev pub half : Bool → Bool → List Step → List Step
  half dir b rest = sweep dir B.words (turn b) ++ (sweep dir B.words (look b) ++ (upward B.width (column b) ++ rest))

  abbrev pub Free : ℕ → State → Type 0
  Free k S = B.stuck k ≡ true → S.mark k ≡ false

  -- word k holds b everywhere, and is marked unless its mark is stuck
  abbrev pub Is : Bool → ℕ → State → Type 0
  Is b k S = (S.mark k ≡ not (B.stuck k)) × ((j : ℕ) → j < B.width → S.held k j ≡ b)

  abbrev pub Uniform : Bool → State → Type 0
  Uniform b S = (k : ℕ) → k < B.words → Is b k S

  is_free : (b : Bool) (k : ℕ) (S : State) → Is b k S → Free k S
  is_free b k S i e = i.0 ∙ ap not e

  pub wr_free : (b : Bool) (a k : ℕ) (S : State) → Free k S → Free k (wr B b a S)
  wr_free b a k S f e = go (here B a k) (B.stuck k) (S.mark k) e ∙ f e
    where
      go : (t s m : Bool) → s ≡ true → cond t (cond s m true) m ≡ m
      go true s m q = cond-true s m true q
      go false s m q = refl

  -- the first argument of the test: which storages show

  abbrev pub Shows : Bool → ℕ → State → Type 0
  Shows b k S = (j : ℕ) → j < B.width → S.held k j ≡ b → Takes b (B.storage k j)

  turn_shows : (b : Bool) (k : ℕ) (S : State) → k < B.words → Shows b k (after B (turn b k) S)
  turn_shows b k S hk j hj e =
      let T : State = wr B (not b) k S in
      cycled (B.storage k j) b (S.held k j)
      (ap (λ x. put (B.storage k j) x b) (sym (wr_here B (not b) k j S hk hj)) ∙ sym (wr_here B b k j T hk hj) ∙ e)

  shows_other : (b c : Bool) (a k : ℕ) (S : State) → (k ≡ a → ⊥) → Shows b k S → Shows b k (wr B c a S)
  shows_other b c a k S n s j hj e = s j hj (sym (wr_other B c a k j S n) ∙ e)

  turn_keeps : (b : Bool) (k i : ℕ) (S : State) → k < B.words → i < B.words → Shows b i S → Shows b i (after B (turn b k) S)
  turn_keeps b k i S hk hi s =
      split (eqb i k) (λ e. let P : ℕ → Type 0 = λ x. Shows b x (after B (turn b k) S) in subst P (sym (eqb-true i k e)) (turn_shows b k S hk))
      (λ e. let n : i ≡ k → ⊥ = eqb-false i k e in shows_other b b k i (wr B (not b) k S) n (shows_other b (not b) k i S n s))

  read_shows : (b : Bool) (k : ℕ) (S : State) → k < B.words → misses B (look b k) S ≡ 0 → (j : ℕ) → j < B.width → S.held k j ≡ b
  read_shows b k S hk h =
      equal_value B.width (S.held k) b
      (sym (cond-true (ltb k B.words) (value B.width (S.held k)) 0 (lt-ltb k B.words hk)) ∙ value_was (read_word B k S) (equal_bits B.width b) _ h)

  abbrev AllTake : Bool → Type 0
  AllTake b = (k : ℕ) → k < B.words → (j : ℕ) → j < B.width → Takes b (B.storage k j)

  look_takes : (b dir : Bool) (S : State) → ((k : ℕ) → k < B.words → Shows b k S) → misses B (sweep dir B.words (look b)) S ≡ 0 → AllTake b
  look_takes b dir S s h =
      (gather B B.words (look b) (λ T. (k : ℕ) → k < B.words → Shows b k T) (λ k T. (j : ℕ) → j < B.width → Takes b (B.storage k j))
      visit (λ k i T hk hi q. q) dir B.words (le_refl B.words) S s h).1
    where
      visit : (k : ℕ) (T : State) → k < B.words → ((i : ℕ) → i < B.words → Shows b i T) → misses B (look b k) T ≡ 0
          → ((i : ℕ) → i < B.words → Shows b i (after B (look b k) T)) × ((j : ℕ) → j < B.width → Takes b (B.storage k j))
      visit k T hk s h =
          let t : (j : ℕ) → j < B.width → Takes b (B.storage k j) = λ j hj. s k hk j hj (read_shows b k T hk h j hj) in (
            λ i hi. split (eqb i k)
                (λ e j hj _. let P : ℕ → Type 0 = λ x. Takes b (B.storage x j) in subst P (sym (eqb-true i k e)) (t j hj))
                (λ e. shows_other b (not b) k i T (eqb-false i k e) (s i hi)),
            t,
          )

  -- half a test, from any state, shows that each storage takes b
  pub half_takes : (dir b : Bool) (rest : List Step) (S : State) → misses B (half dir b rest) S ≡ 0
      → AllTake b × ((T : State) × (misses B rest T ≡ 0))
  half_takes dir b rest S h =
      let E2 : List Step = sweep dir B.words (turn b) in
      let E3 : List Step = sweep dir B.words (look b) in
      let E4 : List Step = upward B.width (column b) in
      let h2 : misses B E2 S ≡ 0 = first_passes B E2 (E3 ++ (E4 ++ rest)) S h in
      let S2 : State = after B E2 S in
      let h3 : misses B (E3 ++ (E4 ++ rest)) S2 ≡ 0 = then_passes B E2 (E3 ++ (E4 ++ rest)) S h in
      let S3 : State = after B E3 S2 in
      let h4 : misses B (E4 ++ rest) S3 ≡ 0 = then_passes B E3 (E4 ++ rest) S2 h3 in
      let g = gather B B.words (turn b) (λ T. Unit {0}) (Shows b) (λ k T hk u m. (tt, turn_shows b k T hk)) (turn_keeps b) dir B.words (le_refl B.words) S tt h2 in
      (look_takes b dir S2 g.1 (first_passes B E3 (E4 ++ rest) S2 h3), (after B E4 S3, then_passes B E4 rest S3 h4))

  -- from here on each storage is good

  abbrev pub AllGood : Type 0
  AllGood = (k j : ℕ) → k < B.words → j < B.width → B.storage k j ≡ Good

  pub wr_is : AllGood → (b : Bool) (k : ℕ) (S : State) → k < B.words → Free k S → Is b k (wr B b k S)
  wr_is good b k S hk f = (
    wr_mark_here B b k S hk
        ∙ split (B.stuck k) (λ e. cond-true (B.stuck k) (S.mark k) true e ∙ f e ∙ sym (ap not e))
        (λ e. cond-false (B.stuck k) (S.mark k) true e ∙ sym (ap not e)),
    λ j hj. wr_here B b k j S hk hj ∙ ap (λ s. put s (S.held k j) b) (good k j hk hj),
  )

  pub is_other : (b c : Bool) (a k : ℕ) (S : State) → (k ≡ a → ⊥) → Is b k S → Is b k (wr B c a S)
  is_other b c a k S n i = (wr_mark_other B c a k S n ∙ i.0, λ j hj. wr_other B c a k j S n ∙ i.1 j hj)

  -- a write of b anywhere leaves a word that held b as it is
  pub is_kept : AllGood → (b : Bool) (a k : ℕ) (S : State) → a < B.words → Is b k S → Is b k (wr B b a S)
  is_kept good b a k S ha i =
      split (eqb k a)
      (λ e. let q : k ≡ a = eqb-true k a e in
      let P : ℕ → Type 0 = λ x. Is b x (wr B b a S) in
      let F : ℕ → Type 0 = λ x. Free x S in
      subst P (sym q) (wr_is good b a S ha (subst F q (is_free b k S i))))
      (λ e. is_other b b a k S (eqb-false k a e) i)

  turn_is : AllGood → (b : Bool) (k i : ℕ) (S : State) → k < B.words → Is b i S → Is b i (after B (turn b k) S)
  turn_is good b k i S hk is =
      split (eqb i k)
      (λ e. let q : i ≡ k = eqb-true i k e in
      let P : ℕ → Type 0 = λ x. Is b x (after B (turn b k) S) in
      let F : ℕ → Type 0 = λ x. Free x S in
      subst P (sym q) (wr_is good b k (wr B (not b) k S) hk (wr_free (not b) k k S (subst F q (is_free b i S is)))))
      (λ e. let n : i ≡ k → ⊥ = eqb-false i k e in is_other b b k i (wr B (not b) k S) n (is_other b (not b) k i S n is))

  -- the pair of h held and c compared is in no wrong set of a word whose mark can be set
  abbrev pub Clear : Bool → Bool → Type 0
  Clear h c = (k : ℕ) → k < B.words → B.stuck k ≡ false → (j : ℕ) → j < B.width → B.wrong k j h c ≡ false

  abbrev pub Right : Bool → ℕ → Type 0
  Right c k = (B.stuck k ≡ false) × ((j : ℕ) → j < B.width → B.wrong k j c c ≡ false)

  -- a word that holds b, and where b held is no wrong answer to c, does not match c in column j
  cannot : (b c : Bool) (m : ℕ) (k j : ℕ) (S : State) → beq b c ≡ false → k < B.words → j < B.width → bit m j ≡ false
      → (B.stuck k ≡ false → B.wrong k j b c ≡ false) → Is b k S → matches B (equal_bits B.width c) m S k ≡ false
  cannot b c m k j S d hk hj u cl is =
      split (B.stuck k) (λ e. and_left (S.mark k) _ (is.0 ∙ ap not e))
      (λ e. and_right (S.mark k) _
      (all_fails B.width (λ i. bit m i || agrees (B.wrong k i) (S.held k i) (bit (equal_bits B.width c) i)) j hj
      (or_from (bit m j) _ u
      (agrees_at (B.wrong k j) (S.held k j) (bit (equal_bits B.width c) j) b c (is.1 j hj) (bit_equal B.width c j hj)
      ∙ differ_right (B.wrong k j) b c d (cl e)))))

  -- A turn at word k that hits. Every other word holds b, and no marked word answers b held as a match of the other
  -- bit: so the hit is word k's own, its mark can be set, and its cells answer the pair of equal bits rightly.
  turn_right : AllGood → 0 < B.width → (b : Bool) (k : ℕ) (S : State) → k < B.words → Uniform b S → misses B (turn b k) S ≡ 0
      → Clear b (not b) → Right (not b) k
  turn_right good w1 b k S hk u h cl =
      let T : State = wr B (not b) k S in
      let is : Is (not b) k T = wr_is good (not b) k S hk (is_free b k S (u k hk)) in
      let p : ℕ = equal_bits B.width (not b) in
      let some : hit B p 0 T ≡ true = hit_was (hit B p 0 T) true (0 + 0) (omega arith) in
      let answer : ℕ → ℕ → Bool → Bool = λ i j held. bit 0 j || agrees (B.wrong i j) held (bit p j) in
      let marks : (i : ℕ) → i < B.words → T.mark i ≡ not (B.stuck i) =
      λ i hi. split (eqb i k)
      (λ e. let P : ℕ → Type 0 = λ x. T.mark x ≡ not (B.stuck x) in subst P (sym (eqb-true i k e)) is.0)
      (λ e. (is_other b (not b) k i S (eqb-false i k e) (u i hi)).0) in
      let own =
      no_stand_in Bool B.words B.width k 0 b T.mark T.held answer w1
      (λ i hi n. (is_other b (not b) k i S n (u i hi)).1 0 w1)
      (λ i hi m. or_from (bit 0 0) _ (bit_zero 0)
      (agrees_at (B.wrong i 0) b (bit p 0) b (not b) refl (bit_equal B.width (not b) 0 w1)
      ∙ differ_right (B.wrong i 0) b (not b) (beq_not b) (cl i hi (not-true (B.stuck i) (sym (marks i hi) ∙ m)) 0 w1)))
      some in (
        not-true (B.stuck k) (sym is.0 ∙ own.0),
        λ j hj. equal_needs (B.wrong k j) (not b) (not b) (beq_refl (not b))
            (sym (agrees_at (B.wrong k j) (T.held k j) (bit p j) (not b) (not b) (is.1 j hj) (bit_equal B.width (not b) j hj))
            ∙ or_last (bit 0 j) _ (bit_zero j) (own.1 j hj)),
      )

  -- a column's compare that hits nothing
  column_clear : (b : Bool) (j : ℕ) (S : State) → j < B.width → Uniform (not b) S → misses B (column b j) S ≡ 0
      → (k : ℕ) → k < B.words → B.stuck k ≡ false → B.wrong k j (not b) b ≡ false
  column_clear b j S hj u h k hk e =
      let p : ℕ = equal_bits B.width b in
      let m : ℕ = all_but B.width j in
      let none : hit B p m S ≡ false = hit_was (hit B p m S) false 0 h in
      let no-match : matches B p m S k ≡ false = none_below B.words (matches B p m S) none k hk in
      split (B.wrong k j (not b) b)
      (λ t. absurd (both_ways (matches B p m S k) no-match
      (and_from (S.mark k) _ ((u k hk).0 ∙ ap not e)
      (all_true B.width (λ i. bit m i || agrees (B.wrong k i) (S.held k i) (bit p i))
      (λ i hi. split (eqb i j)
      (λ q. let P : ℕ → Type 0 = λ x. (bit m x || agrees (B.wrong k x) (S.held k x) (bit p x)) ≡ true in
      subst P (sym (eqb-true i j q))
      (or_right (bit m j) _
      (agrees_at (B.wrong k j) (S.held k j) (bit p j) (not b) b ((u k hk).1 j hj) (bit_equal B.width b j hj)
      ∙ differ_wrong (B.wrong k j) (not b) b (not_beq b) t)))
      (λ q. or_left (bit m i) _ (bit_but_other B.width j i hj hi (eqb-false i j q))))))))
      (λ t. t)

  -- a sweep that ends each visit with a write of c leaves c everywhere
  look_uniform : AllGood → (b dir : Bool) (S : State) → Uniform b S → misses B (sweep dir B.words (look b)) S ≡ 0
      → Uniform (not b) (after B (sweep dir B.words (look b)) S)
  look_uniform good b dir S u h =
      (gather B B.words (look b) (λ T. (k : ℕ) → k < B.words → Free k T) (Is (not b))
      (λ k T hk f m. (λ i hi. wr_free (not b) k i T (f i hi), wr_is good (not b) k T hk (f k hk)))
      (λ k i T hk hi q. is_kept good (not b) k i T hk q)
      dir B.words (le_refl B.words) S (λ k hk. is_free b k S (u k hk)) h).1

  columns_keep : (b c : Bool) (S : State) → Uniform c S → Uniform c (after B (upward B.width (column b)) S)
  columns_keep b c S u = kept B B.width (column b) (Uniform c) B.width (le_refl B.width) (λ k T hk q. q) true S u

  pub half_shows : AllGood → 0 < B.width → (dir b : Bool) (rest : List Step) (S : State) → Uniform b S → misses B (half dir b rest) S ≡ 0
      → (Clear b (not b) → (k : ℕ) → k < B.words → Right (not b) k) × Clear (not b) b × ((T : State) × Uniform (not b) T × (misses B rest T ≡ 0))
  half_shows good w1 dir b rest S u h =
      let E2 : List Step = sweep dir B.words (turn b) in
      let E3 : List Step = sweep dir B.words (look b) in
      let E4 : List Step = upward B.width (column b) in
      let h2 : misses B E2 S ≡ 0 = first_passes B E2 (E3 ++ (E4 ++ rest)) S h in
      let S2 : State = after B E2 S in
      let h3 : misses B (E3 ++ (E4 ++ rest)) S2 ≡ 0 = then_passes B E2 (E3 ++ (E4 ++ rest)) S h in
      let S3 : State = after B E3 S2 in
      let h4 : misses B (E4 ++ rest) S3 ≡ 0 = then_passes B E3 (E4 ++ rest) S2 h3 in
      let g2 = gather B B.words (turn b) (Uniform b) (λ k T. Clear b (not b) → Right (not b) k)
      (λ k T hk v m. (λ i hi. turn_is good b k i T hk (v i hi), turn_right good w1 b k T hk v m))
      (λ k i T hk hi q. q) dir B.words (le_refl B.words) S u h2 in
      let u3 : Uniform (not b) S3 = look_uniform good b dir S2 g2.0 (first_passes B E3 (E4 ++ rest) S2 h3) in
      let g4 = gather B B.width (column b) (Uniform (not b))
      (λ j T. (k : ℕ) → k < B.words → B.stuck k ≡ false → B.wrong k j (not b) b ≡ false)
      (λ j T hj v m. (v, column_clear b j T hj v m)) (λ k i T hk hi q. q) true B.width (le_refl B.width) S3 u3
      (first_passes B E4 rest S3 h4) in
      (λ cl k hk. g2.1 k hk cl, λ k hk e j hj. g4.1 j hj k hk e, (after B E4 S3, g4.0, then_passes B E4 rest S3 h4))

  -- the converse: a sound array passes

  module _ (sound : Sound B) where
    turn_passes : (b : Bool) (k : ℕ) (S : State) → k < B.words → Is b k S → misses B (turn b k) S ≡ 0
    turn_passes b k S hk is =
        let T : State = wr B (not b) k S in
        let it : Is (not b) k T = wr_is sound.good (not b) k S hk (is_free b k S is) in
        let p : ℕ = equal_bits B.width (not b) in
        let all : all_below B.width (λ i. bit 0 i || agrees (B.wrong k i) (T.held k i) (bit p i)) ≡ true =
        all_true B.width (λ i. bit 0 i || agrees (B.wrong k i) (T.held k i) (bit p i))
        (λ j hj. or_right (bit 0 j) _
        (agrees_at (B.wrong k j) (T.held k j) (bit p j) (not b) (not b) (it.1 j hj) (bit_equal B.width (not b) j hj)
        ∙ equal_right (B.wrong k j) (not b) (not b) (beq_refl (not b)) (sound.right k j hk hj (not b) (not b)))) in
        let yes-hit : hit B p 0 T ≡ true =
        some_below B.words (matches B p 0 T) k hk (and_from (T.mark k) _ (it.0 ∙ ap not (sound.free k hk)) all) in
        let z : ◌≡◌ {A = ℕ} (cond (not (beq (hit B p 0 T) true)) 1 0) 0 = hit_passes (hit B p 0 T) true yes-hit in
        omega arith

    look_passes : (b : Bool) (k : ℕ) (S : State) → k < B.words → Is b k S → misses B (look b k) S ≡ 0
    look_passes b k S hk is =
        let v : read_word B k S ≡ equal_bits B.width b =
        cond-true (ltb k B.words) (value B.width (S.held k)) 0 (lt-ltb k B.words hk) ∙ value_equal B.width (S.held k) b is.1 in
        let z : ◌≡◌ {A = ℕ} (cond (not (eqb (read_word B k S) (equal_bits B.width b))) 1 0) 0 = value_passes (read_word B k S) (equal_bits B.width b) v in
        omega arith

    column_passes : (b : Bool) (j : ℕ) (S : State) → j < B.width → Uniform (not b) S → misses B (column b j) S ≡ 0
    column_passes b j S hj u =
        let p : ℕ = equal_bits B.width b in
        let m : ℕ = all_but B.width j in
        let no_hit : hit B p m S ≡ false =
        any_none B.words (matches B p m S)
        (λ k hk. cannot (not b) b m k j S (not_beq b) hk hj (bit_but_here B.width j hj) (λ e. sound.right k j hk hj (not b) b) (u k hk)) in
        let z : ◌≡◌ {A = ℕ} (cond (not (beq (hit B p m S) false)) 1 0) 0 = hit_passes (hit B p m S) false no_hit in
        omega arith

    pub half_passes : (dir b : Bool) (rest : List Step) (S : State) → Uniform b S
        → ((T : State) → Uniform (not b) T → misses B rest T ≡ 0) → misses B (half dir b rest) S ≡ 0
    half_passes dir b rest S u go =
        let E2 : List Step = sweep dir B.words (turn b) in
        let E3 : List Step = sweep dir B.words (look b) in
        let E4 : List Step = upward B.width (column b) in
        let S2 : State = after B E2 S in
        let S3 : State = after B E3 S2 in
        let h2 : misses B E2 S ≡ 0 =
        passes B B.words (turn b) (Is b) (turn_passes b) (λ k i T hk hi n q. turn_is sound.good b k i T hk q) dir B.words (le_refl B.words) S u in
        let u2 : Uniform b S2 =
        kept B B.words (turn b) (Uniform b) B.words (le_refl B.words) (λ k T hk v i hi. turn_is sound.good b k i T hk (v i hi)) dir S u in
        let h3 : misses B E3 S2 ≡ 0 =
        passes B B.words (look b) (Is b) (look_passes b) (λ k i T hk hi n q. is_other b (not b) k i T n q) dir B.words (le_refl B.words) S2 u2 in
        let u3 : Uniform (not b) S3 = look_uniform sound.good b dir S2 u2 h3 in
        let h4 : misses B E4 S3 ≡ 0 =
        passes B B.width (column b) (λ j T. Uniform (not b) T) (column_passes b) (λ k i T hk hi n q. q) true B.width (le_refl B.width) S3 (λ i hi. u3) in
        both_pass B E2 (E3 ++ (E4 ++ rest)) S h2
        (both_pass B E3 (E4 ++ rest) S2 h3 (both_pass B E4 rest S3 h4 (go (after B E4 S3) (columns_keep b (not b) S3 u3))))
