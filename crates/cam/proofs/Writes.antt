-- A write of equal bits to a whole word, cell by cell.
use Rattle.std.proofs.Common.{◌≡◌, ℕ, ◌<◌, Bool, true, cond, not, ◌&&◌, ltb, refl, ap, ◌∙◌}
use Rattle.std.proofs.lemmas.Bool.{eq-eqb, ne_eqb, lt-ltb, cond-true, cond-false, and_from, and_left}
use Rattle.cam.specs.Model.{Build, State, put, bit, here, written}
use Rattle.cam.specs.Patterns.{equal_bits}
use Rattle.cam.proofs.BitLaws.{bit_zero}
use Rattle.cam.proofs.Patterns.{bit_equal}

module _ (B : Build) where
  abbrev pub wr : Bool → ℕ → State → State
  wr b a S = written B a (equal_bits B.width b) 0 S

  -- what a whole write does
  pub wr_here : (b : Bool) (a j : ℕ) (S : State) → a < B.words → j < B.width → (wr b a S).held a j ≡ put (B.storage a j) (S.held a j) b
  wr_here b a j S ha hj =
      cond-true (here B a a) _ _ (and_from _ _ (eq-eqb a a refl) (lt-ltb a B.words ha))
      ∙ cond-true (ltb j B.width && not (bit 0 j)) _ _ (and_from _ _ (lt-ltb j B.width hj) (ap not (bit_zero j)))
      ∙ ap (put (B.storage a j) (S.held a j)) (bit_equal B.width b j hj)

  pub wr_other : (b : Bool) (a k j : ℕ) (S : State) → (k ≡ a → ⊥) → (wr b a S).held k j ≡ S.held k j
  wr_other b a k j S n =
      cond-false (here B a k) _ _ (and_left _ _ (ne_eqb k a n))

  pub wr_mark_here : (b : Bool) (a : ℕ) (S : State) → a < B.words → (wr b a S).mark a ≡ cond (B.stuck a) (S.mark a) true
  wr_mark_here b a S ha = cond-true (here B a a) _ _ (and_from _ _ (eq-eqb a a refl) (lt-ltb a B.words ha))

  pub wr_mark_other : (b : Bool) (a k : ℕ) (S : State) → (k ≡ a → ⊥) → (wr b a S).mark k ≡ S.mark k
  wr_mark_other b a k S n = cond-false (here B a k) _ _ (and_left _ _ (ne_eqb k a n))
