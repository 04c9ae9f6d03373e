-- An operation on a word that the array does not have only counts; and the tally after one more operation.
use Rattle.std.proofs.Common.{◌≡◌, ℕ, ◌≤◌, min, cond, ◌&&◌, eqb, ltb, ap, ap₂, arith}
use mathlib.Core.Path.{fun_ext}
use Rattle.std.proofs.lemmas.Bool.{eqb-true, le-ltb, cond-false, and_left, and_right}
use Rattle.cam.specs.Model.{Build, State, written, erased, counted, one_more, tally_cap}
use Rattle.cam.proofs.Below.{split}

past_words : {X : Type 0} (n a k : ℕ) (y z : X) → n ≤ a → cond (eqb k a && ltb k n) y z ≡ z
past_words n a k y z l =
    cond-false (eqb k a && ltb k n) y z
    (split (eqb k a)
    (λ e. and_right (eqb k a) (ltb k n) (le-ltb k n (omega (arith, eqb-true k a e))))
    (λ e. and_left (eqb k a) (ltb k n) e))

pub written_outside : (B : Build) (S : State) (a p m : ℕ) → B.words ≤ a → written B a p m S ≡ counted S
written_outside B S a p m l =
    ap₂ {C = State} (λ h k. record { held = h; mark = k; tally = one_more S.tally })
    (fun_ext (λ k. fun_ext (λ j. past_words B.words a k _ _ l))) (fun_ext (λ k. past_words B.words a k _ _ l))

pub erased_outside : (B : Build) (S : State) (a : ℕ) → B.words ≤ a → erased B a S ≡ counted S
erased_outside B S a l =
    ap {B = State} (λ k. record { held = S.held; mark = k; tally = one_more S.tally }) (fun_ext (λ k. past_words B.words a k _ _ l))

-- where a maker keeps a tally that means itself up to the cap
pub tally_more : (t : ℕ) → min (one_more t) tally_cap ≡ one_more (min t tally_cap)
tally_more t = omega arith
