-- What a test up to its first miss comes to from where it stands. Each turn of a loop without a miss leaves this as it is.
use Rattle.std.proofs.Common.{◌≡◌, ℕ, ◌+◌, true, false, ltb, List, [], ◌∷◌, sym, ap, ◌∙◌, ap₂, arith}
use Rattle.std.proofs.lemmas.Bool.{cond-true, cond-false, lt-ltb}
use Rattle.cam.specs.Model.{Build, State}
use Rattle.march.specs.declared.step.Step.{Step}
use Rattle.march.specs.Steps.{missing}
use Rattle.march.specs.Tests.{stepped, missed, after, misses}
use Rattle.campaigns.specs.Campaigns.{until_miss}

pub record Sight : Type 0 where
  pub build : Build
  pub ends : State
  pub misses : ℕ

-- these steps are left to do on an array, and none has missed so far
abbrev pub sight : Build → List Step → State → Sight
sight B ss S = record { build = B; ends = after B (until_miss B ss S) S; misses = misses B ss S }

-- the first of the steps that are left is done, and does not miss
pub sight_step : (B E : Build) (s : Step) (ss : List Step) (S T : State)
    → E ≡ B → T ≡ stepped B s S → false ≡ missing B s S → sight E ss T ≡ sight B (s ∷ ss) S
sight_step B E s ss S T e t met =
    ap₂ (λ (E : Build) (T : State). sight E ss T) e t
    ∙ (λ d. record {
      build = B;
      ends = ap (λ xs. after B xs (stepped B s S)) (sym (cond-false (missing B s S) [] (until_miss B ss (stepped B s S)) (sym met))) d;
      misses = (let z : missed B s S ≡ 0 = cond-false (missing B s S) 1 0 (sym met) in let e : misses B ss (stepped B s S) ≡ missed B s S + misses B ss (stepped B s S) = omega arith in e) d;
    })

pub sight_at : (B : Build) (xs ys : List Step) (S : State) → xs ≡ ys → sight B xs S ≡ sight B ys S
sight_at B xs ys S e = ap (λ zs. sight B zs S) e

-- The next step misses: there is a miss, and the test ends after it.
pub sight_miss : (B E : Build) (s : Step) (ss whole : List Step) (S T : State)
    → sight E (s ∷ ss) T ≡ sight B whole S → true ≡ missing E s T
    → (E ≡ B) × (stepped E s T ≡ after B (until_miss B whole S) S) × (true ≡ ltb 0 (misses B whole S))
sight_miss B E s ss whole S T all met =
    let one : missed E s T ≡ 1 = cond-true (missing E s T) 1 0 (sym met) in
    let some : missed E s T + misses E ss (stepped E s T) ≡ misses B whole S = ap (λ v. v.misses) all in (
      ap (λ v. v.build) all,
      sym (ap (λ xs. after E xs (stepped E s T)) (cond-true (missing E s T) [] (until_miss E ss (stepped E s T)) (sym met))) ∙ ap (λ v. v.ends) all,
      sym (lt-ltb 0 (misses B whole S) (omega arith)),
    )

-- Nothing is left and nothing has missed.
pub sight_end : (B E : Build) (left whole : List Step) (S T : State)
    → sight E left T ≡ sight B whole S → left ≡ []
    → (E ≡ B) × (T ≡ after B (until_miss B whole S) S) × (false ≡ ltb 0 (misses B whole S))
sight_end B E left whole S T e none =
    let all : sight E [] T ≡ sight B whole S = sym (sight_at E left [] T none) ∙ e in
    (ap (λ v. v.build) all, ap (λ v. v.ends) all, ap (λ v. ltb 0 v.misses) all)
