-- What a trial of MLT-1 tells.
use Rattle.std.proofs.Common.{◌≡◌, ℕ, ◌≤◌, min, List, sym, ap, ◌∙◌, ap₂, arith}
use Rattle.cam.specs.Model.{Build, State, WellFormed}
use Rattle.march.specs.Tests.{Element, schedule, misses}
use Rattle.mlt1.specs.Mlt1.{mlt1}
use Rattle.mlt1.proofs.Lengths.{length_is}
use Rattle.mlt1.proofs.Separating.{separates}
use Rattle.trials.specs.declared.result.TrialResult.{TrialResult}
use Rattle.trials.specs.Outcomes.{check_count}
use Rattle.trials.specs.Trials.{steps_on, trial_of, TellsAsARun}

pub tells : (B : Build) (S : State) (es : List Element) (t : TrialResult) → WellFormed B S → t ≡ trial_of B es S → es ≡ mlt1 → TellsAsARun B S t
tells B S es t formed e same =
    let all : t ≡ trial_of B mlt1 S = e ∙ ap (λ es. trial_of B es S) same in
    let lost : t.misses ≡ misses B (steps_on B mlt1) S = ap (λ t. t.misses) all in
    let both = separates B S formed.some_bits formed.steady in
    record {
      operations = ap (λ t. t.operations) all ∙ length_is B.words B.width;
      misses = lost;
      none_exactly_when_sound = (λ z. both.0 (sym lost ∙ z), λ s. lost ∙ both.1 s);
    }

-- the outcomes that were counted are those on this array
pub counted_on : (B : Build) (es : List Element) (n w k : ℕ) → n ≡ B.words → w ≡ B.width → B.width ≤ 64
    → k ≡ check_count (schedule n (min w 64) es) → k ≡ check_count (steps_on B es)
counted_on B es n w k p q l e =
    e ∙ ap₂ (λ (a b : ℕ). check_count (schedule a b es)) p (let m : min w 64 ≡ B.width = omega arith in m)
