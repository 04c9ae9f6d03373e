-- What a trial answers and leaves behind.
use Rattle.std.specs.Prelude.{◌≡◌, ℕ, ◌+◌, ◌*◌, cond, ◌↔◌, List, [], ◌∷◌, length, nat_le, slice_set}
use Rattle.cam.specs.Model.{Build, State}
use Rattle.cam.specs.Defects.{Sound}
use Rattle.cam.specs.Refusals.{Question, ask}
use Rattle.march.specs.declared.step.Step.{Step}
use Rattle.march.specs.Tests.{Element, schedule, missed, misses}
use Rattle.mlt1.specs.Mlt1.{mlt1}
use Rattle.trials.specs.declared.doing.Log.{Log}
use Rattle.trials.specs.declared.result.TrialResult.{TrialResult}
use Rattle.trials.specs.Outcomes.{is_check, check_count}

-- the steps of a test on an array
abbrev pub steps_on : Build → List Element → List Step
steps_on B es = schedule B.words B.width es

-- a byte for every outcome
abbrev pub trial_questions : Build → List Element → ℕ → List Question
trial_questions B es bytes = ask (nat_le (check_count (steps_on B es)) bytes) 71 ∷ []

-- how many operations were done, and how many missed
abbrev pub trial_of : Build → List Element → State → TrialResult
trial_of B es S = record { operations = length (steps_on B es); misses = misses B (steps_on B es) S }

-- A trial of MLT-1 tells what a whole run of it on a bench tells: the same misses, and none exactly when the array has
-- no listed defect.
pub record TellsAsARun (B : Build) (S : State) (t : TrialResult) : Type 0 where
  pub operations : t.operations ≡ 11 * B.words + 2 * B.width
  pub misses : t.misses ≡ misses B (steps_on B mlt1) S
  pub none_exactly_when_sound : (t.misses ≡ 0) ↔ Sound B

-- the log of a trial, one step later
abbrev pub logged : Build → Step → State → Log → Log
logged B s S log =
    record {
      so_far = record { operations = log.so_far.operations + 1; misses = log.so_far.misses + missed B s S };
      outcomes = log.outcomes + cond (is_check s.operation) 1 0;
    }

-- a step's outcome, if it has one, stands in the buffer at a place
abbrev pub noted : Build → Step → State → ℕ → List ℕ → List ℕ
noted B s S at old = cond (is_check s.operation) (slice_set old at (missed B s S)) old
