-- What is left of MLT-1 where a run stands, and what it means that a run did some of it.
use Rattle.std.specs.Prelude.{◌≡◌, ℕ, zero, suc, ◌+◌, ◌-◌, ◌^◌, ◌<◌, ◌≤◌, min, max, Bool, cond, List, [], ◌∷◌, ◌++◌, length, take, drop, Some, None, Option, nat_lt}
use Rattle.cam.specs.Model.{Build, State}
use Rattle.march.specs.declared.step.Step.{Step}
use Rattle.march.specs.Tests.{Element, visits, visit, schedule, after, misses}
use Rattle.mlt1.specs.declared.state.RunState.{RunState}
use Rattle.mlt1.specs.Mlt1.{mlt1}

-- f v, f (v + 1), .., n of them, one after the other
abbrev pub from_on : {X : Type 0} → ℕ → ℕ → (ℕ → List X) → List X
from_on zero v f = []
from_on (suc n) v f = f v ++ from_on n (suc v) f

-- the steps of an element from operation o of visit v on
abbrev pub rest_of : ℕ → ℕ → Element → ℕ → ℕ → List Step
rest_of N W e v o =
    cond (nat_lt v (visits N W e)) (drop o (visit N W e v) ++ from_on (visits N W e - suc v) (suc v) (visit N W e)) []

-- the same of a list of elements, the first of which is being done
abbrev pub left_in : ℕ → ℕ → List Element → ℕ → ℕ → List Step
left_in N W [] v o = []
left_in N W (e ∷ es) v o = rest_of N W e v o ++ schedule N W es

-- what is left of MLT-1 from element i, visit v, operation o on
abbrev pub left_of : ℕ → ℕ → ℕ → ℕ → ℕ → List Step
left_of N W i v o = left_in N W (drop i mlt1) v o

-- the steps of MLT-1 that a run on N words of W bits has yet to do
abbrev pub left : ℕ → ℕ → RunState → List Step
left N W s = left_of N W s.element s.visit s.operation

-- what comes next: nothing, or a step after which the next operation of the visit comes
abbrev pub Next : ℕ → ℕ → RunState → Option Step → Type 0
Next N W s None = left N W s ≡ []
Next N W s (Some x) =
    (left N W s ≡ x ∷ left_of N W s.element s.visit (s.operation + 1)) × (s.operation < 8)

-- a count of 32 bits that has risen by b: it stays at the largest number
abbrev pub plus : ℕ → ℕ → ℕ
plus a b = max a (min (a + b) (2 ^ 32 - 1))

-- a run that has done nothing
abbrev pub at_start : RunState
at_start = record { element = 0; visit = 0; operation = 0; place = 0; misses = 0 }

-- the state past the step at which it stands
abbrev pub passed : Bool → RunState → RunState
passed missed s =
    record {
      element = s.element;
      visit = s.visit;
      operation = s.operation + 1;
      place = plus s.place 1;
      misses = plus s.misses (cond missed 1 0);
    }

-- A run went from s to t and did the next n steps: the array, whose state was S and is T, had just these done to it,
-- their misses are counted, and what is left is what comes after them.
pub record Went (B : Build) (n : ℕ) (s t : RunState) (S T : State) : Type 0 where
  pub within : n ≤ length (left B.words B.width s)
  pub rest : left B.words B.width t ≡ drop n (left B.words B.width s)
  pub array : T ≡ after B (take n (left B.words B.width s)) S
  pub missed : t.misses ≡ plus s.misses (misses B (take n (left B.words B.width s)) S)
  pub place : t.place ≡ plus s.place n
