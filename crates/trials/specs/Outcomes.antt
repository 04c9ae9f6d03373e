-- The outcomes of a list of steps: a byte for each read or compare, 1 for a miss and 0 otherwise.
use Rattle.std.specs.Prelude.{◌≡◌, ℕ, ◌*◌, ◌≤◌, Bool, true, false, cond, List, [], ◌∷◌, ◌++◌, length, ◌==◌, slice_index, count_by}
use Rattle.cam.specs.Model.{Build, State}
use Rattle.cam.specs.declared.operation.Operation.{Operation}
use Rattle.cam.specs.declared.operation.Operation.TheVariants as operation
use Rattle.march.specs.declared.step.Step.{Step}
use Rattle.march.specs.declared.element.TestOperation.{TestOperation}
use Rattle.march.specs.declared.element.TestOperation.TheVariants.{Write, Read, Compare, Erase}
use Rattle.march.specs.Building.{operations_of}
use Rattle.march.specs.Tests.{Element, visits, schedule, stepped, missed, misses}

-- a read or a compare
abbrev pub is_check : Operation → Bool
is_check (operation.Write a p m) = false
is_check (operation.Read a) = true
is_check (operation.Compare p m) = true
is_check (operation.Erase a) = false

-- the outcome of a step, if it has one
abbrev pub outcome : Build → Step → State → List ℕ
outcome B s S = cond (is_check s.operation) (missed B s S ∷ []) []

-- the outcomes of a list of steps, in their order
abbrev pub outcomes : Build → List Step → State → List ℕ
outcomes B [] S = []
outcomes B (s ∷ ss) S = outcome B s S ++ outcomes B ss (stepped B s S)

-- how many of the steps read or compare
abbrev pub check_count : List Step → ℕ
check_count ss = count_by (λ s. is_check s.operation) ss

-- how many bytes are 1
abbrev pub ones : List ℕ → ℕ
ones xs = count_by (λ x. x == 1) xs

-- What the outcomes of a test tell, whatever the array: there is one for each read or compare, each is 0 or 1, and as
-- many are 1 as steps missed.
pub record OutcomeLaws : Type 0 where
  pub one_each : (B : Build) (ss : List Step) (S : State) → length (outcomes B ss S) ≡ check_count ss
  pub zero_or_one : (B : Build) (ss : List Step) (S : State) (i : ℕ) → slice_index (outcomes B ss S) i ≤ 1
  pub ones_are_misses : (B : Build) (N W : ℕ) (es : List Element) (S : State) → ones (outcomes B (schedule N W es) S) ≡ misses B (schedule N W es) S

-- the same of the operations of an element, which do not depend on the visit
abbrev pub reads_or_compares : TestOperation → Bool
reads_or_compares (Write b) = false
reads_or_compares (Read b) = true
reads_or_compares (Compare c) = true
reads_or_compares Erase = false

abbrev pub checks_among : List TestOperation → ℕ
checks_among os = count_by reads_or_compares os

-- how many reads and compares a visit does
abbrev pub checks_of : Element → ℕ
checks_of e = checks_among (operations_of e)

-- and how many all visits of an element do
abbrev pub checks_in : ℕ → ℕ → Element → ℕ
checks_in N W e = checks_of e * visits N W e
