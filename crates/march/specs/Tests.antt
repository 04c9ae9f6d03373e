-- Tests as lists of elements, their schedules, and what a schedule makes of an array.
use Rattle.std.specs.Prelude.{ℕ, ◌-◌, cond, List, [], ◌∷◌, ◌++◌, map, None, Option, nat_lt}
use Rattle.std.specs.List.{slice_get}
use Rattle.cam.specs.Model.{Build, State}
use Rattle.cam.specs.Patterns.{equal_bits, all_but}
use Rattle.cam.specs.Operations.{operated}
use Rattle.cam.specs.declared.index.WordIndex.{WordIndex}
use Rattle.cam.specs.declared.operation.Operation.TheVariants as operation
use Rattle.march.specs.declared.step.Expectation.TheVariants as expect
use Rattle.march.specs.declared.step.Step.{Step}
use Rattle.march.specs.declared.element.Comparison.{Comparison}
use Rattle.march.specs.declared.element.TestOperation.{TestOperation}
use Rattle.march.specs.declared.element.TestOperation.TheVariants.{Write, Read, Compare, Erase}
use Rattle.march.specs.declared.element.Element.{Element as ElementRecord}
use Rattle.march.specs.declared.element.Element.TheVariants.{Up, Down, Columns}
use Rattle.march.specs.Lists.{listed}
use Rattle.cam.specs.Machine.{after_of, misses_of, upward}
use Rattle.march.specs.Steps.{missing}

abbrev pub word : ℕ → WordIndex
word a = record { number = a }

-- an operation of a test at word a of W bits: equal bits, no column blocked
abbrev pub at_word : ℕ → ℕ → TestOperation → Step
at_word W a (Write b) = record { operation = operation.Write (word a) (equal_bits W b) 0; expected = expect.Nothing }
at_word W a (Read b) = record { operation = operation.Read (word a); expected = expect.Bits (equal_bits W b) }
at_word W a (Compare c) = record { operation = operation.Compare (equal_bits W c.bit) 0; expected = expect.Hit c.hit }
at_word W a Erase = record { operation = operation.Erase (word a); expected = expect.Nothing }

-- a compare on column j alone
abbrev pub on_column : ℕ → ℕ → Comparison → Step
on_column W j c =
    record { operation = operation.Compare (equal_bits W c.bit) (all_but W j); expected = expect.Hit c.hit }

-- An element does its operations at each word, from 0 upward or from N - 1 downward, or its compares on each column,
-- from 0 upward.
pub data Element : Type 0 where
  up : List TestOperation → Element
  down : List TestOperation → Element
  columns : List Comparison → Element

-- how many words or columns an element visits
abbrev pub visits : ℕ → ℕ → Element → ℕ
visits N W (up os) = N
visits N W (down os) = N
visits N W (columns cs) = W

-- the steps of visit v, counted from 0
abbrev pub visit : ℕ → ℕ → Element → ℕ → List Step
visit N W (up os) v = map (at_word W v) os
visit N W (down os) v = map (at_word W (N - 1 - v)) os
visit N W (columns cs) v = map (on_column W v) cs

-- the steps of visit v, where the element makes that visit
abbrev pub steps_in_visit : ℕ → ℕ → Element → ℕ → List Step
steps_in_visit N W e v = cond (nat_lt v (visits N W e)) (visit N W e v) []

-- step o of visit v, where there is one
abbrev pub step_at : ℕ → ℕ → Element → ℕ → ℕ → Option Step
step_at N W e v o = cond (nat_lt v (visits N W e)) (slice_get (visit N W e v) o) None

abbrev pub steps_of : ℕ → ℕ → Element → List Step
steps_of N W e = upward (visits N W e) (visit N W e)

-- the steps of a test, in their order, on an array of N words of W bits
abbrev pub schedule : ℕ → ℕ → List Element → List Step
schedule N W [] = []
schedule N W (e ∷ es) = steps_of N W e ++ schedule N W es

abbrev pub stepped : Build → Step → State → State
stepped B s S = operated B s.operation S

abbrev pub missed : Build → Step → State → ℕ
missed B s S = cond (missing B s S) 1 0

-- the state after a list of steps
abbrev pub after : Build → List Step → State → State
after B = after_of (stepped B)

-- how many of them miss
abbrev pub misses : Build → List Step → State → ℕ
misses B = misses_of (stepped B) (missed B)

-- the element that a record of the code stands for
abbrev pub meant : ElementRecord → Element
meant (Up os) = up (listed os)
meant (Down os) = down (listed os)
meant (Columns cs) = columns (listed cs)
