-- The four operations as values, what they answer, and lists of them.
use Rattle.std.specs.Prelude.{ℕ, List}
use Rattle.cam.specs.declared.operation.Operation.{Operation}
use Rattle.cam.specs.declared.operation.Operation.TheVariants.{Write, Read, Compare, Erase}
use Rattle.cam.specs.declared.operation.Answer.{Answer}
use Rattle.cam.specs.declared.operation.Answer.TheVariants.{Nothing, Bits, Hit}
use Rattle.cam.specs.Machine.{after_of}
use Rattle.cam.specs.Model.{Build, State, written, erased, counted, read_word, hit, Steady}

-- the state after an operation
abbrev pub operated : Build → Operation → State → State
operated B (Write a p m) S = written B a.number p m S
operated B (Read a) S = counted S
operated B (Compare p m) S = counted S
operated B (Erase a) S = erased B a.number S

-- what an operation answers
abbrev pub answered : Build → Operation → State → Answer
answered B (Write a p m) S = Nothing
answered B (Read a) S = Bits (read_word B a.number S)
answered B (Compare p m) S = Hit (hit B p m S)
answered B (Erase a) S = Nothing

-- which sort of answer it is: 0 nothing, 1 held bits, 2 a hit
abbrev pub answer_number : Answer → ℕ
answer_number Nothing = 0
answer_number (Bits n) = 1
answer_number (Hit b) = 2

-- which sort of answer an operation gives
abbrev pub answer_sort : Operation → ℕ
answer_sort (Write a p m) = 0
answer_sort (Read a) = 1
answer_sort (Compare p m) = 2
answer_sort (Erase a) = 0

-- the state after each operation of a list in turn
abbrev pub after_all : Build → List Operation → State → State
after_all B = after_of (operated B)

-- no list of operations moves an sa0 cell, an sa1 cell or a stuck mark
abbrev pub SteadinessStays : Type 0
SteadinessStays = (B : Build) (os : List Operation) (S : State) → Steady B S → Steady B (after_all B os S)
