-- How an element and a test are built up, one operation after the other.
use Rattle.std.specs.Prelude.{Bool, true, false, ◌&&◌, List, [], ◌∷◌, ◌++◌, map, length, nat_le, nat_lt}
use Rattle.cam.specs.Refusals.{Question, ask}
use Rattle.march.specs.declared.element.TestOperation.{TestOperation}
use Rattle.march.specs.declared.element.TestOperation.TheVariants.{Write, Read, Compare, Erase}
use Rattle.march.specs.declared.operations.Order.{Order}
use Rattle.march.specs.declared.operations.Order.TheVariants.{Up, Down, Columns}
use Rattle.march.specs.Every.{every}
use Rattle.march.specs.Tests.{Element, up, down, columns}

-- an element that has no operation yet
abbrev pub opened : Order → Element
opened Up = up []
opened Down = down []
opened Columns = columns []

abbrev pub order_of : Element → Order
order_of (up os) = Up
order_of (down os) = Down
order_of (columns cs) = Columns

-- the operations of an element, in their order
abbrev pub operations_of : Element → List TestOperation
operations_of (up os) = os
operations_of (down os) = os
operations_of (columns cs) = map Compare cs

abbrev pub is_compare : TestOperation → Bool
is_compare (Write b) = false
is_compare (Read b) = false
is_compare (Compare c) = true
is_compare Erase = false

-- a columns element may have compares and nothing else
abbrev pub allows : Element → TestOperation → Bool
allows (up os) o = true
allows (down os) o = true
allows (columns cs) o = is_compare o

-- the element with one more operation at its end, where it may have it
abbrev pub longer : Element → TestOperation → Element
longer (up os) o = up (os ++ (o ∷ []))
longer (down os) o = down (os ++ (o ∷ []))
longer (columns cs) (Write b) = columns cs
longer (columns cs) (Read b) = columns cs
longer (columns cs) (Compare c) = columns (cs ++ (c ∷ []))
longer (columns cs) Erase = columns cs

-- what is asked before an element takes an operation: has it fewer than eight, and may it have this one?
abbrev pub element_questions : Element → TestOperation → List Question
element_questions e o = ask (nat_lt (length (operations_of e)) 8) 32 ∷ ask (allows e o) 33 ∷ []

-- the test whose last element has one more operation at its end
abbrev pub last_longer : List Element → TestOperation → List Element
last_longer [] o = []
last_longer (e ∷ []) o = longer e o ∷ []
last_longer (e ∷ f ∷ es) o = e ∷ last_longer (f ∷ es) o

-- what is asked before a test takes an operation: is there an element (62)? And then of the last one, as above.
abbrev pub operation_questions : List Element → TestOperation → List Question
operation_questions [] o = ask false 62 ∷ []
operation_questions (e ∷ []) o = element_questions e o
operation_questions (e ∷ f ∷ es) o = operation_questions (f ∷ es) o

-- an element of 1 to 8 operations
abbrev pub is_filled : Element → Bool
is_filled e = nat_le 1 (length (operations_of e)) && nat_le (length (operations_of e)) 8

-- a test of 1 to 16 elements of 1 to 8 operations each
abbrev pub is_whole : List Element → Bool
is_whole es = nat_le 1 (length es) && (nat_le (length es) 16 && every is_filled es)
