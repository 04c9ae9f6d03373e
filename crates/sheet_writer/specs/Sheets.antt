-- The sheet of a test, put together from its pieces.
use Rattle.std.specs.Prelude.{ℕ, Bool, true, false, List, ◌++◌, codes}
use Rattle.std.specs.List.{flat_map}
use Rattle.march.specs.declared.element.TestOperation.{TestOperation}
use Rattle.march.specs.declared.element.TestOperation.TheVariants.{Write, Read, Compare, Erase}
use Rattle.march.specs.declared.operations.Order.{Order}
use Rattle.march.specs.declared.operations.Order.TheVariants.{Up, Down, Columns}
use Rattle.march.specs.declared.test.Test.{Test}
use Rattle.march.specs.Tests.{Element}
use Rattle.march.specs.Building.{order_of, operations_of}
use Rattle.march.specs.Table.{elements_of, name_of}

-- how a sheet begins
abbrev pub beginning : List ℕ → List ℕ
beginning name = codes "(test " ++ (name ++ codes "\n")

-- how an element begins
abbrev pub heading : Order → List ℕ
heading Up = codes "(up"
heading Down = codes "(down"
heading Columns = codes "(columns"

-- a compare, by its bit and the hit that is expected
abbrev pub compare_piece : Bool → Bool → List ℕ
compare_piece false false = codes " (c 0 none)"
compare_piece false true = codes " (c 0 hit)"
compare_piece true false = codes " (c 1 none)"
compare_piece true true = codes " (c 1 hit)"

-- an operation, with the space before it
abbrev pub operation_piece : TestOperation → List ℕ
operation_piece (Write false) = codes " (w 0)"
operation_piece (Write true) = codes " (w 1)"
operation_piece (Read false) = codes " (r 0)"
operation_piece (Read true) = codes " (r 1)"
operation_piece (Compare c) = compare_piece c.bit c.hit
operation_piece Erase = codes " (e)"

-- how an element ends, and how a sheet ends
abbrev pub ending : List ℕ
ending = codes ")\n"

-- the line of an element
abbrev pub element_line : Element → List ℕ
element_line e = heading (order_of e) ++ (flat_map operation_piece (operations_of e) ++ ending)

-- the sheet of the test with this name and these elements
abbrev pub sheet : List ℕ → List Element → List ℕ
sheet name es = beginning name ++ (flat_map element_line es ++ ending)

abbrev pub sheet_text : Test → List ℕ
sheet_text t = sheet (name_of t) (elements_of t)
