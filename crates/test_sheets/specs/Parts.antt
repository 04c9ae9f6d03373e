-- The parts of a sheet, of the elements as a test of the code has them.
use Rattle.std.specs.Prelude.{ℕ, List, map}
use Rattle.std.specs.List.{flat_map}
use Rattle.march.specs.declared.element.Element.{Element}
use Rattle.march.specs.Building.{operations_of}
use Rattle.march.specs.Tests.{meant}
use Rattle.sheet_writer.specs.Sheets.{operation_piece, element_line}

-- the operations of an element, one after the other
abbrev pub operations_text : Element → List ℕ
operations_text e = flat_map operation_piece (operations_of (meant e))

-- the line of an element
abbrev pub line_text : Element → List ℕ
line_text e = element_line (meant e)

-- the lines of elements, one after the other
abbrev pub lines_text : List Element → List ℕ
lines_text es = flat_map element_line (map meant es)
