-- How long the pieces of a sheet are at most.
use Rattle.std.proofs.Common.{◌≡◌, ℕ, ◌+◌, ◌*◌, ◌≤◌, Bool, true, false, leb, List, [], ◌∷◌, ◌++◌, map, length, codes, arith, lit≤, length-append}
use Rattle.std.specs.List.{flat_map}
use Rattle.std.proofs.lemmas.Bool.{and_parts, leb-true}
use Rattle.march.specs.Every.{every}
use Rattle.march.specs.declared.element.TestOperation.{TestOperation}
use Rattle.march.specs.declared.element.TestOperation.TheVariants.{Write, Read, Compare, Erase}
use Rattle.march.specs.declared.operations.Order.{Order}
use Rattle.march.specs.declared.operations.Order.TheVariants.{Up, Down, Columns}
use Rattle.march.specs.declared.element.Element.{Element as ElementRecord}
use Rattle.march.specs.Tests.{Element, meant}
use Rattle.march.specs.Building.{order_of, operations_of, is_filled}
use Rattle.march.proofs.Table.{operations_few}
use Rattle.sheet_writer.specs.Sheets.{sheet, beginning, heading, compare_piece, operation_piece, ending, element_line}

pub heading_short : (o : Order) → length (heading o) ≤ 8
heading_short Up = lit≤ tt
heading_short Down = lit≤ tt
heading_short Columns = lit≤ tt

compare_short : (b h : Bool) → length (compare_piece b h) ≤ 11
compare_short false false = lit≤ tt
compare_short false true = lit≤ tt
compare_short true false = lit≤ tt
compare_short true true = lit≤ tt

pub operation_short : (o : TestOperation) → length (operation_piece o) ≤ 11
operation_short (Write false) = lit≤ tt
operation_short (Write true) = lit≤ tt
operation_short (Read false) = lit≤ tt
operation_short (Read true) = lit≤ tt
operation_short (Compare c) = compare_short c.bit c.hit
operation_short Erase = lit≤ tt

-- the parts of a line
pub line_length : (e : Element) → length (element_line e) ≡ length (heading (order_of e)) + length (flat_map operation_piece (operations_of e)) + 2
line_length e =
    let pieces = flat_map operation_piece (operations_of e) in
    omega (arith, length-append (heading (order_of e)) (pieces ++ ending), length-append pieces ending)

-- the parts of a sheet
pub sheet_length : (name : List ℕ) (es : List Element) → length (sheet name es) ≡ 9 + length name + length (flat_map element_line es)
sheet_length name es =
    let lines = flat_map element_line es in
    omega (arith, length-append (beginning name) (lines ++ ending), length-append lines ending, length-append name (codes "\n"))

pub operations_short : (os : List TestOperation) → length (flat_map operation_piece os) ≤ 11 * length os
operations_short [] = lit≤ tt
operations_short (o ∷ os) = omega (arith, length-append (operation_piece o) (flat_map operation_piece os), operation_short o, operations_short os)

-- a line has at most 98 bytes
pub lines_short : (es : List Element) → every is_filled es ≡ true → length (flat_map element_line es) ≤ 98 * length es
lines_short [] h = lit≤ tt
lines_short (e ∷ es) h =
    let both = and_parts (is_filled e) (every is_filled es) h in
    let n = length (operations_of e) in
    let few : n ≤ 8 = leb-true n 8 (and_parts (leb 1 n) (leb n 8) both.0).1 in
    omega (arith, length-append (element_line e) (flat_map element_line es), line_length e, heading_short (order_of e), operations_short (operations_of e), lines_short es both.1)

-- so the lines of the elements that a test has in its table are short
pub lines_few : (es : List ElementRecord) → length (flat_map element_line (map meant es)) ≤ 98 * length es
lines_few [] = lit≤ tt
lines_few (e ∷ es) = omega (arith, length-append (element_line (meant e)) (flat_map element_line (map meant es)), line_length (meant e), heading_short (order_of (meant e)), operations_short (operations_of (meant e)), operations_few e, lines_few es)
