use Rattle.std.proofs.Common.{◌≡◌, map}
use Rattle.cam.specs.Model.{value}
use Rattle.cell_field.specs.Row.{at}
use Rattle.cell_field.proofs.rows.read_row.Given as goal

abbrev pub invariant-loop-column : goal.invariant-loop-column
invariant-loop-column g l = l.bits ≡ value l.column (λ j. (at (map g.C.CellKind.meaning l.row) j).held)
