use Rattle.std.proofs.Common.{◌≡◌, ℕ, ltb, cond, map}
use Rattle.cell_field.specs.Row.{at, wrote_cell}
use Rattle.cell_field.proofs.rows.write_row.Given as goal

-- the columns so far are written
abbrev pub invariant-loop-column : goal.invariant-loop-column
invariant-loop-column g l =
    (j : ℕ) → at (map g.C.CellKind.meaning l.row) j ≡ cond (ltb j l.column) (wrote_cell l.pattern l.mask j (at (map g.C.CellKind.meaning l.fn.row) j)) (at (map g.C.CellKind.meaning l.fn.row) j)
