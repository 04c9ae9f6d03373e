use Rattle.std.proofs.Common.{ℕ, ◌<◌, Bool, map, arith}
use Rattle.cell_field.specs.Row.{at}
use Rattle.cell_field.proofs.Places.{room}
use Rattle.cell_field.proofs.rows.read_row.Goals as goal

pub overflow_add-bits : goal.overflow_add-bits
overflow_add-bits g c =
    let i = c.loop-column.column in
    let held : ℕ → Bool = λ j. (at (map g.C.CellKind.meaning c.args.row.now) j).held in
    let few : i < 64 = omega arith in
    omega (arith, room i held few, c.loop-column.invariant)
