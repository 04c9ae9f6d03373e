use Rattle.std.proofs.Common.{◌≡◌, true, map, length, replicate, ap₂, ◌∙◌, rules}
use Rattle.cam.specs.declared.mark.Mark.TheVariants.{Clear}
use Rattle.cell_field.specs.Field.{fits, build_from, state_from}
use Rattle.cell_field.proofs.Meanings.{used_whole, made_build, made_state}
use Rattle.cell_field.proofs.field.CellField.new.Goals as goal

pub returns-clause-made_of_the_cells : goal.returns-clause-made_of_the_cells
returns-clause-made_of_the_cells g c =
    let xs = c.in_ok-cells.cells.now in
    let ms = map g.C.CellKind.meaning xs in
    let n = c.args.size.words in
    let w = c.args.size.width in
    let same : c.args.cells.now ≡ xs = search rules in
    let whole : fits n w (length xs) ≡ true = search rules in
    let u = used_whole n w (length xs) whole in
    rw same (ap₂ (λ n w. build_from n w ms (replicate 256 Clear)) u.0 u.1 ∙ made_build n w ms)

pub returns-clause-marks_clear : goal.returns-clause-marks_clear
returns-clause-marks_clear g c =
    let xs = c.in_ok-cells.cells.now in
    let ms = map g.C.CellKind.meaning xs in
    let n = c.args.size.words in
    let w = c.args.size.width in
    let same : c.args.cells.now ≡ xs = search rules in
    let whole : fits n w (length xs) ≡ true = search rules in
    let u = used_whole n w (length xs) whole in
    rw same (ap₂ (λ n w. state_from n w ms (replicate 256 Clear) 0) u.0 u.1 ∙ made_state n w ms)
