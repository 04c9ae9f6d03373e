use Rattle.std.proofs.Common.{◌≡◌, ◌<◌, map, length, ap, arith, rules}
use Rattle.cam.specs.declared.size.Size.{Size}
use Rattle.cell_field.specs.Field.{used}
use Rattle.cell_field.proofs.Meanings.{plant_build, plant_state}
use Rattle.cell_field.proofs.field.CellField.plant_stuck_mark.Goals as goal

pub returns-clause-only_this_mark_planted : goal.returns-clause-only_this_mark_planted
returns-clause-only_this_mark_planted g c =
    let s = c.args.self.now in
    let n = (used s).words in
    let words : c.used.result.words ≡ n = ap (λ (z : Size). z.words) c.used.ensures.used_size in
    let marks : length s.marks ≡ 256 = search rules in
    plant_build n (used s).width c.args.word.number (map g.C.CellKind.meaning s.cells.now) s.marks (omega (arith, words, c.if-word-used.false)) (omega (arith, c.used.ensures.few_words, c.if-word-used.false))

pub returns-clause-only_this_mark_cleared : goal.returns-clause-only_this_mark_cleared
returns-clause-only_this_mark_cleared g c =
    let s = c.args.self.now in
    let n = (used s).words in
    let words : c.used.result.words ≡ n = ap (λ (z : Size). z.words) c.used.ensures.used_size in
    let marks : length s.marks ≡ 256 = search rules in
    plant_state n (used s).width c.args.word.number (map g.C.CellKind.meaning s.cells.now) s.marks (omega (arith, words, c.if-word-used.false)) (omega (arith, c.used.ensures.few_words, c.if-word-used.false)) s.tally
