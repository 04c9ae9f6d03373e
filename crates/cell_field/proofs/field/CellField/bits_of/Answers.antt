use Rattle.std.proofs.Common.{map, ap, ◌∙◌}
use Rattle.cam.specs.Model.{read_word}
use Rattle.cam.specs.declared.size.Size.{Size}
use Rattle.cell_field.specs.Field.{build_from, state_from}
use Rattle.cell_field.proofs.Meanings.{read_row_of}
use Rattle.cell_field.proofs.field.CellField.bits_of.Goals as goal

pub returns-then-word-size : goal.returns-then-word-size
returns-then-word-size g c =
    let s = c.args.self.now in
    let ms = map g.C.CellKind.meaning s.cells.now in
    let u = c.used-size.ensures in
    let n = c.used-size.result in
    let a = c.args.word.number in
    record {
      held_bits = c.read_row.ensures.held_bits
          ∙ read_row_of n.words n.width g.C.CellKind.meaning s.cells.now u.cell_for_each_bit s.marks s.tally a c.if-word-size.true
          ∙ ap (λ (z : Size). read_word (build_from z.words z.width ms s.marks) a (state_from z.words z.width ms s.marks s.tally)) u.used_size;
    }
