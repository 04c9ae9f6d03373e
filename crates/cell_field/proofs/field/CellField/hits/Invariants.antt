use Rattle.std.proofs.Common.{◌≡◌, ◌+◌, ◌*◌, false, ◌&&◌, map, length, take, get_or}
use Rattle.std.specs.List.{between}
use Rattle.cam.specs.declared.mark.Mark.TheVariants.{Clear}
use Rattle.cam.specs.Mark.{is_set}
use Rattle.cam.specs.Model.{any_below}
use Rattle.cell_field.specs.Row.{row_matches}
use Rattle.cell_field.proofs.field.CellField.hits.Given as goal

-- no word so far matches
abbrev pub invariant-loop-word : goal.invariant-loop-word
invariant-loop-word g l =
    any_below l.word (λ k.
    let row = between (k * l.width) (k * l.width + l.width) l.self.cells.now in
    is_set (get_or (take l.words l.self.marks) k Clear) && row_matches (length row) l.pattern l.mask (map g.C.CellKind.meaning row))
    ≡ false
