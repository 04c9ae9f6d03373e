use Rattle.std.proofs.Common.{◌≡◌, ◌<◌, true, false, map, length, sym, ap, ◌∙◌, ap₂, arith}
use Rattle.std.proofs.lemmas.List.{get_or-map, set-get_or}
use Rattle.std.proofs.lemmas.Bool.{cond-true, cond-false}
use Rattle.cam.specs.Bits.{bit}
use Rattle.cells.specs.Meaning.{taken}
use Rattle.cell_field.specs.Row.{at, blank_cell}
use Rattle.cell_field.proofs.Places.{cell_set, cell_other, wrote_more}
use Rattle.cell_field.proofs.rows.write_row.Goals as goal
use Rattle.cell_field.proofs.rows.write_row.Goals.{then-not-bit_is_set, else-not-bit_is_set}

pub loop-column-preserved : goal.loop-column-preserved
loop-column-preserved g c =
    let f = g.C.CellKind.meaning in
    let xs = c.loop-column.row in
    let i = c.loop-column.column in
    let p = c.args.pattern in
    let m = c.args.mask in
    let inside : i < length xs = omega arith in
    let next = wrote_more i p m (map f c.args.row.now) (map f xs) (map f c.if-not-bit_is_set.row) c.loop-column.invariant in
    elim c.if-not-bit_is_set.branch [
      | then-not-bit_is_set w ↦
          let cell = get_or-map f xs i c.index-row-column.result blank_cell inside in
          let off : bit m i ≡ false = sym c.bit_is_set.ensures.bit_at_place ∙ w.if-not-bit_is_set.true in
          next
          (ap (λ ys. at (map f ys) i) w.row-is ∙ cell_set f xs i w.take.new.self inside ∙ w.take.ensures.bit_taken
          ∙ ap₂ taken w.bit_is_set-then-not-bit_is_set.ensures.bit_at_place (sym cell) ∙ sym (cond-false (bit m i) _ _ off))
          (λ k ne. ap (λ ys. at (map f ys) k) w.row-is ∙ cell_other f xs i k w.take.new.self ne)
      | else-not-bit_is_set w ↦
          let on : bit m i ≡ true = sym c.bit_is_set.ensures.bit_at_place ∙ w.if-not-bit_is_set.false in
          let same = w.row-is ∙ set-get_or xs i c.index-row-column.result in
          next (ap (λ ys. at (map f ys) i) same ∙ sym (cond-true (bit m i) _ _ on)) (λ k ne. ap (λ ys. at (map f ys) k) same)
    ]
