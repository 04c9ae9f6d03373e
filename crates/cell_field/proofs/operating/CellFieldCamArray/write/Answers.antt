use Rattle.std.proofs.Common.{◌≡◌, ℕ, ◌+◌, ◌-◌, ◌*◌, ◌<◌, ◌≤◌, map, length, set, sym, ap, ◌∙◌, arith, rules}
use borrow.Rule.Slice.PartMut.{put_mid}
use Rattle.std.specs.List.{between}
use Rattle.std.proofs.lemmas.List.Edits.{length-between}
use Rattle.cam.specs.Model.{written}
use Rattle.cam.specs.declared.size.Size.{Size}
use Rattle.cell_field.specs.Field.{used_words, used_bits, build_from, state_from}
use Rattle.cell_field.specs.Row.{at, wrote_cell}
use Rattle.cell_field.proofs.Places.{row_within, put_long}
use Rattle.cell_field.proofs.Meanings.{write_state, write_build}
use Rattle.cell_field.proofs.operating.CellFieldCamArray.write.Goals as goal

pub returns : goal.returns
returns g c =
    let s = c.args.self.now in
    let f = g.C.CellKind.meaning in
    let u = c.used-size.ensures in
    let n = c.used-size.result.words in
    let w = c.used-size.result.width in
    let a = c.args.word.number in
    let p = c.args.pattern in
    let m = c.args.mask in
    let xs = s.cells.now in
    let ys = c.write_row.new.row in
    let long : length ys ≡ w = search rules in
    let inside : a < n = omega arith in
    let marks : length s.marks ≡ 256 = search rules in
    let place : a < length s.marks = omega (arith, u.few_words) in
    let fits : a * w + w ≤ length xs = omega (arith, row_within a n w inside, u.cell_for_each_bit) in
    let wrote : (j : ℕ) → j < w → at (map f ys) j ≡ wrote_cell p m j (at (map f (between (a * w) (a * w + w) xs)) j) =
    λ j l. c.write_row.ensures.each_cell_written j (let row = length-between xs (a * w) (a * w + w) fits in omega (arith, row)) in
    let done = c.written.ensures in
    let ns = put_mid (a * w) (a * w + w - a * w) xs ys in
    let ms = set s.marks a c.written.result in
    let as_many : length ns ≡ length xs = put_long (a * w) (a * w + w - a * w) xs ys (omega (arith, long)) (omega (arith, fits)) in
    record {
      state_after_write = ap (λ (l : ℕ). state_from (used_words s.size.words s.size.width l) (used_bits s.size.words s.size.width l) (map f ns) ms c.one_more-self.result) as_many
          ∙ ap (λ (z : Size). state_from z.words z.width (map f ns) ms c.one_more-self.result) (sym u.used_size)
          ∙ ap (state_from n w (map f ns) ms) c.one_more-self.ensures.next
          ∙ write_state f n w a p m xs ys inside u.cell_for_each_bit long wrote s.tally s.marks c.written.result place done.set_unless_stuck done.stuck_stays
          ∙ ap (λ (z : Size). written (build_from z.words z.width (map f xs) s.marks) a p m (state_from z.words z.width (map f xs) s.marks s.tally)) u.used_size;
      build_stays = ap (λ (l : ℕ). build_from (used_words s.size.words s.size.width l) (used_bits s.size.words s.size.width l) (map f ns) ms) as_many
          ∙ ap (λ (z : Size). build_from z.words z.width (map f ns) ms) (sym u.used_size)
          ∙ write_build f n w a p m xs ys inside u.cell_for_each_bit long wrote s.tally s.marks c.written.result place done.set_unless_stuck done.stuck_stays
          ∙ ap (λ (z : Size). build_from z.words z.width (map f xs) s.marks) u.used_size;
    }
