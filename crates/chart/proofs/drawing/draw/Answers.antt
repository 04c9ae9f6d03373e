use Rattle.std.proofs.Common.{ℕ, ◌+◌, ◌-◌, ◌*◌, min, map, sym, refl, ap, ◌∙◌, subst, arith}
use borrow.Rule.Slice.PartMut.{put_mid}
use Rattle.std.specs.List.{range_with_len}
use Rattle.chart.specs.Bytes.{byte_of}
use Rattle.std.proofs.lemmas.List.Edits.{length-between}
use Rattle.cam.specs.Model.{tally_cap}
use Rattle.cam.proofs.Operating.{tally_rises}
use Rattle.chart.specs.Chart.{chart_operations}
use Rattle.chart.proofs.Lengths.{chart_length_lem}
use Rattle.chart.proofs.Words.{byte_tells}
use Rattle.chart.proofs.Marks.{erasing_dark}
use Rattle.chart.proofs.Rows.{Row, row_put, drawn_none, drawn_more, drawn_few, drawn_all}
use Rattle.chart.proofs.drawing.draw.Goals as goal

pub loop-number-init : goal.loop-number-init
loop-number-init g c =
    drawn_none _ _ _ _ c.args.buffer.now refl refl
    (erasing_dark _ _ _ _ c.erase_all.ensures.build_stays c.erase_all.ensures.state_after)

pub overflow_add-marred : goal.overflow_add-marred
overflow_add-marred g c =
    let m = g.C.CamArray in
    let formed = m.formed c.erase_all.new.array in
    omega (arith, drawn_few _ _ _ _ c.loop-number.number c.loop-number.marred _ _ c.loop-number.invariant (omega (arith, c.size_of-size.ensures.words_of_the_array)) formed.few_words formed.few_bits, c.blemished-marred.ensures.at_most_the_width)

pub loop-number-preserved : goal.loop-number-preserved
loop-number-preserved g c =
    let s = c.min-start.result in
    let k : ℕ = c.min-end.result - s in
    let mid = c.loop-number.buffer in
    let r = c.visit_word-answers.result in
    let written = c.write_row.ensures.bytes_of_the_word ∙ ap (λ (k : ℕ). map (byte_of r) (range_with_len 0 k)) (length-between mid s c.min-end.result (omega arith)) in
    drawn_more _ _ _ _ _ _ c.loop-number.number c.loop-number.marred c.size_of-size.result.width _ r _ _ _
    c.loop-number.invariant (omega (arith, c.size_of-size.ensures.words_of_the_array)) c.size_of-size.ensures.bits_of_the_array
    c.visit_word-answers.ensures.answers_of_the_word c.visit_word-answers.ensures.state_after c.visit_word-answers.ensures.build_stays
    (subst (λ ys. Row r (c.loop-number.number * c.size_of-size.result.width) c.size_of-size.result.width mid (put_mid s k mid ys)) (sym written)
    (row_put r (c.loop-number.number * c.size_of-size.result.width) c.size_of-size.result.width s k mid c.min-start.ensures (ap (λ (e : ℕ). e - s) c.min-end.ensures)))
    c.blemished-marred.ensures.bytes_above_0

pub returns : goal.returns
returns g c =
    let m = g.C.CamArray in
    let B = m.build c.args.array.now in
    let S = m.state c.args.array.now in
    let all = drawn_all _ _ _ _ _ _ c.loop-number.number _ _ _ c.erase_all.ensures.build_stays c.erase_all.ensures.state_after
    c.loop-number.invariant (omega (arith, c.size_of-size.ensures.words_of_the_array)) in
    record {
      byte_of_each_cell = all.0;
      above_0_exactly_where_blemished = λ a j. byte_tells B a j;
      blemished_cells = all.1;
      operations_tallied = ap (λ S. S.tally) all.2 ∙ tally_rises B (chart_operations B.words B.width) S (m.formed c.args.array.now).tally_within
          ∙ ap (λ (n : ℕ). min (S.tally + n) tally_cap) (chart_length_lem B.words B.width);
      state_after = all.2;
      build_stays = all.3;
    }
