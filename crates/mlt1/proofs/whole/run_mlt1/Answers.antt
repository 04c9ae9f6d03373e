use Rattle.std.proofs.Common.{◌≡◌, ℕ, ◌+◌, ◌*◌, min, Bool, sym, ap, ◌∙◌, ap₂, arith}
use Rattle.cam.specs.Model.{tally_cap}
use Rattle.march.proofs.Masking.{no_stand_in}
use Rattle.mlt1.proofs.Lengths.{length_is}
use Rattle.mlt1.proofs.Wents.{went_whole}
use Rattle.mlt1.proofs.Separating.{separates}
use Rattle.mlt1.proofs.whole.run_mlt1.Goals as goal

pub returns : goal.returns
returns g c =
    let m = g.C.CamArray in
    let x = c.args.array.now in
    let B = m.build x in
    let S = m.state x in
    let formed = m.formed x in
    let k = c.operation_count-operations.result in
    let count : k ≡ 11 * B.words + 2 * B.width =
    c.operation_count-operations.ensures.eleven_a_word_two_a_column
    ∙ ap₂ (λ (n w : ℕ). 11 * n + 2 * w) c.size_of.ensures.words_of_the_array c.size_of.ensures.bits_of_the_array in
    let steps = length_is B.words B.width in
    let run = went_whole B _ k _ _ _ _ c.advance_by.ensures.next_steps_done (c.start-run.ensures.whole_schedule_left B.words B.width)
    c.start-run.ensures.no_miss_yet c.advance_by.ensures.most_or_all_left (omega (arith, count, steps)) (omega (arith, count, formed.few_words, formed.few_bits)) in
    let told = c.misses.ensures.misses_counted ∙ run.0 in
    let both = separates B S formed.some_bits formed.steady in
    record {
      misses_of_the_schedule = told;
      none_exactly_when_sound = (λ e. both.0 (sym told ∙ e), λ s. told ∙ both.1 s);
      state_after_the_schedule = run.1;
      build_stays = c.advance_by.ensures.build_stays;
      operations_tallied = c.advance_by.ensures.tally_rises_by_answer ∙ ap (λ (n : ℕ). min (S.tally + n) tally_cap) (run.2 ∙ steps);
      separates_every_array = separates;
      no_word_stands_in = no_stand_in Bool;
    }
