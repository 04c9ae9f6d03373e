use Rattle.std.proofs.Common.{ℕ, ◌+◌, ◌*◌, length, ap, ◌∙◌, ap₂}
use Rattle.cam.specs.Model.{Build}
use Rattle.cam.specs.Operations.{after_all}
use Rattle.cam.proofs.Asking.{refused_not_0}
use Rattle.chart.specs.Chart.{chart_operations, blemishes}
use Rattle.bench.specs.declared.books.Books.{Books}
use Rattle.bench.specs.Books.{finding_count}
use Rattle.bench.proofs.WholeRun.{run_granted, chart_granted}
use Rattle.bench.proofs.judging.judge_on.Goals as goal

-- neither the run nor the chart is refused
pub returns-in_err-finding : goal.returns-in_err-finding
returns-in_err-finding g c =
    let m = g.C.CamArray in
    let x = c.args.bench.now in
    absurd (refused_not_0 _ _ c.in_err-finding.ensures.asks_in_order (run_granted (m.build x.array) (m.state x.array) x.books (length c.args.buffer.now) c.requires.new_bench c.in_ok-may_judge.ensures.asks_in_order))

pub returns-in_err-charted : goal.returns-in_err-charted
returns-in_err-charted g c =
    let m = g.C.CamArray in
    let x = c.args.bench.now in
    let x1 = c.run_whole.new.self in
    let ran = c.in_ok-finding.ensures in
    let asked = chart_granted (m.build x.array) (m.state x.array) (m.build x1.array) (m.state x1.array) x1.books (length c.args.buffer.now)
    ran.build_stays ran.state_after_the_schedule (ap (λ (b : Books). b.run) ran.one_run_more) c.in_ok-may_judge.ensures.asks_in_order (m.formed x.array).tally_within in
    absurd (refused_not_0 _ _ c.in_err-charted.ensures.asks_in_order asked)

pub returns-clause-judgement_is_right : goal.returns-clause-judgement_is_right
returns-clause-judgement_is_right g c =
    let m = g.C.CamArray in
    let ran = c.in_ok-finding.ensures in
    let words = c.size_of-size.ensures.words_of_the_array in
    let width = c.size_of-size.ensures.bits_of_the_array in
    record {
      words = words;
      width = width;
      operations = c.operation_count.ensures.eleven_a_word_two_a_column ∙ ap₂ (λ (n w : ℕ). 11 * n + 2 * w) words width;
      finding = ran.finding_of_the_misses;
      sound = ran.sound_exactly_without_a_defect;
      charting = c.operation_count-2.ensures.eight_and_four_a_column_for_each_word ∙ ap₂ (λ (n w : ℕ). n * (8 + 4 * w)) words width;
      blemished = c.count.ensures.misses_or_cells ∙ ap finding_count c.in_ok-charted.ensures.blemished_cells ∙ ap blemishes ran.build_stays;
    }

pub returns-clause-only_these_operations : goal.returns-clause-only_these_operations
returns-clause-only_these_operations g c =
    let m = g.C.CamArray in
    let ran = c.in_ok-finding.ensures in
    let B = m.build c.args.bench.now.array in
    c.in_ok-charted.ensures.chart_operations_done
    ∙ ap (λ (C : Build). after_all C (chart_operations C.words C.width) (m.state c.run_whole.new.self.array)) ran.build_stays
    ∙ ap (after_all B (chart_operations B.words B.width)) ran.state_after_the_schedule
