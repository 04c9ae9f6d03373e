use Rattle.std.proofs.Common.{ℕ, ◌+◌, ◌*◌, sym, ap, ◌∙◌, ap₂}
use Rattle.cam.proofs.Asking.{refused_not_0}
use Rattle.mlt1.proofs.Separating.{separates}
use Rattle.bench.specs.Books.{found, finding_number, ran_whole}
use Rattle.bench.proofs.WholeRun.{AllDone, all_done, found_sound}
use Rattle.bench.proofs.bench.Bench.run_whole.Given.{Over}
use Rattle.bench.proofs.bench.Bench.run_whole.Goals as goal
use Rattle.bench.proofs.bench.Bench.run_whole.Goals.{After-close}

-- what the steps leave for the close
steps_done : (g : Over) (c : After-close g)
    → AllDone (g.C.CamArray.build c.args.self.now.array) (g.C.CamArray.state c.args.self.now.array) c.args.self.now.books c.in_ok-ticket.ticket.number
    (g.C.CamArray.build c.step.new.self.array) (g.C.CamArray.state c.step.new.self.array) c.step.new.self.books
steps_done g c =
    let m = g.C.CamArray in
    let begun = c.in_ok-ticket.ensures in
    let went = c.step.ensures in
    all_done _ _ _ _ _ _ _ _ _ _ c.operation_count-operations.result c.step.result (m.formed c.args.self.now.array)
    (ap m.build begun.array_stays) (ap m.state begun.array_stays) begun.run_started begun.ticket_with_the_number_of_starts
    (c.operation_count-operations.ensures.eleven_a_word_two_a_column ∙ ap₂ (λ (n w : ℕ). 11 * n + 2 * w) c.size_of.ensures.words_of_the_array c.size_of.ensures.bits_of_the_array)
    went.asks_in_order went.most_or_all_left went.next_steps_done went.other_books_stay went.build_stays

pub returns-in-Ok : goal.returns-in-Ok
returns-in-Ok g c =
    let m = g.C.CamArray in
    let x = c.args.self.now in
    let formed = m.formed x.array in
    let done = steps_done g (goal.at.returns-in-Ok g c).After-close in
    let ended = c.in-Ok.ensures in
    let finding = ended.finding_of_the_misses ∙ ap found done.missed in
    let tells = found_sound (m.build x.array) _ (separates (m.build x.array) (m.state x.array) formed.some_bits formed.steady) in
    record {
      asks_in_order = c.in_ok-ticket.ensures.asks_in_order;
      finding_of_the_misses = finding;
      sound_exactly_without_a_defect = (λ e. tells.0 (sym (ap finding_number finding) ∙ e), λ s. ap finding_number finding ∙ tells.1 s);
      one_run_more = ended.run_closed ∙ done.closes ∙ ap (λ f. ran_whole f x.books) (sym ended.finding_of_the_misses);
      state_after_the_schedule = ap m.state ended.array_stays ∙ done.array;
      refused_changes_nothing = tt;
      build_stays = ap m.build ended.array_stays ∙ done.stays;
    }

-- the close is never refused
pub returns-in-Err : goal.returns-in-Err
returns-in-Err g c =
    absurd (refused_not_0 _ _ c.in-Err.ensures.asks_in_order (steps_done g (goal.at.returns-in-Err g c).After-close).asked)
