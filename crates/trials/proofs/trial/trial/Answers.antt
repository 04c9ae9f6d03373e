use Rattle.std.proofs.Common.{ℕ, ◌<◌, ◌≤◌, leb, length, sym, subst, arith}
use Rattle.std.proofs.lemmas.Bool.{cond-true, cond-false, le-leb, lt-leb}
use Rattle.cam.specs.Refusals.{Refused}
use Rattle.march.specs.Table.{elements_of}
use Rattle.trials.specs.Outcomes.{check_count}
use Rattle.trials.specs.Trials.{steps_on}
use Rattle.trials.proofs.Telling.{tells, counted_on}
use Rattle.trials.proofs.trial.trial.Goals as goal

pub returns-then-buffer-outcomes-clause-asks_room : goal.returns-then-buffer-outcomes-clause-asks_room
returns-then-buffer-outcomes-clause-asks_room g c =
    let m = g.C.CamArray in
    let x = c.args.array.now in
    let B = m.build x in
    let es = elements_of c.args.test.now in
    let count = counted_on B es _ _ _ c.size_of.ensures.words_of_the_array c.size_of.ensures.bits_of_the_array (m.formed x).few_bits c.outcome_count-outcomes.ensures.reads_and_compares in
    let short : length c.args.buffer.now < check_count (steps_on B es) = omega (arith, c.if-buffer-outcomes.true, count) in
    subst (λ (n : ℕ). Refused n c.of_call.result) (sym (cond-false (leb (check_count (steps_on B es)) (length c.args.buffer.now)) 0 71 (lt-leb _ _ short))) c.of_call.ensures.refused_without_text

pub returns-clause-asks_room : goal.returns-clause-asks_room
returns-clause-asks_room g c =
    let m = g.C.CamArray in
    let x = c.args.array.now in
    let B = m.build x in
    let es = elements_of c.args.test.now in
    let count = counted_on B es _ _ _ c.size_of.ensures.words_of_the_array c.size_of.ensures.bits_of_the_array (m.formed x).few_bits c.outcome_count-outcomes.ensures.reads_and_compares in
    let fits : check_count (steps_on B es) ≤ length c.args.buffer.now = omega (arith, c.if-buffer-outcomes.false, count) in
    cond-true (leb (check_count (steps_on B es)) (length c.args.buffer.now)) 0 71 (le-leb _ _ fits)

pub returns-clause-mlt1_tells_as_a_run : goal.returns-clause-mlt1_tells_as_a_run
returns-clause-mlt1_tells_as_a_run g c =
    let x = c.args.array.now in
    λ e. tells (g.C.CamArray.build x) (g.C.CamArray.state x) (elements_of c.args.test.now) _ (g.C.CamArray.formed x) c.do_all.ensures.operations_and_misses e
