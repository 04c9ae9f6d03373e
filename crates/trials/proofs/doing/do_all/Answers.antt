use Rattle.std.proofs.Common.{◌+◌, ◌++◌, min, map, drop, sym, ap, ◌∙◌, arith}
use Rattle.march.specs.Tests.{meant}
use Rattle.mlt1.specs.Left.{left_in}
use Rattle.trials.proofs.Elements.{visit_begins, element_ends, all_end, steps_few}
use Rattle.trials.proofs.Outlooks.{started, outlook_step, outlook_at, outlook_end, outlook_room, whole_is}
use Rattle.trials.proofs.doing.do_all.Goals as goal

pub loop-element-init : goal.loop-element-init
loop-element-init g c =
    let size = c.size_of-size in
    started _ _ _ _ c.default-log.result c.default-log.ensures
    ∙ outlook_at _ _ _ _ _ _
    (whole_is _ _ size.result.words size.result.width _ size.ensures.words_of_the_array size.ensures.bits_of_the_array (g.C.CamArray.formed c.args.array.now).few_bits c.elements-element-items.ensures.all_elements)

pub loop-step-init : goal.loop-step-init
loop-step-init g c =
    let size = c.size_of-size.result in
    sym (outlook_at _ _ _ _ _ _
    (visit_begins size.words (min size.width 64) c.elements-element-items.result.now c.loop-element.element-index c.loop-visit.visit _ _ _
    c.loop-element-test.true c.loop-visit-test.true c.visits-visit-end.ensures.visit_count c.steps-step-items.ensures.each_step_of_the_visit c.into_iter-step-iterator.ensures.into_iter_gives))
    ∙ c.loop-visit.invariant

pub do_step-requires : goal.do_step-requires
do_step-requires g c =
    let m = g.C.CamArray in
    let x = c.args.array.now in
    let size = c.size_of-size.result in
    let later = left_in size.words (min size.width 64) (drop c.loop-element.element-index (map meant c.elements-element-items.result.now)) (c.loop-visit.visit + 1) 0 in
    let few = steps_few c.args.test.now (m.build x).words (m.build x).width (m.formed x).few_words (m.formed x).few_bits in
    let fits = outlook_room _ _ _ _ _ _ _ _ _ _
    (sym (outlook_at _ _ _ _ _ _ (ap (λ xs. xs ++ later) c.in-Some.ensures.steps)) ∙ c.loop-step.invariant) c.requires.room (omega arith) in
    record { room = fits.0; operations_fit = omega (arith, fits.1, few); misses_fit = omega (arith, fits.2, few) }

pub loop-step-preserved : goal.loop-step-preserved
loop-step-preserved g c =
    let size = c.size_of-size.result in
    let later = left_in size.words (min size.width 64) (drop c.loop-element.element-index (map meant c.elements-element-items.result.now)) (c.loop-visit.visit + 1) 0 in
    let here = sym (outlook_at _ _ _ _ _ _ (ap (λ xs. xs ++ later) c.in-Some.ensures.steps)) ∙ c.loop-step.invariant in
    let fits = outlook_room _ _ _ _ _ _ _ _ _ _ here c.requires.room (omega arith) in
    let told = c.do_step.ensures in
    outlook_step _ _ _ _ _ _ c.loop-step.buffer _ c.loop-step.log _ told.build_stays told.state_after told.outcome_noted told.counted_once fits.0 ∙ here

pub loop-visit-preserved : goal.loop-visit-preserved
loop-visit-preserved g c =
    let size = c.size_of-size.result in
    let later = left_in size.words (min size.width 64) (drop c.loop-element.element-index (map meant c.elements-element-items.result.now)) (c.loop-visit.visit + 1) 0 in
    sym (outlook_at _ _ _ _ _ _ (ap (λ xs. xs ++ later) c.in-None.ensures.steps.0)) ∙ c.loop-step.invariant

pub loop-element-preserved : goal.loop-element-preserved
loop-element-preserved g c =
    let size = c.size_of-size.result in
    sym (outlook_at _ _ _ _ _ _
    (element_ends size.words (min size.width 64) c.elements-element-items.result.now c.loop-element.element-index c.loop-visit.visit _ c.loop-element-test.true c.loop-visit-test.false c.visits-visit-end.ensures.visit_count))
    ∙ c.loop-visit.invariant

pub returns : goal.returns
returns g c =
    let size = c.size_of-size.result in
    let all = outlook_end _ _ _ _ _ _ _ _ _ c.loop-element.invariant
    (all_end size.words (min size.width 64) c.elements-element-items.result.now c.loop-element.element-index c.loop-element-test.false) in
    record { operations_and_misses = all.2; outcome_bytes = all.3; state_after = all.1; build_stays = all.0 }
