use Rattle.std.proofs.Common.{◌+◌, ◌++◌, min, map, drop, sym, refl, ap, ◌∙◌}
use Rattle.march.specs.Tests.{meant}
use Rattle.march.specs.Going.{steps_left}
use Rattle.mlt1.specs.Left.{left_in}
use Rattle.trials.proofs.Elements.{visit_begins, element_ends, all_end}
use Rattle.trials.proofs.Outlooks.{whole_is}
use Rattle.campaigns.proofs.Sights.{sight_step, sight_at, sight_miss, sight_end}
use Rattle.campaigns.proofs.detecting.detects.Goals as goal

pub elements-init : goal.elements-init
elements-init g c =
    let size = c.size_of-size in (
      sight_at _ _ _ _
          (whole_is _ _ size.result.words size.result.width _ size.ensures.words_of_the_array size.ensures.bits_of_the_array (g.C.CamArray.formed c.args.array.now).few_bits c.elements-element-items.ensures.all_elements),
      refl,
    )

pub loop-step-init : goal.loop-step-init
loop-step-init g c =
    let size = c.size_of-size.result in (
      sym (sight_at _ _ _ _
          (visit_begins size.words (min size.width 64) c.elements-element-items.result.now c.elements.element-index c.loop-visit.visit _ _ _
          c.elements-test.true c.loop-visit-test.true c.visits-visit-end.ensures.visit_count c.steps-step-items.ensures.each_step_of_the_visit c.into_iter-step-iterator.ensures.into_iter_gives))
          ∙ c.loop-visit.invariant.0,
      c.loop-visit.invariant.1,
    )

pub loop-step-preserved : goal.loop-step-preserved
loop-step-preserved g c =
    let size = c.size_of-size.result in
    let later = left_in size.words (min size.width 64) (drop c.elements.element-index (map meant c.elements-element-items.result.now)) (c.loop-visit.visit + 1) 0 in
    let m = g.C.CamArray in
    let y = c.loop-step.array in
    let told = c.perform.ensures in (
      sight_step (m.build y) _ c.in-Some.step _ (m.state y) _ told.build_stays told.state_after (sym c.if-perform.false ∙ told.missed)
          ∙ sym (sight_at _ _ _ _ (ap (λ xs. xs ++ later) c.in-Some.ensures.steps)) ∙ c.loop-step.invariant.0,
      c.loop-step.invariant.1,
    )

pub loop-visit-preserved : goal.loop-visit-preserved
loop-visit-preserved g c =
    let size = c.size_of-size.result in
    let later = left_in size.words (min size.width 64) (drop c.elements.element-index (map meant c.elements-element-items.result.now)) (c.loop-visit.visit + 1) 0 in (
      sym (sight_at _ _ _ _ (ap (λ xs. xs ++ later) c.in-None.ensures.steps.0)) ∙ c.loop-step.invariant.0,
      c.loop-step.invariant.1,
    )

pub elements-preserved : goal.elements-preserved
elements-preserved g c =
    let size = c.size_of-size.result in (
      sym (sight_at _ _ _ _
          (element_ends size.words (min size.width 64) c.elements-element-items.result.now c.elements.element-index c.loop-visit.visit _ c.elements-test.true c.loop-visit-test.false c.visits-visit-end.ensures.visit_count))
          ∙ c.loop-visit.invariant.0,
      c.loop-visit.invariant.1,
    )

pub returns-after-elements : goal.returns-after-elements
returns-after-elements g c =
    let size = c.size_of-size.result in
    let all = sight_end _ _ _ _ _ _ c.elements.invariant.0
    (all_end size.words (min size.width 64) c.elements-element-items.result.now c.elements.element-index c.elements-test.false) in
    record { some_step_misses = c.elements.invariant.1 ∙ all.2; left_at_the_first_miss = all.1; build_stays = all.0 }

pub returns-then-perform : goal.returns-then-perform
returns-then-perform g c =
    let size = c.size_of-size.result in
    let later = left_in size.words (min size.width 64) (drop c.elements.element-index (map meant c.elements-element-items.result.now)) (c.loop-visit.visit + 1) 0 in
    let m = g.C.CamArray in
    let y = c.loop-step.array in
    let told = c.perform.ensures in
    let all = sight_miss _ (m.build y) c.in-Some.step (steps_left c.next.new.self ++ later) _ _ (m.state y)
    (sym (sight_at _ _ _ _ (ap (λ xs. xs ++ later) c.in-Some.ensures.steps)) ∙ c.loop-step.invariant.0)
    (sym c.if-perform.true ∙ told.missed) in
    record { some_step_misses = all.2; left_at_the_first_miss = told.state_after ∙ all.1; build_stays = told.build_stays ∙ all.0 }
