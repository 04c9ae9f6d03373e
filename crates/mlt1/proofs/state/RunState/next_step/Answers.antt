use Rattle.std.proofs.Common.{min, sym, ap, ◌∙◌, arith}
use Rattle.march.specs.Tests.{meant}
use Rattle.march.proofs.Lengths.{per_visit_few}
use Rattle.mlt1.specs.Mlt1.{mlt1}
use Rattle.mlt1.specs.Left.{left_of}
use Rattle.mlt1.proofs.Lefts.{left_step, left_visit, left_element, left_end, operation_few, in_table, past_table}
use Rattle.mlt1.proofs.state.RunState.next_step.Goals as goal
use Rattle.mlt1.proofs.state.RunState.next_step.Goals.{then-self-visits, else-self-visits}

pub returns-in-Some-step : goal.returns-in-Some-step
returns-in-Some-step c =
    let n = c.args.size.words in
    let w = min c.args.size.width 64 in
    let s = c.loop-element.self in
    let r = c.in-Some.element.now in
    let at = in_table c.args.table.now s.element c.from.result r c.requires.table_of_mlt1 (omega arith) (omega (arith, c.in-Some.ensures.lookup.3.0)) c.in-Some.ensures.lookup.1 in
    let found = c.in-Some-step.ensures.step_of_visit in
    record {
      what_is_left_stays = c.loop-element.invariant.0;
      first_that_is_left = (
        left_step n w mlt1 s.element (meant r) s.visit s.operation at _ found,
        omega (arith, operation_few n w (meant r) s.visit s.operation _ found, per_visit_few r),
      );
      place_stays = c.loop-element.invariant.1;
      misses_stay = c.loop-element.invariant.2;
    }

pub loop-element-preserved : goal.loop-element-preserved
loop-element-preserved c =
    let n = c.args.size.words in
    let w = min c.args.size.width 64 in
    let s = c.loop-element.self in
    let r = c.in-Some.element.now in
    let at = in_table c.args.table.now s.element c.from.result r c.requires.table_of_mlt1 (omega arith) (omega (arith, c.in-Some.ensures.lookup.3.0)) c.in-Some.ensures.lookup.1 in
    let none = c.in_default-step.ensures.step_of_visit in
    elim c.if-self-visits.branch [
      | then-self-visits y ↦ (
        ap (λ t. left_of n w t.element t.visit 0) y.self-is
            ∙ sym (left_visit n w mlt1 s.element (meant r) s.visit s.operation at none (omega (arith, y.if-self-visits.true, c.visits.ensures.visit_count)))
            ∙ c.loop-element.invariant.0,
        ap (λ t. t.place) y.self-is ∙ c.loop-element.invariant.1,
        ap (λ t. t.misses) y.self-is ∙ c.loop-element.invariant.2,
      )
      | else-self-visits y ↦ (
        ap (λ t. left_of n w t.element t.visit 0) y.self-is
            ∙ sym (left_element n w mlt1 s.element (meant r) s.visit s.operation at (omega (arith, y.if-self-visits.false, c.visits.ensures.visit_count)))
            ∙ c.loop-element.invariant.0,
        ap (λ t. t.place) y.self-is ∙ c.loop-element.invariant.1,
        ap (λ t. t.misses) y.self-is ∙ c.loop-element.invariant.2,
      )
    ]

pub returns : goal.returns
returns c =
    let s = c.loop-element.self in
    record {
      what_is_left_stays = c.loop-element.invariant.0;
      first_that_is_left = left_end c.args.size.words (min c.args.size.width 64) mlt1 s.element s.visit s.operation (past_table c.args.table.now s.element c.from.result c.requires.table_of_mlt1 (omega arith) c.in_default.ensures.lookup.3);
      place_stays = c.loop-element.invariant.1;
      misses_stay = c.loop-element.invariant.2;
    }
