use Rattle.std.proofs.Common.{◌≡◌, ◌+◌, ◌++◌, min, map, drop}
use Rattle.march.specs.Table.{elements_of}
use Rattle.march.specs.Tests.{meant}
use Rattle.march.specs.Going.{steps_left}
use Rattle.mlt1.specs.Left.{left_in}
use Rattle.trials.specs.Trials.{steps_on}
use Rattle.trials.proofs.Outlooks.{outlook, whole_outlook}
use Rattle.trials.proofs.doing.do_all.Given as goal

abbrev pub invariant-loop-element : goal.invariant-loop-element
invariant-loop-element g l =
    let m = g.C.CamArray in
    outlook (m.build l.array) (left_in l.size.words (min l.size.width 64) (drop l.element-index (map meant l.element-items)) 0 0) (m.state l.array) l.buffer l.log
    ≡ whole_outlook (m.build l.fn.array) (steps_on (m.build l.fn.array) (elements_of l.test)) (m.state l.fn.array) l.fn.buffer

abbrev pub invariant-loop-visit : goal.invariant-loop-visit
invariant-loop-visit g l =
    let m = g.C.CamArray in
    outlook (m.build l.array) (left_in l.size.words (min l.size.width 64) (drop l.element-index (map meant l.element-items)) l.visit 0) (m.state l.array) l.buffer l.log
    ≡ whole_outlook (m.build l.fn.array) (steps_on (m.build l.fn.array) (elements_of l.test)) (m.state l.fn.array) l.fn.buffer

abbrev pub invariant-loop-step : goal.invariant-loop-step
invariant-loop-step g l =
    let m = g.C.CamArray in
    outlook (m.build l.array) (steps_left l.step-iterator ++ left_in l.size.words (min l.size.width 64) (drop l.element-index (map meant l.element-items)) (l.visit + 1) 0)
    (m.state l.array) l.buffer l.log
    ≡ whole_outlook (m.build l.fn.array) (steps_on (m.build l.fn.array) (elements_of l.test)) (m.state l.fn.array) l.fn.buffer
