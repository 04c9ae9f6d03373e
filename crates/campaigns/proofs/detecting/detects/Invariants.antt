use Rattle.std.proofs.Common.{◌≡◌, ◌+◌, ◌++◌, min, false, map, drop}
use Rattle.march.specs.Table.{elements_of}
use Rattle.march.specs.Tests.{meant}
use Rattle.march.specs.Going.{steps_left}
use Rattle.mlt1.specs.Left.{left_in}
use Rattle.trials.specs.Trials.{steps_on}
use Rattle.campaigns.proofs.Sights.{sight}
use Rattle.campaigns.proofs.detecting.detects.Given as goal

abbrev pub invariant-elements : goal.invariant-elements
invariant-elements g l =
    let m = g.C.CamArray in
    (sight (m.build l.array) (left_in l.size.words (min l.size.width 64) (drop l.element-index (map meant l.element-items)) 0 0) (m.state l.array)
    ≡ sight (m.build l.fn.array) (steps_on (m.build l.fn.array) (elements_of l.test)) (m.state l.fn.array))
    × (l.missed ≡ false)

abbrev pub invariant-loop-visit : goal.invariant-loop-visit
invariant-loop-visit g l =
    let m = g.C.CamArray in
    (sight (m.build l.array) (left_in l.size.words (min l.size.width 64) (drop l.element-index (map meant l.element-items)) l.visit 0) (m.state l.array)
    ≡ sight (m.build l.fn.array) (steps_on (m.build l.fn.array) (elements_of l.test)) (m.state l.fn.array))
    × (l.missed ≡ false)

abbrev pub invariant-loop-step : goal.invariant-loop-step
invariant-loop-step g l =
    let m = g.C.CamArray in
    (sight (m.build l.array) (steps_left l.step-iterator ++ left_in l.size.words (min l.size.width 64) (drop l.element-index (map meant l.element-items)) (l.visit + 1) 0) (m.state l.array)
    ≡ sight (m.build l.fn.array) (steps_on (m.build l.fn.array) (elements_of l.test)) (m.state l.fn.array))
    × (l.missed ≡ false)
