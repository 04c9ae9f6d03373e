use Rattle.std.proofs.Common.{◌≡◌, [], ◌∷◌}
use Rattle.cam.specs.Machine.{upward}
use Rattle.cam.specs.Operations.{after_all}
use Rattle.cam.specs.declared.operation.Operation.TheVariants.{Erase}
use Rattle.march.specs.Tests.{word}
use Rattle.chart.proofs.drawing.erase_all.Given as goal

abbrev pub invariant-loop-number : goal.invariant-loop-number
invariant-loop-number g l =
    let m = g.C.CamArray in
    (m.build l.array ≡ m.build l.initial.array)
    × (m.state l.array ≡ after_all (m.build l.initial.array) (upward l.number (λ a. Erase (word a) ∷ [])) (m.state l.initial.array))
