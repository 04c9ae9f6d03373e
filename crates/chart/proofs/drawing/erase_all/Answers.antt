use Rattle.std.proofs.Common.{[], ◌∷◌, refl, ◌∙◌}
use Rattle.cam.proofs.Operating.{after_up}
use Rattle.cam.specs.declared.operation.Operation.TheVariants.{Erase}
use Rattle.march.specs.Tests.{word}
use Rattle.chart.proofs.drawing.erase_all.Goals as goal

pub loop-number-preserved : goal.loop-number-preserved
loop-number-preserved g c = (
  c.erase.ensures.build_stays ∙ c.loop-number.invariant.0,
  after_up (λ a. Erase (word a) ∷ []) c.loop-number.number (Erase (word c.loop-number.number) ∷ []) _ _ _ _ _ refl c.loop-number.invariant.0 c.loop-number.invariant.1 c.erase.ensures.state_after_erase,
)
