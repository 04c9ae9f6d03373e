use Rattle.std.proofs.Common.{ap, ◌∙◌}
use Rattle.std.proofs.lemmas.List.{take_all}
use Rattle.cam.specs.Operations.{after_all}
use Rattle.cam.proofs.Steadiness.{steadiness_stays}
use Rattle.cam.proofs.Operating.{after_turn, tally_rises}
use Rattle.cam.proofs.operation.operate_all.Goals as goal

pub loop-operation-preserved : goal.loop-operation-preserved
loop-operation-preserved g c = (
  c.operate.ensures.build_stays ∙ c.loop-operation.invariant.0,
  after_turn c.args.operations.now c.loop-operation.operation-index _ _ _ _ _ _
      c.loop-operation-test.true c.loop-operation.invariant.0 c.loop-operation.invariant.1 c.operate.ensures.state_after,
)

pub returns-clause-tally_rises : goal.returns-clause-tally_rises
returns-clause-tally_rises g c =
    let m = g.C.CamArray in
    let x = c.args.array.now in
    let os = c.args.operations.now in
    ap (λ S. S.tally) (c.loop-operation.invariant.1 ∙ ap (λ xs. after_all (m.build x) xs (m.state x)) (take_all c.loop-operation.operation-index os c.loop-operation-test.false))
    ∙ tally_rises (m.build x) os (m.state x) (m.formed x).tally_within

pub returns-clause-steadiness_of_the_model : goal.returns-clause-steadiness_of_the_model
returns-clause-steadiness_of_the_model g c = steadiness_stays
