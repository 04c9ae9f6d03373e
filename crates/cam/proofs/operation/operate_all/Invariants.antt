use Rattle.std.proofs.Common.{◌≡◌, take}
use Rattle.cam.specs.Operations.{after_all}
use Rattle.cam.proofs.operation.operate_all.Given as goal

abbrev pub invariant-loop-operation : goal.invariant-loop-operation
invariant-loop-operation g l =
    let m = g.C.CamArray in
    (m.build l.array ≡ m.build l.initial.array)
    × (m.state l.array ≡ after_all (m.build l.initial.array) (take l.operation-index l.operations) (m.state l.initial.array))
