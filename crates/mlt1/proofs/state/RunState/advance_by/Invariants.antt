use Rattle.std.proofs.Common.{◌≡◌}
use Rattle.mlt1.specs.Left.{Went}
use Rattle.mlt1.proofs.state.RunState.advance_by.Given as goal

abbrev pub invariant-loop-done : goal.invariant-loop-done
invariant-loop-done g l =
    let m = g.C.CamArray in
    (m.build l.array ≡ m.build l.initial.array)
    × Went (m.build l.initial.array) l.done l.initial.self l.self (m.state l.initial.array) (m.state l.array)
