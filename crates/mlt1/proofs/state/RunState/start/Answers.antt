use Rattle.std.proofs.Common.{refl}
use Rattle.mlt1.specs.Mlt1.{mlt1}
use Rattle.mlt1.proofs.Lefts.{left_start}
use Rattle.mlt1.proofs.state.RunState.start.Goals as goal

pub returns : goal.returns
returns c = record { first_operation_next = refl; whole_schedule_left = λ N W. left_start N W mlt1; at_place_0 = refl; no_miss_yet = refl }
