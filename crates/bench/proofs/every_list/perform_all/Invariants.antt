use Rattle.std.proofs.Common.{take}
use Rattle.bench.specs.Calls.{chart_bytes, desk}
use Rattle.bench.proofs.Ruling.{Led}
use Rattle.bench.proofs.every_list.perform_all.Given as goal

abbrev pub invariant-loop-call : goal.invariant-loop-call
invariant-loop-call g l =
    let m = g.C.CamArray in
    Led (m.build l.initial.bench.array) (m.state l.initial.bench.array) chart_bytes (take l.call-index l.calls) (m.build l.bench.array) (desk (m.state l.bench.array) l.bench.books)
