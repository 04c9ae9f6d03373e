use Rattle.chart.proofs.Rows.{Drawn}
use Rattle.chart.proofs.drawing.draw.Given as goal

abbrev pub invariant-loop-number : goal.invariant-loop-number
invariant-loop-number g l =
    let m = g.C.CamArray in
    Drawn (m.build l.initial.array) (m.state l.initial.array) l.number l.marred l.initial.buffer l.buffer (m.build l.array) (m.state l.array)
