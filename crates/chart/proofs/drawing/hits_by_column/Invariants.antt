use Rattle.chart.proofs.Columns.{Asked}
use Rattle.chart.proofs.drawing.hits_by_column.Given as goal

abbrev pub invariant-loop-number : goal.invariant-loop-number
invariant-loop-number g l =
    let m = g.C.CamArray in
    Asked (m.build l.initial.array) l.value (m.state l.initial.array) l.number l.hits (m.build l.array) (m.state l.array)
