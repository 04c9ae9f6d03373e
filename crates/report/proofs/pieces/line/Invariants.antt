use Rattle.report.proofs.Writing.{Writing}
use Rattle.report.proofs.pieces.line.Given as goal

abbrev pub invariant-loop-label : goal.invariant-loop-label
invariant-loop-label l = Writing l.fn.buffer l.pieces l.end l.label-index l.at l.buffer
