use Rattle.std.proofs.Common.{get_or}
use Rattle.std.specs.Io.KnownBytes.{Appends}
use Rattle.cam.specs.Machine.{upward}
use Rattle.report.specs.Printed.{marked_line}
use Rattle.report.proofs.printing.print_cells.Given as goal

abbrev pub invariant-loop-place : goal.invariant-loop-place
invariant-loop-place g l =
    Appends (g.W.Write.contents l.initial.out) (g.W.Write.contents l.out) (upward l.place (λ place. marked_line l.size.width place (get_or l.byte-items place 0)))
