use Rattle.std.proofs.Common.{refl}
use Rattle.words.specs.Readings.{on, off}
use Rattle.words.proofs.Rules.{pinned, same_fault}
use Rattle.array_lines.proofs.Ones.{line_one}
use Rattle.array_lines.proofs.line.read_line.Goals as goal

pub returns-in_err-defect-clause-reading : goal.returns-in_err-defect-clause-reading
returns-in_err-defect-clause-reading c =
    rw (same_fault _ c.from_residual.ensures.1) (pinned (line_one _ _ _ _) (off c.in_err-defect.ensures.reading.reads))

pub returns-in_err-want-clause-reading : goal.returns-in_err-want-clause-reading
returns-in_err-want-clause-reading c =
    let l = c.in_ok-defect.ensures in
    let e = rw l.goes_on.text_stays at c.in_err-want.ensures.reading.reads in
    rw (same_fault _ c.from_residual-in_err-want.ensures.1) (pinned (line_one _ _ _ _) (on l.reading.reads (off e)))

pub returns-clause-reading : goal.returns-clause-reading
returns-clause-reading c =
    let l = c.in_ok-defect.ensures in
    let e = rw l.goes_on.text_stays at c.in_ok-want.ensures.reading.reads in
    pinned (line_one _ _ _ _) (on l.reading.reads (on e refl))
