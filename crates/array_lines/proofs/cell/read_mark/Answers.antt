use Rattle.std.proofs.Common.{refl}
use Rattle.words.specs.Readings.{on, off}
use Rattle.words.proofs.Rules.{pinned, same_fault}
use Rattle.array_lines.proofs.Ones.{mark_one}
use Rattle.array_lines.proofs.cell.read_mark.Goals as goal

pub returns-in_err-word-clause-reading : goal.returns-in_err-word-clause-reading
returns-in_err-word-clause-reading c =
    rw (same_fault _ c.from_residual.ensures.1) (pinned (mark_one _ _ _) (off c.in_err-word.ensures.reading.reads))

pub returns-clause-reading : goal.returns-clause-reading
returns-clause-reading c = pinned (mark_one _ _ _) (on c.in_ok-word.ensures.reading.reads refl)
