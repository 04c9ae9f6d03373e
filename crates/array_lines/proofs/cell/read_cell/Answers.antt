use Rattle.std.proofs.Common.{arith}
use Rattle.words.specs.Readings.{on, off}
use Rattle.words.proofs.Rules.{pinned, same_fault}
use Rattle.array_lines.proofs.Ones.{cell_one, within_below}
use Rattle.array_lines.proofs.cell.read_cell.Goals as goal

pub returns-in_err-word-clause-reading : goal.returns-in_err-word-clause-reading
returns-in_err-word-clause-reading c =
    rw (same_fault _ c.from_residual.ensures.1) (pinned (cell_one _ _ _ _) (off c.in_err-word.ensures.reading.reads))

pub returns-in_err-column-clause-reading : goal.returns-in_err-column-clause-reading
returns-in_err-column-clause-reading c =
    let w = c.in_ok-word.ensures in
    let j = rw (c.from.ensures, w.goes_on.text_stays) at c.in_err-column.ensures.reading.reads in
    rw (same_fault _ c.from_residual-in_err-column.ensures.1) (pinned (cell_one _ _ _ _) (on w.reading.reads (off j)))

pub overflow_cast-column : goal.overflow_cast-column
overflow_cast-column c =
    let l = within_below _ _ _ _ _ _ c.in_ok-column.ensures.reading.reads in
    omega (arith, l)

pub returns-clause-reading : goal.returns-clause-reading
returns-clause-reading c =
    let w = c.in_ok-word.ensures in
    let j = rw (c.from.ensures, w.goes_on.text_stays) at c.in_ok-column.ensures.reading.reads in
    let f = rw (c.at.ensures.this_word_and_column, c.in_ok-column.ensures.goes_on.text_stays, w.goes_on.text_stays) at c.read_cell_fault.ensures.reading.reads in
    pinned (cell_one _ _ _ _) (on w.reading.reads (on j f))
