use Rattle.std.proofs.Common.{refl, arith}
use Rattle.words.specs.Readings.{on, off}
use Rattle.words.proofs.Rules.{pinned, same_fault}
use Rattle.array_lines.proofs.Ones.{within_below}
use Rattle.array_text.proofs.Ones.{size_one}
use Rattle.array_text.proofs.first_line.read_size.Goals as goal

pub returns-in_err-words-clause-reading : goal.returns-in_err-words-clause-reading
returns-in_err-words-clause-reading c =
    rw (same_fault _ c.from_residual.ensures.1) (pinned (size_one _ _) (off c.in_err-words.ensures.reading.reads))

pub returns-in_err-width-clause-reading : goal.returns-in_err-width-clause-reading
returns-in_err-width-clause-reading c =
    let n = c.in_ok-words.ensures in
    let w = rw n.goes_on.text_stays at c.in_err-width.ensures.reading.reads in
    rw (same_fault _ c.from_residual-in_err-width.ensures.1) (pinned (size_one _ _) (on n.reading.reads (off w)))

pub returns-in_err-want-clause-reading : goal.returns-in_err-want-clause-reading
returns-in_err-want-clause-reading c =
    let n = c.in_ok-words.ensures in
    let w = rw n.goes_on.text_stays at c.in_ok-width.ensures.reading.reads in
    let e = rw (c.in_ok-width.ensures.goes_on.text_stays, n.goes_on.text_stays) at c.in_err-want.ensures.reading.reads in
    rw (same_fault _ c.from_residual-in_err-want.ensures.1) (pinned (size_one _ _) (on n.reading.reads (on w (off e))))

pub overflow_cast-result : goal.overflow_cast-result
overflow_cast-result c =
    let l = within_below _ _ _ _ _ _ c.in_ok-width.ensures.reading.reads in
    omega (arith, l)

pub returns-clause-reading : goal.returns-clause-reading
returns-clause-reading c =
    let n = c.in_ok-words.ensures in
    let w = rw n.goes_on.text_stays at c.in_ok-width.ensures.reading.reads in
    let e = rw (c.in_ok-width.ensures.goes_on.text_stays, n.goes_on.text_stays) at c.in_ok-want.ensures.reading.reads in
    pinned (size_one _ _) (on n.reading.reads (on w (on e refl)))
