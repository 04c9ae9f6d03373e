use Rattle.words.specs.Readings.{on, off}
use Rattle.words.proofs.Rules.{pinned, same_fault}
use Rattle.array_text.proofs.Ones.{first_line_one}
use Rattle.array_text.proofs.first_line.read_first_line.Goals as goal

pub returns-in_err-check_length-clause-reading : goal.returns-in_err-check_length-clause-reading
returns-in_err-check_length-clause-reading c =
    rw (same_fault _ c.from_residual.ensures.1) (pinned (first_line_one _ _) (off c.in_err-check_length.ensures.reading.reads))

pub returns-in_err-want-clause-reading : goal.returns-in_err-want-clause-reading
returns-in_err-want-clause-reading c =
    rw (same_fault _ c.from_residual-in_err-want.ensures.1) (pinned (first_line_one _ _) (on c.in_ok-check_length.ensures.reading.reads (off c.in_err-want.ensures.reading.reads)))

pub returns-in_err-want_word-clause-reading : goal.returns-in_err-want_word-clause-reading
returns-in_err-want_word-clause-reading c =
    let o = c.in_ok-want.ensures in
    let n = rw o.goes_on.text_stays at c.in_err-want_word.ensures.reading.reads in
    rw (same_fault _ c.from_residual-in_err-want_word.ensures.1) (pinned (first_line_one _ _) (on c.in_ok-check_length.ensures.reading.reads (on o.reading.reads (off n))))

pub returns-clause-reading : goal.returns-clause-reading
returns-clause-reading c =
    let o = c.in_ok-want.ensures in
    let n = rw o.goes_on.text_stays at c.in_ok-want_word.ensures.reading.reads in
    let s = rw (c.in_ok-want_word.ensures.goes_on.text_stays, o.goes_on.text_stays) at c.read_size.ensures.reading.reads in
    pinned (first_line_one _ _) (on c.in_ok-check_length.ensures.reading.reads (on o.reading.reads (on n s)))
