use Rattle.std.proofs.Common.{refl}
use Rattle.words.specs.Readings.{on, off}
use Rattle.words.proofs.Rules.{pinned, same_fault}
use Rattle.sheets.proofs.Ones.{title_one, name_allowed, named_so}
use Rattle.sheets.proofs.sheet.read_title.Goals as goal

pub returns-in_err-want-clause-reading : goal.returns-in_err-want-clause-reading
returns-in_err-want-clause-reading c =
    rw (same_fault _ c.from_residual.ensures.1) (pinned (title_one _ _) (off c.in_err-want.ensures.reading.reads))

pub returns-in_err-want_word-clause-reading : goal.returns-in_err-want_word-clause-reading
returns-in_err-want_word-clause-reading c =
    let a = c.in_ok-want.ensures in
    let x = rw a.goes_on.text_stays at c.in_err-want_word.ensures.reading.reads in
    rw (same_fault _ c.from_residual-in_err-want_word.ensures.1) (pinned (title_one _ _) (on a.reading.reads (off x)))

pub returns-in_err-name-clause-reading : goal.returns-in_err-name-clause-reading
returns-in_err-name-clause-reading c =
    let a = c.in_ok-want.ensures in
    let b = c.in_ok-want_word.ensures in
    let y = rw a.goes_on.text_stays at b.reading.reads in
    let z = rw (b.goes_on.text_stays, a.goes_on.text_stays) at c.in_err-name.ensures.reading.reads in
    rw (same_fault _ c.from_residual-in_err-name.ensures.1) (pinned (title_one _ _) (on a.reading.reads (on y (off z))))

pub returns-in_err-want-2-clause-reading : goal.returns-in_err-want-2-clause-reading
returns-in_err-want-2-clause-reading c =
    let a = c.in_ok-want.ensures in
    let b = c.in_ok-want_word.ensures in
    let n = c.in_ok-name.ensures in
    let y = rw a.goes_on.text_stays at b.reading.reads in
    let z = rw (b.goes_on.text_stays, a.goes_on.text_stays) at n.reading.reads in
    let f = rw (n.goes_on.text_stays, b.goes_on.text_stays, a.goes_on.text_stays) at c.in_err-want-2.ensures.reading.reads in
    rw (same_fault _ c.from_residual-in_err-want-2.ensures.1) (pinned (title_one _ _) (on a.reading.reads (on y (on z (off f)))))

pub returns-clause-reading : goal.returns-clause-reading
returns-clause-reading c =
    let a = c.in_ok-want.ensures in
    let b = c.in_ok-want_word.ensures in
    let n = c.in_ok-name.ensures in
    let y = rw a.goes_on.text_stays at b.reading.reads in
    let z = rw (b.goes_on.text_stays, a.goes_on.text_stays) at n.reading.reads in
    let f = rw (n.goes_on.text_stays, b.goes_on.text_stays, a.goes_on.text_stays) at c.in_ok-want-2.ensures.reading.reads in
    let s = rw (b.goes_on.text_stays, a.goes_on.text_stays) at n.spelling in
    let named = named_so c.new.result (rw s (name_allowed z)) c.new.ensures.asks_letters_and_digits c.new.ensures.that_name in
    rw (named, s) (pinned (title_one _ _) (on a.reading.reads (on y (on z (on f refl)))))
