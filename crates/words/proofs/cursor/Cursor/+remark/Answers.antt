use Rattle.std.proofs.Common.{arith}
use Rattle.words.specs.Remarks.{shut, word, nest, lexed, other, too_deep, no_note, inner}
use Rattle.words.proofs.Going.{goes_further}
use Rattle.words.proofs.Rules.{pinned, same_fault}
use Rattle.words.proofs.Nesting.{remark_one}
use Rattle.words.proofs.cursor.Cursor.+remark.Goals as goal

pub returns-in_err-token-clause-reading : goal.returns-in_err-token-clause-reading
returns-in_err-token-clause-reading t c =
    let i = c.loop-token.invariant in
    let x = rw i.goes_on.text_stays at c.in_err-token.ensures.reading.reads in
    rw (same_fault _ c.from_residual.ensures.1) (pinned (remark_one _ _ _) (i.rest _ (lexed x)))

pub returns-in-Close-clause-reading : goal.returns-in-Close-clause-reading
returns-in-Close-clause-reading t c =
    let i = c.loop-token.invariant in
    let x = rw i.goes_on.text_stays at c.in_ok-token.ensures.reading.reads in
    pinned (remark_one _ _ _) (i.rest _ (shut x c.in-Close.is))

pub loop-token-preserved-in-Word : goal.loop-token-preserved-in-Word
loop-token-preserved-in-Word t c =
    let i = c.loop-token.invariant in
    let x = rw i.goes_on.text_stays at c.in_ok-token.ensures.reading.reads in
    record {
      goes_on = goes_further i.goes_on c.in_ok-token.ensures.goes_on;
      rest = λ r rest. i.rest r (word x c.in-Word.is rest);
    }

pub returns-then-inner-eq0-clause-reading : goal.returns-then-inner-eq0-clause-reading
returns-then-inner-eq0-clause-reading t c =
    let i = c.loop-token.invariant in
    let x = rw i.goes_on.text_stays at c.in_ok-token.ensures.reading.reads in
    pinned (remark_one _ _ _) (i.rest _ (too_deep x c.in-Open.is c.if-inner-eq0.true))

pub returns-in_err-want_word-in-Open-clause-reading : goal.returns-in_err-want_word-in-Open-clause-reading
returns-in_err-want_word-in-Open-clause-reading t c =
    let i = c.loop-token.invariant in
    let x = rw i.goes_on.text_stays at c.in_ok-token.ensures.reading.reads in
    let w = rw (c.in_ok-token.ensures.goes_on.text_stays, i.goes_on.text_stays) at c.in_err-want_word-in-Open.ensures.reading.reads in
    rw (same_fault _ c.from_residual-in_err-want_word-in-Open.ensures.1) (pinned (remark_one _ _ _) (i.rest _ (no_note x c.in-Open.is (omega arith) w)))

pub returns-in_err-remark-in-Open-clause-reading : goal.returns-in_err-remark-in-Open-clause-reading
returns-in_err-remark-in-Open-clause-reading t c =
    let i = c.loop-token.invariant in
    let x = rw i.goes_on.text_stays at c.in_ok-token.ensures.reading.reads in
    let w = rw (c.in_ok-token.ensures.goes_on.text_stays, i.goes_on.text_stays) at c.in_ok-want_word-in-Open.ensures.reading.reads in
    let r = rw (c.in_ok-want_word-in-Open.ensures.goes_on.text_stays, c.in_ok-token.ensures.goes_on.text_stays, i.goes_on.text_stays) at c.in_err-remark-in-Open.ensures.reading.reads in
    rw (same_fault _ c.from_residual-in_err-remark-in-Open.ensures.1) (pinned (remark_one _ _ _) (i.rest _ (inner x c.in-Open.is (omega arith) w r)))

pub loop-token-preserved : goal.loop-token-preserved
loop-token-preserved t c =
    let i = c.loop-token.invariant in
    let a = c.in_ok-token.ensures in
    let b = c.in_ok-want_word-in-Open.ensures in
    let d = c.in_ok-remark-in-Open.ensures in
    let x = rw i.goes_on.text_stays at a.reading.reads in
    let w = rw (a.goes_on.text_stays, i.goes_on.text_stays) at b.reading.reads in
    let n = rw (b.goes_on.text_stays, a.goes_on.text_stays, i.goes_on.text_stays) at d.reading.reads in
    record {
      goes_on = goes_further i.goes_on (goes_further a.goes_on (goes_further b.goes_on d.goes_on));
      rest = λ r rest. i.rest r (nest x c.in-Open.is (omega arith) w n rest);
    }

pub returns-in_default-clause-reading : goal.returns-in_default-clause-reading
returns-in_default-clause-reading t c =
    let i = c.loop-token.invariant in
    let x = rw i.goes_on.text_stays at c.in_ok-token.ensures.reading.reads in
    rw c.not_wanted.ensures.not_wanted_there
    (pinned (remark_one _ _ _) (i.rest _ (other x c.in_default.not-Close c.in_default.not-Word c.in_default.not-Open)))
