use Rattle.std.proofs.Common.{refl}
use Rattle.words.specs.Readings.{on, off}
use Rattle.words.proofs.Going.{goes_further, stays_there}
use Rattle.words.proofs.Rules.{pinned, same_fault}
use Rattle.sheet_operations.specs.declared.letter.Letter.TheVariants.{Write, Read, Compare, Erase}
use Rattle.sheet_operations.proofs.Ones.{rest_one, after_letter, Unclosed}
use Rattle.sheet_operations.proofs.operation.rest.Goals as goal
use Rattle.sheet_operations.proofs.operation.rest.Goals.{After-want, in-Write+in_ok-bit_word-in-Write, in-Read+in_ok-bit_word-in-Read, in-Compare+in_ok-bit_word-in-Compare+in_ok-either_word-in-Compare, in-Erase}

pub returns-in_err-bit_word-in-Write-clause-reading : goal.returns-in_err-bit_word-in-Write-clause-reading
returns-in_err-bit_word-in-Write-clause-reading c =
    rw (same_fault _ c.from_residual.ensures.1) (pinned (rest_one _ _ _) (after_letter _ _ Write _ _ c.in-Write.is (off c.in_err-bit_word-in-Write.ensures.reading.reads)))

pub returns-in_err-bit_word-in-Read-clause-reading : goal.returns-in_err-bit_word-in-Read-clause-reading
returns-in_err-bit_word-in-Read-clause-reading c =
    rw (same_fault _ c.from_residual-in_err-bit_word-in-Read.ensures.1) (pinned (rest_one _ _ _) (after_letter _ _ Read _ _ c.in-Read.is (off c.in_err-bit_word-in-Read.ensures.reading.reads)))

pub returns-in_err-bit_word-in-Compare-clause-reading : goal.returns-in_err-bit_word-in-Compare-clause-reading
returns-in_err-bit_word-in-Compare-clause-reading c =
    rw (same_fault _ c.from_residual-in_err-bit_word-in-Compare.ensures.1) (pinned (rest_one _ _ _) (after_letter _ _ Compare _ _ c.in-Compare.is (off c.in_err-bit_word-in-Compare.ensures.reading.reads)))

pub returns-in_err-either_word-in-Compare-clause-reading : goal.returns-in_err-either_word-in-Compare-clause-reading
returns-in_err-either_word-in-Compare-clause-reading c =
    let b = c.in_ok-bit_word-in-Compare.ensures in
    let h = rw b.goes_on.text_stays at c.in_err-either_word-in-Compare.ensures.reading.reads in
    rw (same_fault _ c.from_residual-in_err-either_word-in-Compare.ensures.1) (pinned (rest_one _ _ _) (after_letter _ _ Compare _ _ c.in-Compare.is (on b.reading.reads (off h))))

-- what was read before the closing bracket, by the letter
unclosed : (c : After-want) → Unclosed c.args.cursor.now c.match-letter.cursor c.args.letter c.match-letter.operation
unclosed c =
    elim c.match-letter.branch [
      | in-Write+in_ok-bit_word-in-Write w ↦ (let b = w.in_ok-bit_word-in-Write.ensures in rw (w.cursor-is, w.operation-is) (record { goes_on = b.goes_on; closes = λ r x. after_letter _ _ Write _ _ w.in-Write.is (on b.reading.reads x) }))
      | in-Read+in_ok-bit_word-in-Read w ↦ (let b = w.in_ok-bit_word-in-Read.ensures in rw (w.cursor-is, w.operation-is) (record { goes_on = b.goes_on; closes = λ r x. after_letter _ _ Read _ _ w.in-Read.is (on b.reading.reads x) }))
      | in-Compare+in_ok-bit_word-in-Compare+in_ok-either_word-in-Compare w ↦ (let b = w.in_ok-bit_word-in-Compare.ensures in let h = w.in_ok-either_word-in-Compare.ensures in rw (w.cursor-is, w.operation-is) (record { goes_on = goes_further b.goes_on h.goes_on; closes = λ r x. after_letter _ _ Compare _ _ w.in-Compare.is (on b.reading.reads (on (rw b.goes_on.text_stays at h.reading.reads) x)) }))
      | in-Erase w ↦ (rw (w.cursor-is, w.operation-is) (record { goes_on = stays_there _; closes = λ r x. after_letter _ _ Erase _ _ w.in-Erase.is x }))
    ]

pub returns-in_err-want-clause-reading : goal.returns-in_err-want-clause-reading
returns-in_err-want-clause-reading c =
    let u = unclosed (goal.at.returns-in_err-want-clause-reading c).After-want in
    let k = rw u.goes_on.text_stays at c.in_err-want.ensures.reading.reads in
    rw (same_fault _ c.from_residual-in_err-want.ensures.1) (pinned (rest_one _ _ _) (u.closes _ (off k)))

pub returns-clause-reading : goal.returns-clause-reading
returns-clause-reading c =
    let u = unclosed (goal.at.returns-clause-reading c).After-want in
    let k = rw u.goes_on.text_stays at c.in_ok-want.ensures.reading.reads in
    pinned (rest_one _ _ _) (u.closes _ (on k refl))
