use Rattle.words.specs.Readings.{on, off}
use Rattle.words.specs.Forms.{spelt, misspelt}
use Rattle.words.proofs.Rules.{pinned, same_fault}
use Rattle.words.proofs.Parts.{word_next_one, says, says_not}
use Rattle.words.proofs.cursor.Cursor.want_word.Goals as goal

pub returns-in_err-token-clause-reading : goal.returns-in_err-token-clause-reading
returns-in_err-token-clause-reading c =
    rw (same_fault _ c.from_residual.ensures.1) (pinned (word_next_one _ _ _) (off c.in_err-token.ensures.reading.reads))

pub returns-then-spells-clause-reading : goal.returns-then-spells-clause-reading
returns-then-spells-clause-reading c =
    let t = c.in_ok-token.ensures in
    pinned (word_next_one _ _ _) (on t.reading.reads (spelt (says c.spells.ensures.word_told t.spelling c.if-spells.true)))

pub returns-else-spells-clause-reading : goal.returns-else-spells-clause-reading
returns-else-spells-clause-reading c =
    let t = c.in_ok-token.ensures in
    rw c.not_wanted.ensures.not_wanted_there (pinned (word_next_one _ _ _) (on t.reading.reads (misspelt (says_not c.spells.ensures.word_told t.spelling c.if-spells.false))))
