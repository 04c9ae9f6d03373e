use Rattle.words.specs.Readings.{on, off}
use Rattle.words.specs.Forms.{first, second, neither}
use Rattle.words.proofs.Rules.{pinned, same_fault}
use Rattle.words.proofs.Parts.{either_next_one, says, says_not}
use Rattle.words.proofs.cursor.Cursor.either_word.Goals as goal

pub returns-in_err-token-clause-reading : goal.returns-in_err-token-clause-reading
returns-in_err-token-clause-reading c =
    rw (same_fault _ c.from_residual.ensures.1) (pinned (either_next_one _ _ _ _) (off c.in_err-token.ensures.reading.reads))

pub returns-then-spells-clause-reading : goal.returns-then-spells-clause-reading
returns-then-spells-clause-reading c =
    let t = c.in_ok-token.ensures in
    pinned (either_next_one _ _ _ _) (on t.reading.reads (first (says c.spells.ensures.word_told t.spelling c.if-spells.true)))

pub returns-then-spells-2-clause-reading : goal.returns-then-spells-2-clause-reading
returns-then-spells-2-clause-reading c =
    let t = c.in_ok-token.ensures in
    pinned (either_next_one _ _ _ _) (on t.reading.reads (second (says_not c.spells.ensures.word_told t.spelling c.if-spells.false) (says c.spells-else-spells.ensures.word_told t.spelling c.if-spells-2.true)))

pub returns-else-spells-2-clause-reading : goal.returns-else-spells-2-clause-reading
returns-else-spells-2-clause-reading c =
    let t = c.in_ok-token.ensures in
    rw c.not_wanted.ensures.not_wanted_there
    (pinned (either_next_one _ _ _ _) (on t.reading.reads (neither (says_not c.spells.ensures.word_told t.spelling c.if-spells.false) (says_not c.spells-else-spells.ensures.word_told t.spelling c.if-spells-2.false))))
