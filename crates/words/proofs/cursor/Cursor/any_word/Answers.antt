use Rattle.words.specs.Readings.{on, off}
use Rattle.words.specs.Forms.{named, nameless}
use Rattle.words.proofs.Rules.{pinned, same_fault}
use Rattle.words.proofs.Parts.{name_next_one}
use Rattle.words.proofs.cursor.Cursor.any_word.Goals as goal

pub returns-in_err-token-clause-reading : goal.returns-in_err-token-clause-reading
returns-in_err-token-clause-reading c =
    rw (same_fault _ c.from_residual.ensures.1) (pinned (name_next_one _ _) (off c.in_err-token.ensures.reading.reads))

pub returns-in-Word-clause-reading : goal.returns-in-Word-clause-reading
returns-in-Word-clause-reading c = pinned (name_next_one _ _) (on c.in_ok-token.ensures.reading.reads (named c.in-Word.is))

pub returns-in_default-clause-reading : goal.returns-in_default-clause-reading
returns-in_default-clause-reading c =
    rw c.not_wanted.ensures.not_wanted_there (pinned (name_next_one _ _) (on c.in_ok-token.ensures.reading.reads (nameless c.in_default.not-Word)))
