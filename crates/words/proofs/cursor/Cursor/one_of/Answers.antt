use Rattle.words.proofs.Rules.{pinned, same_fault}
use Rattle.words.proofs.Parts.{one_of_next_one, chosen, no_word}
use Rattle.words.proofs.cursor.Cursor.one_of.Goals as goal

pub returns-in_err-word-clause-reading : goal.returns-in_err-word-clause-reading
returns-in_err-word-clause-reading g c =
    rw (same_fault _ c.from_residual.ensures.1) (pinned (one_of_next_one _ g.met.T.Spelled.differ _ _) (no_word _ _ _ _ c.in_err-word.ensures.reading.reads))

pub returns-clause-reading : goal.returns-clause-reading
returns-clause-reading g c =
    let w = c.in_ok-word.ensures in
    rw (c.ok_or.ensures.value, c.not_wanted.ensures.not_wanted_there)
    (pinned (one_of_next_one _ g.met.T.Spelled.differ _ _) (chosen _ _ _ _ _ c.spelled.result w.spelling c.spelled.ensures.value_of_word w.reading.reads))
