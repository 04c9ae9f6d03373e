use Rattle.std.proofs.Common.{Ok, Err, ap, ◌∙◌}
use Rattle.std.specs.Option.{ok_or}
use Rattle.words.proofs.Rules.{pinned, same_fault}
use Rattle.sheet_operations.proofs.Ones.{letter_next_one, chosen, no_word}
use Rattle.sheet_operations.proofs.letter.read_letter.Goals as goal

pub returns-in_err-word-clause-reading : goal.returns-in_err-word-clause-reading
returns-in_err-word-clause-reading c =
    rw (same_fault _ c.from_residual.ensures.1) (pinned (letter_next_one _ _) (no_word c.in_err-word.ensures.reading.reads))

pub returns-in_err-letter-clause-reading : goal.returns-in_err-letter-clause-reading
returns-in_err-letter-clause-reading c =
    let w = c.in_ok-word.ensures in
    rw (same_fault _ c.from_residual-in_err-letter.ensures.1) (pinned (letter_next_one _ _) (chosen c.spelled.result (Err c.in_err-letter.field-0.0) w.spelling c.spelled.ensures.value_of_word w.reading.reads (c.in_err-letter.ensures.value ∙ ap (ok_or c.spelled.result) c.not_wanted.ensures.not_wanted_there)))

pub returns-clause-reading : goal.returns-clause-reading
returns-clause-reading c =
    let w = c.in_ok-word.ensures in
    pinned (letter_next_one _ _) (chosen c.spelled.result (Ok c.in_ok-letter.letter) w.spelling c.spelled.ensures.value_of_word w.reading.reads (c.in_ok-letter.ensures.value ∙ ap (ok_or c.spelled.result) c.not_wanted.ensures.not_wanted_there))
