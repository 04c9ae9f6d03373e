use Rattle.words.specs.Readings.{on, off}
use denote.Enum.Bare.{same_true}
use Rattle.words.specs.contracts.token.Kind.{the_type}
use Rattle.std.proofs.Common.{sym, rules}
use Rattle.words.specs.Forms.{wanted, unwanted}
use Rattle.words.proofs.Rules.{pinned, same_fault}
use Rattle.words.proofs.Parts.{next_one}
use Rattle.words.proofs.cursor.Cursor.want.Goals as goal

pub returns-in_err-token-clause-reading : goal.returns-in_err-token-clause-reading
returns-in_err-token-clause-reading c =
    rw (same_fault _ c.from_residual.ensures.1) (pinned (next_one _ _ _) (off c.in_err-token.ensures.reading.reads))

pub returns-then-eq-clause-reading : goal.returns-then-eq-clause-reading
returns-then-eq-clause-reading c = pinned (next_one _ _ _) (on c.in_ok-token.ensures.reading.reads (wanted (same_true the_type (search rules) _ _ (sym c.if-eq.ensures))))

pub returns-else-eq-clause-reading : goal.returns-else-eq-clause-reading
returns-else-eq-clause-reading c =
    rw c.not_wanted.ensures.not_wanted_there (pinned (next_one _ _ _) (on c.in_ok-token.ensures.reading.reads (unwanted (search rules))))
