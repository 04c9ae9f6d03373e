use Rattle.std.proofs.Common.{rules, tests}
use Rattle.words.specs.Readings.{on, off}
use Rattle.words.proofs.Rules.{pinned, same_fault}
use Rattle.array_lines.specs.Numbers.{within, outside}
use Rattle.array_lines.proofs.Ones.{within_one}
use Rattle.array_lines.proofs.number.number_within.Goals as goal

pub returns-in_err-number-clause-reading : goal.returns-in_err-number-clause-reading
returns-in_err-number-clause-reading c =
    rw (same_fault _ c.from_residual.ensures.1) (pinned (within_one _ _ _ _ _) (off c.in_err-number.ensures.reading.reads))

pub returns-then-not-contains-clause-reading : goal.returns-then-not-contains-clause-reading
returns-then-not-contains-clause-reading c =
    rw c.meaning_fault.ensures.found_there
    (pinned (within_one _ _ _ _ _) (on c.in_ok-number.ensures.reading.reads (outside (λ p q. search (rules, tests)))))

pub returns-clause-reading : goal.returns-clause-reading
returns-clause-reading c =
    pinned (within_one _ _ _ _ _) (on c.in_ok-number.ensures.reading.reads (within (search (rules, tests)) (search (rules, tests))))
