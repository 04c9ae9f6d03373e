use Rattle.std.proofs.Common.{sym, rules}
use denote.Enum.Bare.{same_true}
use Rattle.march.specs.contracts.operations.Order as order
use Rattle.sheet_operations.specs.contracts.letter.Letter as letter
use Rattle.words.proofs.Rules.{pinned}
use Rattle.sheet_operations.specs.Questions.{allowed, compares_only}
use Rattle.sheet_operations.proofs.Ones.{allowed_one}
use Rattle.sheet_operations.proofs.question.check_allowed.Goals as goal
use Rattle.sheet_operations.proofs.question.check_allowed.Goals.{else-eq-via-then-eq+else-ne, else-eq-via-else-eq}

pub returns-then-ne : goal.returns-then-ne
returns-then-ne c =
    rw c.meaning_fault.ensures.found_there
    record { reading = pinned (allowed_one _ _ _) (compares_only (same_true order.the_type (search rules) _ _ (sym c.if-eq.ensures)) (search rules)) }

pub returns : goal.returns
returns c = record { reading = pinned (allowed_one _ _ _) (allowed (elim c.else-eq.branch [ else-eq-via-then-eq+else-ne w ↦ (λ e. same_true letter.the_type (search rules) _ _ (search rules)) | else-eq-via-else-eq w ↦ (λ e. search rules) ])) }
