use Rattle.words.specs.Readings.{on, off}
use Rattle.words.proofs.Rules.{pinned, same_fault}
use Rattle.sheet_operations.proofs.Ones.{operation_one}
use Rattle.sheet_operations.proofs.operation.read_operation.Goals as goal

pub returns-in_err-check_room-clause-reading : goal.returns-in_err-check_room-clause-reading
returns-in_err-check_room-clause-reading c =
    rw (same_fault _ c.from_residual.ensures.1) (pinned (operation_one _ _ _ _ _) (off c.in_err-check_room.ensures.reading.reads))

pub returns-in_err-letter-clause-reading : goal.returns-in_err-letter-clause-reading
returns-in_err-letter-clause-reading c =
    rw (same_fault _ c.from_residual-in_err-letter.ensures.1) (pinned (operation_one _ _ _ _ _) (on c.in_ok-check_room.ensures.reading.reads (off c.in_err-letter.ensures.reading.reads)))

pub returns-in_err-check_allowed-clause-reading : goal.returns-in_err-check_allowed-clause-reading
returns-in_err-check_allowed-clause-reading c =
    rw (same_fault _ c.from_residual-in_err-check_allowed.ensures.1) (pinned (operation_one _ _ _ _ _) (on c.in_ok-check_room.ensures.reading.reads (on c.in_ok-letter.ensures.reading.reads (off c.in_err-check_allowed.ensures.reading.reads))))

pub returns-clause-reading : goal.returns-clause-reading
returns-clause-reading c =
    let r = rw c.in_ok-letter.ensures.goes_on.text_stays at c.rest.ensures.reading.reads in
    pinned (operation_one _ _ _ _ _) (on c.in_ok-check_room.ensures.reading.reads (on c.in_ok-letter.ensures.reading.reads (on c.in_ok-check_allowed.ensures.reading.reads r)))
