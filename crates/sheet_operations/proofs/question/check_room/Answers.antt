use Rattle.std.proofs.Common.{arith}
use Rattle.words.proofs.Rules.{pinned}
use Rattle.sheet_operations.specs.Questions.{room, full}
use Rattle.sheet_operations.proofs.Ones.{room_one}
use Rattle.sheet_operations.proofs.question.check_room.Goals as goal

pub returns-then-count-most : goal.returns-then-count-most
returns-then-count-most c = rw c.meaning_fault.ensures.found_there record { reading = pinned (room_one _ _ _) (full (omega arith)) }

pub returns : goal.returns
returns c = record { reading = pinned (room_one _ _ _) (room (omega arith)) }
