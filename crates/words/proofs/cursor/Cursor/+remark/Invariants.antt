use Rattle.std.proofs.Common.{ℕ, ◌-◌, length, Result}
use Rattle.cam.specs.declared.fault.Fault.{Fault}
use Rattle.words.specs.Going.{GoesOn}
use Rattle.words.specs.Remarks.{Remark}
use Rattle.words.proofs.cursor.Cursor.+remark.Given as goal

abbrev pub decreases-remark : goal.decreases-remark
decreases-remark l = l.inner

-- what the rest gives, the whole gives
abbrev pub invariant-loop-token : goal.invariant-loop-token
invariant-loop-token l = record {
  goes_on : GoesOn l.fn.self l.self;
  rest : (r : Result ℕ Fault) → Remark l.fn.self.text.now l.inner l.self.at r → Remark l.fn.self.text.now l.inner l.fn.self.at r;
}

abbrev pub decreases-loop-token : goal.decreases-loop-token
decreases-loop-token l = length l.self.text.now - l.self.at
