use Rattle.std.proofs.Common.{◌≡◌, ℕ, ◌-◌, ◌<◌, ◌≤◌, length, slice_index}
use Rattle.words.specs.Going.{GoesOn}
use Rattle.words.proofs.cursor.Cursor.skip_spaces.Given as goal

-- only spaces were passed
abbrev pub invariant-loop-byte : goal.invariant-loop-byte
invariant-loop-byte l = record {
  goes_on : GoesOn l.initial.self l.self;
  blank : (k : ℕ) → l.initial.self.at ≤ k → k < l.self.at → slice_index l.initial.self.text.now k ≡ 32;
}

abbrev pub decreases-loop-byte : goal.decreases-loop-byte
decreases-loop-byte l = length l.self.text.now - l.self.at
