use Rattle.std.proofs.Common.{arith}
use Rattle.words.specs.Lexing.{short, long}
use Rattle.words.proofs.Rules.{pinned}
use Rattle.words.proofs.Lexemes.{measured_one}
use Rattle.words.proofs.token.check_length.Goals as goal

pub returns-then-text-gt-LONGEST_TEXT : goal.returns-then-text-gt-LONGEST_TEXT
returns-then-text-gt-LONGEST_TEXT c = record { reading = pinned (measured_one _) (long (omega arith)) }

pub returns : goal.returns
returns c = record { reading = pinned (measured_one _) (short (omega arith)) }
