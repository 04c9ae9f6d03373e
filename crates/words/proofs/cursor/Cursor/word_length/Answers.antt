use Rattle.std.proofs.Common.{arith, rules}
use Rattle.march.specs.Letters.{is_letter_or_digit}
use Rattle.words.proofs.Runs.{word_stands, long_stands, stray_stands}
use Rattle.words.proofs.cursor.Cursor.word_length.Goals as goal

pub returns-in-0 : goal.returns-in-0
returns-in-0 c =
    let n = c.run_length.ensures.longest_run is_letter_or_digit (λ b r k. search rules) in
    rw c.refused.ensures.refused_here record { word_there = stray_stands _ _ _ _ c.args.self.now.inside c.rest.ensures.after_the_cursor n c.in-0.is }

pub returns-in_default : goal.returns-in_default
returns-in_default c =
    let n = c.run_length.ensures.longest_run is_letter_or_digit (λ b r k. search rules) in
    rw c.refused-in_default.ensures.refused_here record { word_there = long_stands _ _ _ _ c.args.self.now.inside c.rest.ensures.after_the_cursor n (omega arith) }

pub returns-in_default-2 : goal.returns-in_default-2
returns-in_default-2 c =
    let n = c.run_length.ensures.longest_run is_letter_or_digit (λ b r k. search rules) in
    record { word_there = word_stands _ _ _ _ c.args.self.now.inside c.rest.ensures.after_the_cursor n (omega (arith, c.in_default)) (omega arith) }
