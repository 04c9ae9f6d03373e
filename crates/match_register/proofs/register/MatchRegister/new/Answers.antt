use Rattle.std.proofs.Common.{false, ◌≡◌, ◌&&◌, eqb, ltb}
use Rattle.std.proofs.lemmas.Bool.{and_right}
use Rattle.cam.specs.Bits.{bit}
use Rattle.cam.specs.Defects.{cleared}
use Rattle.cam.proofs.BitLaws.{bit_zero}
use Rattle.cam.specs.declared.mark.Mark.{Mark}
use Rattle.cam.specs.declared.mark.Mark.TheVariants.{Clear, Stuck}
use Rattle.cam.specs.Mark.{is_set}
use Rattle.match_register.specs.Register.{register_state}
use Rattle.match_register.proofs.register.MatchRegister.new.Goals as goal

blank : (m : Mark) → is_set m ≡ false → register_state (record { held = 0; mark = m; tally = 0 }) ≡ cleared
blank m clear = λ d. record { held = λ k j. and_right (eqb k 0 && ltb j 8) (bit 0 j) (bit_zero j) d; mark = λ k. and_right (eqb k 0) _ clear d; tally = 0 }

pub returns-then-stuck-clause-nothing_done : goal.returns-then-stuck-clause-nothing_done
returns-then-stuck-clause-nothing_done c = blank Stuck (λ d. false)

pub returns-else-stuck-clause-nothing_done : goal.returns-else-stuck-clause-nothing_done
returns-else-stuck-clause-nothing_done c = blank Clear (λ d. false)
