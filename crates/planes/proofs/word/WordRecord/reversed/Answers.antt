use Rattle.std.proofs.Common.{ℕ, ap, arith}
use Rattle.cam.specs.Bits.{bit}
use Rattle.cam.proofs.BitLaws.{bits, bit_zero}
use Rattle.planes.proofs.word.WordRecord.reversed.Goals as goal

-- all four planes are 0
pub returns-then-self-eq0 : goal.returns-then-self-eq0
returns-then-self-eq0 c =
    record {
      columns_with_wrong_pair = λ j l.
          let none = simp bits at (ap (λ (n : ℕ). bit n j) c.if-self-eq0.true) in
          let zero = bit_zero j in
          grind arith;
    }
