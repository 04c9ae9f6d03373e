use Rattle.std.proofs.Common.{◌≤◌, Bool, true, false, arith}
use mir.Val.{bool_byte}
use Rattle.chart.proofs.answers.Answers.byte.Goals as goal

bit_few : (b : Bool) → bool_byte b ≤ 1
bit_few true = omega arith
bit_few false = omega arith

pub overflow_add-result-3 : goal.overflow_add-result-3
overflow_add-result-3 c =
    omega (arith, bit_few c.if-self.result, bit_few c.if-zero-2.result, bit_few c.if-self-2.result, bit_few c.if-one-2.result)
