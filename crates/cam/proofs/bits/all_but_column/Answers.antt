use Rattle.std.proofs.Common.{ℕ, ◌<◌, min, arith}
use Rattle.std.proofs.lemmas.Nat.{pow_below}
use Rattle.cam.proofs.BitLaws.{shl_one}
use Rattle.cam.proofs.bits.all_but_column.Goals as goal

pub overflow_sub-result : goal.overflow_sub-result
overflow_sub-result c =
    let j = c.args.column.number in
    let w : ℕ = min c.args.width 64 in
    let inside : j < w = omega arith in
    omega (arith, c.low_ones.ensures.value, shl_one j (omega arith), pow_below j w inside)
