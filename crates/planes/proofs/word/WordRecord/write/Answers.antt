use Rattle.std.proofs.Common.{◌^◌, ◌<◌, ltb, arith, rules}
use Rattle.std.proofs.lemmas.Bool.{ltb-true}
use Rattle.cam.proofs.BitLaws.{bits}
use Rattle.cam.proofs.Below.{split}
use Rattle.planes.proofs.word.WordRecord.write.Goals as goal

pub returns-clause-cells : goal.returns-clause-cells
returns-clause-cells c = λ w j h.
    let norise-fits : c.args.self.now.norise < 2 ^ 64 = search rules in
    let mask_fits : c.args.mask < 2 ^ 64 = search rules in
    split (ltb j w)
    (λ e. let j64 : j < 64 = omega (arith, ltb-true j w e) in simp (bits, e) (grind arith))
    (λ e. simp e)
