use Rattle.std.proofs.Common.{◌≡◌, ltb, sym, refl, ◌∙◌, arith}
use Rattle.std.proofs.lemmas.Bool.{cond-true, lt-ltb}
use Rattle.cam.proofs.Values.{value_low}
use Rattle.match_register.proofs.Bits.{held, counts}
use Rattle.match_register.proofs.operating.MatchRegisterCamArray.read.Goals as goal

pub returns-then-word-lt-WORDS-clause-held_bits : goal.returns-then-word-lt-WORDS-clause-held_bits
returns-then-word-lt-WORDS-clause-held_bits c =
    let r = c.args.self.now in
    let a = c.args.word.number in
    let z : a ≡ 0 = omega arith in
    value_low 8 r.held 255 (held r.held a) (omega arith) refl (λ j l. counts r.held a j z l) ∙ sym (cond-true (ltb a 1) _ 0 (lt-ltb a 1 (omega arith)))
