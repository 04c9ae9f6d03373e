use Rattle.std.proofs.Common.{◌≡◌, ℕ, ◌^◌, ◌<◌, ◌-◌, ap, ◌∙◌, bit_and, bit_or, arith, rules}
use Rattle.cam.proofs.Outside.{tally_more}
use Rattle.match_register.specs.declared.register.MatchRegister.{MatchRegister}
use Rattle.match_register.specs.Register.{register_state}
use Rattle.match_register.proofs.Bits.{writing, marking}
use Rattle.match_register.proofs.operating.MatchRegisterCamArray.write.Goals as goal

pub returns-clause-state_after_write : goal.returns-clause-state_after_write
returns-clause-state_after_write c =
    let r = c.args.self.now in
    let a = c.args.word.number in
    let p = c.args.pattern in
    let m = c.args.mask in
    let fits : m < 2 ^ 64 = search rules in
    let z : a ≡ 0 = omega arith in
    let after : ℕ → MatchRegister = λ t.
    record { held = bit_or (bit_and r.held m) (bit_and p (18446744073709551615 - m)); mark = c.written-self.result; tally = t } in
    ap (λ t. register_state (after t)) c.one_more-self.ensures.next
    ∙ λ d. record { held = λ k j. writing r.held p m a k j fits z d; mark = λ k. marking r.mark c.written-self.result a k z c.written-self.ensures.set_unless_stuck d; tally = tally_more r.tally d }
