use Rattle.std.proofs.Common.{◌≡◌, ◌^◌, ◌<◌, ◌&&◌, refl, sym, ◌∙◌, ap₂, arith, rules, tests}
use Rattle.std.proofs.Math.Bool.{or-false}
use Rattle.cam.specs.Mark.{is_set}
use Rattle.cam.proofs.Values.{none_set}
use Rattle.match_register.proofs.Bits.{agreeing}
use Rattle.match_register.proofs.operating.MatchRegisterCamArray.compare.Goals as goal

pub returns-clause-some_word_matches : goal.returns-clause-some_word_matches
returns-clause-some_word_matches c =
    let r = c.args.self.now in
    let p = c.args.pattern in
    let m = c.args.mask in
    let fits : m < 2 ^ 64 = search rules in
    let set : c.eq.result ≡ is_set r.mark = search (rules, tests) in
    ap₂ ◌&&◌ set (none_set 8 _ 255 _ (omega arith) refl (λ j l. agreeing r.held p m j fits l)) ∙ sym (or-false _)
