use Rattle.std.proofs.Common.{◌≡◌, ◌^◌, ◌<◌, Bool, true, not, ◌&&◌, sym, ap, ◌∙◌, arith, rules}
use Rattle.cam.proofs.BitLaws.{bits}
use Rattle.cam.proofs.Values.{none_set}
use Rattle.planes.proofs.word.WordRecord.matches.Goals as goal

-- of a word that is marked, the rest decides
marked : (m s t u : Bool) → m ≡ true → t ≡ u → (not s && t) ≡ ((m && not s) && u)
marked m s t u e q = ap (λ b. not s && b) q ∙ ap (λ b. (b && not s) && u) (sym e)

pub returns : goal.returns
returns c =
    let r = c.args.self.now in
    let few = c.requires.few_bits in
    let mask_fits : c.args.mask < 2 ^ 64 = search rules in
    record {
      word_matches = marked r.mark r.stuck _ _ c.if-not-self.false
          (none_set c.args.width _ _ _ few c.low_ones.ensures.value
          (λ j l. let j64 : j < 64 = omega arith in let own = sym (c.shown-held.ensures.bit_of_each_column c.args.width j l few) in let wrong = c.reversed.ensures.columns_with_wrong_pair j j64 in simp (wrong, bits, own) (grind arith)));
    }
