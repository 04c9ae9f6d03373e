use Rattle.std.proofs.Common.{◌++◌, map, take, drop, refl, ap, ◌∙◌, rules}
use Rattle.std.proofs.lemmas.Simd.{splat_is_map}
use Rattle.planes.proofs.making.blank_first.Goals as goal

pub returns : goal.returns
returns c =
    let front = take c.args.count c.args.records.now in
    record {
      first_blank_others_stay = ap (λ xs. xs ++ drop c.args.count c.args.records.now)
          (c.fill.ensures.after (λ y same. search rules) ∙ splat_is_map front _ c.blank.result refl ∙ ap (λ x. map (λ _. x) front) c.blank.ensures.no_bit_mark_or_defect);
    }
