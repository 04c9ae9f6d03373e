use Rattle.std.proofs.Common.{◌≡◌, ◌≤◌, length, vec_items, ap, ◌∙◌, arith, rules}
use Rattle.std.specs.Vec.{with_items}
use Rattle.std.proofs.lemmas.List.{with_items_is}
use Rattle.planes.specs.Planes.{build_from, state_from, blanked}
use Rattle.planes.proofs.Blank.{build_blanked, state_blanked}
use Rattle.planes.proofs.array.PlaneArray.new.Goals as goal

pub returns : goal.returns
returns c =
    let v = c.in_ok-records.records in
    let same : c.args.records ≡ v = search rules in
    let n = c.args.size.words in
    let w = c.args.size.width in
    let fits : n ≤ length (vec_items v) = omega (arith, v.ok.0) in
    let ends : vec_items (with_items v c.blank_first.new.records) ≡ blanked n (vec_items v) =
    with_items_is v c.blank_first.new.records (omega arith)
    ∙ c.blank_first.ensures.first_blank_others_stay ∙ ap (blanked n) c.as_mut_slice.ensures.value in
    rw same record {
      asks_size_then_records = search rules;
      made_flawless = ap (build_from n w) ends ∙ build_blanked n w (vec_items v) fits;
      made_cleared = ap (λ rs. state_from n w rs 0) ends ∙ state_blanked n w (vec_items v) fits;
      later_records_stay = ends;
    }
