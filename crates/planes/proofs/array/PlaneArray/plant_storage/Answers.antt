use Rattle.std.proofs.Common.{◌≡◌, ◌<◌, ◌≤◌, true, ltb, length, vec_items, sym, refl, ap, ◌∙◌, arith, rules}
use Rattle.std.proofs.lemmas.List.{drop-set-lt}
use Rattle.std.proofs.lemmas.Bool.{and_parts, ltb-true}
use Rattle.cam.specs.Defects.{has_cell, is_good, storage_with}
use Rattle.cam.specs.declared.defect.Storage.TheVariants.{Good}
use Rattle.cam.proofs.Asking.{both_yes}
use Rattle.planes.specs.Word.{storage_of}
use Rattle.planes.specs.Planes.{build_of}
use Rattle.planes.proofs.Rows.{record_read, build_with_storage, state_settled}
use Rattle.planes.proofs.array.PlaneArray.plant_storage.Goals as goal

pub returns : goal.returns
returns c =
    let s = c.args.self.now in
    let rs = vec_items s.records in
    let n = s.size.words in
    let a = c.args.cell.word.number in
    let j = c.args.cell.column.number in
    let fits : n ≤ length rs = omega (arith, s.records.ok.0) in
    let cell : has_cell (build_of s) a j ≡ true = sym c.has_cell.ensures.inside_array ∙ c.if-not-has_cell.false in
    let both = and_parts (ltb a n) (ltb j s.size.width) cell in
    let inside : a < n = ltb-true a n both.0 in
    let read = c.index_mut.ensures.value in
    let stores_well : c.storage.result ≡ Good = search rules in
    let done = c.plant_storage.ensures in
    record {
      asks_place_then_storage = both_yes _ _ 42 43 cell
          (ap (λ y. is_good (storage_of y j)) (sym (record_read n rs a _ fits inside c.index.ensures)) ∙ ap is_good (sym c.storage.ensures.storage_of_column ∙ stores_well));
      only_this_defect_planted = build_with_storage n rs a _ _ fits inside read s.size.width j (storage_with c.args.defect)
          done.storage_of_column done.wrong_sets_stay done.stuck_stays;
      only_held_bit_settled = state_settled n rs a _ _ fits inside read s.size.width s.tally j (storage_with c.args.defect)
          (λ i. done.held_bits s.size.width i (ltb-true j s.size.width both.1) s.few_bits) done.mark_stays;
      later_records_stay = record { words = refl; later = drop-set-lt n rs a _ inside };
    }
