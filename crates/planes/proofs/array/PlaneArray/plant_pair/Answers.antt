use Rattle.std.proofs.Common.{◌≡◌, ◌<◌, ◌≤◌, true, not, ltb, length, vec_items, sym, refl, ap, ◌∙◌, arith}
use Rattle.std.proofs.lemmas.List.{drop-set-lt}
use Rattle.std.proofs.lemmas.Bool.{and_parts, ltb-true}
use Rattle.cam.specs.Defects.{has_cell}
use Rattle.cam.proofs.Asking.{both_yes}
use Rattle.planes.specs.Word.{wrong_of}
use Rattle.planes.specs.Planes.{build_of}
use Rattle.planes.proofs.Rows.{record_read, build_with_pair, state_stays}
use Rattle.planes.proofs.array.PlaneArray.plant_pair.Goals as goal

pub returns : goal.returns
returns c =
    let s = c.args.self.now in
    let rs = vec_items s.records in
    let n = s.size.words in
    let a = c.args.cell.word.number in
    let j = c.args.cell.column.number in
    let h = c.args.pair.held in
    let b = c.args.pair.comparand in
    let fits : n ≤ length rs = omega (arith, s.records.ok.0) in
    let cell : has_cell (build_of s) a j ≡ true = sym c.has_cell.ensures.inside_array ∙ c.if-not-has_cell.false in
    let both = and_parts (ltb a n) (ltb j s.size.width) cell in
    let inside : a < n = ltb-true a n both.0 in
    let read = c.index_mut.ensures.value in
    let done = c.plant_pair.ensures in
    record {
      asks_place_then_pair = both_yes _ _ 42 43 cell
          (ap (λ y. not (wrong_of y j h b)) (sym (record_read n rs a _ fits inside c.index.ensures)) ∙ ap not (sym (c.wrong_set.ensures.wrong_set_of_column h b) ∙ sym c.if-contains.ensures.membership));
      only_this_pair_planted = build_with_pair n rs a _ _ fits inside read s.size.width j h b
          done.wrong_set_of_column done.storage_stays done.stuck_stays;
      state_stays = state_stays n rs a _ _ fits inside read s.size.width s.tally (done.held_bits_stay s.size.width) done.mark_stays;
      later_records_stay = record { words = refl; later = drop-set-lt n rs a _ inside };
    }
