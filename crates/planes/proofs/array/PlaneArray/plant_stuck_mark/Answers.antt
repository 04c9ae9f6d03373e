use Rattle.std.proofs.Common.{◌<◌, ◌≤◌, not, length, vec_items, sym, refl, ap, ◌∙◌, arith}
use Rattle.std.proofs.lemmas.List.{drop-set-lt}
use Rattle.std.proofs.lemmas.Bool.{lt-ltb}
use Rattle.cam.proofs.Asking.{both_yes}
use Rattle.planes.proofs.Rows.{record_read, build_with_stuck_mark, state_unmarked}
use Rattle.planes.proofs.array.PlaneArray.plant_stuck_mark.Goals as goal

pub returns : goal.returns
returns c =
    let s = c.args.self.now in
    let rs = vec_items s.records in
    let n = s.size.words in
    let a = c.args.word.number in
    let fits : n ≤ length rs = omega (arith, s.records.ok.0) in
    let inside : a < n = omega arith in
    let read = c.index_mut.ensures.value in
    let done = c.stick_mark.ensures in
    record {
      asks_place_then_mark = both_yes _ _ 42 43 (lt-ltb a n inside)
          (ap (λ y. not y.stuck) (sym (record_read n rs a _ fits inside c.index.ensures)) ∙ ap not c.if-index.false);
      only_this_mark_planted = build_with_stuck_mark n rs a _ _ fits inside read s.size.width done.stuck done.storage_stays done.wrong_sets_stay;
      only_this_mark_cleared = state_unmarked n rs a _ _ fits inside read s.size.width s.tally done.mark_clear (done.held_bits_stay s.size.width);
      later_records_stay = record { words = refl; later = drop-set-lt n rs a _ inside };
    }
