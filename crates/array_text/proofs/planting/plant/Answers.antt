use Rattle.std.proofs.Common.{subst, rules}
use Rattle.array_lines.specs.Cells.{Inside}
use Rattle.array_text.proofs.OneMore.{Planted, storage_told, pair_told, mark_told, planting_left}
use Rattle.array_text.proofs.planting.plant.Goals as goal
use Rattle.array_text.proofs.planting.plant.Goals.{in-Storage, in-Wrong, in-Mark}

pub returns-clause-new_or_repeated : goal.returns-clause-new_or_repeated
returns-clause-new_or_repeated c = λ N W ds h i.
    let m = c.match-defect in
    let planted : Planted N W ds c.args.array.now m.array h c.args.defect m.planted = elim m.branch [
      | in-Storage w ↦
          let e = w.plant_storage-planted.ensures in
          rw (w.in-Storage.is, w.array-is, w.planted-is) (storage_told N W ds _ _ h w.in-Storage.cell w.in-Storage.defect _ (subst (Inside N W) w.in-Storage.is i) e.asks_place_then_storage e.only_this_defect_planted e.only_held_bit_settled)
      | in-Wrong w ↦
          let e = w.plant_pair-planted.ensures in
          rw (w.in-Wrong.is, w.array-is, w.planted-is) (pair_told N W ds _ _ h w.in-Wrong.cell w.in-Wrong.pair _ (subst (Inside N W) w.in-Wrong.is i) e.asks_place_then_pair e.only_this_pair_planted e.state_stays)
      | in-Mark w ↦
          let e = w.plant_stuck_mark-planted.ensures in
          rw (w.in-Mark.is, w.array-is, w.planted-is) (mark_told N W ds _ _ h w.in-Mark.word _ (subst (Inside N W) w.in-Mark.is i) e.asks_place_then_mark e.only_this_mark_planted e.only_this_mark_cleared)
    ] in
    planting_left N W ds c.args.array.now m.array h c.args.defect c.args.bracket _ m.planted c.map_err.result c.map_err.ensures.cases (λ e f q. search rules) planted
