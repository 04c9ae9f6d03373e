use Rattle.std.proofs.Common.{◌≡◌, Bool, true, false, get_or, sym, refl, ap, ◌∙◌, drop_of_length-le}
use Rattle.cam.specs.Defects.{in_set}
use Rattle.planes.specs.Planes.{build_of, state_of}
use Rattle.campaigns.proofs.Plantings.{pair, four_pairs, pair_planted, pair_turn, not_planted, four_planted, state_kept}
use Rattle.campaigns.proofs.planting.plant_pairs.Goals as goal
use Rattle.campaigns.proofs.planting.plant_pairs.Goals.{then-contains, else-contains}

pub loop-pair-preserved : goal.loop-pair-preserved
loop-pair-preserved c =
    let a = c.args.cell.word.number in
    let j = c.args.cell.column.number in
    let i = c.loop-pair.pair-index in
    let p = get_or four_pairs i (pair false false) in
    let wanted : Bool = in_set c.args.wrong p.held p.comparand in
    let now = c.loop-pair.array in
    let inv = c.loop-pair.invariant in
    let test = c.contains.ensures.membership in
    elim c.if-contains.branch [
      | then-contains w ↦
          let new = w.plant_pair.new.self in
          let told = w.plant_pair.ensures in
          let yes : wanted ≡ true = sym test ∙ w.if-contains.true in
          let turn = pair_turn a j i c.args.wrong _ (build_of c.if-contains.array) _ c.loop-pair-test.true inv.2 inv.0
          (ap build_of w.array-is ∙ pair_planted a j p.held p.comparand wanted now new w.plant_pair.result inv.2 yes told.asks_place_then_pair told.only_this_pair_planted) in
          (turn.0, ap state_of w.array-is ∙ state_kept now new w.plant_pair.result told.state_stays ∙ inv.1, turn.1)
      | else-contains w ↦
          let no : wanted ≡ false = sym test ∙ w.if-contains.false in
          let turn = pair_turn a j i c.args.wrong _ (build_of c.if-contains.array) _ c.loop-pair-test.true inv.2 inv.0
          (ap build_of w.array-is ∙ not_planted a j p.held p.comparand wanted (build_of now) no) in
          (turn.0, ap state_of w.array-is ∙ inv.1, turn.1)
    ]

pub returns-clause-pairs_planted : goal.returns-clause-pairs_planted
returns-clause-pairs_planted c =
    four_planted _ _ _ four_pairs _ _ _ refl (drop_of_length-le four_pairs c.loop-pair-test.false) c.loop-pair.invariant.0
