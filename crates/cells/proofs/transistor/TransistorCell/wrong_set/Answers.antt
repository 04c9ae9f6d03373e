use Rattle.cells.proofs.Faults.{wrong_pairs_lem, empty_exactly_when_good}
use Rattle.cells.proofs.transistor.TransistorCell.wrong_set.Goals as goal

pub returns : goal.returns
returns c =
    record {
      wrong_pairs = wrong_pairs_lem c.args.self.now _ _ _ _ c.matches.ensures.unless_a_leg_pulls c.matches-2.ensures.unless_a_leg_pulls
          c.matches-3.ensures.unless_a_leg_pulls c.matches-4.ensures.unless_a_leg_pulls;
      empty_exactly_when_good = empty_exactly_when_good;
    }
