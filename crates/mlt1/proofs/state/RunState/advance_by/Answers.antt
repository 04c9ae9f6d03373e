use Rattle.std.proofs.Common.{refl, ◌∙◌, arith}
use Rattle.mlt1.proofs.Wents.{went_none, went_then, went_at, went_stop, went_all, went_tally}
use Rattle.mlt1.proofs.state.RunState.advance_by.Goals as goal

pub loop-done-init : goal.loop-done-init
loop-done-init g c = (refl, went_none _ c.args.self.now _)

pub loop-done-preserved : goal.loop-done-preserved
loop-done-preserved g c =
    let told = c.if-not-advance_in.ensures in (
      told.build_stays ∙ c.loop-done.invariant.0,
      went_then _ _ c.loop-done.done 1 _ _ _ _ _ _ c.loop-done.invariant.0 c.loop-done.invariant.1 told.next_step_done,
    )

pub returns-then-not-advance_in : goal.returns-then-not-advance_in
returns-then-not-advance_in g c =
    let told = c.if-not-advance_in.ensures in
    let done = went_stop _ _ c.loop-done.done _ _ _ _ _ _ c.loop-done.invariant.0 c.loop-done.invariant.1 told.next_step_done in
    record {
      most_or_all_left = went_all _ _ c.loop-done.done c.args.most _ _ _ _ c.loop-done.invariant.0 c.loop-done.invariant.1 (omega arith) told.unless_at_end;
      tally_rises_by_answer = went_tally _ _ _ _ _ _ done (g.C.CamArray.formed c.args.array.now).tally_within;
      next_steps_done = done;
      build_stays = told.build_stays ∙ c.loop-done.invariant.0;
    }

pub returns : goal.returns
returns g c =
    let done = went_at _ c.loop-done.done c.args.most _ _ _ _ (omega arith) c.loop-done.invariant.1 in
    record {
      most_or_all_left = omega (arith, done.within);
      tally_rises_by_answer = went_tally _ _ _ _ _ _ done (g.C.CamArray.formed c.args.array.now).tally_within;
      next_steps_done = done;
      build_stays = c.loop-done.invariant.0;
    }
