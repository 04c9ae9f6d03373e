use Rattle.std.proofs.Common.{arith}
use Rattle.std.proofs.lemmas.Grind.{common_steps}
use Rattle.report.proofs.Writing.{writing_more, writing_made}
use Rattle.report.proofs.pieces.line.Goals as goal

pub loop-label-preserved : goal.loop-label-preserved
loop-label-preserved c =
    writing_more _ c.args.pieces.now _ c.loop-label.label-index _ _ _ _ _ _ _ c.loop-label-test.true c.if-buffer-lt64.false c.loop-label.invariant
    c.put_text-at.ensures.written_over c.put_text-at.ensures.place_after c.put_number-at.ensures.written_over c.put_number-at.ensures.place_after
    c.put_number-at.ensures.at_most_ten

pub returns : goal.returns
returns c = record {
  asks_then_makes = record {
    asks = grind (arith, c.if-buffer-lt64.false, common_steps);
    makes = writing_made _ c.args.pieces.now _ c.loop-label.label-index _ _ _ _ c.loop-label-test.false c.if-buffer-lt64.false c.loop-label.invariant
        c.put_text.ensures.written_over c.put_text.ensures.place_after;
  };
}
