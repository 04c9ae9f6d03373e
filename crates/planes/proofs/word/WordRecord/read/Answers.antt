use Rattle.cam.proofs.Values.{value_low}
use Rattle.planes.proofs.word.WordRecord.read.Goals as goal

pub returns : goal.returns
returns c =
    let few = c.requires.few_bits in
    record {
      held_bits = value_low c.args.width _ _ _ few c.low_ones.ensures.value
          (λ j l. c.shown.ensures.bit_of_each_column c.args.width j l few);
    }
