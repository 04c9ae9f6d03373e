use Rattle.std.proofs.Common.{length, arith}
use Rattle.std.proofs.lemmas.List.FromFn.{fill_by_all}
use Rattle.chart.specs.Bytes.{byte_of}
use Rattle.chart.proofs.drawing.write_row.Goals as goal

pub returns : goal.returns
returns c =
    record {
      bytes_of_the_word = fill_by_all (byte_of c.args.answers.now) c.loop-number.row (length c.args.row.now) 0 c.loop-number.invariant.0
          (λ k l. c.loop-number.invariant.1 k (omega arith));
    }
