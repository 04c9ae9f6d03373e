use Rattle.std.proofs.Common.{sym, refl}
use Rattle.chart.proofs.Lengths.{chart_length_lem}
use Rattle.chart.proofs.drawing.operation_count.Goals as goal

pub returns : goal.returns
returns c = record { eight_and_four_a_column_for_each_word = refl; operations_of_a_chart = sym (chart_length_lem c.args.size.words c.args.size.width); length_at_every_size = chart_length_lem }
