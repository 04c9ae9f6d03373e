use Rattle.std.proofs.Common.{sym, refl}
use Rattle.mlt1.proofs.Lengths.{length_is}
use Rattle.mlt1.proofs.table.operation_count.Goals as goal

pub returns : goal.returns
returns c = record { eleven_a_word_two_a_column = refl; steps_of_schedule = sym (length_is c.args.size.words c.args.size.width); length_at_every_size = length_is }
