-- The schedule of MLT-1 has 11N + 2W steps.
use Rattle.std.proofs.Common.{◌∙◌, arith}
use Rattle.march.proofs.Lengths.{schedule_length}
use Rattle.mlt1.specs.Mlt1.{mlt1, LengthIs}

pub length_is : LengthIs
length_is N W = schedule_length mlt1 N W ∙ omega arith
