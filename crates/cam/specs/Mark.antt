-- What a mark tells of its word.
use Rattle.std.specs.Prelude.{Bool, true, false}
use Rattle.cam.specs.declared.mark.Mark.{Mark}
use Rattle.cam.specs.declared.mark.Mark.TheVariants.{Clear, Set, Stuck}

abbrev pub is_set : Mark → Bool
is_set Clear = false
is_set Set = true
is_set Stuck = false

abbrev pub is_stuck : Mark → Bool
is_stuck Clear = false
is_stuck Set = false
is_stuck Stuck = true
