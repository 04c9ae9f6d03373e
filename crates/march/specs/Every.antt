-- A test of every item of a list.
use Rattle.std.specs.Prelude.{Bool, List}
use Rattle.std.specs.List.{list_all}

abbrev pub every : {X : Type 0} → (X → Bool) → List X → Bool
every = list_all
