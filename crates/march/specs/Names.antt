-- What a name of the code stands for.
use Rattle.std.specs.Prelude.{ℕ, List}
use Rattle.march.specs.declared.name.Name.{Name}
use Rattle.march.specs.Lists.{listed}

-- its letters and digits, in their order
abbrev pub letters_of : Name → List ℕ
letters_of n = listed n.letters
