-- What a test of the code stands for.
use Rattle.std.specs.Prelude.{ℕ, List, map}
use Rattle.march.specs.declared.test.Test.{Test}
use Rattle.march.specs.Lists.{listed}
use Rattle.march.specs.Names.{letters_of}
use Rattle.march.specs.Tests.{Element, meant}

-- its elements, in their order
abbrev pub elements_of : Test → List Element
elements_of t = map meant (listed t.elements)

-- the letters and digits of its name
abbrev pub name_of : Test → List ℕ
name_of t = letters_of t.name
