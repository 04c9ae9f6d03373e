-- The test MLT-1.
use Rattle.std.specs.Prelude.{◌≡◌, ℕ, ◌+◌, ◌*◌, Bool, true, false, List, [], ◌∷◌, length}
use Rattle.march.specs.declared.element.Comparison.{Comparison}
use Rattle.march.specs.declared.element.TestOperation.TheVariants.{Write, Read, Compare}
use Rattle.march.specs.Tests.{Element, up, down, columns, schedule}

-- a compare of equal bits, with the hit that is expected
abbrev pub comparing : Bool → Bool → Comparison
comparing b h = record { bit = b; hit = h }

abbrev pub mlt1 : List Element
mlt1 =
    up (Write true ∷ [])
    ∷ up (Write false ∷ Compare (comparing false true) ∷ Write true ∷ [])
    ∷ up (Read true ∷ Write false ∷ [])
    ∷ columns (comparing true false ∷ [])
    ∷ down (Write true ∷ Compare (comparing true true) ∷ Write false ∷ [])
    ∷ down (Read false ∷ Write true ∷ [])
    ∷ columns (comparing false false ∷ [])
    ∷ []

-- its schedule has 11 steps for each word and 2 for each column
abbrev pub LengthIs : Type 0
LengthIs = (N W : ℕ) → length (schedule N W mlt1) ≡ 11 * N + 2 * W
