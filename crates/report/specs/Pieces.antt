-- A line from its pieces.
use Rattle.std.specs.Prelude.{ℕ, ◌+◌, List, [], ◌∷◌, ◌++◌, length, decimal}
use Rattle.std.specs.Borrow.{Bor}

-- a label, and the number after it
abbrev pub Piece : Type 0
Piece = Bor (List ℕ) × ℕ

-- each label and its number, and then an end
abbrev pub line_of : List Piece → List ℕ → List ℕ
line_of [] end = end
line_of (p ∷ ps) end = p.0.now ++ (decimal p.1 ++ line_of ps end)

-- how long the pieces are at most: a number has no more than ten digits
abbrev pub longest : List Piece → ℕ
longest [] = 0
longest (p ∷ ps) = length p.0.now + 10 + longest ps
