-- Text in a buffer.
use Rattle.std.specs.Prelude.{ℕ, ◌+◌, List, ◌++◌, length, take, drop}

-- a text written over a buffer from a place on; the bytes before and after it are as they were
abbrev pub over : List ℕ → ℕ → List ℕ → List ℕ
over buffer at text = take at buffer ++ (text ++ drop (at + length text) buffer)
