-- The lines of a judgement.
use Rattle.std.specs.Prelude.{◌≡◌, ℕ, cond, List, [], ◌∷◌, ◌++◌, length, codes, decimal, Result, MatchResult, ◌==◌, nat_le}
pub use Rattle.cam.specs.Buffers.{over}
use Rattle.cam.specs.declared.fault.Fault.{Fault}
use Rattle.cam.specs.Refusals.{Question, ask, Asks}

-- the lines, each with its line feed
abbrev pub array_line : ℕ → ℕ → List ℕ
array_line words width = codes "array " ++ (decimal words ++ (codes " " ++ (decimal width ++ codes "\n")))

-- the last word tells what a run found: sound without misses
abbrev pub run_line : ℕ → ℕ → List ℕ
run_line operations misses =
    codes "run " ++ (decimal operations ++ (codes " misses " ++ (decimal misses ++ cond (misses == 0) (codes " sound\n") (codes " faulty\n"))))

abbrev pub chart_line : ℕ → ℕ → List ℕ
chart_line operations cells = codes "chart " ++ (decimal operations ++ (codes " cells " ++ (decimal cells ++ codes "\n")))

abbrev pub cell_line : ℕ → ℕ → ℕ → List ℕ
cell_line word column byte =
    codes "cell " ++ (decimal word ++ (codes " " ++ (decimal column ++ (codes " " ++ (decimal byte ++ codes "\n")))))

abbrev pub refused_line : ℕ → ℕ → ℕ → List ℕ
refused_line number layer place =
    codes "refused " ++ (decimal number ++ (codes " " ++ (decimal layer ++ (codes " " ++ (decimal place ++ codes "\n")))))

-- a line writes places up to this one; no text is so long
abbrev pub largest_place : ℕ
largest_place = 4294967295

-- A line is made in a buffer: its length is answered, it stands at the front, and the bytes after it are as they were.
abbrev pub Made : List ℕ → ℕ → List ℕ → List ℕ → Type 0
Made line n old new = (n ≡ length line) × (new ≡ over old 0 line)

-- 64 bytes at least
abbrev pub line_questions : ℕ → List Question
line_questions bytes = ask (nat_le 64 bytes) 57 ∷ []

-- A call that makes a line asks for 64 bytes at least, and then makes the line, or leaves the buffer alone where it is refused.
pub record AsksThenMakes (line : List ℕ) (old new : List ℕ) (r : Result ℕ Fault) : Type 0 where
  pub asks : Asks (line_questions (length old)) r
  pub makes : MatchResult r (λ n. Made line n old new) (λ _. new ≡ old)
