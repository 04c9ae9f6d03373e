-- Drawing a chart: its operations, and what a chart tells.
use Rattle.std.specs.Prelude.{◌≡◌, ℕ, zero, suc, ◌+◌, ◌*◌, ◌<◌, ◌≤◌, Bool, true, false, cond, List, [], ◌∷◌, ◌++◌, length, slice_index}
use Rattle.cam.specs.Model.{Build, State, read_word, hit, bit}
use Rattle.cam.specs.Defects.{blemished}
use Rattle.cam.specs.Patterns.{equal_bits, all_but}
use Rattle.cam.specs.Operations.{after_all}
use Rattle.cam.specs.declared.operation.Operation.{Operation}
use Rattle.cam.specs.declared.operation.Operation.TheVariants.{Write, Read, Compare, Erase}
use Rattle.cam.specs.Machine.{upward}
use Rattle.march.specs.Tests.{word}
use Rattle.chart.specs.declared.answers.Answers.{Answers}
use Rattle.chart.specs.Bytes.{chart_byte}

-- a compare of W equal bits on each single column, upward
abbrev pub on_each_column : ℕ → Bool → List Operation
on_each_column W b = upward W (λ j. Compare (equal_bits W b) (all_but W j) ∷ [])

-- What a compare of equal bits on each single column answers, as bits of a number, and that it changes nothing but the
-- tally.
pub record Hits (B : Build) (b : Bool) (S : State) (hits : ℕ) (E : Build) (T : State) : Type 0 where
  pub each : (j : ℕ) → j < B.width → bit hits j ≡ hit B (equal_bits B.width b) (all_but B.width j) S
  pub bits : T.held ≡ S.held
  pub marks : T.mark ≡ S.mark
  pub ends : T ≡ after_all B (on_each_column B.width b) S
  pub stays : E ≡ B

abbrev pub writing : ℕ → ℕ → Bool → Operation
writing W a b = Write (word a) (equal_bits W b) 0

-- word a is brought to 0
abbrev pub to_zero : ℕ → ℕ → List Operation
to_zero W a = writing W a true ∷ writing W a false ∷ []

-- what is done at word a
abbrev pub word_operations : ℕ → ℕ → List Operation
word_operations W a =
    writing W a true ∷ writing W a false ∷ Read (word a) ∷ Compare 0 (equal_bits W true)
    ∷ (on_each_column W false
    ++ (on_each_column W true
    ++ (writing W a true ∷ Read (word a) ∷ (on_each_column W true ++ (on_each_column W false ++ (Erase (word a) ∷ []))))))

-- every word is erased first, so that no other word is marked while one is charted
abbrev pub chart_operations : ℕ → ℕ → List Operation
chart_operations N W = upward N (λ a. Erase (word a) ∷ []) ++ upward N (word_operations W)

-- it does 8 + 4W operations for each word
abbrev pub ChartLength : Type 0
ChartLength = (N W : ℕ) → length (chart_operations N W) ≡ N * (8 + 4 * W)

-- the state in which the answers to word a's zeros are given, and to its ones
abbrev pub lowered : Build → ℕ → State → State
lowered B a S = after_all B (to_zero B.width a) S

abbrev pub raised : Build → ℕ → State → State
raised B a S = after_all B (writing B.width a true ∷ []) (lowered B a S)

-- the answers of word a
pub record Answered (B : Build) (a : ℕ) (S : State) (r : Answers) : Type 0 where
  pub zeros : r.zeros ≡ read_word B a (lowered B a S)
  pub seen : r.seen ≡ hit B 0 (equal_bits B.width true) (lowered B a S)
  pub zero0 : (j : ℕ) → j < B.width → bit r.zero0 j ≡ hit B (equal_bits B.width false) (all_but B.width j) (lowered B a S)
  pub zero1 : (j : ℕ) → j < B.width → bit r.zero1 j ≡ hit B (equal_bits B.width true) (all_but B.width j) (lowered B a S)
  pub ones : r.ones ≡ read_word B a (raised B a S)
  pub one1 : (j : ℕ) → j < B.width → bit r.one1 j ≡ hit B (equal_bits B.width true) (all_but B.width j) (raised B a S)
  pub one0 : (j : ℕ) → j < B.width → bit r.one0 j ≡ hit B (equal_bits B.width false) (all_but B.width j) (raised B a S)

-- how many numbers below n pass
abbrev pub count_below : ℕ → (ℕ → Bool) → ℕ
count_below zero f = 0
count_below (suc n) f = count_below n f + cond (f n) 1 0

abbrev pub sum_below : ℕ → (ℕ → ℕ) → ℕ
sum_below zero f = 0
sum_below (suc n) f = sum_below n f + f n

-- how many cells of an array are blemished
abbrev pub blemishes : Build → ℕ
blemishes B = sum_below B.words (λ a. count_below B.width (blemished B a))

-- The chart stands at the front of a buffer as far as it fits: byte a * W + j is that of cell (a, j), and the bytes
-- after the last cell's are as they were.
pub record Charted (B : Build) (old new : List ℕ) : Type 0 where
  pub cells : (a j : ℕ) → a < B.words → j < B.width → a * B.width + j < length old → slice_index new (a * B.width + j) ≡ chart_byte B a j
  pub later : (i : ℕ) → B.words * B.width ≤ i → slice_index new i ≡ slice_index old i
  pub size : length new ≡ length old
