-- The model of an array: functions of the word number and the column, and what each operation makes of them.
-- What never changes (the build) stands apart from what does (the state), so no operation can change a defect.
use Rattle.std.specs.Prelude.{◌≡◌, ℕ, zero, suc, ◌+◌, ◌^◌, ◌<◌, ◌≤◌, min, Bool, true, false, cond, not, ◌&&◌, ◌||◌, ◌==◌, nat_lt}
use Rattle.std.specs.Bool.{beq}
pub use Rattle.cam.specs.Bits.{bit}
use Rattle.cam.specs.declared.defect.Storage.{Storage}
use Rattle.cam.specs.declared.defect.Storage.TheVariants.{Good, Sa0, Sa1, NoRise, NoFall}

-- What an array is made as: its size and its defects. No operation changes it.
pub record Build : Type 0 where
  pub words : ℕ
  pub width : ℕ
  -- of a word and a column: how the cell stores
  pub storage : ℕ → ℕ → Storage
  -- of a word, a column, a held bit and a comparand bit: whether the pair is in the cell's wrong set
  pub wrong : ℕ → ℕ → Bool → Bool → Bool
  -- of a word: whether its mark is stuck
  pub stuck : ℕ → Bool

-- What operations change: the held bit of each cell, the mark of each word, and the tally of operations.
pub record State : Type 0 where
  pub held : ℕ → ℕ → Bool
  pub mark : ℕ → Bool
  pub tally : ℕ

-- the tally stops here
abbrev pub tally_cap : ℕ
tally_cap = 2000000000000

-- the tally after one more operation
abbrev pub one_more : ℕ → ℕ
one_more t = min (t + 1) tally_cap

-- what a cell that holds h holds after a write of b
abbrev pub put : Storage → Bool → Bool → Bool
put Good h b = b
put Sa0 h b = false
put Sa1 h b = true
put NoRise h b = h && b
put NoFall h b = h || b

-- a word's mark after a write: set, unless it is stuck
abbrev pub mark_after_write : Bool → Bool → Bool
mark_after_write stuck old = cond stuck old true

-- whether a cell with this wrong set that holds h answers the comparand bit b as a match
abbrev pub agrees : (Bool → Bool → Bool) → Bool → Bool → Bool
agrees wrong h b = cond (wrong h b) (not (beq h b)) (beq h b)

-- whether f holds of some number below n
abbrev pub any_below : ℕ → (ℕ → Bool) → Bool
any_below zero f = false
any_below (suc n) f = f n || any_below n f

-- whether f holds of each number below n
abbrev pub all_below : ℕ → (ℕ → Bool) → Bool
all_below zero f = true
all_below (suc n) f = f n && all_below n f

-- the number whose bits below n are f's
abbrev pub value : ℕ → (ℕ → Bool) → ℕ
value zero f = 0
value (suc n) f = value n f + cond (f n) (2 ^ n) 0

-- word k is the word with the number a, and the array has it
abbrev pub here : Build → ℕ → ℕ → Bool
here B a k = k == a && nat_lt k B.words

-- what column j of a word holds after a write of the pattern p under the mask m; the word's columns store as s says
abbrev pub written_bit : ℕ → (ℕ → Storage) → ℕ → ℕ → (ℕ → Bool) → ℕ → Bool
written_bit W s p m h j = cond (nat_lt j W && not (bit m j)) (put (s j) (h j) (bit p j)) (h j)

-- after a write of the pattern p to word a, columns blocked by m
abbrev pub written : Build → ℕ → ℕ → ℕ → State → State
written B a p m S =
    record {
      held = λ k j. cond (here B a k) (written_bit B.width (B.storage k) p m (S.held k) j) (S.held k j);
      mark = λ k. cond (here B a k) (mark_after_write (B.stuck k) (S.mark k)) (S.mark k);
      tally = one_more S.tally;
    }

-- after an erase of word a
abbrev pub erased : Build → ℕ → State → State
erased B a S =
    record { held = S.held; mark = λ k. cond (here B a k) false (S.mark k); tally = one_more S.tally }

-- after a read or a compare
abbrev pub counted : State → State
counted S = record { held = S.held; mark = S.mark; tally = one_more S.tally }

-- what a read of word a answers
abbrev pub read_word : Build → ℕ → State → ℕ
read_word B a S = cond (nat_lt a B.words) (value B.width (S.held a)) 0

-- whether a word of W columns matches the pattern p under the mask m
abbrev pub word_matches : ℕ → (ℕ → Bool → Bool → Bool) → ℕ → ℕ → Bool → (ℕ → Bool) → Bool
word_matches W wrong p m mark h = mark && all_below W (λ j. bit m j || agrees (wrong j) (h j) (bit p j))

-- whether word k matches
abbrev pub matches : Build → ℕ → ℕ → State → ℕ → Bool
matches B p m S k = word_matches B.width (B.wrong k) p m (S.mark k) (S.held k)

-- what a compare answers
abbrev pub hit : Build → ℕ → ℕ → State → Bool
hit B p m S = any_below B.words (matches B p m S)

-- sa0 cells hold 0, sa1 cells hold 1, stuck marks are clear
pub record Steady (B : Build) (S : State) : Type 0 where
  pub low : (k j : ℕ) → k < B.words → j < B.width → B.storage k j ≡ Sa0 → S.held k j ≡ false
  pub high : (k j : ℕ) → k < B.words → j < B.width → B.storage k j ≡ Sa1 → S.held k j ≡ true
  pub clear : (k : ℕ) → k < B.words → B.stuck k ≡ true → S.mark k ≡ false

-- What holds of every array. An array of no words is not excluded here: no theorem needs a word, and every call
-- that makes an array promises 1 to 256 of them.
pub record WellFormed (B : Build) (S : State) : Type 0 where
  pub few_words : B.words ≤ 256
  pub some_bits : 1 ≤ B.width
  pub few_bits : B.width ≤ 64
  pub tally_within : S.tally ≤ tally_cap
  pub steady : Steady B S
