-- Listed defects: what they are, what the named ones answer, and what planting one makes of an array.
use Rattle.std.specs.Prelude.{◌≡◌, ℕ, ◌<◌, Bool, true, false, cond, not, ◌&&◌, ◌||◌, ◌==◌, nat_le, nat_lt}
use Rattle.cam.specs.declared.defect.Storage.{Storage}
use Rattle.cam.specs.declared.defect.Storage.TheVariants.{Good, Sa0, Sa1, NoRise, NoFall}
use Rattle.cam.specs.declared.defect.StorageDefect.{StorageDefect}
use Rattle.cam.specs.declared.defect.WrongSet.{WrongSet}
use Rattle.cam.specs.declared.defect.NamedFault.{NamedFault}
use Rattle.cam.specs.declared.defect.NamedFault.TheVariants.{Smf, Smmf, Cm1f, Cm0f, Pm1f, Pm0f, Emm1f, Emm0f, Im1f, Im0f}
use Rattle.cam.specs.Model.{Build, State}

-- whether a pair (held bit, comparand bit) is in a wrong set
abbrev pub in_set : WrongSet → Bool → Bool → Bool
in_set s h b = cond h (cond b s.has11 s.has10) (cond b s.has01 s.has00)

-- what a cell with a named fault answers when it holds h and is compared with b
abbrev pub response : NamedFault → Bool → Bool → Bool
response Smf h b = true
response Smmf h b = false
response Cm1f h b = b
response Cm0f h b = not b
response Pm1f h b = h
response Pm0f h b = not h
response Emm1f h b = not h && not b
response Emm0f h b = h && b
response Im1f h b = h || not b
response Im0f h b = not h || b

-- the storage of a cell with a storage defect
abbrev pub storage_with : StorageDefect → Storage
storage_with StorageDefect.Sa0 = Sa0
storage_with StorageDefect.Sa1 = Sa1
storage_with StorageDefect.NoRise = NoRise
storage_with StorageDefect.NoFall = NoFall

abbrev pub is_good : Storage → Bool
is_good Good = true
is_good Sa0 = false
is_good Sa1 = false
is_good NoRise = false
is_good NoFall = false

-- whether some pair is in a cell's wrong set
abbrev pub some_wrong : (Bool → Bool → Bool) → Bool
some_wrong wrong = wrong false false || (wrong false true || (wrong true true || wrong true false))

-- whether a cell has a listed defect, its word's mark included
abbrev pub blemished : Build → ℕ → ℕ → Bool
blemished B k j = B.stuck k || (not (is_good (B.storage k j)) || some_wrong (B.wrong k j))

-- an array without a listed defect
pub record Sound (B : Build) : Type 0 where
  pub good : (k j : ℕ) → k < B.words → j < B.width → B.storage k j ≡ Good
  pub right : (k j : ℕ) → k < B.words → j < B.width → (h b : Bool) → B.wrong k j h b ≡ false
  pub free : (k : ℕ) → k < B.words → B.stuck k ≡ false

-- 1 to 256 words of 1 to 64 bits
abbrev pub within_limits : ℕ → ℕ → Bool
within_limits N W = (nat_le 1 N && nat_le N 256) && (nat_le 1 W && nat_le W 64)

abbrev pub has_word : Build → ℕ → Bool
has_word B a = nat_lt a B.words

abbrev pub has_cell : Build → ℕ → ℕ → Bool
has_cell B a j = nat_lt a B.words && nat_lt j B.width

-- the build of N words of W bits with no defect
abbrev pub flawless : ℕ → ℕ → Build
flawless N W =
    record {
      words = N;
      width = W;
      storage = λ k j. Good;
      wrong = λ k j h b. false;
      stuck = λ k. false;
    }

-- bits 0, marks clear, nothing done
abbrev pub cleared : State
cleared = record { held = λ k j. false; mark = λ k. false; tally = 0 }

-- cell (k, i) is cell (a, j)
abbrev pub same_cell : ℕ → ℕ → ℕ → ℕ → Bool
same_cell a j k i = k == a && i == j

-- cell (a, j) has this storage, and all else is as it was
abbrev pub with_storage : ℕ → ℕ → Storage → Build → Build
with_storage a j s B =
    record {
      words = B.words;
      width = B.width;
      storage = λ k i. cond (same_cell a j k i) s (B.storage k i);
      wrong = B.wrong;
      stuck = B.stuck;
    }

-- what a cell that holds h holds when it gets this storage
abbrev pub settled_bit : Storage → Bool → Bool
settled_bit Good h = h
settled_bit Sa0 h = false
settled_bit Sa1 h = true
settled_bit NoRise h = h
settled_bit NoFall h = h

abbrev pub settled : ℕ → ℕ → Storage → State → State
settled a j s S =
    record {
      held = λ k i. cond (same_cell a j k i) (settled_bit s (S.held k i)) (S.held k i);
      mark = S.mark;
      tally = S.tally;
    }

-- the pair (held, comparand), as a test of a pair
abbrev pub is_pair : Bool → Bool → Bool → Bool → Bool
is_pair held comparand h b = cond held h (not h) && cond comparand b (not b)

-- the pair is in the wrong set of cell (a, j), and all else is as it was
abbrev pub with_pair : ℕ → ℕ → Bool → Bool → Build → Build
with_pair a j held comparand B =
    record {
      words = B.words;
      width = B.width;
      storage = B.storage;
      wrong = λ k i h b. (same_cell a j k i && is_pair held comparand h b) || B.wrong k i h b;
      stuck = B.stuck;
    }

-- the mark of word a is stuck, and all else is as it was
abbrev pub with_stuck_mark : ℕ → Build → Build
with_stuck_mark a B =
    record {
      words = B.words;
      width = B.width;
      storage = B.storage;
      wrong = B.wrong;
      stuck = λ k. (k == a) || B.stuck k;
    }

-- the mark of word a is clear, and all else is as it was
abbrev pub unmarked : ℕ → State → State
unmarked a S = record { held = S.held; mark = λ k. not (k == a) && S.mark k; tally = S.tally }
