-- What a list of described defects means: how each cell stores, which pairs are wrong, which marks are stuck.
use Rattle.std.specs.Prelude.{◌≡◌, ℕ, Bool, true, false, cond, ◌&&◌, ◌↔◌, List, [], ◌∷◌, ◌==◌}
use Rattle.std.specs.List.{list_any}
use mathlib.Core.List.{Memᴰ}
use Rattle.cam.specs.declared.defect.Pair.{Pair}
use Rattle.cam.specs.declared.defect.Storage.{Storage as How}
use Rattle.cam.specs.declared.defect.Storage.TheVariants.{Good, Sa0, Sa1, NoRise, NoFall}
use Rattle.cam.specs.declared.defect.StorageDefect.{StorageDefect}
use Rattle.cam.specs.declared.index.WordIndex.{WordIndex}
use Rattle.cam.specs.Model.{Build, State}
use Rattle.cam.specs.Defects.{same_cell, is_pair, storage_with}
use Rattle.array_lines.specs.declared.cell.Defect.{Defect}
use Rattle.array_lines.specs.declared.cell.Defect.TheVariants.{Storage, Wrong, Mark}
use Rattle.array_lines.specs.Cells.{Inside, cell}

-- whether a line says how cell (k, i) stores
abbrev pub says_storage : ℕ → ℕ → Defect → Bool
says_storage k i (Storage c s) = same_cell c.word.number c.column.number k i
says_storage k i (Wrong c p) = false
says_storage k i (Mark a) = false

-- whether it says that the pair (h, b) is in the wrong set of cell (k, i)
abbrev pub says_wrong : ℕ → ℕ → Bool → Bool → Defect → Bool
says_wrong k i h b (Storage c s) = false
says_wrong k i h b (Wrong c p) = same_cell c.word.number c.column.number k i && is_pair p.held p.comparand h b
says_wrong k i h b (Mark a) = false

-- whether it says that the mark of word k is stuck
abbrev pub says_stuck : ℕ → Defect → Bool
says_stuck k (Storage c s) = false
says_stuck k (Wrong c p) = false
says_stuck k (Mark a) = k == a.number

-- whether a line repeats an earlier one: a second storage line for the cell, the same pair, or the same mark
abbrev pub repeats : Defect → Defect → Bool
repeats (Storage c s) = says_storage c.word.number c.column.number
repeats (Wrong c p) = says_wrong c.word.number c.column.number p.held p.comparand
repeats (Mark a) = says_stuck a.number

-- how cell (k, i) stores: as its storage line says, and well without one
abbrev pub storage_in : List Defect → ℕ → ℕ → How
storage_in [] k i = Good
storage_in (Storage c s ∷ ds) k i = cond (same_cell c.word.number c.column.number k i) (storage_with s) (storage_in ds k i)
storage_in (Wrong c p ∷ ds) k i = storage_in ds k i
storage_in (Mark a ∷ ds) k i = storage_in ds k i

-- every defect lies inside an array of N words of W bits
abbrev pub AllInside : ℕ → ℕ → List Defect → Type 0
AllInside N W [] = Unit {0}
AllInside N W (d ∷ ds) = Inside N W d × AllInside N W ds

-- the build of N words of W bits with these defects
abbrev pub build_with : ℕ → ℕ → List Defect → Build
build_with N W ds =
    record {
      words = N;
      width = W;
      storage = λ k i. storage_in ds k i;
      wrong = λ k i h b. list_any (says_wrong k i h b) ds;
      stuck = λ k. list_any (says_stuck k) ds;
    }

abbrev pub is_sa1 : How → Bool
is_sa1 Good = false
is_sa1 Sa0 = false
is_sa1 Sa1 = true
is_sa1 NoRise = false
is_sa1 NoFall = false

-- a new array: bits 0 but for sa1 cells, marks clear, no operation done
abbrev pub new_state : Build → State
new_state B = record { held = λ k j. is_sa1 (B.storage k j); mark = λ k. false; tally = 0 }

abbrev pub word : ℕ → WordIndex
word k = record { number = k }

abbrev pub pair : Bool → Bool → Pair
pair h b = record { held = h; comparand = b }

-- each defect of the list is in the array, and no other (`Memᴰ d ds` says that d is one of ds)
pub record Exactly (ds : List Defect) (B : Build) : Type 0 where
  pub storage : (k i : ℕ) (s : StorageDefect) → (B.storage k i ≡ storage_with s) ↔ Memᴰ (Storage (cell k i) s) ds
  pub wrong : (k i : ℕ) (h b : Bool) → (B.wrong k i h b ≡ true) ↔ Memᴰ (Wrong (cell k i) (pair h b)) ds
  pub stuck : (k : ℕ) → (B.stuck k ≡ true) ↔ Memᴰ (Mark (word k)) ds
