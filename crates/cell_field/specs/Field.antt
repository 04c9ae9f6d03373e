-- What a field of cells means: ms are the meanings of the caller's cells, cell (k, j) at k × W + j.
use Rattle.std.specs.Prelude.{ℕ, ◌+◌, ◌*◌, min, Bool, cond, ◌&&◌, List, map, length, nat_le, nat_lt, slice_index_or}
use Rattle.cam.specs.Model.{Build, State, tally_cap}
use Rattle.cells.specs.Meaning.{CellMeaning}
use Rattle.cell_field.specs.declared.field.CellField.{CellField}
use Rattle.cam.specs.declared.size.Size.{Size}
use Rattle.cam.specs.declared.mark.Mark.{Mark}
use Rattle.cam.specs.declared.mark.Mark.TheVariants.{Clear}
use Rattle.cam.specs.Mark.{is_set, is_stuck}
use Rattle.cell_field.specs.Row.{blank_cell, at}

-- Whether an array of N words of W bits fits l cells. A field whose sizes do not fit its cells, which no call makes,
-- means an array of no words of one bit.
abbrev pub fits : ℕ → ℕ → ℕ → Bool
fits N W l = nat_le N 256 && ((nat_le 1 W && nat_le W 64) && nat_le (N * W) l)

abbrev pub used_words : ℕ → ℕ → ℕ → ℕ
used_words N W l = cond (fits N W l) N 0

abbrev pub used_bits : ℕ → ℕ → ℕ → ℕ
used_bits N W l = cond (fits N W l) W 1

abbrev pub used : {X : Type 0} → CellField X → Size
used d =
    record {
      words = used_words d.size.words d.size.width (length d.cells.now);
      width = used_bits d.size.words d.size.width (length d.cells.now);
    }

-- cell (k, j) of an array of n words of w bits
abbrev pub cell_at : ℕ → ℕ → List CellMeaning → ℕ → ℕ → CellMeaning
cell_at n w ms k j = cond (nat_lt k n && nat_lt j w) (at ms (k * w + j)) blank_cell

abbrev pub mark_at : ℕ → List Mark → ℕ → Mark
mark_at n marks k = cond (nat_lt k n) (slice_index_or marks k Clear) Clear

abbrev pub build_from : ℕ → ℕ → List CellMeaning → List Mark → Build
build_from n w ms marks =
    record {
      words = n;
      width = w;
      storage = λ k j. (cell_at n w ms k j).storage;
      wrong = λ k j. (cell_at n w ms k j).wrong;
      stuck = λ k. is_stuck (mark_at n marks k);
    }

abbrev pub state_from : ℕ → ℕ → List CellMeaning → List Mark → ℕ → State
state_from n w ms marks t =
    record {
      held = λ k j. (cell_at n w ms k j).held;
      mark = λ k. is_set (mark_at n marks k);
      tally = min t tally_cap;
    }

-- of a field of cells X: f says what each means
abbrev pub field_build : {X : Type 0} → (X → CellMeaning) → CellField X → Build
field_build f d = build_from (used d).words (used d).width (map f d.cells.now) d.marks

abbrev pub field_state : {X : Type 0} → (X → CellMeaning) → CellField X → State
field_state f d = state_from (used d).words (used d).width (map f d.cells.now) d.marks d.tally
