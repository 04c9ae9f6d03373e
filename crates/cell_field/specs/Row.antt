-- Rows of cells: ms are the meanings of the cells of a word, side by side.
use Rattle.std.specs.Prelude.{ℕ, Bool, false, cond, ◌||◌, List, slice_index_or}
use Rattle.cam.specs.Bits.{bit}
use Rattle.cam.specs.Model.{all_below, agrees}
use Rattle.cam.specs.declared.defect.Storage.TheVariants.{Good}
use Rattle.cells.specs.Meaning.{CellMeaning, taken}

-- outside an array: a sound cell that holds 0
abbrev pub blank_cell : CellMeaning
blank_cell = record { held = false; storage = Good; wrong = λ h b. false }

-- the cell at the place i
abbrev pub at : List CellMeaning → ℕ → CellMeaning
at ms i = slice_index_or ms i blank_cell

-- a cell in column j after a write of the pattern p under the mask m
abbrev pub wrote_cell : ℕ → ℕ → ℕ → CellMeaning → CellMeaning
wrote_cell p m j c = cond (bit m j) c (taken (bit p j) c)

-- whether each of w cells matches the pattern p or is blocked by the mask m
abbrev pub row_matches : ℕ → ℕ → ℕ → List CellMeaning → Bool
row_matches w p m ms = all_below w (λ j. bit m j || agrees (at ms j).wrong (at ms j).held (bit p j))
