-- The words that say what is wrong with a cell.
use Rattle.std.specs.Prelude.{◌≡◌, ℕ, cond, List, codes, refl, slice_index_or, ◌==◌}
use Rattle.cam.specs.declared.defect.StorageDefect.TheVariants as storage
use Rattle.words.specs.Choosing.{told_apart}
use Rattle.array_lines.specs.declared.cell.CellWord.{CellWord}
use Rattle.array_lines.specs.declared.cell.CellWord.TheVariants.{Storage, Wrong}

abbrev pub cell_spelling : CellWord → List ℕ
cell_spelling (Storage storage.Sa0) = codes "sa0"
cell_spelling (Storage storage.Sa1) = codes "sa1"
cell_spelling (Storage storage.NoRise) = codes "norise"
cell_spelling (Storage storage.NoFall) = codes "nofall"
cell_spelling Wrong = codes "wrong"

-- the third letter tells the word
abbrev cell_word : List ℕ → CellWord
cell_word w =
    cond (slice_index_or w 2 0 == 48) (Storage storage.Sa0)
    (cond (slice_index_or w 2 0 == 49) (Storage storage.Sa1)
    (cond (slice_index_or w 2 0 == 114) (Storage storage.NoRise) (cond (slice_index_or w 2 0 == 102) (Storage storage.NoFall) Wrong)))

cell_back : (w : CellWord) → cell_word (cell_spelling w) ≡ w
cell_back (Storage storage.Sa0) = refl
cell_back (Storage storage.Sa1) = refl
cell_back (Storage storage.NoRise) = refl
cell_back (Storage storage.NoFall) = refl
cell_back Wrong = refl

pub cell_words_differ : (v w : CellWord) → cell_spelling v ≡ cell_spelling w → v ≡ w
cell_words_differ = told_apart cell_spelling cell_word cell_back
