-- The grammar of what a line says of a cell or of a mark.
use Rattle.std.specs.Prelude.{◌≡◌, ℕ, ◌<◌, List, Ok, Result}
use Rattle.cam.specs.declared.fault.Reason.TheVariants.{OutsideArray}
use Rattle.cam.specs.declared.fault.Fault.{Fault}
use Rattle.cam.specs.declared.index.CellIndex.{CellIndex}
use Rattle.words.specs.Choosing.{OneOfNext}
use Rattle.words.specs.Readings.{Then, Gathered, gathered}
use Rattle.words.specs.Forms.{BitNext}
use Rattle.array_lines.specs.declared.cell.Defect.{Defect}
use Rattle.array_lines.specs.declared.cell.Defect.TheVariants as defect
use Rattle.array_lines.specs.declared.cell.CellWord.{CellWord}
use Rattle.array_lines.specs.declared.cell.CellWord.TheVariants.{Storage, Wrong}
use Rattle.array_lines.specs.CellWords.{cell_spelling}
use Rattle.array_lines.specs.Numbers.{NumberWithin}

-- the cell or the word of a defect lies inside an array of N words of W bits
abbrev pub Inside : ℕ → ℕ → Defect → Type 0
Inside N W (defect.Storage c s) = (c.word.number < N) × (c.column.number < W)
Inside N W (defect.Wrong c p) = (c.word.number < N) × (c.column.number < W)
Inside N W (defect.Mark k) = k.number < N

-- column j of word k
abbrev pub cell : ℕ → ℕ → CellIndex
cell k j = record { word = record { number = k }; column = record { number = j } }

abbrev pub CellWordNext : List ℕ → ℕ → Result (Gathered CellWord) Fault → Type 0
CellWordNext = OneOfNext cell_spelling

-- what is wrong with a cell: its storage, or the pair that is written after `wrong`, the held bit first
abbrev pub CellFault : List ℕ → CellIndex → CellWord → ℕ → Result (Gathered Defect) Fault → Type 0
CellFault text c (Storage s) a = λ r. r ≡ Ok (gathered (defect.Storage c s) a)
CellFault text c Wrong a =
    Then (BitNext text a) (λ h.
    Then (BitNext text h.to)
    (λ b r. r ≡ Ok (gathered (defect.Wrong c (record { held = h.value; comparand = b.value })) b.to)))

abbrev pub CellFaultNext : List ℕ → CellIndex → ℕ → Result (Gathered Defect) Fault → Type 0
CellFaultNext text c a = Then (CellWordNext text a) (λ h. CellFault text c h.value h.to)

-- after the word `cell`, in an array of N words of W bits: a word, a column, and what is wrong
abbrev pub CellNext : ℕ → ℕ → List ℕ → ℕ → Result (Gathered Defect) Fault → Type 0
CellNext N W text a =
    Then (NumberWithin 0 N OutsideArray text a) (λ k.
    Then (NumberWithin 0 W OutsideArray text k.to) (λ j.
    CellFaultNext text (cell k.value.value j.value.value) j.to))

-- after the word `mark`: a word
abbrev pub MarkNext : ℕ → List ℕ → ℕ → Result (Gathered Defect) Fault → Type 0
MarkNext N text a =
    Then (NumberWithin 0 N OutsideArray text a)
    (λ k r. r ≡ Ok (gathered (defect.Mark (record { number = k.value.value })) k.to))
