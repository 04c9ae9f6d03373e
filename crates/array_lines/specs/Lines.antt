-- The grammar of a line, from after its opening bracket on.
use Rattle.std.specs.Prelude.{◌≡◌, ℕ, List, Some, None, Ok, Option, Result}
use Rattle.cam.specs.declared.fault.Fault.{Fault}
use Rattle.words.specs.declared.token.Kind.TheVariants.{Close, LineFeed}
use Rattle.words.specs.Choosing.{OneOfNext}
use Rattle.words.specs.Readings.{Then, Gathered, gathered}
use Rattle.words.specs.Forms.{Next}
use Rattle.words.specs.Remarks.{Outermost}
use Rattle.array_lines.specs.declared.cell.Defect.{Defect}
use Rattle.array_lines.specs.declared.line.LineWord.{LineWord}
use Rattle.array_lines.specs.declared.line.LineWord.TheVariants.{Note, Cell, Mark}
use Rattle.array_lines.specs.LineWords.{line_spelling}
use Rattle.array_lines.specs.Cells.{CellNext, MarkNext}

abbrev pub LineWordNext : List ℕ → ℕ → Result (Gathered LineWord) Fault → Type 0
LineWordNext = OneOfNext line_spelling

-- a defect that was described ends with a closing bracket
abbrev pub Closed : List ℕ → Gathered Defect → Result (Gathered (Option Defect)) Fault → Type 0
Closed text d = Then (Next Close text d.to) (λ e r. r ≡ Ok (gathered (Some d.value) e))

-- what follows the word of a line; a remark describes no defect
abbrev pub LineBody : ℕ → ℕ → List ℕ → LineWord → ℕ → Result (Gathered (Option Defect)) Fault → Type 0
LineBody N W text Note a = Then (Outermost text a) (λ e r. r ≡ Ok (gathered None e))
LineBody N W text Cell a = Then (CellNext N W text a) (Closed text)
LineBody N W text Mark a = Then (MarkNext N text a) (Closed text)

-- the word of a line, and what follows it
abbrev pub BodyNext : ℕ → ℕ → List ℕ → ℕ → Result (Gathered (Option Defect)) Fault → Type 0
BodyNext N W text a = Then (LineWordNext text a) (λ h. LineBody N W text h.value h.to)

-- a line of the text of an array of N words of W bits, up to its line feed
abbrev pub LineNext : ℕ → ℕ → List ℕ → ℕ → Result (Gathered (Option Defect)) Fault → Type 0
LineNext N W text a =
    Then (BodyNext N W text a) (λ l.
    Then (Next LineFeed text l.to)
    (λ e r. r ≡ Ok (gathered l.value e)))
