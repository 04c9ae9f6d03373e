-- The grammar of an array text.
use Rattle.std.specs.Prelude.{◌≡◌, ℕ, ◌<◌, ◌≤◌, true, false, List, [], ◌∷◌, Some, None, Ok, Err, codes, Option, Result}
use Rattle.std.specs.List.{list_any}
use Rattle.cam.specs.declared.fault.Reason.TheVariants.{SizeOutsideLimits, DefectRepeated, BufferTooShort}
use Rattle.cam.specs.declared.fault.Layer.TheVariants.{Call}
use Rattle.cam.specs.declared.fault.Fault.{Fault}
use Rattle.cam.specs.declared.size.Size.{Size}
use Rattle.words.specs.declared.token.Kind.TheVariants.{Open, LineFeed, End}
use Rattle.words.specs.Lexing.{Token, Measured}
use Rattle.words.specs.Readings.{Then, Gathered, gathered}
use Rattle.words.specs.Forms.{meaning_fault, Next, WordNext}
use Rattle.words.specs.Listings.{Listing}
use Rattle.array_lines.specs.declared.cell.Defect.{Defect}
use Rattle.array_lines.specs.Numbers.{NumberWithin}
use Rattle.array_lines.specs.Lines.{LineNext}
use Rattle.array_text.specs.Meaning.{repeats}

-- what a text says: words, bits of a word, and the defects of its lines, the last line first
pub record Description : Type 0 where
  pub words : ℕ
  pub width : ℕ
  pub defects : List Defect

-- 1 to 256 words and 1 to 64 bits, each asked where it stands, then a line feed
abbrev pub SizeNext : List ℕ → ℕ → Result (Gathered Size) Fault → Type 0
SizeNext text a =
    Then (NumberWithin 1 257 SizeOutsideLimits text a) (λ n.
    Then (NumberWithin 1 65 SizeOutsideLimits text n.to) (λ w.
    Then (Next LineFeed text w.to)
    (λ e r. r ≡ Ok (gathered (record { words = n.value.value; width = w.value.value }) e))))

-- the text is short enough, and from `a` on stands `(array` with its size
abbrev pub FirstLineNext : List ℕ → ℕ → Result (Gathered Size) Fault → Type 0
FirstLineNext text a =
    Then (Measured text) (λ _.
    Then (Next Open text a) (λ b.
    Then (WordNext (codes "array") text b) (SizeNext text)))

-- and that at its front
abbrev pub FirstLine : List ℕ → Result (Gathered Size) Fault → Type 0
FirstLine text = FirstLineNext text 0

-- a defect after the defects ds; the bracket of its line stands at p, and the place after the line is e
pub data Adds (ds : List Defect) (p e : ℕ) (d : Defect) : Result (Gathered (List Defect)) Fault → Type 0 where
  new : list_any (repeats d) ds ≡ false → Adds ds p e d (Ok (gathered (d ∷ ds) e))
  repeated : list_any (repeats d) ds ≡ true → Adds ds p e d (Err (meaning_fault DefectRepeated p))

-- a remark adds nothing
abbrev pub AddsLine : List Defect → ℕ → ℕ → Option Defect → Result (Gathered (List Defect)) Fault → Type 0
AddsLine ds p e None = λ r. r ≡ Ok (gathered ds e)
AddsLine ds p e (Some d) = Adds ds p e d

-- the line from after its bracket on, which stood at p; whether it repeats a defect is asked when its line feed was read
abbrev pub LineAfter : ℕ → ℕ → List ℕ → List Defect → ℕ → ℕ → Result (Gathered (List Defect)) Fault → Type 0
LineAfter N W text ds p a = Then (LineNext N W text a) (λ l. AddsLine ds p l.to l.value)

-- the line that the bracket t opens
abbrev pub LineAt : ℕ → ℕ → List ℕ → List Defect → Token → Result (Gathered (List Defect)) Fault → Type 0
LineAt N W text ds t = LineAfter N W text ds t.from t.to

-- after the defects ds, what follows at `a` gives: lines, up to the closing bracket of the text
abbrev pub Lines : ℕ → ℕ → List ℕ → List Defect → ℕ → Result (Gathered (List Defect)) Fault → Type 0
Lines N W text = Listing (λ _. Unit {0}) (LineAt N W text) text

-- the lines, a line feed after the closing bracket, and the end of the text
abbrev pub Rest : ℕ → ℕ → List ℕ → ℕ → Result (List Defect) Fault → Type 0
Rest N W text a =
    Then (Lines N W text [] a) (λ g.
    Then (Next LineFeed text g.to) (λ e.
    Then (Next End text e)
    (λ _ r. r ≡ Ok g.value)))

abbrev pub ArrayText : List ℕ → Result Description Fault → Type 0
ArrayText text =
    Then (FirstLine text) (λ s.
    Then (Rest s.value.words s.value.width text s.to)
    (λ ds r. r ≡ Ok (record { words = s.value.words; width = s.value.width; defects = ds })))

-- before a text is read, memory is asked for: so many records or bytes
pub data Memory (needed lent : ℕ) : Result (Unit {0}) Fault → Type 0 where
  enough : needed ≤ lent → Memory needed lent (Ok tt)
  too_little : lent < needed → Memory needed lent (Err (record { reason = BufferTooShort; layer = Call; place = 0 }))

-- a call that reads a text into so many records: the largest array needs 256
abbrev pub ArrayCall : ℕ → List ℕ → Result Description Fault → Type 0
ArrayCall records text = Then (Memory 256 records) (λ _. ArrayText text)
