-- The grammar of a sheet, and what it means: a name and a list of elements.
use Rattle.std.specs.Prelude.{◌≡◌, ℕ, List, [], Ok, Err, codes, Result}
use Rattle.cam.specs.declared.fault.Fault.{Fault}
use Rattle.march.specs.declared.test.Test.{Test}
use Rattle.march.specs.Tests.{Element}
use Rattle.march.specs.Table.{elements_of, name_of}
use Rattle.words.specs.declared.token.Kind.TheVariants.{Open, LineFeed, End}
use Rattle.words.specs.Lexing.{Measured, bytes_of}
use Rattle.words.specs.Readings.{Then, Gathered, gathered}
use Rattle.words.specs.Forms.{Next, WordNext, NameNext}
use Rattle.sheets.specs.Lines.{Lines}

-- what a sheet says
pub record Sheet : Type 0 where
  pub name : List ℕ
  pub elements : List Element

-- what a test of the code says
abbrev pub sheet_of : Result Test Fault → Result Sheet Fault
sheet_of (Ok t) = Ok (record { name = name_of t; elements = elements_of t })
sheet_of (Err f) = Err f

-- the first line, `(test NAME`
abbrev pub TitleNext : List ℕ → ℕ → Result (Gathered (List ℕ)) Fault → Type 0
TitleNext text p =
    Then (Next Open text p) (λ a.
    Then (WordNext (codes "test") text a) (λ b.
    Then (NameNext text b) (λ t.
    Then (Next LineFeed text t.to)
    (λ c r. r ≡ Ok (gathered (bytes_of text t) c)))))

-- the text is short enough, and that line stands at its front
abbrev pub TitleLine : List ℕ → Result (Gathered (List ℕ)) Fault → Type 0
TitleLine text = Then (Measured text) (λ _. TitleNext text 0)

-- the first line, the other lines up to the closing bracket, a line feed, and the end of the text
abbrev pub SheetText : List ℕ → Result Sheet Fault → Type 0
SheetText text =
    Then (TitleLine text) (λ h.
    Then (Lines text [] h.to) (λ g.
    Then (Next LineFeed text g.to) (λ e.
    Then (Next End text e)
    (λ _ r. r ≡ Ok (record { name = h.value; elements = g.value })))))
