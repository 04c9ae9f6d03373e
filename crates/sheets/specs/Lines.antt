-- The grammar of the lines of a sheet: elements and remarks, each with its line feed.
use Rattle.std.specs.Prelude.{◌≡◌, ℕ, ◌<◌, cond, ◌==◌, List, length, Ok, codes, Result, slice_index, refl}
use Rattle.cam.specs.declared.fault.Fault.{Fault}
use Rattle.march.specs.declared.operations.Order.TheVariants.{Up, Down, Columns}
use Rattle.march.specs.Tests as tests
use Rattle.words.specs.declared.token.Kind.TheVariants.{LineFeed}
use Rattle.words.specs.Readings.{Then}
use Rattle.words.specs.Forms.{Next}
use Rattle.words.specs.Choosing.{OneOfNext, told_apart}
use Rattle.words.specs.Remarks.{Outermost}
use Rattle.words.specs.Listings.{Gathered, gathered, Listing}
use Rattle.sheets.specs.declared.line.LineWord.{LineWord}
use Rattle.sheets.specs.declared.line.LineWord.TheVariants.{Note, Element}
use Rattle.sheets.specs.Elements.{ElementAt}

abbrev pub line_spelling : LineWord → List ℕ
line_spelling Note = codes "note"
line_spelling (Element Up) = codes "up"
line_spelling (Element Down) = codes "down"
line_spelling (Element Columns) = codes "columns"

-- the word of a spelling
abbrev back : List ℕ → LineWord
back w = let b = slice_index w 0 in cond (b == 110) Note (cond (b == 117) (Element Up) (cond (b == 100) (Element Down) (Element Columns)))

spelled_back : (w : LineWord) → back (line_spelling w) ≡ w
spelled_back Note = refl
spelled_back (Element Up) = refl
spelled_back (Element Down) = refl
spelled_back (Element Columns) = refl

pub line_words_differ : (x y : LineWord) → line_spelling x ≡ line_spelling y → x ≡ y
line_words_differ = told_apart line_spelling back spelled_back

-- one of the four words is wanted
abbrev pub LineWordNext : List ℕ → ℕ → Result (Gathered LineWord) Fault → Type 0
LineWordNext = OneOfNext line_spelling

-- what follows the word of a line: a remark adds nothing to the elements es
abbrev pub LineBody : List ℕ → List tests.Element → ℕ → LineWord → ℕ → Result (Gathered (List tests.Element)) Fault → Type 0
LineBody text es p Note a = Then (Outermost text a) (λ e r. r ≡ Ok (gathered es e))
LineBody text es p (Element o) a = ElementAt o es p text a

-- the line that the bracket at p opens, from `a` on, after the elements es
abbrev pub LineAt : List ℕ → List tests.Element → ℕ → ℕ → Result (Gathered (List tests.Element)) Fault → Type 0
LineAt text es p a =
    Then (LineWordNext text a) (λ h.
    Then (LineBody text es p h.value h.to) (λ g.
    Then (Next LineFeed text g.to)
    (λ e r. r ≡ Ok (gathered g.value e))))

-- after the elements es, what follows at `a` gives: lines, up to the sheet's closing bracket. A sheet has an element.
abbrev pub Lines : List ℕ → List tests.Element → ℕ → Result (Gathered (List tests.Element)) Fault → Type 0
Lines text = Listing (λ es. 0 < length es) (λ es t. LineAt text es t.from t.to) text
