-- The letter that an operation of a sheet begins with.
use Rattle.std.specs.Prelude.{◌≡◌, ℕ, cond, ◌==◌, List, Ok, Err, codes, Result, slice_index, refl}
use Rattle.cam.specs.declared.fault.Fault.{Fault}
use Rattle.words.specs.Lexing.{Token, Lexed}
use Rattle.words.specs.Readings.{Then}
use Rattle.words.specs.Forms.{Spells, not_wanted}
use Rattle.words.specs.Choosing.{told_apart}
use Rattle.sheet_operations.specs.declared.letter.Letter.{Letter}
use Rattle.sheet_operations.specs.declared.letter.Letter.TheVariants.{Write, Read, Compare, Erase}

abbrev pub spelling : Letter → List ℕ
spelling Write = codes "w"
spelling Read = codes "r"
spelling Compare = codes "c"
spelling Erase = codes "e"

-- the letter of a spelling
abbrev back : List ℕ → Letter
back w = let b = slice_index w 0 in cond (b == 119) Write (cond (b == 114) Read (cond (b == 99) Compare Erase))

spelled_back : (l : Letter) → back (spelling l) ≡ l
spelled_back Write = refl
spelled_back Read = refl
spelled_back Compare = refl
spelled_back Erase = refl

pub letters_differ : (x y : Letter) → spelling x ≡ spelling y → x ≡ y
letters_differ = told_apart spelling back spelled_back

-- a letter with its bytes in the text: from `from` up to `to`
pub record Head : Type 0 where
  pub letter : Letter
  pub from : ℕ
  pub to : ℕ

-- what a reader answers that comes to the place e: a letter and its place
abbrev pub head_to : ℕ → Result (Letter × ℕ) Fault → Result Head Fault
head_to e (Ok h) = Ok (record { letter = h.0; from = h.1; to = e })
head_to e (Err f) = Err f

-- one of the four letters is wanted
pub data WantsLetter (text : List ℕ) (t : Token) : Result Head Fault → Type 0 where
  known : (l : Letter) → Spells text t (spelling l) → WantsLetter text t (Ok (record { letter = l; from = t.from; to = t.to }))
  unknown : ((l : Letter) → Spells text t (spelling l) → ⊥) → WantsLetter text t (Err (not_wanted t.from))

abbrev pub LetterNext : List ℕ → ℕ → Result Head Fault → Type 0
LetterNext text a = Then (Lexed text a) (WantsLetter text)
