-- Numbers of an array text, and the limits that the meaning asks of them.
use Rattle.std.specs.Prelude.{◌≡◌, ℕ, ◌<◌, ◌≤◌, Bool, true, false, ◌&&◌, List, length, Ok, Err, Result, nat_le}
use Rattle.std.specs.Char.{is_ascii_digit}
use Rattle.std.specs.Str.Parse.{digits_value}
use Rattle.cam.specs.declared.fault.Reason.{Reason}
use Rattle.cam.specs.declared.fault.Fault.{Fault}
use Rattle.march.specs.Every.{every}
use Rattle.words.specs.Lexing.{Token, bytes_of}
use Rattle.words.specs.Readings.{Then, Gathered, gathered}
use Rattle.words.specs.Forms.{not_wanted, meaning_fault, NameNext}
use Rattle.array_lines.specs.declared.number.Number.{Number}

-- at most four digits; zeros may lead
abbrev pub is_numeral : List ℕ → Bool
is_numeral w = nat_le (length w) 4 && every is_ascii_digit w

-- the number that digits write, in the base of ten
abbrev pub numeral : List ℕ → ℕ
numeral w = digits_value 10 w

-- a word is wanted that is a number
pub data WantsNumber (text : List ℕ) (t : Token) : Result (Gathered Number) Fault → Type 0 where
  number : is_numeral (bytes_of text t) ≡ true → WantsNumber text t (Ok (gathered (record { value = numeral (bytes_of text t); from = t.from }) t.to))
  no_number : is_numeral (bytes_of text t) ≡ false → WantsNumber text t (Err (not_wanted t.from))

abbrev pub NumberNext : List ℕ → ℕ → Result (Gathered Number) Fault → Type 0
NumberNext text a = Then (NameNext text a) (WantsNumber text)

-- a number is asked to be `least` or more, and below `limit`; the fault is at the number
pub data Bounded (least limit : ℕ) (reason : Reason) (n : Gathered Number) : Result (Gathered Number) Fault → Type 0 where
  within : least ≤ n.value.value → n.value.value < limit → Bounded least limit reason n (Ok n)
  outside : (least ≤ n.value.value → n.value.value < limit → ⊥) → Bounded least limit reason n (Err (meaning_fault reason n.value.from))

abbrev pub NumberWithin : ℕ → ℕ → Reason → List ℕ → ℕ → Result (Gathered Number) Fault → Type 0
NumberWithin least limit reason text a = Then (NumberNext text a) (Bounded least limit reason)
