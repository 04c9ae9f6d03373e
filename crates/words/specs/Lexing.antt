-- Layer 1 of a text: its length, its bytes, and which token stands next.
use Rattle.std.specs.Prelude.{◌≡◌, ℕ, ◌+◌, ◌-◌, ◌<◌, ◌≤◌, true, false, List, length, take, drop, Ok, Err, Result, ◌≢◌, slice_index}
use Rattle.cam.specs.declared.fault.Reason.{Reason}
use Rattle.cam.specs.declared.fault.Reason.TheVariants.{TextTooLong, ByteNotAllowed, WordTooLong}
use Rattle.cam.specs.declared.fault.Layer.TheVariants.{Words}
use Rattle.cam.specs.declared.fault.Fault.{Fault}
use Rattle.march.specs.Letters.{is_letter_or_digit}
use Rattle.words.specs.declared.token.Kind.{Kind}
use Rattle.words.specs.declared.token.Kind.TheVariants.{Open, Close, LineFeed, Word, End}

-- a fault of the words
abbrev pub word_fault : Reason → ℕ → Fault
word_fault reason p = record { reason = reason; layer = Words; place = p }

abbrev pub text_too_long : Fault
text_too_long = word_fault TextTooLong 4096

abbrev pub byte_not_allowed : ℕ → Fault
byte_not_allowed = word_fault ByteNotAllowed

abbrev pub word_too_long : ℕ → Fault
word_too_long = word_fault WordTooLong

-- a text has at most 4,096 bytes
pub data Measured (text : List ℕ) : Result (Unit {0}) Fault → Type 0 where
  short : length text ≤ 4096 → Measured text (Ok tt)
  long : 4096 < length text → Measured text (Err text_too_long)

-- from a up to p there are only spaces, and at p there is none
pub record Skips (text : List ℕ) (a p : ℕ) : Type 0 where
  pub from : a ≤ p
  pub within : p ≤ length text
  pub blank : (k : ℕ) → a ≤ k → k < p → slice_index text k ≡ 32
  pub stops : p < length text → slice_index text p ≢ 32

-- from p up to e there are only letters (a to z) and digits, and at e there is none
pub record Runs (text : List ℕ) (p e : ℕ) : Type 0 where
  pub from : p ≤ e
  pub within : e ≤ length text
  pub letters : (k : ℕ) → p ≤ k → k < e → is_letter_or_digit (slice_index text k) ≡ true
  pub stops : e < length text → is_letter_or_digit (slice_index text e) ≡ false

-- a token, and the bytes that it has: those from `from` up to `to`
pub record Token : Type 0 where
  pub kind : Kind
  pub from : ℕ
  pub to : ℕ

-- the bytes of a token
abbrev pub bytes_of : List ℕ → Token → List ℕ
bytes_of text t = take (t.to - t.from) (drop t.from text)

abbrev pub token : Kind → ℕ → ℕ → Token
token k p e = record { kind = k; from = p; to = e }

-- A word is a longest run of 1 to 16 letters and digits. Besides these, spaces and what stands for a token of its own (the two
-- brackets, 40 and 41, and the line feed, 10) no byte is allowed.
pub data WordAt (text : List ℕ) (p : ℕ) : Result Token Fault → Type 0 where
  word : (e : ℕ) → p < e → Runs text p e → e - p ≤ 16 → WordAt text p (Ok (token Word p e))
  too_long : (e : ℕ) → Runs text p e → 16 < e - p → WordAt text p (Err (word_too_long p))
  stray : is_letter_or_digit (slice_index text p) ≡ false → WordAt text p (Err (byte_not_allowed p))

-- what stands at p, where no space stands
pub data TokenAt (text : List ℕ) (p : ℕ) : Result Token Fault → Type 0 where
  ends : p ≡ length text → TokenAt text p (Ok (token End p p))
  opens : p < length text → slice_index text p ≡ 40 → TokenAt text p (Ok (token Open p (p + 1)))
  closes : p < length text → slice_index text p ≡ 41 → TokenAt text p (Ok (token Close p (p + 1)))
  feeds : p < length text → slice_index text p ≡ 10 → TokenAt text p (Ok (token LineFeed p (p + 1)))
  others : {r : Result Token Fault} → p < length text → (slice_index text p ≢ 40) → (slice_index text p ≢ 41) → (slice_index text p ≢ 10) → WordAt text p r → TokenAt text p r

-- what comes next in the text, from `a` on: spaces, and then a token
pub record Lexed (text : List ℕ) (a : ℕ) (r : Result Token Fault) : Type 0 where
  pub place : ℕ
  pub spaces : Skips text a place
  pub stands : TokenAt text place r

-- where a token lies that was looked for from `a` on; all but the end of the text have bytes
pub record Lies (text : List ℕ) (a : ℕ) (t : Token) : Type 0 where
  pub after : a ≤ t.from
  pub order : t.from ≤ t.to
  pub inside : t.to ≤ length text
  pub some : (t.kind ≢ End) → t.from < t.to
