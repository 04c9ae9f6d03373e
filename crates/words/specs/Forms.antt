-- Layer 2 of a text, its smallest parts: one token that the grammar wants, and the fault if another comes.
use Rattle.std.specs.Prelude.{◌≡◌, ℕ, Bool, true, false, List, Ok, Err, codes, Result, ◌≢◌}
use Rattle.cam.specs.declared.fault.Reason.{Reason}
use Rattle.cam.specs.declared.fault.Reason.TheVariants.{NotWanted}
use Rattle.cam.specs.declared.fault.Layer.TheVariants.{Forms, Meaning}
use Rattle.cam.specs.declared.fault.Fault.{Fault}
use Rattle.words.specs.declared.token.Kind.{Kind}
use Rattle.words.specs.declared.token.Kind.TheVariants.{Word}
use Rattle.words.specs.Lexing.{Token, Lexed, bytes_of}
use Rattle.words.specs.Readings.{Then, Gathered, gathered}

-- the fault of a token that the grammar does not want, at its first byte, or at the text's length where the text ends
abbrev pub not_wanted : ℕ → Fault
not_wanted p = record { reason = NotWanted; layer = Forms; place = p }

-- a fault of the meaning, which the layer above finds
abbrev pub meaning_fault : Reason → ℕ → Fault
meaning_fault reason p = record { reason = reason; layer = Meaning; place = p }

-- the token is a word, and these are its letters
pub record Spells (text : List ℕ) (t : Token) (w : List ℕ) : Type 0 where
  pub kind : t.kind ≡ Word
  pub is : bytes_of text t ≡ w

-- a bracket, a line feed or the end is wanted; it answers the place after it
pub data Wants (k : Kind) (t : Token) : Result ℕ Fault → Type 0 where
  wanted : t.kind ≡ k → Wants k t (Ok t.to)
  unwanted : (t.kind ≢ k) → Wants k t (Err (not_wanted t.from))

-- the word w is wanted
pub data WantsWord (w text : List ℕ) (t : Token) : Result ℕ Fault → Type 0 where
  spelt : Spells text t w → WantsWord w text t (Ok t.to)
  misspelt : (Spells text t w → ⊥) → WantsWord w text t (Err (not_wanted t.from))

-- a word is wanted, whichever it is
pub data WantsName (t : Token) : Result Token Fault → Type 0 where
  named : t.kind ≡ Word → WantsName t (Ok t)
  nameless : (t.kind ≢ Word) → WantsName t (Err (not_wanted t.from))

-- the word v or the word w is wanted; it answers false for v and true for w
pub data WantsEither (v w text : List ℕ) (t : Token) : Result (Gathered Bool) Fault → Type 0 where
  first : Spells text t v → WantsEither v w text t (Ok (gathered false t.to))
  second : (Spells text t v → ⊥) → Spells text t w → WantsEither v w text t (Ok (gathered true t.to))
  neither : (Spells text t v → ⊥) → (Spells text t w → ⊥) → WantsEither v w text t (Err (not_wanted t.from))

-- and the same of the token that comes next in the text, from `a` on
abbrev pub Next : Kind → List ℕ → ℕ → Result ℕ Fault → Type 0
Next k text a = Then (Lexed text a) (Wants k)

abbrev pub WordNext : List ℕ → List ℕ → ℕ → Result ℕ Fault → Type 0
WordNext w text a = Then (Lexed text a) (WantsWord w text)

abbrev pub NameNext : List ℕ → ℕ → Result Token Fault → Type 0
NameNext text a = Then (Lexed text a) WantsName

abbrev pub EitherNext : List ℕ → List ℕ → List ℕ → ℕ → Result (Gathered Bool) Fault → Type 0
EitherNext v w text a = Then (Lexed text a) (WantsEither v w text)

-- a bit is exactly the word 0 or the word 1
abbrev pub BitNext : List ℕ → ℕ → Result (Gathered Bool) Fault → Type 0
BitNext = EitherNext (codes "0") (codes "1")
