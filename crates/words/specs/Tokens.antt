-- A token of the code, and the token of the text that it stands for.
use Rattle.std.specs.Prelude.{◌≡◌, ℕ, ◌+◌, List, Ok, Err, Result}
use Rattle.cam.specs.declared.fault.Fault.{Fault}
use Rattle.words.specs.declared.token.Kind.{Kind}
use Rattle.words.specs.declared.token.Kind.TheVariants.{Word}
use Rattle.words.specs.declared.token.Token.{Token as Read}
use Rattle.words.specs.Lexing.{Token, token}

-- a token of this kind and this length that stands at the place p
abbrev pub standing : ℕ → Result (Kind × ℕ) Fault → Result Token Fault
standing p (Ok t) = Ok (token t.0 p (p + t.1))
standing p (Err f) = Err f

-- a word of this length
abbrev pub word_of : Result ℕ Fault → Result (Kind × ℕ) Fault
word_of (Ok n) = Ok (Word, n)
word_of (Err f) = Err f

-- it ends at the place that its reader came to
abbrev pub token_to : ℕ → Read → Token
token_to e t = token t.kind t.from e

abbrev pub lexed_to : ℕ → Result Read Fault → Result Token Fault
lexed_to e (Ok t) = Ok (token_to e t)
lexed_to e (Err f) = Err f

-- it is this word
pub record SaysWord (t : Read) (w : List ℕ) : Type 0 where
  pub kind : t.kind ≡ Word
  pub is : t.bytes.now ≡ w
