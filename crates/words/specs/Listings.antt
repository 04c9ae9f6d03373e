-- Lists in brackets: pieces that each begin with an opening bracket, up to a closing one.
use Rattle.std.specs.Prelude.{◌≡◌, ℕ, List, Ok, Err, Result, ◌≢◌}
use Rattle.cam.specs.declared.fault.Fault.{Fault}
use Rattle.words.specs.declared.token.Kind.TheVariants.{Open, Close}
pub use Rattle.words.specs.Readings.{Gathered, gathered, leaving}
use Rattle.words.specs.Lexing.{Token, Lexed}
use Rattle.words.specs.Forms.{not_wanted}

-- Listing Enough Piece text x a r: where x was gathered so far, what follows at `a` gives r. A piece is read from its
-- opening bracket on and adds to x; the list may end where there is Enough.
pub data Listing {X : Type 0} (Enough : X → Type 0) (Piece : X → Token → Result (Gathered X) Fault → Type 0) (text : List ℕ) : X → ℕ → Result (Gathered X) Fault → Type 0 where
  shut : {x : X} {a : ℕ} {t : Token} → Lexed text a (Ok t) → t.kind ≡ Close → Enough x → Listing Enough Piece text x a (Ok (gathered x t.to))
  more : {x : X} {a : ℕ} {t : Token} {y : Gathered X} {r : Result (Gathered X) Fault} → Lexed text a (Ok t) → t.kind ≡ Open → Piece x t (Ok y) → Listing Enough Piece text y.value y.to r → Listing Enough Piece text x a r
  -- the faults
  lexed : {x : X} {a : ℕ} {f : Fault} → Lexed text a (Err f) → Listing Enough Piece text x a (Err f)
  too_few : {x : X} {a : ℕ} {t : Token} → Lexed text a (Ok t) → t.kind ≡ Close → (Enough x → ⊥) → Listing Enough Piece text x a (Err (not_wanted t.from))
  other : {x : X} {a : ℕ} {t : Token} → Lexed text a (Ok t) → (t.kind ≢ Close) → (t.kind ≢ Open) → Listing Enough Piece text x a (Err (not_wanted t.from))
  piece : {x : X} {a : ℕ} {t : Token} {f : Fault} → Lexed text a (Ok t) → t.kind ≡ Open → Piece x t (Err f) → Listing Enough Piece text x a (Err f)
