-- A list in brackets is read in one way. Assumes nothing.
use Rattle.std.proofs.Common.{◌≡◌, ℕ, List, Ok, Err, Result, sym, refl, ◌∙◌, arith}
use Rattle.cam.specs.declared.fault.Fault.{Fault}
use Rattle.words.specs.declared.token.Kind.TheVariants.{Open, Close}
use Rattle.words.specs.Lexing.{Token}
use Rattle.words.specs.Lexing.{Lexed}
use Rattle.words.specs.Readings.{Then, on, off}
use Rattle.words.specs.Forms.{not_wanted}
use Rattle.words.specs.Listings.{Gathered, gathered, leaving, Listing, shut, more, lexed, too_few, other, piece}
use Rattle.words.proofs.Rules.{One, goes_on, stops_at}
use Rattle.words.proofs.Lexemes.{lexed_one}

close_open : Close ≡ Open → ⊥
close_open e = let n : ◌≡◌ {A = ℕ} 0 1 = cc in omega arith

-- a reader that answers the place and leaves the value x elsewhere
pub leaves : {X : Type 0} (x : X) (P : Result ℕ Fault → Type 0) (r : Result ℕ Fault) → P r → Then P (λ e s. s ≡ Ok (gathered x e)) (leaving x r)
leaves x P (Ok e) p = on p refl
leaves x P (Err f) p = off p

module _ {X : Type 0} (Enough : X → Type 0) (Piece : X → Token → Result (Gathered X) Fault → Type 0) (text : List ℕ) where
  -- what the list is from its next token on, by the token's kind
  record Goes (x : X) (t : Token) (r : Result (Gathered X) Fault) : Type 0 where
    at_close : t.kind ≡ Close → Enough x → r ≡ Ok (gathered x t.to)
    at_early : t.kind ≡ Close → (Enough x → ⊥) → r ≡ Err (not_wanted t.from)
    at_open : t.kind ≡ Open → Then (Piece x t) (λ y. Listing Enough Piece text y.value y.to) r
    at_other : (t.kind ≡ Close → ⊥) → (t.kind ≡ Open → ⊥) → r ≡ Err (not_wanted t.from)

  opened : (x : X) (t : Token) (r : Result (Gathered X) Fault) → t.kind ≡ Open → Then (Piece x t) (λ y. Listing Enough Piece text y.value y.to) r → Goes x t r
  opened x t r k p = record { at_close = λ c. absurd (close_open (sym c ∙ k)); at_early = λ c. absurd (close_open (sym c ∙ k)); at_open = λ _. p; at_other = λ c o. absurd (o k) }

  view : (x : X) (a : ℕ) (r : Result (Gathered X) Fault) → Listing Enough Piece text x a r → Then (Lexed text a) (Goes x) r
  view x a _ (shut l k e) = on l (record { at_close = λ _ _. refl; at_early = λ _ n. absurd (n e); at_open = λ o. absurd (close_open (sym k ∙ o)); at_other = λ c o. absurd (c k) })
  view x a r (more {t} l k p rest) = on l (opened x t r k (on p rest))
  view x a _ (lexed l) = off l
  view x a _ (too_few l k n) = on l (record { at_close = λ _ e. absurd (n e); at_early = λ _ _. refl; at_open = λ o. absurd (close_open (sym k ∙ o)); at_other = λ c o. absurd (c k) })
  view x a _ (other l c o) = on l (record { at_close = λ k. absurd (c k); at_early = λ k. absurd (c k); at_open = λ k. absurd (o k); at_other = λ _ _. refl })
  view x a _ (piece {t} {f} l k p) = on l (opened x t (Err f) k (off p))

  at : {x : X} {a : ℕ} {t : Token} {s : Result (Gathered X) Fault} → Lexed text a (Ok t) → Listing Enough Piece text x a s → Goes x t s
  at {x} {a} {s} l y = goes_on (lexed_one text a) l (view x a s y)

  pub listing_one : ((x : X) (t : Token) → One (Piece x t)) → (x : X) (a : ℕ) → One (Listing Enough Piece text x a)
  listing_one each x a _ s (shut l k e) y = sym ((at l y).at_close k e)
  listing_one each x a r s (more {t} {y = g} l k p rest) y = listing_one each g.value g.to r s rest (goes_on (each x t) p ((at l y).at_open k))
  listing_one each x a _ s (lexed l) y = sym (stops_at (lexed_one text a) l (view x a s y))
  listing_one each x a _ s (too_few l k n) y = sym ((at l y).at_early k n)
  listing_one each x a _ s (other l c o) y = sym ((at l y).at_other c o)
  listing_one each x a _ s (piece {t} l k p) y = sym (stops_at (each x t) p ((at l y).at_open k))
