-- Which token stands where the bytes are known: what the proof of a round trip is made of. Assumes nothing.
use Rattle.std.proofs.Common.{◌≡◌, ℕ, zero, suc, ◌+◌, ◌-◌, ◌<◌, ◌≤◌, Bool, true, false, ◌&&◌, List, [], ◌∷◌, ◌++◌, length, get_or, take, drop, Ok, codes, Result, sym, refl, ap, ◌∙◌, ⊎_elim, add-zero, arith, length-drop}
use Rattle.std.proofs.lemmas.List.{get_or-drop, drop-drop, drop_at, take_at, get_or_append_left}
use Rattle.std.proofs.str.Laws.{order}
use Rattle.cam.specs.declared.fault.Fault.{Fault}
use Rattle.march.specs.Every.{every}
use Rattle.march.specs.Letters.{is_letter_or_digit}
use Rattle.words.specs.declared.token.Kind.TheVariants.{Open, Close, LineFeed, Word, End}
use Rattle.words.specs.Lexing.{Token}
use Rattle.words.specs.Lexing.{Skips, Runs, Lexed, ends, opens, closes, feeds, others, word, token}
use Rattle.words.specs.Readings.{Then, on}
use Rattle.words.specs.Forms.{Spells, Next, wanted, WordNext, spelt, NameNext, named, EitherNext, first, second, BitNext}
use Rattle.words.proofs.Lexemes.{clash}

-- xs is what stands in the text from a on
pub record Stands (text : List ℕ) (a : ℕ) (xs : List ℕ) : Type 0 where
  pub is : drop a text ≡ xs

module _ {text rest : List ℕ} {a b : ℕ} (s : Stands text a (b ∷ rest)) where
  pub here : get_or text a 0 ≡ b
  here = sym (get_or-drop a text 0 0 ∙ ap (λ i. get_or text i 0) (add-zero a)) ∙ ap (λ l. get_or l 0 0) s.is

  pub inside : a < length text
  inside = omega (arith, length-drop a text, ap length s.is)

  pub next : Stands text (a + 1) rest
  next = record { is = sym (drop-drop 1 a text) ∙ ap (drop 1) s.is }

  pub stay : (b ≡ 32 → ⊥) → Skips text a a
  stay n = record { from = omega arith; within = (let i = inside in omega arith); blank = λ k lo hi. absurd (omega arith); stops = λ lt is. n (sym here ∙ is) }

skips_space : {text rest : List ℕ} {a p : ℕ} → Stands text a (32 ∷ rest) → Skips text (a + 1) p → Skips text a p
skips_space {text} {rest} {a} {p} e s = record {
  from = omega (arith, s.from);
  within = s.within;
  blank = λ k lo hi. ⊎_elim (λ lt. s.blank k (omega arith) hi) (λ ge. let same : a ≡ k = omega arith in ap (λ i. get_or text i 0) (sym same) ∙ here e) (order a k);
  stops = s.stops;
}

-- a space before a token changes nothing
pub lex_space : {text rest : List ℕ} {a : ℕ} {r : Result Token Fault} → Stands text a (32 ∷ rest) → Lexed text (a + 1) r → Lexed text a r
lex_space x l = record { place = l.place; spaces = skips_space x l.spaces; stands = l.stands }

-- and before what follows a token, neither
pub then_space : {Y : Type 0} {Q : Token → Result Y Fault → Type 0} {text rest : List ℕ} {a : ℕ} {y : Y} → Stands text a (32 ∷ rest) → Then (Lexed text (a + 1)) Q (Ok y) → Then (Lexed text a) Q (Ok y)
then_space x (on p q) = on (lex_space x p) q

pub lex_open : {text rest : List ℕ} {a : ℕ} → Stands text a (40 ∷ rest) → Lexed text a (Ok (token Open a (a + 1)))
lex_open {a} x = record { place = a; spaces = stay x (λ n. omega arith); stands = opens (inside x) (here x) }

pub lex_close : {text rest : List ℕ} {a : ℕ} → Stands text a (41 ∷ rest) → Lexed text a (Ok (token Close a (a + 1)))
lex_close {a} x = record { place = a; spaces = stay x (λ n. omega arith); stands = closes (inside x) (here x) }

pub lex_feed : {text rest : List ℕ} {a : ℕ} → Stands text a (10 ∷ rest) → Lexed text a (Ok (token LineFeed a (a + 1)))
lex_feed {a} x = record { place = a; spaces = stay x (λ n. omega arith); stands = feeds (inside x) (here x) }

-- the end of the text stands at its length
pub lex_end : (text : List ℕ) → Lexed text (length text) (Ok (token End (length text) (length text)))
lex_end text = record {
  place = length text;
  spaces = record { from = omega arith; within = omega arith; blank = λ k lo hi. absurd (omega arith); stops = λ lt. absurd (omega arith) };
  stands = ends refl;
}

abbrev pub letters : List ℕ → Bool
letters = every is_letter_or_digit

and_l : (x y : Bool) → (x && y) ≡ true → x ≡ true
and_l true y e = refl
and_l false y e = e

and_r : (x y : Bool) → (x && y) ≡ true → y ≡ true
and_r true y e = e
and_r false y e = clash false e refl

letters_at : (w : List ℕ) (k : ℕ) → letters w ≡ true → k < length w → is_letter_or_digit (get_or w k 0) ≡ true
letters_at [] k h lt = absurd (omega arith)
letters_at (b ∷ bs) zero h lt = and_l (is_letter_or_digit b) (letters bs) h
letters_at (b ∷ bs) (suc k) h lt = letters_at bs k (and_r (is_letter_or_digit b) (letters bs) h) (omega arith)

-- a word w, and after it a byte c that is no letter
module _ (w : List ℕ) (c : ℕ) (rest : List ℕ) {text : List ℕ} {a : ℕ} (s : Stands text a (w ++ (c ∷ rest))) where
  byte : (k : ℕ) → a ≤ k → get_or text k 0 ≡ get_or (w ++ (c ∷ rest)) (k - a) 0
  byte k lo =
      let back : a + (k - a) ≡ k = omega arith in
      ap (λ i. get_or text i 0) (sym back) ∙ sym (get_or-drop a text (k - a) 0) ∙ ap (λ l. get_or l (k - a) 0) s.is

  pub past : Stands text (a + length w) (c ∷ rest)
  past = record { is = sym (drop-drop (length w) a text) ∙ ap (drop (length w)) s.is ∙ drop_at w (c ∷ rest) (length w) refl }

  run : letters w ≡ true → is_letter_or_digit c ≡ false → Runs text a (a + length w)
  run all off = record {
    from = omega arith;
    within = (let i = inside past in omega arith);
    letters = λ k lo hi. ap is_letter_or_digit (byte k lo ∙ get_or_append_left w (c ∷ rest) 0 (k - a) (omega arith)) ∙ letters_at w (k - a) all (omega arith);
    stops = λ lt. ap is_letter_or_digit (here past) ∙ off;
  }

  pub lex_word : letters w ≡ true → is_letter_or_digit c ≡ false → 0 < length w → length w ≤ 16 → Lexed text a (Ok (token Word a (a + length w)))
  lex_word all off some few =
      let r = run all off in
      let is-letter = r.letters a (omega arith) (omega arith) in
      let no : (b : ℕ) → is_letter_or_digit b ≡ false → get_or text a 0 ≡ b → ⊥ = λ b off e. clash _ is-letter (ap is_letter_or_digit e ∙ off) in
      record {
        place = a;
        spaces = record { from = omega arith; within = omega (arith, r.within); blank = λ k lo hi. absurd (omega arith); stops = λ lt. no 32 refl };
        stands = others (omega (arith, r.within)) (no 40 refl) (no 41 refl) (no 10 refl) (word (a + length w) (omega arith) r (omega arith));
      }

  pub spelt_there : Spells text (token Word a (a + length w)) w
  spelt_there =
      let n : (a + length w) - a ≡ length w = omega arith in
      record { kind = refl; is = ap (λ k. take k (drop a text)) n ∙ ap (take (length w)) s.is ∙ take_at w (c ∷ rest) (length w) refl }

  -- the word is read where it is wanted
  pub word_there : letters w ≡ true → is_letter_or_digit c ≡ false → 0 < length w → length w ≤ 16 → WordNext w text a (Ok (a + length w))
  word_there all off some few = on (lex_word all off some few) (spelt spelt_there)

  pub name_there : letters w ≡ true → is_letter_or_digit c ≡ false → 0 < length w → length w ≤ 16 → NameNext text a (Ok (token Word a (a + length w)))
  name_there all off some few = on (lex_word all off some few) (named refl)

  pub first_there : (v : List ℕ) → letters w ≡ true → is_letter_or_digit c ≡ false → 0 < length w → length w ≤ 16 → EitherNext w v text a (Ok (record { value = false; to = a + length w }))
  first_there v all off some few = on (lex_word all off some few) (first spelt_there)

  pub second_there : (v : List ℕ) → (v ≡ w → ⊥) → letters w ≡ true → is_letter_or_digit c ≡ false → 0 < length w → length w ≤ 16 → EitherNext v w text a (Ok (record { value = true; to = a + length w }))
  second_there v n all off some few = on (lex_word all off some few) (second (λ s. n (sym s.is ∙ spelt_there.is)) spelt_there)

pub open_there : {text rest : List ℕ} {a : ℕ} → Stands text a (40 ∷ rest) → Next Open text a (Ok (a + 1))
open_there x = on (lex_open x) (wanted refl)

pub close_there : {text rest : List ℕ} {a : ℕ} → Stands text a (41 ∷ rest) → Next Close text a (Ok (a + 1))
close_there x = on (lex_close x) (wanted refl)

pub feed_there : {text rest : List ℕ} {a : ℕ} → Stands text a (10 ∷ rest) → Next LineFeed text a (Ok (a + 1))
feed_there x = on (lex_feed x) (wanted refl)

pub end_there : (text : List ℕ) → Next End text (length text) (Ok (length text))
end_there text = on (lex_end text) (wanted refl)

bits_differ : codes "0" ≡ codes "1" → ⊥
bits_differ e = let h : ◌≡◌ {A = ℕ} 48 49 = ap (λ w. get_or w 0 0) e in omega arith

pub zero_there : (c : ℕ) (rest : List ℕ) {text : List ℕ} {a : ℕ} → is_letter_or_digit c ≡ false → Stands text a (48 ∷ c ∷ rest) → BitNext text a (Ok (record { value = false; to = a + 1 }))
zero_there c rest off x = first_there (codes "0") c rest x (codes "1") refl off (omega arith) (omega arith)

pub one_there : (c : ℕ) (rest : List ℕ) {text : List ℕ} {a : ℕ} → is_letter_or_digit c ≡ false → Stands text a (49 ∷ c ∷ rest) → BitNext text a (Ok (record { value = true; to = a + 1 }))
one_there c rest off x = second_there (codes "1") c rest x (codes "0") bits_differ refl off (omega arith) (omega arith)
