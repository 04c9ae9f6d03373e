-- What comes next in a text is one thing, and where it lies. Assumes nothing.
use Rattle.std.proofs.Common.{◌≡◌, ℕ, suc, ◌+◌, ◌-◌, ◌<◌, ◌≤◌, Bool, true, false, cond, leb, List, [], ◌∷◌, length, get_or, take, drop, IfOk, Ok, Err, Result, sym, refl, ap, ◌∙◌, subst, ⊎_elim, arith, length-drop}
use Rattle.std.proofs.lemmas.List.{get_or-take, get_or-drop, length-take-le}
use Rattle.std.proofs.lemmas.Bool.Decides.{nat_tests}
use Rattle.std.proofs.str.Laws.{order}
use Rattle.cam.specs.declared.fault.Fault.{Fault}
use Rattle.march.specs.Every.{every}
use Rattle.march.specs.Letters.{is_letter_or_digit, is_name}
use Rattle.words.specs.declared.token.Kind.TheVariants.{Open, Close, LineFeed, Word, End}
use Rattle.words.specs.Lexing.{Token}
use Rattle.words.specs.Lexing.{Skips, Runs, WordAt, word, too_long, stray, TokenAt, ends, opens, closes, feeds, others, Lexed, Lies, token, bytes_of, Measured, short, long}
use Rattle.words.proofs.Rules.{One}

pub clash : {X : Type 0} (b : Bool) → b ≡ true → b ≡ false → X
clash b p q = let n : ◌≡◌ {A = ℕ} 0 1 = ap (λ b. cond b 0 1) (sym p ∙ q) in absurd (omega arith)

-- the spaces end in one place
below_no : (text : List ℕ) (a p q : ℕ) → Skips text a p → Skips text a q → p < q → ⊥
below_no text a p q s t lt = s.stops (omega (arith, t.within)) (t.blank p s.from lt)

pub skips_one : (text : List ℕ) (a p q : ℕ) → Skips text a p → Skips text a q → p ≡ q
skips_one text a p q s t =
    ⊎_elim (λ lt. absurd (below_no text a p q s t lt))
    (λ ge. ⊎_elim (λ lt. absurd (below_no text a q p t s lt)) (λ le. omega arith) (order q p))
    (order p q)

-- and so does a run of letters
shorter_no : (text : List ℕ) (a p q : ℕ) → Runs text a p → Runs text a q → p < q → ⊥
shorter_no text a p q s t lt = clash _ (t.letters p s.from lt) (s.stops (omega (arith, t.within)))

pub runs_one : (text : List ℕ) (a p q : ℕ) → Runs text a p → Runs text a q → p ≡ q
runs_one text a p q s t =
    ⊎_elim (λ lt. absurd (shorter_no text a p q s t lt))
    (λ ge. ⊎_elim (λ lt. absurd (shorter_no text a q p t s lt)) (λ le. omega arith) (order q p))
    (order p q)

-- a run that begins with a letter or a digit is not empty
pub runs_some : (text : List ℕ) (p e : ℕ) → Runs text p e → p < length text → is_letter_or_digit (get_or text p 0) ≡ true → p < e
runs_some text p e r h l =
    ⊎_elim (λ lt. lt)
    (λ ge. let same : e ≡ p = omega (arith, r.from) in
    let off = subst (λ x. x < length text → is_letter_or_digit (get_or text x 0) ≡ false) same r.stops h in
    clash _ l off)
    (order p e)

pub measured_one : (text : List ℕ) → One (Measured text)
measured_one text _ _ (short p) (short q) = refl
measured_one text _ _ (short p) (long q) = absurd (omega arith)
measured_one text _ _ (long p) (short q) = absurd (omega arith)
measured_one text _ _ (long p) (long q) = refl

word_one : (text : List ℕ) (p : ℕ) → One (WordAt text p)
word_one text p _ _ (word e l r n) (word e' l' r' n') = ap (λ k. Ok (token Word p k)) (runs_one text p e e' r r')
word_one text p _ _ (word e l r n) (too_long e' r' n') = let same = runs_one text p e e' r r' in absurd (omega arith)
word_one text p _ _ (word e l r n) (stray off) = clash _ (r.letters p (omega arith) l) off
word_one text p _ _ (too_long e r n) (word e' l' r' n') = let same = runs_one text p e e' r r' in absurd (omega arith)
word_one text p _ _ (too_long e r n) (too_long e' r' n') = refl
word_one text p _ _ (too_long e r n) (stray off) = clash _ (r.letters p (omega arith) (omega arith)) off
word_one text p _ _ (stray off) (word e r l n) = clash _ (l.letters p (omega arith) r) off
word_one text p _ _ (stray off) (too_long e r n) = clash _ (r.letters p (omega arith) (omega arith)) off
word_one text p _ _ (stray off) (stray off') = refl

-- what a token tells of any other at its place
record Told (text : List ℕ) (p : ℕ) (r : Result Token Fault) : Type 0 where
  at_end : p ≡ length text → r ≡ Ok (token End p p)
  at_open : p < length text → get_or text p 0 ≡ 40 → r ≡ Ok (token Open p (p + 1))
  at_close : p < length text → get_or text p 0 ≡ 41 → r ≡ Ok (token Close p (p + 1))
  at_feed : p < length text → get_or text p 0 ≡ 10 → r ≡ Ok (token LineFeed p (p + 1))
  at_other : p < length text → (get_or text p 0 ≡ 40 → ⊥) → (get_or text p 0 ≡ 41 → ⊥) → (get_or text p 0 ≡ 10 → ⊥) → WordAt text p r

told : (text : List ℕ) (p : ℕ) (r : Result Token Fault) → TokenAt text p r → Told text p r
told text p _ (ends e) = record { at_end = λ _. refl; at_open = λ h b. absurd (omega arith); at_close = λ h b. absurd (omega arith); at_feed = λ h b. absurd (omega arith); at_other = λ h x y z. absurd (omega arith) }
told text p _ (opens h b) = record { at_end = λ e. absurd (omega arith); at_open = λ h b. refl; at_close = λ h c. absurd (omega arith); at_feed = λ h c. absurd (omega arith); at_other = λ h x y z. absurd (x b) }
told text p _ (closes h b) = record { at_end = λ e. absurd (omega arith); at_open = λ h c. absurd (omega arith); at_close = λ h c. refl; at_feed = λ h c. absurd (omega arith); at_other = λ h x y z. absurd (y b) }
told text p _ (feeds h b) = record { at_end = λ e. absurd (omega arith); at_open = λ h c. absurd (omega arith); at_close = λ h c. absurd (omega arith); at_feed = λ h c. refl; at_other = λ h x y z. absurd (z b) }
told text p r (others h x y z w) = record { at_end = λ e. absurd (omega arith); at_open = λ h c. absurd (x c); at_close = λ h c. absurd (y c); at_feed = λ h c. absurd (z c); at_other = λ h x y z. w }

token_one : (text : List ℕ) (p : ℕ) → One (TokenAt text p)
token_one text p _ s (ends e) y = sym ((told text p s y).at_end e)
token_one text p _ s (opens h b) y = sym ((told text p s y).at_open h b)
token_one text p _ s (closes h b) y = sym ((told text p s y).at_close h b)
token_one text p _ s (feeds h b) y = sym ((told text p s y).at_feed h b)
token_one text p r s (others h a b c w) y = word_one text p r s w ((told text p s y).at_other h a b c)

pub lexed_one : (text : List ℕ) (a : ℕ) → One (Lexed text a)
lexed_one text a r s x y =
    let same = skips_one text a x.place y.place x.spaces y.spaces in
    token_one text y.place r s (subst (λ p. TokenAt text p r) same x.stands) y.stands

word_lies : (text : List ℕ) (p : ℕ) (r : Result Token Fault) → WordAt text p r → IfOk r (Lies text p)
word_lies text p _ (word e l r n) = record { after = omega arith; order = omega arith; inside = r.within; some = λ _. l }
word_lies text p _ (too_long e r n) = tt
word_lies text p _ (stray off) = tt

pub token_lies : (text : List ℕ) (p : ℕ) (r : Result Token Fault) → TokenAt text p r → IfOk r (Lies text p)
token_lies text p _ (ends e) = record { after = omega arith; order = omega arith; inside = omega arith; some = λ n. absurd (n refl) }
token_lies text p _ (opens h b) = record { after = omega arith; order = omega arith; inside = omega arith; some = λ n. omega arith }
token_lies text p _ (closes h b) = record { after = omega arith; order = omega arith; inside = omega arith; some = λ n. omega arith }
token_lies text p _ (feeds h b) = record { after = omega arith; order = omega arith; inside = omega arith; some = λ n. omega arith }
token_lies text p r (others h x y z w) = word_lies text p r w

further : (text : List ℕ) (a p : ℕ) (t : Token) → a ≤ p → Lies text p t → Lies text a t
further text a p t h l = record { after = omega (arith, l.after); order = l.order; inside = l.inside; some = l.some }

pub lexed_lies : (text : List ℕ) (a : ℕ) (r : Result Token Fault) → Lexed text a r → IfOk r (Lies text a)
lexed_lies text a (Ok t) x = further text a x.place t x.spaces.from (token_lies text x.place (Ok t) x.stands)
lexed_lies text a (Err f) x = tt

every_from : (f : ℕ → Bool) (xs : List ℕ) → ((k : ℕ) → k < length xs → f (get_or xs k 0) ≡ true) → every f xs ≡ true
every_from f [] h = refl
every_from f (x ∷ xs) h = let first : f x ≡ true = h 0 (omega arith) in rw first (every_from f xs (λ k lt. h (suc k) (omega arith)))

run_named : (text : List ℕ) (p e : ℕ) → p < e → Runs text p e → e - p ≤ 16 → is_name (take (e - p) (drop p text)) ≡ true
run_named text p e l r n =
    let w = take (e - p) (drop p text) in
    let long : length w ≡ e - p = length-take-le (e - p) (drop p text) (omega (arith, length-drop p text, r.within)) in
    let all : every is_letter_or_digit w ≡ true =
    every_from is_letter_or_digit w (λ k lt. ap is_letter_or_digit (get_or-take (e - p) (drop p text) k 0 (omega arith) ∙ get_or-drop p text k 0) ∙ r.letters (p + k) (omega arith) (omega arith)) in
    let some : leb 1 (length w) ≡ true = grind (arith, nat_tests) in
    let few : leb (length w) 16 ≡ true = grind (arith, nat_tests) in
    rw (some, few, all)

end_word : End ≡ Word → ⊥
end_word e = let n : ◌≡◌ {A = ℕ} 0 1 = cc in omega arith

open_word : Open ≡ Word → ⊥
open_word e = let n : ◌≡◌ {A = ℕ} 0 1 = cc in omega arith

close_word : Close ≡ Word → ⊥
close_word e = let n : ◌≡◌ {A = ℕ} 0 1 = cc in omega arith

feed_word : LineFeed ≡ Word → ⊥
feed_word e = let n : ◌≡◌ {A = ℕ} 0 1 = cc in omega arith

word_named : (text : List ℕ) (p : ℕ) (t : Token) → WordAt text p (Ok t) → is_name (bytes_of text t) ≡ true
word_named text p _ (word e l r n) = run_named text p e l r n

token_named : (text : List ℕ) (p : ℕ) (t : Token) → TokenAt text p (Ok t) → t.kind ≡ Word → is_name (bytes_of text t) ≡ true
token_named text p _ (ends e) k = absurd (end_word k)
token_named text p _ (opens h b) k = absurd (open_word k)
token_named text p _ (closes h b) k = absurd (close_word k)
token_named text p _ (feeds h b) k = absurd (feed_word k)
token_named text p t (others h a b c w) k = word_named text p t w

-- every word of a text could be the name of a test
pub lexed_named : {text : List ℕ} {a : ℕ} {t : Token} → Lexed text a (Ok t) → t.kind ≡ Word → is_name (bytes_of text t) ≡ true
lexed_named {text} {t} x k = token_named text x.place t x.stands k
