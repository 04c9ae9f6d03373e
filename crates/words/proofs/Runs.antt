-- The letters that come next, as the code counts them. Assumes nothing.
use Rattle.std.proofs.Common.{◌≡◌, ℕ, ◌+◌, ◌-◌, ◌<◌, ◌≤◌, Bool, true, false, List, length, get_or, drop, Ok, Err, sym, ap, subst, ⊎_elim, ◌∙◌, arith, length-drop}
use Rattle.std.proofs.lemmas.List.{get_or-drop, get_or_past}
use Rattle.std.proofs.str.Laws.{order}
use Rattle.std.specs.List.{prefix_len}
use Rattle.std.proofs.lemmas.List.Sums.{prefix_len-le-length, prefix_len_passes, prefix_len_stops}
use Rattle.march.specs.Letters.{is_letter_or_digit}
use Rattle.words.specs.declared.token.Kind.TheVariants.{Word}
use Rattle.words.specs.Lexing.{Runs, WordAt, word, too_long, stray, token, word_too_long, byte_not_allowed}

-- the bytes from a on that pass, by place
module _ (p : ℕ → Bool) (text : List ℕ) (a : ℕ) where
  byte : (k : ℕ) → a ≤ k → get_or (drop a text) (k - a) 0 ≡ get_or text k 0
  byte k lo = let back : a + (k - a) ≡ k = omega arith in get_or-drop a text (k - a) 0 ∙ ap (λ i. get_or text i 0) back

  pub within : a ≤ length text → a + prefix_len p (drop a text) ≤ length text
  within h = omega (arith, length-drop a text, prefix_len-le-length p (drop a text))

  pub pass : (k : ℕ) → a ≤ k → k < a + prefix_len p (drop a text) → p (get_or text k 0) ≡ true
  pass k lo hi = ap p (sym (byte k lo)) ∙ prefix_len_passes p (drop a text) (k - a) 0 (omega arith)

  pub stop : a ≤ length text → a + prefix_len p (drop a text) < length text → p (get_or text (a + prefix_len p (drop a text)) 0) ≡ false
  stop h lt = ap p (sym (get_or-drop a text (prefix_len p (drop a text)) 0)) ∙ prefix_len_stops p (drop a text) 0 (omega (arith, length-drop a text))

pub runs : (text : List ℕ) (a : ℕ) → a ≤ length text → Runs text a (a + prefix_len is_letter_or_digit (drop a text))
runs text a h = record {
  from = omega arith;
  within = within is_letter_or_digit text a h;
  letters = pass is_letter_or_digit text a;
  stops = stop is_letter_or_digit text a h;
}

-- the word at p, by the length of its run
module _ (text rest : List ℕ) (p n : ℕ) (h : p ≤ length text) (r : rest ≡ drop p text) (e : n ≡ prefix_len is_letter_or_digit rest) where
  letters_to : Runs text p (p + n)
  letters_to = subst (λ k. Runs text p (p + k)) (sym (e ∙ ap (prefix_len is_letter_or_digit) r)) (runs text p h)

  pub word_stands : 0 < n → n ≤ 16 → WordAt text p (Ok (token Word p (p + n)))
  word_stands some few = word (p + n) (omega arith) letters_to (omega arith)

  pub long_stands : 16 < n → WordAt text p (Err (word_too_long p))
  long_stands many = too_long (p + n) letters_to (omega arith)

  pub stray_stands : n ≡ 0 → WordAt text p (Err (byte_not_allowed p))
  stray_stands none =
      let here : p + n ≡ p = omega arith in
      let stops = subst (λ i. i < length text → is_letter_or_digit (get_or text i 0) ≡ false) here letters_to.stops in
      stray (⊎_elim (λ lt. stops lt) (λ ge. ap is_letter_or_digit (get_or_past text p 0 ge)) (order p (length text)))
