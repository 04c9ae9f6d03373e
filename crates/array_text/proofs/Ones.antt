-- An array text is read in one way. Assumes nothing.
use Rattle.std.proofs.Common.{◌≡◌, ℕ, ◌<◌, ◌≤◌, true, List, [], IfOk, Some, None, Ok, codes, Option, Result, sym, refl, subst, arith}
use Rattle.std.proofs.lemmas.Bool.{and_from, le-leb}
use Rattle.cam.specs.declared.fault.Reason.TheVariants.{SizeOutsideLimits}
use Rattle.cam.specs.declared.fault.Reason.{Reason}
use Rattle.cam.specs.declared.fault.Layer.{Layer}
use Rattle.cam.specs.declared.fault.Layer.TheVariants.{Call, Words, Forms, Meaning}
use Rattle.cam.specs.declared.fault.Fault.{Fault}
use Rattle.cam.specs.Defects.{within_limits}
use Rattle.cam.specs.Refusals.{Refused, layer_number}
use Rattle.words.specs.declared.token.Kind.TheVariants.{Open, LineFeed, End}
use Rattle.words.specs.Lexing.{Token, Measured}
use Rattle.words.specs.Forms.{Next, WordNext}
use Rattle.words.specs.Readings.{Gathered, gathered}
use Rattle.words.proofs.Rules.{One, then_one, then_made}
use Rattle.words.proofs.Lexemes.{clash, measured_one}
use Rattle.words.proofs.Lists.{listing_one}
use Rattle.words.proofs.Parts.{next_one, word_next_one}
use Rattle.array_lines.specs.declared.cell.Defect.{Defect}
use Rattle.array_lines.specs.Numbers.{NumberWithin}
use Rattle.array_lines.specs.Lines.{LineNext}
use Rattle.array_lines.proofs.Ones.{value_one, value_made, within_one, within_least, within_below, line_one}
use Rattle.cam.specs.declared.size.Size.{Size}
use Rattle.array_text.specs.Grammar.{SizeNext, FirstLineNext, FirstLine, Adds, new, repeated, AddsLine, LineAt, Lines, Rest, ArrayText, Memory, enough, too_little, ArrayCall}

pub size_one : (text : List ℕ) (a : ℕ) → One (SizeNext text a)
size_one text a =
    then_one (NumberWithin 1 257 SizeOutsideLimits text a) _ (within_one 1 257 SizeOutsideLimits text a)
    (λ n. then_one (NumberWithin 1 65 SizeOutsideLimits text n.to) _ (within_one 1 65 SizeOutsideLimits text n.to)
    (λ w. then_one (Next LineFeed text w.to) _ (next_one LineFeed text w.to) (λ e. value_one _)))

pub first_line_one : (text : List ℕ) (a : ℕ) → One (FirstLineNext text a)
first_line_one text a =
    then_one (Measured text) _ (measured_one text)
    (λ _. then_one (Next Open text a) _ (next_one Open text a)
    (λ b. then_one (WordNext (codes "array") text b) (SizeNext text) (word_next_one (codes "array") text b) (size_one text)))

adds_one : (ds : List Defect) (p e : ℕ) (d : Defect) → One (Adds ds p e d)
adds_one ds p e d _ _ (new x) (new y) = refl
adds_one ds p e d _ _ (new x) (repeated y) = clash _ y x
adds_one ds p e d _ _ (repeated x) (new y) = clash _ x y
adds_one ds p e d _ _ (repeated x) (repeated y) = refl

adds_line_one : (ds : List Defect) (p e : ℕ) (o : Option Defect) → One (AddsLine ds p e o)
adds_line_one ds p e None = value_one _
adds_line_one ds p e (Some d) = adds_one ds p e d

line_at_one : (N W : ℕ) (text : List ℕ) (ds : List Defect) (t : Token) → One (LineAt N W text ds t)
line_at_one N W text ds t = then_one (LineNext N W text t.to) _ (line_one N W text t.to) (λ l. adds_line_one ds t.from l.to l.value)

lines_one : (N W : ℕ) (text : List ℕ) (ds : List Defect) (a : ℕ) → One (Lines N W text ds a)
lines_one N W text ds a = listing_one (λ _. Unit {0}) (LineAt N W text) text (line_at_one N W text) ds a

rest_one : (N W : ℕ) (text : List ℕ) (a : ℕ) → One (Rest N W text a)
rest_one N W text a =
    then_one (Lines N W text [] a) _ (lines_one N W text [] a)
    (λ g. then_one (Next LineFeed text g.to) _ (next_one LineFeed text g.to)
    (λ e. then_one (Next End text e) _ (next_one End text e) (λ _. value_one _)))

text_one : (text : List ℕ) → One (ArrayText text)
text_one text =
    then_one (FirstLine text) _ (first_line_one text 0)
    (λ s. then_one (Rest s.value.words s.value.width text s.to) _ (rest_one s.value.words s.value.width text s.to) (λ ds. value_one _))

pub memory_one : (needed lent : ℕ) → One (Memory needed lent)
memory_one needed lent _ _ (enough p) (enough q) = refl
memory_one needed lent _ _ (enough p) (too_little q) = absurd (omega arith)
memory_one needed lent _ _ (too_little p) (enough q) = absurd (omega arith)
memory_one needed lent _ _ (too_little p) (too_little q) = refl

pub call_one : (n : ℕ) (text : List ℕ) → One (ArrayCall n text)
call_one n text = then_one (Memory 256 n) _ (memory_one 256 n) (λ _. text_one text)

-- the size that was read is within the limits
pub record Sized (s : Size) : Type 0 where
  pub some_words : 1 ≤ s.words
  pub few_words : s.words < 257
  pub some_bits : 1 ≤ s.width
  pub few_bits : s.width < 65

pub within : (s : Size) → Sized s → within_limits s.words s.width ≡ true
within s z =
    and_from _ _ (and_from _ _ (le-leb 1 s.words z.some_words) (le-leb s.words 256 (omega (arith, z.few_words))))
    (and_from _ _ (le-leb 1 s.width z.some_bits) (le-leb s.width 64 (omega (arith, z.few_bits))))

abbrev SizeSized : Gathered Size → Type 0
SizeSized s = Sized s.value

size_sized : (text : List ℕ) (a : ℕ) (r : Result (Gathered Size) Fault) → SizeNext text a r → IfOk r SizeSized
size_sized text a r =
    then_made SizeSized (λ n s x.
    then_made SizeSized (λ w t y.
    then_made SizeSized (λ e u z q.
    value_made SizeSized _ u (record { some_words = within_least 1 257 SizeOutsideLimits text a (Ok n) x; few_words = within_below 1 257 SizeOutsideLimits text a (Ok n) x; some_bits = within_least 1 65 SizeOutsideLimits text n.to (Ok w) y; few_bits = within_below 1 65 SizeOutsideLimits text n.to (Ok w) y }) q)))

pub first_line_sized : (text : List ℕ) (r : Result (Gathered Size) Fault) → FirstLine text r → IfOk r (λ s. Sized s.value)
first_line_sized text r =
    then_made SizeSized (λ _ s x.
    then_made SizeSized (λ a t y.
    then_made SizeSized (λ b u z. size_sized text b u)))

-- what a line adds, by its defect
pub adds_none : (ds : List Defect) (p e : ℕ) (o : Option Defect) → o ≡ None → AddsLine ds p e o (Ok (gathered ds e))
adds_none ds p e o i = subst (λ o. AddsLine ds p e o (Ok (gathered ds e))) (sym i) refl

layer_call : (l : Layer) → layer_number l ≡ 0 → l ≡ Call
layer_call Call e = refl
layer_call Words e = absurd (omega arith)
layer_call Forms e = absurd (omega arith)
layer_call Meaning e = absurd (omega arith)

-- the fault of a call without a text, in full
pub call_fault : (n : ℕ) (f : Fault) (s : Reason) → f.reason ≡ s → Refused n f → f ≡ record { reason = s; layer = Call; place = 0 }
call_fault n f s e r = let l = layer_call f.layer r.layer in λ d. record { reason = e d; layer = l d; place = r.place d }
