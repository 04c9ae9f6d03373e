-- What the low bits of a number mean to the model: a word's value, and a test that none of them is set.
use Rattle.std.proofs.Common.{◌≡◌, ℕ, zero, suc, ◌+◌, ◌-◌, ◌*◌, ◌/◌, ◌%◌, ◌^◌, ◌<◌, ◌≤◌, min, Bool, cond, not, eqb, sym, refl, ap, ◌∙◌, ap₂, one-add, arith}
use native.Mathlib.Nat.{mod-one}
use lib.Bits.{bit_and, mask_lt, and_mask}
use Rattle.std.proofs.lemmas.Nat.{pow_pos, mod-pow-add}
use Rattle.std.proofs.lemmas.Bool.{eq-eqb, eqb-true, eqb-false, cond_both, not-true, not_from_false, both_ways}
use Rattle.cam.specs.Bits.{bit}
use Rattle.cam.specs.Model.{all_below, value}
use Rattle.cam.proofs.BitLaws.{bit_low, bit_zero, same_bits}
use Rattle.cam.proofs.Below.{split, all_true, each_below}

-- what `low_ones` answers at a width of an array
pub ones_of : (w o : ℕ) → w ≤ 64 → o ≡ 2 ^ min w 64 - 1 → o ≡ 2 ^ w - 1
ones_of w o h e = let m : min w 64 ≡ w = omega arith in e ∙ ap (λ (n : ℕ). 2 ^ n - 1) m

pub value_same : (n : ℕ) (f g : ℕ → Bool) → ((j : ℕ) → j < n → f j ≡ g j) → value n f ≡ value n g
value_same zero f g h = refl
value_same (suc n) f g h =
    ap₂ (λ (v : ℕ) (b : Bool). v + cond b (2 ^ n) 0) (value_same n f g (λ j l. h j (omega arith))) (h n (omega arith))

digit : (n x : ℕ) → cond (bit x n) (2 ^ n) 0 ≡ (x / 2 ^ n % 2) * 2 ^ n
unfolding bit
digit n x =
    cond_both (eqb (x / 2 ^ n % 2) 1) (2 ^ n) 0 (λ y. y ≡ (x / 2 ^ n % 2) * 2 ^ n)
    (λ e. let d : x / 2 ^ n % 2 ≡ 1 = eqb-true _ 1 e in rw d (omega arith))
    (λ e. let d : x / 2 ^ n % 2 ≡ 0 = omega (arith, eqb-false (x / 2 ^ n % 2) 1 e) in rw d (omega arith))

pub value_bits : (n x : ℕ) → value n (bit x) ≡ x % 2 ^ n
value_bits zero x = sym (mod-one x)
value_bits (suc n) x =
    ap₂ ◌+◌ (value_bits n x) (digit n x) ∙ omega (arith, mod-pow-add x 1 n, ap (λ (i : ℕ). x % 2 ^ i) (one-add n))

-- the low n bits of x as the model reads a word
pub value_low : (n x o : ℕ) (f : ℕ → Bool)
    → n ≤ 64 → o ≡ 2 ^ min n 64 - 1 → ((j : ℕ) → j < n → bit x j ≡ f j) → bit_and x o ≡ value n f
value_low n x o f l e h =
    ap (bit_and x) (ones_of n o l e) ∙ and_mask x n ∙ sym (value_bits n x) ∙ value_same n (bit x) f h

-- no bit below w is set, as a test of the whole number
pub none_set : (w x o : ℕ) (f : ℕ → Bool)
    → w ≤ 64 → o ≡ 2 ^ min w 64 - 1 → ((j : ℕ) → j < w → not (bit x j) ≡ f j) → eqb (bit_and x o) 0 ≡ all_below w f
none_set w x o f s q h =
    ap (λ (o : ℕ). eqb (bit_and x o) 0) (ones_of w o s q)
    ∙ split (all_below w f)
    (λ t. eq-eqb _ 0 (same_bits w _ 0 (mask_lt x w) (pow_pos w) (λ j l. bit_low x w j l ∙ not-true (bit x j) (h j l ∙ each_below w f t j l) ∙ sym (bit_zero j))) ∙ sym t)
    (λ t. split (eqb (bit_and x (2 ^ w - 1)) 0)
    (λ e. absurd (both_ways (all_below w f) t (all_true w f (λ j l. sym (h j l) ∙ not_from_false (bit x j) (sym (bit_low x w j l) ∙ ap (λ (n : ℕ). bit n j) (eqb-true _ 0 e) ∙ bit_zero j)))))
    (λ e. e ∙ sym t))
