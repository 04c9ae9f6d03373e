-- Bit j of what &, |, ^, !, a mask and a single bit give, for every j: the laws that bit planes are proved by.
use Rattle.std.proofs.Common.{◌≡◌, ℕ, zero, suc, ◌+◌, ◌-◌, ◌*◌, ◌/◌, ◌%◌, ◌^◌, ◌<◌, ◌≤◌, min, max, Bool, true, false, not, ◌&&◌, ◌||◌, eqb, sym, refl, ap, ◌∙◌, ⊎_elim, lt_of_lt_of_le, mod-eq_of_lt, pow-suc, div-one, one-add, arith, pow_mono}
use native.Mathlib.Nat.{div-eq_of_lt, div_self}
use lib.Pow.{ones_split, high, ones_lt, pow-lt}
use lib.Bits.{bit_and, bit_or, bit_xor, differ, and_step, or_step, xor_step, and_shr, or_shr, xor_shr, xor_add_and, and_mask}
use Rattle.std.proofs.lemmas.Nat.{one_shl, pow_pos, pow-add, shl-shr, shr-shr}
use Rattle.std.proofs.lemmas.Bool.{eq-eqb, ne_eqb, eqb-true, eqb-false, cases_lt, cases_eq, cases_Bool, or_right}
use Rattle.cam.specs.Bits.{bit}

-- exclusive or
abbrev pub xorb : Bool → Bool → Bool
xorb true b = not b
xorb false b = b

pub and_true : (b : Bool) → (b && true) ≡ b
and_true true = refl
and_true false = refl

xor_true : (b : Bool) → xorb b true ≡ not b
xor_true true = refl
xor_true false = refl

digit_and : (x y : ℕ) → x < 2 → y < 2 → eqb (min x y) 1 ≡ (eqb x 1 && eqb y 1)
digit_and zero zero p q = refl
digit_and zero (suc zero) p q = refl
digit_and (suc zero) zero p q = refl
digit_and (suc zero) (suc zero) p q = refl
digit_and (suc (suc x)) y p q = absurd (omega arith)
digit_and zero (suc (suc y)) p q = absurd (omega arith)
digit_and (suc zero) (suc (suc y)) p q = absurd (omega arith)

digit_or : (x y : ℕ) → x < 2 → y < 2 → eqb (max x y) 1 ≡ (eqb x 1 || eqb y 1)
digit_or zero zero p q = refl
digit_or zero (suc zero) p q = refl
digit_or (suc zero) zero p q = refl
digit_or (suc zero) (suc zero) p q = refl
digit_or (suc (suc x)) y p q = absurd (omega arith)
digit_or zero (suc (suc y)) p q = absurd (omega arith)
digit_or (suc zero) (suc (suc y)) p q = absurd (omega arith)

digit_xor : (x y : ℕ) → x < 2 → y < 2 → eqb (differ x y) 1 ≡ xorb (eqb x 1) (eqb y 1)
digit_xor zero zero p q = refl
digit_xor zero (suc zero) p q = refl
digit_xor (suc zero) zero p q = refl
digit_xor (suc zero) (suc zero) p q = refl
digit_xor (suc (suc x)) y p q = absurd (omega arith)
digit_xor zero (suc (suc y)) p q = absurd (omega arith)
digit_xor (suc zero) (suc (suc y)) p q = absurd (omega arith)

low_and : (a b : ℕ) → bit_and a b % 2 ≡ min (a % 2) (b % 2)
low_and a b = omega (arith, and_step a b)

low_or : (a b : ℕ) → bit_or a b % 2 ≡ max (a % 2) (b % 2)
low_or a b = omega (arith, or_step a b)

differ_lt : (x y : ℕ) → x < 2 → y < 2 → differ x y < 2
differ_lt zero zero p q = omega arith
differ_lt zero (suc zero) p q = omega arith
differ_lt (suc zero) zero p q = omega arith
differ_lt (suc zero) (suc zero) p q = omega arith
differ_lt (suc (suc x)) y p q = absurd (omega arith)
differ_lt zero (suc (suc y)) p q = absurd (omega arith)
differ_lt (suc zero) (suc (suc y)) p q = absurd (omega arith)

low_xor : (a b : ℕ) → bit_xor a b % 2 ≡ differ (a % 2) (b % 2)
low_xor a b = omega (arith, xor_step a b, differ_lt (a % 2) (b % 2) (omega arith) (omega arith))

pub bit-and : (a b j : ℕ) → bit (bit_and a b) j ≡ (bit a j && bit b j)
unfolding bit
bit-and a b j = ap (λ n. eqb (n % 2) 1) (and_shr a b j) ∙ ap (λ n. eqb n 1) (low_and (a / 2 ^ j) (b / 2 ^ j)) ∙ digit_and (a / 2 ^ j % 2) (b / 2 ^ j % 2) (omega arith) (omega arith)

pub bit-or : (a b j : ℕ) → bit (bit_or a b) j ≡ (bit a j || bit b j)
unfolding bit
bit-or a b j = ap (λ n. eqb (n % 2) 1) (or_shr a b j) ∙ ap (λ n. eqb n 1) (low_or (a / 2 ^ j) (b / 2 ^ j)) ∙ digit_or (a / 2 ^ j % 2) (b / 2 ^ j % 2) (omega arith) (omega arith)

pub bit-xor : (a b j : ℕ) → bit (bit_xor a b) j ≡ xorb (bit a j) (bit b j)
unfolding bit
bit-xor a b j = ap (λ n. eqb (n % 2) 1) (xor_shr a b j) ∙ ap (λ n. eqb n 1) (low_xor (a / 2 ^ j) (b / 2 ^ j)) ∙ digit_xor (a / 2 ^ j % 2) (b / 2 ^ j % 2) (omega arith) (omega arith)

pub bit_past : (n j : ℕ) → n < 2 ^ j → bit n j ≡ false
unfolding bit
bit_past n j h = ap (λ (x : ℕ). eqb (x % 2) 1) (div-eq_of_lt h)

-- bit j of the number with the bits below w set
ones_digit : (i j : ℕ) → (2 ^ (suc i + j) - 1) / 2 ^ j % 2 ≡ 1
ones_digit i j = ap (λ (x : ℕ). x / 2 ^ j % 2) (ones_split (suc i) j) ∙ ap (λ (x : ℕ). x % 2) (high (2 ^ suc i - 1) j (ones_lt j)) ∙ omega (arith, pow-suc 2 i, pow_pos i)

pub bit_ones : (w j : ℕ) → j < w → bit (2 ^ w - 1) j ≡ true
unfolding bit
bit_ones w j h =
    let e : w ≡ suc (w - suc j) + j = omega arith in
    eq-eqb _ 1 (ap (λ (x : ℕ). (2 ^ x - 1) / 2 ^ j % 2) e ∙ ones_digit (w - suc j) j)

-- the low w bits
pub bit_low : (n w j : ℕ) → j < w → bit (bit_and n (2 ^ w - 1)) j ≡ bit n j
bit_low n w j h = bit-and n (2 ^ w - 1) j ∙ ap (λ b. bit n j && b) (bit_ones w j h) ∙ and_true (bit n j)

-- one bit
pub bit_one : (i : ℕ) → bit (2 ^ i) i ≡ true
unfolding bit
bit_one i = ap (λ (x : ℕ). eqb (x % 2) 1) (div_self (pow_pos i))

pub bit_other : (i j : ℕ) → (j ≡ i → ⊥) → bit (2 ^ i) j ≡ false
unfolding bit
bit_other i j ne = ⊎_elim
    (λ (l : j < i). let e : i ≡ suc (i - suc j) + j = omega arith in
    ne_eqb _ 1 (λ q. omega (arith, q, ap (λ (x : ℕ). 2 ^ x / 2 ^ j % 2) e ∙ ap (λ (x : ℕ). x / 2 ^ j % 2) (pow-add 2 (suc (i - suc j)) j) ∙ ap (λ (x : ℕ). x % 2) (shl-shr (2 ^ suc (i - suc j)) j), pow-suc 2 (i - suc j))))
    (λ (l : i ≤ j). let s : i < j = omega arith in bit_past (2 ^ i) j (pow-lt s))
    (cases_lt j i)

pub bit_pow : (i j : ℕ) → bit (2 ^ i) j ≡ eqb j i
bit_pow i j = ⊎_elim
    (λ (e : j ≡ i). ap (λ (x : ℕ). bit (2 ^ i) x) e ∙ bit_one i ∙ sym (eq-eqb j i e))
    (λ (ne : j ≡ i → ⊥). bit_other i j ne ∙ sym (ne_eqb j i ne))
    (cases_eq j i)

-- 2 ^ k - 1 - a is a with its k bits turned
pub not_is_xor : (k a : ℕ) → a < 2 ^ k → (2 ^ k - 1) - a ≡ bit_xor a (2 ^ k - 1)
not_is_xor k a h = omega (arith, xor_add_and a (2 ^ k - 1), and_mask a k, mod-eq_of_lt h)

pub bit_not : (k a j : ℕ) → a < 2 ^ k → j < k → bit ((2 ^ k - 1) - a) j ≡ not (bit a j)
bit_not k a j h l =
    ap (λ (x : ℕ). bit x j) (not_is_xor k a h) ∙ bit-xor a (2 ^ k - 1) j ∙ ap (xorb (bit a j)) (bit_ones k j l) ∙ xor_true (bit a j)

-- `!a` on a u64
pub bit_not64 : (a j : ℕ) → a < 2 ^ 64 → j < 64 → bit (18446744073709551615 - a) j ≡ not (bit a j)
bit_not64 a j h l = bit_not 64 a j h l

pub bit_half : (n j : ℕ) → bit (n / 2) j ≡ bit n (suc j)
unfolding bit
bit_half n j = ap (λ (x : ℕ). eqb (x % 2) 1) (shr-shr n 1 j ∙ ap (λ (x : ℕ). n / 2 ^ x) (one-add j))

lowest : (a b : ℕ) → bit a 0 ≡ bit b 0 → a % 2 ≡ b % 2
unfolding bit
lowest a b e = ⊎_elim
    (λ (t : eqb (a / 1 % 2) 1 ≡ true). omega (arith, div-one a, div-one b, eqb-true (a / 1 % 2) 1 t, eqb-true (b / 1 % 2) 1 (sym e ∙ t)))
    (λ (t : eqb (a / 1 % 2) 1 ≡ false). omega (arith, div-one a, div-one b, eqb-false (a / 1 % 2) 1 t, eqb-false (b / 1 % 2) 1 (sym e ∙ t)))
    (cases_Bool (eqb (a / 1 % 2) 1))

-- numbers below 2 ^ w with the same bits are the same
pub same_bits : (w a b : ℕ) → a < 2 ^ w → b < 2 ^ w → ((j : ℕ) → j < w → bit a j ≡ bit b j) → a ≡ b
same_bits zero a b p q h = omega arith
same_bits (suc w) a b p q h =
    let s : a / 2 < 2 ^ w = omega (arith, pow-suc 2 w) in
    let t : b / 2 < 2 ^ w = omega (arith, pow-suc 2 w) in
    let high : a / 2 ≡ b / 2 = same_bits w (a / 2) (b / 2) s t (λ j l. bit_half a j ∙ h (suc j) (omega arith) ∙ sym (bit_half b j)) in
    omega (arith, high, lowest a b (h 0 (omega arith)))

-- `1 << i` on a u64
pub shl_one : (i : ℕ) → i < 64 → (1 * 2 ^ i) % 18446744073709551616 ≡ 2 ^ i
shl_one i h = one_shl i 64 h

pub bit_shl_one : (i j : ℕ) → i < 64 → bit ((1 * 2 ^ i) % 18446744073709551616) j ≡ eqb j i
bit_shl_one i j h = ap (λ (x : ℕ). bit x j) (shl_one i h) ∙ bit_pow i j

-- all of the low w bits but bit i
pub bit_all_but : (w i j : ℕ) → i < w → j < w → bit (2 ^ w - 1 - 2 ^ i) j ≡ not (eqb j i)
bit_all_but w i j h l = bit_not w (2 ^ i) j (pow-lt h) l ∙ ap not (bit_pow i j)

pub bit_zero : (j : ℕ) → bit 0 j ≡ false
bit_zero j = bit_past 0 j (omega (arith, pow_pos j))

-- `(n >> j) & 1 == 1`
pub bit_test : (n j : ℕ) → eqb (bit_and (n / 2 ^ j) 1) 1 ≡ bit n j
unfolding bit
bit_test n j = ap (λ (x : ℕ). eqb x 1) (and_mask (n / 2 ^ j) 1)

-- a u64 has no bit from 64 up
pub bit_past_word : (n j : ℕ) → n < 2 ^ 64 → 64 ≤ j → bit n j ≡ false
bit_past_word n j h l = bit_past n j (lt_of_lt_of_le h (pow_mono l))

pub bit_lowest : (n : ℕ) → bit n 0 ≡ eqb (n % 2) 1
unfolding bit
bit_lowest n = ap (λ (x : ℕ). eqb (x % 2) 1) (div-one n)

-- `simp bits` turns bit j of an expression of &, |, ^, ! and `1 << i` on u64s into tests of bits. It wants in scope
-- `x < 2 ^ 64` and `j < 64` for each `!x`, and `i < 64` for each `1 << i`.
pub ruleset bits = (bit-and, bit-or, bit-xor, bit_not64, bit_shl_one)

-- A number that is built bit by bit: its bits below i are f's, and it has none above.
abbrev pub Built : (ℕ → Bool) → ℕ → ℕ → Type 0
Built f n i = ((k : ℕ) → k < i → bit n k ≡ f k) × ((k : ℕ) → i ≤ k → bit n k ≡ false)

pub built_none : (f : ℕ → Bool) → Built f 0 0
built_none f = (λ k l. absurd (omega arith), λ k l. bit_zero k)

or_bit : (n i k : ℕ) → i < 64 → bit (bit_or n ((1 * 2 ^ i) % 18446744073709551616)) k ≡ (bit n k || eqb k i)
or_bit n i k h = bit-or n _ k ∙ ap (λ b. bit n k || b) (bit_shl_one i k h)

or_other : (b t : Bool) → t ≡ false → (b || t) ≡ b
or_other true t e = refl
or_other false t e = e

pub built_set : (f : ℕ → Bool) (n i : ℕ) → i < 64 → f i ≡ true → Built f n i
    → Built f (bit_or n ((1 * 2 ^ i) % 18446744073709551616)) (i + 1)
built_set f n i h e b = (
  λ k l. ⊎_elim
      (λ (q : k ≡ i). or_bit n i k h ∙ ap (λ t. bit n k || t) (eq-eqb k i q) ∙ or_right (bit n k) true refl ∙ sym e ∙ ap f (sym q))
      (λ (q : k ≡ i → ⊥). or_bit n i k h ∙ or_other (bit n k) _ (ne_eqb k i q) ∙ b.0 k (omega arith))
      (cases_eq k i),
  λ k l. or_bit n i k h ∙ or_other (bit n k) _ (ne_eqb k i (λ q. omega arith)) ∙ b.1 k (omega arith),
)

pub built_left : (f : ℕ → Bool) (n i : ℕ) → f i ≡ false → Built f n i → Built f n (i + 1)
built_left f n i e b = (
  λ k l. ⊎_elim
      (λ (q : k ≡ i). ap (bit n) q ∙ b.1 i (omega arith) ∙ sym e ∙ ap f (sym q))
      (λ (q : k ≡ i → ⊥). b.0 k (omega arith))
      (cases_eq k i),
  λ k l. b.1 k (omega arith),
)
