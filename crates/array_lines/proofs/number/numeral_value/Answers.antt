use Rattle.std.proofs.Common.{◌≡◌, ℕ, ◌+◌, ◌-◌, ◌*◌, ◌^◌, ◌<◌, ◌≤◌, true, false, ◌&&◌, leb, List, length, get_or, take, drop, sym, ap, ◌∙◌, ap₂, zero-lt-suc, arith}
use native.Mathlib.Nat.{pow-le-pow_right}
use Rattle.std.proofs.lemmas.Int.Digits.{digits_value-lt, digits_value_more, digits_more}
use Rattle.std.proofs.lemmas.List.{at_drop_more, at_drop_all, take_all, length-take-le}
use Rattle.std.proofs.lemmas.Bool.{and_left, and_right, and_from, and_parts, le-leb, leb-true}
use Rattle.std.proofs.lemmas.Bool.Decides.{nat_tests}
use Rattle.std.specs.Str.Parse.{digits_value, AllDigits}
use Rattle.std.specs.Char.{digit_value}
use Rattle.march.specs.Every.{every}
use Rattle.std.specs.Char.{is_ascii_digit}
use Rattle.array_lines.proofs.number.numeral_value.Goals as goal

-- up to three digits write a number below a thousand
below_thousand : (xs : List ℕ) → AllDigits 10 xs → length xs ≤ 3 → digits_value 10 xs < 1000
below_thousand xs d l =
    let p : 10 ^ length xs ≤ 10 ^ 3 = pow-le-pow_right (zero-lt-suc 9) l in
    let q = digits_value-lt 10 xs d in
    omega arith

so_far : (xs : List ℕ) (i v : ℕ) → AllDigits 10 (take i xs) → v ≡ digits_value 10 (take i xs) → length xs ≤ 4 → i < length xs → v < 1000
so_far xs i v d e l h =
    let b = below_thousand (take i xs) d (omega (arith, length-take-le i xs (omega arith))) in
    omega arith

digit_is : (b : ℕ) → 48 ≤ b → b ≤ 57 → digit_value b ≡ b - 48
digit_is b l h = grind (arith, nat_tests)

bounds : (b : ℕ) → is_ascii_digit b ≡ true → (48 ≤ b) × (b ≤ 57)
bounds b e = let p = and_parts (leb 48 b) (leb b 57) e in (leb-true 48 b p.0, leb-true b 57 p.1)

pub returns-then-not-is_ascii_digit : goal.returns-then-not-is_ascii_digit
returns-then-not-is_ascii_digit c =
    let xs = c.args.word.now in
    let i = c.loop-byte.byte-index in
    let off : is_ascii_digit (get_or xs i 0) ≡ false = sym c.if-not-is_ascii_digit.ensures.value in
    let bad : every is_ascii_digit xs ≡ false = sym c.loop-byte.invariant.0 ∙ at_drop_more (every is_ascii_digit) xs i 0 (omega arith) ∙ and_left _ _ off in
    record { value_of_digits = and_right (leb (length xs) 4) _ bad }

pub overflow_mul-value : goal.overflow_mul-value
overflow_mul-value c =
    let small = so_far c.args.word.now c.loop-byte.byte-index c.loop-byte.value c.loop-byte.invariant.1 c.loop-byte.invariant.2 (omega arith) (omega arith) in
    omega arith

pub overflow_add-value : goal.overflow_add-value
overflow_add-value c =
    let digit = bounds (get_or c.args.word.now c.loop-byte.byte-index 0) (sym c.if-not-is_ascii_digit.ensures.value) in
    let small = so_far c.args.word.now c.loop-byte.byte-index c.loop-byte.value c.loop-byte.invariant.1 c.loop-byte.invariant.2 (omega arith) (omega arith) in
    omega arith

pub loop-byte-preserved : goal.loop-byte-preserved
loop-byte-preserved c =
    let xs = c.args.word.now in
    let i = c.loop-byte.byte-index in
    let b = get_or xs i 0 in
    let at : i < length xs = omega arith in
    let digit : is_ascii_digit b ≡ true = sym c.if-not-is_ascii_digit.ensures.value in
    let low : 48 ≤ b = (bounds b digit).0 in
    let high : b ≤ 57 = (bounds b digit).1 in
    let is = digit_is b low high in (
      sym (at_drop_more (every is_ascii_digit) xs i 0 at ∙ ap (λ t. t && every is_ascii_digit (drop (i + 1) xs)) digit) ∙ c.loop-byte.invariant.0,
      digits_more 10 xs i at c.loop-byte.invariant.1 (omega arith),
      sym (digits_value_more 10 xs i at ∙ ap₂ (λ (v d : ℕ). v * 10 + d) (sym c.loop-byte.invariant.2) (is ∙ sym c.from.ensures)),
    )

pub returns : goal.returns
returns c =
    let xs = c.args.word.now in
    let i = c.loop-byte.byte-index in
    let all : every is_ascii_digit xs ≡ true = sym c.loop-byte.invariant.0 ∙ at_drop_all (every is_ascii_digit) xs i (omega arith) in
    record { value_of_digits = (and_from _ _ (le-leb (length xs) 4 (omega arith)) all, c.loop-byte.invariant.2 ∙ ap (digits_value 10) (take_all i xs (omega arith))) }
