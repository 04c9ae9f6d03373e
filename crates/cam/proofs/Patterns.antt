-- The bits of the patterns and masks that tests use, and words that hold equal bits.
use Rattle.std.proofs.Common.{◌≡◌, ℕ, zero, suc, ◌+◌, ◌-◌, ◌*◌, ◌/◌, ◌%◌, ◌^◌, ◌<◌, ◌≤◌, Bool, true, false, cond, not, ltb, sym, refl, ap, ◌∙◌, pow-suc, arith, pow_pos}
use Rattle.std.proofs.lemmas.Bool.{eq-eqb, ne_eqb, lt-ltb, cond-true, cond-false}
use Rattle.cam.specs.Bits.{bit}
use Rattle.cam.specs.Model.{value, agrees}
use Rattle.cam.specs.Patterns.{equal_bits, all_but}
use Rattle.cam.proofs.Below.{split, below_suc}
use Rattle.cam.proofs.BitLaws.{bit_zero, bit_ones, bit_all_but, bit_lowest, bit_half}

all_but_is : (W j : ℕ) → j < W → all_but W j ≡ 2 ^ W - 1 - 2 ^ j
all_but_is W j h = ap (λ (n : ℕ). 2 ^ W - 1 - n) (cond-true (ltb j W) (2 ^ j) 0 (lt-ltb j W h))

pub bit_but_here : (W j : ℕ) → j < W → bit (all_but W j) j ≡ false
bit_but_here W j h = ap (λ (n : ℕ). bit n j) (all_but_is W j h) ∙ bit_all_but W j j h h ∙ ap not (eq-eqb j j refl)

pub bit_but_other : (W j i : ℕ) → j < W → i < W → (i ≡ j → ⊥) → bit (all_but W j) i ≡ true
bit_but_other W j i h g n = ap (λ (n : ℕ). bit n i) (all_but_is W j h) ∙ bit_all_but W j i h g ∙ ap not (ne_eqb i j n)

pub bit_equal : (W : ℕ) (b : Bool) (j : ℕ) → j < W → bit (equal_bits W b) j ≡ b
bit_equal W true j h = bit_ones W j h
bit_equal W false j h = bit_zero j

-- a number made of bits
pub value_below : (n : ℕ) (f : ℕ → Bool) → value n f < 2 ^ n
value_below zero f = omega arith
value_below (suc n) f = go (f n) (value_below n f)
  where
    go : (b : Bool) → value n f < 2 ^ n → value n f + cond b (2 ^ n) 0 < 2 ^ suc n
    go true v = let e : 2 ^ suc n ≡ 2 ^ n * 2 = pow-suc 2 n in omega arith
    go false v = let e : 2 ^ suc n ≡ 2 ^ n * 2 = pow-suc 2 n in omega arith

pub value_equal : (n : ℕ) (f : ℕ → Bool) (b : Bool) → ((j : ℕ) → j < n → f j ≡ b) → value n f ≡ equal_bits n b
value_equal zero f true h = refl
value_equal zero f false h = refl
value_equal (suc n) f true h =
    let e : 2 ^ suc n ≡ 2 ^ n * 2 = pow-suc 2 n in
    let p : 0 < 2 ^ n = pow_pos n in
    let i : value n f ≡ 2 ^ n - 1 = value_equal n f true (λ j l. h j (omega arith)) in
    let c : cond (f n) (2 ^ n) 0 ≡ 2 ^ n = cond-true (f n) (2 ^ n) 0 (h n (omega arith)) in
    omega arith
value_equal (suc n) f false h =
    let i : value n f ≡ 0 = value_equal n f false (λ j l. h j (omega arith)) in
    let c : cond (f n) (2 ^ n) 0 ≡ 0 = cond-false (f n) (2 ^ n) 0 (h n (omega arith)) in
    omega arith

pub equal_value : (n : ℕ) (f : ℕ → Bool) (b : Bool) → value n f ≡ equal_bits n b → (j : ℕ) → j < n → f j ≡ b
equal_value zero f b h j l = absurd (omega arith)
equal_value (suc n) f true h j l =
    let e : 2 ^ suc n ≡ 2 ^ n * 2 = pow-suc 2 n in
    let p : 0 < 2 ^ n = pow_pos n in
    let v : value n f < 2 ^ n = value_below n f in
    let t : f n ≡ true = split (f n) (λ t. t) (λ t. let c : cond (f n) (2 ^ n) 0 ≡ 0 = cond-false (f n) (2 ^ n) 0 t in absurd (omega arith)) in
    let c : cond (f n) (2 ^ n) 0 ≡ 2 ^ n = cond-true (f n) (2 ^ n) 0 t in
    below_suc {P = λ i. f i ≡ true} n t (equal_value n f true (omega arith)) j l
equal_value (suc n) f false h j l =
    let p : 0 < 2 ^ n = pow_pos n in
    let t : f n ≡ false = split (f n) (λ t. let c : cond (f n) (2 ^ n) 0 ≡ 2 ^ n = cond-true (f n) (2 ^ n) 0 t in absurd (omega arith)) (λ t. t) in
    below_suc {P = λ i. f i ≡ false} n t (equal_value n f false (omega arith)) j l

-- the bits of a number made of bits
value_shift : (n : ℕ) (f : ℕ → Bool) → value (suc n) f ≡ cond (f 0) 1 0 + 2 * value n (λ j. f (suc j))
value_shift zero f = omega arith
value_shift (suc n) f =
    let e : 2 ^ suc n ≡ 2 ^ n * 2 = pow-suc 2 n in
    let i : value (suc n) f ≡ cond (f 0) 1 0 + 2 * value n (λ j. f (suc j)) = value_shift n f in
    split (f (suc n))
    (λ t. let c : cond (f (suc n)) (2 ^ suc n) 0 ≡ 2 ^ suc n = cond-true (f (suc n)) (2 ^ suc n) 0 t in
    let d : cond (f (suc n)) (2 ^ n) 0 ≡ 2 ^ n = cond-true (f (suc n)) (2 ^ n) 0 t in omega arith)
    (λ t. let c : cond (f (suc n)) (2 ^ suc n) 0 ≡ 0 = cond-false (f (suc n)) (2 ^ suc n) 0 t in
    let d : cond (f (suc n)) (2 ^ n) 0 ≡ 0 = cond-false (f (suc n)) (2 ^ n) 0 t in omega arith)

pub bit_value : (n : ℕ) (f : ℕ → Bool) (j : ℕ) → j < n → bit (value n f) j ≡ f j
bit_value zero f j h = absurd (omega arith)
bit_value (suc n) f zero h =
    let s = value_shift n f in
    bit_lowest (value (suc n) f) ∙ split (f 0)
    (λ t. let c : cond {A = ℕ} (f 0) 1 0 ≡ 1 = cond-true (f 0) 1 0 t in eq-eqb (value (suc n) f % 2) 1 (omega arith) ∙ sym t)
    (λ t. let c : cond {A = ℕ} (f 0) 1 0 ≡ 0 = cond-false (f 0) 1 0 t in ne_eqb (value (suc n) f % 2) 1 (omega arith) ∙ sym t)
bit_value (suc n) f (suc j) h =
    let s = value_shift n f in
    let c : cond {A = ℕ} (f 0) 1 0 ≤ 1 = split (f 0) (λ t. let d : cond {A = ℕ} (f 0) 1 0 ≡ 1 = cond-true (f 0) 1 0 t in omega arith) (λ t. let d : cond {A = ℕ} (f 0) 1 0 ≡ 0 = cond-false (f 0) 1 0 t in omega arith) in
    let q : value (suc n) f / 2 ≡ value n (λ i. f (suc i)) = omega arith in
    sym (bit_half (value (suc n) f) j) ∙ ap (λ x. bit x j) q ∙ bit_value n (λ i. f (suc i)) j (omega arith)

-- a cell's answer, where what it holds and is compared with is known
pub agrees_at : (w : Bool → Bool → Bool) (h b x y : Bool) → h ≡ x → b ≡ y → agrees w h b ≡ agrees w x y
agrees_at w h b x y p q = ap (λ t. agrees w t b) p ∙ ap (agrees w x) q
