-- Counts and sums of what is the same number by number.
use Rattle.std.proofs.Common.{◌≡◌, ℕ, zero, suc, ◌<◌, ◌≤◌, ◌+◌, Bool, true, false, cond, List, [], ◌∷◌, ◌++◌, map, length, sym, refl, ap, ◌∙◌, add-one, arith, length-append}
use Rattle.std.proofs.lemmas.List.FromFn.{filter_of_map_range_with_len_more}
use Rattle.std.specs.List.{filter, range_with_len}
use Rattle.chart.specs.Chart.{count_below, sum_below}

pub count_same : (n : ℕ) (f g : ℕ → Bool) → ((j : ℕ) → j < n → f j ≡ g j) → count_below n f ≡ count_below n g
count_same zero f g h = refl
count_same (suc n) f g h =
    let i : count_below n f ≡ count_below n g = count_same n f g (λ j l. h j (omega arith)) in
    let c : cond {A = ℕ} (f n) 1 0 ≡ cond (g n) 1 0 = ap (λ t. cond t 1 0) (h n (omega arith)) in
    omega arith

pub sum_same : (n : ℕ) (f g : ℕ → ℕ) → ((j : ℕ) → j < n → f j ≡ g j) → sum_below n f ≡ sum_below n g
sum_same zero f g h = refl
sum_same (suc n) f g h =
    let i : sum_below n f ≡ sum_below n g = sum_same n f g (λ j l. h j (omega arith)) in
    let c : f n ≡ g n = h n (omega arith) in
    omega arith

map_same : (xs : List ℕ) → map (λ (x : ℕ). x) xs ≡ xs
map_same [] = refl
map_same (x ∷ xs) = ap (λ ys. x ∷ ys) (map_same xs)

one_if : (b : Bool) (x : ℕ) → length (cond b (x ∷ []) []) ≡ cond b 1 0
one_if true x = refl
one_if false x = refl

-- the numbers below n that pass, counted in a list
pub filter_below : (n : ℕ) (f : ℕ → Bool) → length (filter f (range_with_len 0 n)) ≡ count_below n f
filter_below zero f = refl
filter_below (suc n) f =
    let ys : List ℕ = filter f (range_with_len 0 n) in
    let more : filter f (range_with_len 0 (suc n)) ≡ ys ++ cond (f n) (n ∷ []) [] =
    ap (λ (k : ℕ). filter f (range_with_len 0 k)) (sym (add-one n)) ∙ ap (filter f) (sym (map_same (range_with_len 0 (n + 1))))
    ∙ filter_of_map_range_with_len_more f (λ x. x) 0 n n (omega arith) ∙ ap (λ xs. filter f xs ++ cond (f n) (n ∷ []) []) (map_same (range_with_len 0 n)) in
    omega (arith, ap length more, length-append ys (cond (f n) (n ∷ []) []), one_if (f n) n, filter_below n f)

pub count_few : (n : ℕ) (f : ℕ → Bool) → count_below n f ≤ n
count_few zero f = omega arith
count_few (suc n) f = one (f n) (count_few n f)
  where
    one : (b : Bool) → count_below n f ≤ n → count_below n f + cond b 1 0 ≤ suc n
    one true l = omega arith
    one false l = omega arith
