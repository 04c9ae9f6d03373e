-- Cells side by side: a row of them among all cells, one more of them read, and the cells after a row is written.
use Rattle.std.proofs.Common.{◌≡◌, ℕ, suc, ◌+◌, ◌-◌, ◌*◌, ◌%◌, ◌^◌, ◌<◌, ◌≤◌, Bool, cond, eqb, ltb, ap₂, List, ◌++◌, map, length, get_or, set, take, drop, sym, ap, ◌∙◌, mul-le-mul_right, add-mul, pow-suc, arith, pow_mono}
use Rattle.std.specs.List.{between}
use borrow.Rule.Slice.PartMut.{put_mid}
use Rattle.std.proofs.lemmas.List.{get_or-append-add, get_or-take, get_or-drop, drop-drop, length-append, length-take, length-drop, get_or-map, map-set, map-append, take-map, drop-map, get_or-set_same, get_or-set_other, length-map}
use Rattle.std.proofs.Math.ListN.{get_or-append}
use Rattle.std.proofs.lemmas.List.Edits.{get_or-between}
use Rattle.std.proofs.lemmas.Bool.{cond-true, cond-false, eqb-true, eqb-false, ltb-true, ltb-false, lt-ltb, le-ltb}
use Rattle.cam.specs.Model.{value}
use Rattle.cam.proofs.Below.{split}
use Rattle.cam.proofs.BitLaws.{shl_one}
use Rattle.cam.proofs.Patterns.{value_below}
use Rattle.cells.specs.Meaning.{CellMeaning}
use Rattle.cell_field.specs.Row.{blank_cell, at, wrote_cell}

module _ {X : Type 0} (f : X → CellMeaning) where
  -- the cell x that stands at the place i
  pub cell_at : (xs : List X) (i : ℕ) (x : X) → i < length xs → x ≡ get_or xs i x → at (map f xs) i ≡ f x
  cell_at xs i x h e = get_or-map f xs i x blank_cell h ∙ ap f (sym e)

  pub cell_set : (xs : List X) (i : ℕ) (y : X) → i < length xs → at (map f (set xs i y)) i ≡ f y
  cell_set xs i y h =
      let l : i < length (map f xs) = omega (arith, length-map xs f) in
      ap (λ ms. at ms i) (map-set f xs i y) ∙ get_or-set_same (map f xs) i (f y) blank_cell l

  pub cell_other : (xs : List X) (i k : ℕ) (y : X) → (k ≡ i → ⊥) → at (map f (set xs i y)) k ≡ at (map f xs) k
  cell_other xs i k y ne = ap (λ ms. at ms k) (map-set f xs i y) ∙ get_or-set_other (map f xs) i k (f y) blank_cell ne

  -- cell j of the cells from the place s to the place e
  pub cell_between : (xs : List X) (s e j : ℕ) → s + j < e → at (map f (between s e xs)) j ≡ at (map f xs) (s + j)
  cell_between xs s e j h =
      ap (λ ms. at ms j) (sym (ap (take (e - s)) (drop-map f s xs) ∙ take-map f (e - s) (drop s xs)))
      ∙ get_or-between (map f xs) s e j blank_cell h

-- the cells of word a are among those of n words
pub row_within : (a n w : ℕ) → a < n → a * w + w ≤ n * w
row_within a n w h = let k : a + 1 ≤ n = omega arith in omega (arith, mul-le-mul_right w k, add-mul a 1 w)

-- a number of i bits has room for bit i
pub room : (i : ℕ) (g : ℕ → Bool) → i < 64 → value i g + (1 * 2 ^ i) % 18446744073709551616 < 2 ^ 64
room i g h =
    let p : 2 ^ suc i ≤ 2 ^ 64 = pow_mono {i = suc i} {j = 64} (omega arith) in
    omega (arith, shl_one i h, value_below i g, pow-suc 2 i, p)

-- after i columns of a write, one more
pub wrote_more : (i p m : ℕ) (ms ns ks : List CellMeaning)
    → ((j : ℕ) → at ns j ≡ cond (ltb j i) (wrote_cell p m j (at ms j)) (at ms j))
    → at ks i ≡ wrote_cell p m i (at ns i) → ((j : ℕ) → (j ≡ i → ⊥) → at ks j ≡ at ns j)
    → (j : ℕ) → at ks j ≡ cond (ltb j (i + 1)) (wrote_cell p m j (at ms j)) (at ms j)
wrote_more i p m ms ns ks before here elsewhere j =
    split (eqb j i)
    (λ e.
    let q : j ≡ i = eqb-true j i e in
    ap (at ks) q ∙ here ∙ ap (wrote_cell p m i) (before i ∙ cond-false (ltb i i) _ _ (le-ltb i i (omega arith)))
    ∙ sym (cond-true (ltb i (i + 1)) _ _ (lt-ltb i (i + 1) (omega arith)))
    ∙ ap (λ (k : ℕ). cond (ltb k (i + 1)) (wrote_cell p m k (at ms k)) (at ms k)) (sym q))
    (λ e.
    let ne : j ≡ i → ⊥ = eqb-false j i e in
    elsewhere j ne ∙ before j ∙ ap (λ t. cond t (wrote_cell p m j (at ms j)) (at ms j)) (same_side ne))
  where
    same_side : (j ≡ i → ⊥) → ltb j i ≡ ltb j (i + 1)
    same_side ne =
        split (ltb j i)
        (λ t. t ∙ sym (lt-ltb j (i + 1) (omega (arith, ltb-true j i t))))
        (λ t. t ∙ sym (le-ltb j (i + 1) (omega (arith, ltb-false j i t))))

module _ {X : Type 0} (f : X → CellMeaning) (xs ys : List X) (s e : ℕ) (long : length ys ≡ e - s) (order : s ≤ e) (fits : e ≤ length xs) where
  -- the cells after those from the place s to the place e became ys
  parted : map f (put_mid s (e - s) xs ys) ≡ take s (map f xs) ++ (map f ys ++ drop (e - s) (drop s (map f xs)))
  parted =
      map-append f (take s xs) (ys ++ drop (e - s) (drop s xs))
      ∙ ap₂ ◌++◌ (sym (take-map f s xs))
      (map-append f ys (drop (e - s) (drop s xs)) ∙ ap (λ zs. map f ys ++ zs) (sym (ap (drop (e - s)) (drop-map f s xs) ∙ drop-map f (e - s) (drop s xs))))

  sizes : (length (take s (map f xs)) ≡ s) × (length (map f ys) ≡ e - s)
  sizes = (omega (arith, length-take s (map f xs), length-map xs f), omega (arith, length-map ys f))

  pub put_before : (i : ℕ) → i < s → at (map f (put_mid s (e - s) xs ys)) i ≡ at (map f xs) i
  put_before i h = ap (λ ms. at ms i) parted ∙ get_or-append (take s (map f xs)) _ blank_cell i (omega (arith, sizes.0)) ∙ get_or-take s (map f xs) i blank_cell h

  pub put_inside : (j : ℕ) → j < e - s → at (map f (put_mid s (e - s) xs ys)) (s + j) ≡ at (map f ys) j
  put_inside j h =
      ap (λ ms. at ms (s + j)) parted
      ∙ ap (λ (i : ℕ). at (take s (map f xs) ++ (map f ys ++ drop (e - s) (drop s (map f xs)))) (i + j)) (sym sizes.0)
      ∙ get_or-append-add (take s (map f xs)) _ j blank_cell
      ∙ get_or-append (map f ys) _ blank_cell j (omega (arith, sizes.1))

  pub put_after : (i : ℕ) → e ≤ i → at (map f (put_mid s (e - s) xs ys)) i ≡ at (map f xs) i
  put_after i h =
      let k : ℕ = i - e in
      let q : i ≡ s + (e - s + k) = omega arith in
      let r : s + (e - s) + k ≡ i = omega arith in
      ap (λ ms. at ms i) parted
      ∙ ap (at (take s (map f xs) ++ (map f ys ++ drop (e - s) (drop s (map f xs))))) q
      ∙ ap (λ (i : ℕ). at (take s (map f xs) ++ (map f ys ++ drop (e - s) (drop s (map f xs)))) (i + (e - s + k))) (sym sizes.0)
      ∙ get_or-append-add (take s (map f xs)) _ (e - s + k) blank_cell
      ∙ ap (λ (i : ℕ). at (map f ys ++ drop (e - s) (drop s (map f xs))) (i + k)) (sym sizes.1)
      ∙ get_or-append-add (map f ys) _ k blank_cell
      ∙ ap (λ zs. at zs k) (drop-drop (e - s) s (map f xs))
      ∙ get_or-drop (s + (e - s)) (map f xs) k blank_cell ∙ ap (at (map f xs)) r

-- cells in the place of others are as many
pub put_long : {X : Type 0} (s k : ℕ) (xs ys : List X) → length ys ≡ k → s + k ≤ length xs → length (put_mid s k xs ys) ≡ length xs
put_long s k xs ys e l =
    omega (arith, length-append (take s xs) (ys ++ drop k (drop s xs)), length-append ys (drop k (drop s xs)), length-take s xs, length-drop s xs, length-drop k (drop s xs), e)
