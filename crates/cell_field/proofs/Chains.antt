-- Tests of every number below n, from the first on, and along a list.
use Rattle.std.proofs.Common.{◌≡◌, ℕ, zero, suc, ◌+◌, ◌-◌, Bool, true, false, ◌&&◌, List, [], ◌∷◌, map, length, sym, refl, ap, ◌∙◌, ap₂, arith}
use Rattle.std.specs.List.{list_all, enumerate_from}
use Rattle.cam.specs.Model.{all_below}
use Rattle.cam.proofs.Below.{all_same}
use Rattle.cells.specs.Meaning.{CellMeaning}
use Rattle.cell_field.specs.Row.{at}

and_along : (x y z : Bool) → (x && (y && z)) ≡ (y && (x && z))
and_along true y z = refl
and_along false true z = refl
and_along false false z = refl

all_first : (n : ℕ) (f : ℕ → Bool) → all_below (suc n) f ≡ (f 0 && all_below n (λ k. f (suc k)))
all_first zero f = refl
all_first (suc n) f = ap (λ t. f (suc n) && t) (all_first n f) ∙ and_along (f (suc n)) (f 0) _

-- a test of each cell of a row and its column
columns_from : {X : Type 0} (f : X → CellMeaning) (g : ℕ → CellMeaning → Bool) (i : ℕ) (xs : List X)
    → list_all (λ p. g p.0 (f p.1)) (enumerate_from i xs) ≡ all_below (length xs) (λ j. g (i + j) (at (map f xs) j))
columns_from f g i [] = refl
columns_from f g i (x ∷ xs) =
    let z : i ≡ i + 0 = omega arith in
    ap₂ ◌&&◌ (ap (λ (k : ℕ). g k (f x)) z)
    (columns_from f g (i + 1) xs ∙ all_same (length xs) _ _ (λ j l. let e : i + 1 + j ≡ i + suc j = omega arith in ap (λ (k : ℕ). g k (at (map f xs) j)) e))
    ∙ sym (all_first (length xs) (λ j. g (i + j) (at (map f (x ∷ xs)) j)))

pub all_columns : {X : Type 0} (f : X → CellMeaning) (g : ℕ → CellMeaning → Bool) (xs : List X)
    → list_all (λ p. g p.0 (f p.1)) (enumerate_from 0 xs) ≡ all_below (length xs) (λ j. g j (at (map f xs) j))
all_columns f g xs =
    columns_from f g 0 xs ∙ all_same (length xs) _ _ (λ j l. let e : 0 + j ≡ j = omega arith in ap (λ (k : ℕ). g k (at (map f xs) j)) e)
