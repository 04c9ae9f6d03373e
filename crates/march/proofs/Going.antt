-- What is left of a list that is gone over by places.
use Rattle.std.proofs.Common.{◌≡◌, ℕ, zero, suc, ◌+◌, ◌<◌, ◌≤◌, List, [], ◌∷◌, length, drop, Some, None, refl, ap, ◌∙◌, sym, add-one, arith}
use Rattle.std.specs.List.{slice_get}
use Rattle.std.proofs.lemmas.Option.{slice_get_within}

pub none_left : {X : Type 0} (xs : List X) (i : ℕ) → slice_get xs i ≡ None → drop i xs ≡ []
none_left [] zero e = refl
none_left [] (suc i) e = refl
none_left (x ∷ xs) zero e = cc
none_left (x ∷ xs) (suc i) e = none_left xs i e

pub one_left : {X : Type 0} (xs : List X) (i : ℕ) (x : X) → slice_get xs i ≡ Some x → drop i xs ≡ x ∷ drop (i + 1) xs
one_left [] i x e = cc
one_left (y ∷ xs) zero x e = cc
one_left (y ∷ xs) (suc i) x e = one_left xs i x e ∙ ap (λ (k : ℕ). x ∷ drop k xs) (add-one i) ∙ ap (λ (k : ℕ). x ∷ drop k (y ∷ xs)) (sym (add-one (suc i)))

pub within_eight : {X : Type 0} (xs : List X) (i : ℕ) (x : X) → slice_get xs i ≡ Some x → length xs ≤ 8 → i < 8
within_eight xs i x e few = omega (arith, slice_get_within xs i x e)
