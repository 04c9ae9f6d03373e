-- An item of a list, between those before it and those after it.
use Rattle.std.proofs.Common.{◌≡◌, ℕ, ◌+◌, ◌<◌, ◌≤◌, Bool, true, ◌&&◌, List, [], ◌∷◌, ◌++◌, map, length, get_or, take, drop, sym, ap, ◌∙◌, append_assoc, arith, length-append, take-append-drop}
use Rattle.std.specs.List.{flat_map}
use Rattle.std.proofs.lemmas.Bool.{and_parts}
use Rattle.std.proofs.lemmas.Grind.{flat_map-append}
use Rattle.std.proofs.lemmas.List.{map_more, map-append}
use Rattle.std.proofs.lemmas.List.Folds.{list_all-append}
use Rattle.march.specs.Every.{every}

module _ {X : Type 0} (before after : List X) (x : X) (xs : List X) (whole : before ++ (x ∷ after) ≡ xs) where
  pub has_place : length before < length xs
  has_place = omega (arith, ap length whole, length-append before (x ∷ after))

  pub passes : (p : X → Bool) → every p xs ≡ true → p x ≡ true
  passes p all =
      let rest = and_parts (every p before) (p x && every p after) (sym (list_all-append p before (x ∷ after)) ∙ ap (every p) whole ∙ all) in
      (and_parts (p x) (every p after) rest.1).0

  -- there is room for its piece where there is room for all
  pub within : (f : X → List ℕ) → length (flat_map f before) + length (f x) ≤ length (flat_map f xs)
  within f =
      omega (
        arith,
        ap (λ ys. length (flat_map f ys)) whole,
        ap length (flat_map-append f before (x ∷ after)),
        length-append (flat_map f before) (f x ++ flat_map f after),
        length-append (f x) (flat_map f after),
      )

-- a list between its first i items and those after the next one
pub split_at : {X Y : Type 0} (g : X → Y) (xs : List X) (i : ℕ) (d : X) → i < length xs
    → map g (take i xs) ++ (g (get_or xs i d) ∷ map g (drop (i + 1) xs)) ≡ map g xs
split_at g xs i d l =
    let rest = map g (drop (i + 1) xs) in
    sym (append_assoc (map g (take i xs)) (g (get_or xs i d) ∷ []) rest)
    ∙ ap (λ ys. ys ++ rest) (sym (map_more g xs i d l))
    ∙ sym (map-append g (take (i + 1) xs) (drop (i + 1) xs))
    ∙ ap (map g) (take-append-drop (i + 1) xs)
