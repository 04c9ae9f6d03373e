-- The records past the words of an array, as a text is read into it. Assumes nothing.
use Rattle.std.proofs.Common.{◌≡◌, ℕ, ◌≤◌, List, [], ◌∷◌, ◌++◌, map, length, take, drop, replicate, vec_items, sym, refl, ap, ◌∙◌, ap₂}
use Rattle.std.proofs.lemmas.List.{drop_at, length-map, length-take-le}
use Rattle.planes.specs.declared.array.PlaneArray.{PlaneArray}
use Rattle.planes.specs.declared.word.WordRecord.{WordRecord}
use Rattle.planes.specs.Word.{blank_record}
use Rattle.planes.specs.Planes.{KeepsLater, blanked}

-- records past the words stay where nothing changes, and over one change after another
pub keeps : (p : PlaneArray) → KeepsLater p p
keeps p = record { words = refl; later = refl }

pub keeps_on : (p q r : PlaneArray) → KeepsLater p q → KeepsLater q r → KeepsLater p r
keeps_on p q r x y =
    record {
      words = y.words ∙ x.words;
      later = ap (λ (n : ℕ). drop n (vec_items r.records)) (sym x.words) ∙ y.later ∙ ap (λ (n : ℕ). drop n (vec_items q.records)) x.words ∙ x.later;
    }

blanked_later : (n : ℕ) (rs : List WordRecord) → n ≤ length rs → drop n (blanked n rs) ≡ drop n rs
blanked_later n rs l = drop_at (map (λ r. blank_record) (take n rs)) (drop n rs) n (length-map (take n rs) (λ r. blank_record) ∙ length-take-le n rs l)

module _ (n : ℕ) (p q : PlaneArray) (rs : List WordRecord) (k : KeepsLater p q) (e : vec_items p.records ≡ blanked n rs) (l : n ≤ length rs) (w : p.size.words ≡ n) where
  -- an array that was made of the records rs, and then changed inside
  pub later_of : drop n (vec_items q.records) ≡ drop n rs
  later_of =
      ap (λ (m : ℕ). drop m (vec_items q.records)) (sym w) ∙ k.later ∙ ap (λ (m : ℕ). drop m (vec_items p.records)) w
      ∙ ap (drop n) e ∙ blanked_later n rs l

  pub later_words : drop q.size.words (vec_items q.records) ≡ drop q.size.words rs
  later_words =
      let same : q.size.words ≡ n = k.words ∙ w in
      ap (λ (m : ℕ). drop m (vec_items q.records)) same ∙ later_of ∙ ap (λ (m : ℕ). drop m rs) (sym same)

const_map : {X : Type 0} (b : WordRecord) (xs : List X) → map (λ x. b) xs ≡ replicate (length xs) b
const_map b [] = refl
const_map b (x ∷ xs) = ap (λ rs. b ∷ rs) (const_map b xs)

-- what is blanked does not depend on what was there
pub blanked_same : (n : ℕ) (xs ys : List WordRecord) → n ≤ length xs → n ≤ length ys → drop n xs ≡ drop n ys → blanked n xs ≡ blanked n ys
blanked_same n xs ys lx ly later =
    ap₂ (λ front back. front ++ back)
    (const_map blank_record (take n xs) ∙ ap (λ (k : ℕ). replicate k blank_record) (length-take-le n xs lx ∙ sym (length-take-le n ys ly)) ∙ sym (const_map blank_record (take n ys)))
    later
