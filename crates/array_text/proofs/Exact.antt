-- An array with the defects of a list, none of which repeats another, has exactly these. Assumes nothing.
use Rattle.std.proofs.Common.{◌≡◌, ℕ, Bool, true, false, cond, not, eqb, List, [], ◌∷◌, sym, refl, ap, ◌∙◌, subst, ap₂, ⊎_elim}
use Rattle.std.specs.List.{list_any}
use mathlib.Core.List.Memᴰ
use mathlib.Core.List.{Memᴰ}
use Rattle.std.proofs.lemmas.Bool.{and_parts, and_from, or_cases, or_left, or_right, eq-eqb, eqb-true, cond-true, cond-false, true≢false}
use Rattle.cam.specs.declared.defect.Storage.{Storage as How}
use Rattle.cam.specs.declared.defect.Storage.TheVariants.{Good, Sa0, Sa1, NoRise, NoFall}
use Rattle.cam.specs.declared.defect.StorageDefect.{StorageDefect}
use Rattle.cam.specs.declared.defect.StorageDefect.TheVariants as defect
use Rattle.cam.specs.declared.index.CellIndex.{CellIndex}
use Rattle.cam.specs.Defects.{same_cell, storage_with, is_good}
use Rattle.cam.proofs.Below.{split}
use Rattle.array_lines.specs.declared.cell.Defect.{Defect}
use Rattle.array_lines.specs.declared.cell.Defect.TheVariants.{Storage, Wrong, Mark}
use Rattle.array_lines.specs.Cells.{cell}
use Rattle.array_text.specs.Meaning.{says_wrong, says_stuck, storage_in, build_with, word, pair, Exactly}
use Rattle.array_text.specs.Left.{Distinct}
use Rattle.array_text.proofs.OneMore.{said_storage, same_cell_lem}

some_found : {X : Type 0} (f : X → Bool) (xs : List X) → list_any f xs ≡ true → (x : X) × (Memᴰ x xs × (f x ≡ true))
some_found f [] e = absurd (true≢false (sym e))
some_found f (x ∷ xs) e =
    ⊎_elim (λ h. (x, (Memᴰ.head refl, h)))
    (λ t. let y = some_found f xs t in (y.0, (Memᴰ.tail y.1.0, y.1.1)))
    (or_cases (f x) (list_any f xs) e)

some_there : {X : Type 0} (f : X → Bool) (x : X) (xs : List X) → f x ≡ true → Memᴰ x xs → list_any f xs ≡ true
some_there f x [] e m = absurd (Memᴰ.not-nil m)
some_there f x (y ∷ xs) e m =
    ⊎_elim (λ s. or_left (f y) _ (ap f (sym s) ∙ e)) (λ t. or_right (f y) _ (some_there f x xs e t)) (Memᴰ.cases_cons m)

self_cell : (k i : ℕ) → same_cell k i k i ≡ true
self_cell k i = and_from (eqb k k) (eqb i i) (eq-eqb k k refl) (eq-eqb i i refl)

-- the defect of a storage that is not good
abbrev defect_of : How → StorageDefect
defect_of Good = defect.Sa0
defect_of Sa0 = defect.Sa0
defect_of Sa1 = defect.Sa1
defect_of NoRise = defect.NoRise
defect_of NoFall = defect.NoFall

defect_back : (s : StorageDefect) → defect_of (storage_with s) ≡ s
defect_back defect.Sa0 = refl
defect_back defect.Sa1 = refl
defect_back defect.NoRise = refl
defect_back defect.NoFall = refl

not_good : (s : StorageDefect) → is_good (storage_with s) ≡ false
not_good defect.Sa0 = refl
not_good defect.Sa1 = refl
not_good defect.NoRise = refl
not_good defect.NoFall = refl

same_storage : (k i : ℕ) (s t : StorageDefect) (c : CellIndex) → k ≡ c.word.number → i ≡ c.column.number → s ≡ t → Storage (cell k i) s ≡ Storage c t
same_storage k i s t c p q r = λ d. Storage (cell (p d) (q d)) (r d)

storage_found : (ds : List Defect) (k i : ℕ) (s : StorageDefect) → storage_in ds k i ≡ storage_with s → Memᴰ (Storage (cell k i) s) ds
storage_found [] k i s e = absurd (true≢false (ap is_good e ∙ not_good s))
storage_found (Storage c t ∷ ds) k i s e =
    split (same_cell c.word.number c.column.number k i)
    (λ y. let p = same_cell_lem c.word.number c.column.number k i y in
    Memᴰ.head (same_storage k i s t c p.0 p.1 (sym (defect_back s) ∙ ap defect_of (sym e ∙ cond-true _ _ _ y) ∙ defect_back t)))
    (λ n. Memᴰ.tail (storage_found ds k i s (sym (cond-false _ _ _ n) ∙ e)))
storage_found (Wrong c p ∷ ds) k i s e = Memᴰ.tail (storage_found ds k i s e)
storage_found (Mark a ∷ ds) k i s e = Memᴰ.tail (storage_found ds k i s e)

-- the first of the list
storage_first : (d : Defect) (ds : List Defect) (k i : ℕ) (s : StorageDefect) → Storage (cell k i) s ≡ d → storage_in (d ∷ ds) k i ≡ storage_with s
storage_first d ds k i s e = subst (λ d. storage_in (d ∷ ds) k i ≡ storage_with s) e (cond-true _ _ _ (self_cell k i))

storage_there : (ds : List Defect) → Distinct ds → (k i : ℕ) (s : StorageDefect) → Memᴰ (Storage (cell k i) s) ds → storage_in ds k i ≡ storage_with s
storage_there [] o k i s m = absurd (Memᴰ.not-nil m)
storage_there (Storage c t ∷ ds) o k i s m =
    ⊎_elim (storage_first (Storage c t) ds k i s)
    (λ m. let rest = storage_there ds o.1 k i s m in
    split (same_cell c.word.number c.column.number k i)
    (λ y. let p = same_cell_lem c.word.number c.column.number k i y in
    let good : is_good (storage_in ds c.word.number c.column.number) ≡ false = ap₂ (λ k i. is_good (storage_in ds k i)) (sym p.0) (sym p.1) ∙ ap is_good rest ∙ not_good s in
    absurd (true≢false (sym (said_storage ds c.word.number c.column.number ∙ ap not good) ∙ o.0)))
    (λ n. cond-false _ _ _ n ∙ rest))
    (Memᴰ.cases_cons m)
storage_there (Wrong c p ∷ ds) o k i s m = ⊎_elim (storage_first (Wrong c p) ds k i s) (storage_there ds o.1 k i s) (Memᴰ.cases_cons m)
storage_there (Mark a ∷ ds) o k i s m = ⊎_elim (storage_first (Mark a) ds k i s) (storage_there ds o.1 k i s) (Memᴰ.cases_cons m)

same_bit : (x y : Bool) → cond x y (not y) ≡ true → y ≡ x
same_bit true y e = e
same_bit false true e = absurd (true≢false (sym e))
same_bit false false e = refl

self_bit : (x : Bool) → cond x x (not x) ≡ true
self_bit true = refl
self_bit false = refl

says_wrong_lem : (d : Defect) (k i : ℕ) (h b : Bool) → says_wrong k i h b d ≡ true → Wrong (cell k i) (pair h b) ≡ d
says_wrong_lem (Storage c s) k i h b e = absurd (true≢false (sym e))
says_wrong_lem (Wrong c p) k i h b e =
    let x = and_parts _ _ e in
    let at = same_cell_lem c.word.number c.column.number k i x.0 in
    let y = and_parts _ _ x.1 in
    let f = same_bit p.held h y.0 in
    let g = same_bit p.comparand b y.1 in
    λ d. Wrong (cell (at.0 d) (at.1 d)) (record { held = f d; comparand = g d })
says_wrong_lem (Mark a) k i h b e = absurd (true≢false (sym e))

says_stuck_lem : (d : Defect) (k : ℕ) → says_stuck k d ≡ true → Mark (word k) ≡ d
says_stuck_lem (Storage c s) k e = absurd (true≢false (sym e))
says_stuck_lem (Wrong c p) k e = absurd (true≢false (sym e))
says_stuck_lem (Mark a) k e = let p = eqb-true k a.number e in λ d. Mark (record { number = p d })

pub exactly : (N W : ℕ) (ds : List Defect) → Distinct ds → Exactly ds (build_with N W ds)
exactly N W ds o =
    record {
      storage = λ k i s. (storage_found ds k i s, storage_there ds o k i s);
      wrong = λ k i h b. (
        λ e. let x = some_found (says_wrong k i h b) ds e in Memᴰ.cast (says_wrong_lem x.0 k i h b x.1.1) x.1.0,
        some_there (says_wrong k i h b) (Wrong (cell k i) (pair h b)) ds (and_from _ _ (self_cell k i) (and_from _ _ (self_bit h) (self_bit b))),
      );
      stuck = λ k. (
        λ e. let x = some_found (says_stuck k) ds e in Memᴰ.cast (says_stuck_lem x.0 k x.1.1) x.1.0,
        some_there (says_stuck k) (Mark (word k)) ds (eq-eqb k k refl),
      );
    }
