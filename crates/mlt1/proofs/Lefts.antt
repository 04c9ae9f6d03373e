-- What is left of a list of elements, as a run moves through it.
use Rattle.std.proofs.Common.{◌≡◌, ℕ, zero, suc, ◌+◌, ◌-◌, ◌<◌, ◌≤◌, true, ltb, List, [], ◌∷◌, ◌++◌, map, length, get_or, drop, is_some, Some, None, sym, refl, ap, ap₂, ◌∙◌, append_assoc, append-nil, add-one, arith}
use Rattle.std.specs.Option.{option_map}
use Rattle.std.specs.List.{slice_get}
use Rattle.std.proofs.lemmas.Option.{slice_get_within, slice_get-map, slice_get-get_or, slice_get_past}
use Rattle.std.proofs.lemmas.Bool.{true≢false, lt-ltb, le-ltb, ltb-true, ltb-false, cond-true, cond-false}
use Rattle.cam.proofs.Below.{split}
use Rattle.march.specs.declared.step.Step.{Step}
use Rattle.cam.specs.Machine.{upward}
use Rattle.march.specs.declared.element.Element.{Element as ElementRecord}
use Rattle.march.specs.Tests.{Element, meant, visits, visit, steps_in_visit, step_at, schedule}
use Rattle.march.proofs.Going.{none_left, one_left}
use Rattle.march.proofs.Lengths.{per_visit, visit_length}
use Rattle.mlt1.specs.Mlt1.{mlt1}
use Rattle.mlt1.specs.Left.{from_on, rest_of, left_in}

-- visits one after the other, split at any of them
from_joins : {X : Type 0} (m v : ℕ) (f : ℕ → List X) → upward v f ++ from_on m v f ≡ upward (v + m) f
from_joins zero v f = append-nil (upward v f) ∙ ap (λ (n : ℕ). upward n f) (let e : v ≡ v + 0 = omega arith in e)
from_joins (suc m) v f =
    sym (append_assoc (upward v f) (f v) (from_on m (suc v) f)) ∙ from_joins m (suc v) f
    ∙ ap (λ (n : ℕ). upward n f) (let e : suc v + m ≡ v + suc m = omega arith in e)

from_start : {X : Type 0} (n : ℕ) (f : ℕ → List X) → from_on n 0 f ≡ upward n f
from_start n f = from_joins n 0 f ∙ ap (λ (n : ℕ). upward n f) (let e : 0 + n ≡ n = omega arith in e)

-- what is left from visit v on, whether there is such a visit or not
rest_from : (N W : ℕ) (e : Element) (v : ℕ) → rest_of N W e v 0 ≡ from_on (visits N W e - v) v (visit N W e)
rest_from N W e v =
    split (ltb v (visits N W e))
    (λ t.
    let l : v < visits N W e = ltb-true v (visits N W e) t in
    let m : visits N W e - v ≡ suc (visits N W e - suc v) = omega arith in
    cond-true (ltb v (visits N W e)) _ _ t ∙ sym (ap (λ (n : ℕ). from_on n v (visit N W e)) m))
    (λ t.
    let m : visits N W e - v ≡ 0 = omega (arith, ltb-false v (visits N W e) t) in
    cond-false (ltb v (visits N W e)) _ _ t ∙ sym (ap (λ (n : ℕ). from_on n v (visit N W e)) m))

-- at the start of a list of elements its whole schedule is left
pub left_start : (N W : ℕ) (es : List Element) → left_in N W es 0 0 ≡ schedule N W es
left_start N W [] = refl
left_start N W (e ∷ es) =
    ap (λ xs. xs ++ schedule N W es)
    (rest_from N W e 0 ∙ ap (λ (n : ℕ). from_on n 0 (visit N W e)) (let z : visits N W e - 0 ≡ visits N W e = omega arith in z)
    ∙ from_start (visits N W e) (visit N W e))

module _ (N W : ℕ) (e : Element) (v o : ℕ) where
  inside : (s : Step) → Some s ≡ step_at N W e v o → v < visits N W e
  inside s q =
      split (ltb v (visits N W e)) (ltb-true v (visits N W e))
      (λ t. absurd (true≢false (ap is_some (q ∙ cond-false (ltb v (visits N W e)) _ _ t))))

  -- a step is there: it is the first that is left, and the next operation comes after it
  rest_step : (s : Step) → Some s ≡ step_at N W e v o → rest_of N W e v o ≡ s ∷ rest_of N W e v (o + 1)
  rest_step s q =
      let t : ltb v (visits N W e) ≡ true = lt-ltb v (visits N W e) (inside s q) in
      let at : Some s ≡ slice_get (visit N W e v) o = q ∙ cond-true (ltb v (visits N W e)) _ _ t in
      let later : List Step = from_on (visits N W e - suc v) (suc v) (visit N W e) in
      cond-true (ltb v (visits N W e)) _ _ t
      ∙ ap (λ xs. xs ++ later) (one_left (visit N W e v) o s (sym at))
      ∙ ap (λ xs. s ∷ xs) (sym (cond-true (ltb v (visits N W e)) _ _ t))

  -- none is there, but the visit is one of the element's: the next visit begins
  rest_visit : None ≡ step_at N W e v o → v < visits N W e → rest_of N W e v o ≡ rest_of N W e (v + 1) 0
  rest_visit q l =
      let t : ltb v (visits N W e) ≡ true = lt-ltb v (visits N W e) l in
      let later : List Step = from_on (visits N W e - suc v) (suc v) (visit N W e) in
      cond-true (ltb v (visits N W e)) _ _ t
      ∙ ap (λ xs. xs ++ later) (none_left (visit N W e v) o (sym (q ∙ cond-true (ltb v (visits N W e)) _ _ t)))
      ∙ sym (rest_from N W e (suc v)) ∙ ap (λ (n : ℕ). rest_of N W e n 0) (sym (add-one v))

  -- the element has no such visit
  rest_none : visits N W e ≤ v → rest_of N W e v o ≡ []
  rest_none l = cond-false (ltb v (visits N W e)) _ _ (le-ltb v (visits N W e) l)

  pub operation_few : (s : Step) → Some s ≡ step_at N W e v o → o < per_visit e
  operation_few s q =
      let t : ltb v (visits N W e) ≡ true = lt-ltb v (visits N W e) (inside s q) in
      omega (arith, slice_get_within (visit N W e v) o s (sym (q ∙ cond-true (ltb v (visits N W e)) _ _ t)), visit_length e N W v)

-- Element i of a list is e. Where a run that has come to operation o of visit v stands:
module _ (N W : ℕ) (es : List Element) (i : ℕ) (e : Element) (v o : ℕ) (at : Some e ≡ slice_get es i) where
  here : (v o : ℕ) → left_in N W (drop i es) v o ≡ rest_of N W e v o ++ schedule N W (drop (i + 1) es)
  here v o = ap (λ xs. left_in N W xs v o) (one_left es i e (sym at))

  pub left_step : (s : Step) → Some s ≡ step_at N W e v o → left_in N W (drop i es) v o ≡ s ∷ left_in N W (drop i es) v (o + 1)
  left_step s q =
      here v o ∙ ap (λ xs. xs ++ schedule N W (drop (i + 1) es)) (rest_step N W e v o s q) ∙ ap (λ xs. s ∷ xs) (sym (here v (o + 1)))

  pub left_visit : None ≡ step_at N W e v o → v < visits N W e → left_in N W (drop i es) v o ≡ left_in N W (drop i es) (v + 1) 0
  left_visit q l =
      here v o ∙ ap (λ xs. xs ++ schedule N W (drop (i + 1) es)) (rest_visit N W e v o q l) ∙ sym (here (v + 1) 0)

  pub left_element : visits N W e ≤ v → left_in N W (drop i es) v o ≡ left_in N W (drop (i + 1) es) 0 0
  left_element l =
      here v o ∙ ap (λ xs. xs ++ schedule N W (drop (i + 1) es)) (rest_none N W e v o l)
      ∙ sym (left_start N W (drop (i + 1) es))

  -- a visit of the element begins: its steps are left, and then the visits after it
  pub left_steps : v < visits N W e → left_in N W (drop i es) v 0 ≡ steps_in_visit N W e v ++ left_in N W (drop i es) (v + 1) 0
  left_steps l =
      let t : ltb v (visits N W e) ≡ true = lt-ltb v (visits N W e) l in
      let steps : List Step = visit N W e v in
      let later : List Step = from_on (visits N W e - suc v) (suc v) (visit N W e) in
      let rest : List Step = schedule N W (drop (i + 1) es) in
      let next : left_in N W (drop i es) (v + 1) 0 ≡ later ++ rest =
      here (v + 1) 0 ∙ ap (λ xs. xs ++ rest) (ap (λ (n : ℕ). rest_of N W e n 0) (add-one v) ∙ rest_from N W e (suc v)) in
      here v 0 ∙ ap (λ xs. xs ++ rest) (cond-true (ltb v (visits N W e)) _ _ t) ∙ append_assoc steps later rest
      ∙ ap (λ xs. steps ++ xs) (sym next)
      ∙ ap (λ xs. xs ++ left_in N W (drop i es) (v + 1) 0) (sym (cond-true (ltb v (visits N W e)) steps [] t))

pub left_end : (N W : ℕ) (es : List Element) (i v o : ℕ) → None ≡ slice_get es i → left_in N W (drop i es) v o ≡ []
left_end N W es i v o q = ap (λ xs. left_in N W xs v o) (none_left es i (sym q))

-- an element of a table that has MLT-1, and a place past its last one
pub in_table : (table : List ElementRecord) (i k : ℕ) (r : ElementRecord) → map meant table ≡ mlt1 → k ≡ i → k < length table → r ≡ get_or table k r → Some (meant r) ≡ slice_get mlt1 i
in_table table i k r e same l is =
    ap (λ r. Some (meant r)) is ∙ ap (option_map meant) (sym (slice_get-get_or table k r l)) ∙ sym (slice_get-map meant table k) ∙ ap₂ slice_get e same

pub past_table : (table : List ElementRecord) (i k : ℕ) → map meant table ≡ mlt1 → k ≡ i → length table ≤ k → None ≡ slice_get mlt1 i
past_table table i k e same l =
    ap (option_map meant) (sym (slice_get_past table k l)) ∙ sym (slice_get-map meant table k) ∙ ap₂ slice_get e same
