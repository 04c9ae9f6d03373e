-- What is left of a test where a loop over its elements stands, and how many steps a test has at most.
use Rattle.std.proofs.Common.{◌≡◌, ℕ, ◌+◌, ◌*◌, ◌<◌, ◌≤◌, List, [], ◌∷◌, ◌++◌, map, length, get_or, drop, Some, sym, ap, ◌∙◌, mul-le-mul, arith}
use lib.ListN.{length-map}
use Rattle.std.specs.Option.{option_map}
use Rattle.std.specs.List.{slice_get}
use Rattle.std.proofs.lemmas.Option.{slice_get-get_or, slice_get_past}
use Rattle.march.specs.declared.element.Element.{Element as ElementRecord}
use Rattle.march.specs.declared.steps.Steps.{Steps}
use Rattle.march.specs.declared.test.Test.{Test}
use Rattle.march.specs.Lists.{listed}
use Rattle.march.specs.Table.{elements_of}
use Rattle.march.specs.Tests.{Element, up, down, columns, visits, steps_in_visit, schedule, meant}
use Rattle.march.specs.Going.{steps_left}
use Rattle.march.proofs.Lengths.{cost, schedule_length, per_visit_few}
use Rattle.march.proofs.Lists.{nth_map, listed_few}
use Rattle.march.proofs.Table.{bare}
use Rattle.mlt1.specs.Left.{left_in}
use Rattle.mlt1.proofs.Lefts.{left_steps, left_element, left_end}

-- Where a loop over the elements rs stands: what is left as a visit begins, as an element ends, and past the last one.
module _ (N W : ℕ) (rs : List ElementRecord) (i : ℕ) where
  abbrev pub es : List Element
  es = map meant rs

  abbrev pub here : Element
  here = meant (get_or rs i bare)

  at_place : i < length rs → Some here ≡ slice_get es i
  at_place l = ap (λ o. option_map meant o) (sym (slice_get-get_or rs i bare l)) ∙ sym (nth_map meant rs i)

  pub visit_begins : (v count : ℕ) (from steps : Steps) → i < length rs → v < count → count ≡ visits N W here
      → steps_left from ≡ steps_in_visit N W here v → steps ≡ from
      → left_in N W (drop i es) v 0 ≡ steps_left steps ++ left_in N W (drop i es) (v + 1) 0
  visit_begins v count from steps l more e f s =
      left_steps N W es i here v 0 (at_place l) (omega arith)
      ∙ ap (λ xs. xs ++ left_in N W (drop i es) (v + 1) 0) (sym (ap steps_left s ∙ f))

  pub element_ends : (v count : ℕ) → i < length rs → count ≤ v → count ≡ visits N W here → left_in N W (drop i es) v 0 ≡ left_in N W (drop (i + 1) es) 0 0
  element_ends v count l none e = left_element N W es i here v 0 (at_place l) (omega arith)

  pub all_end : length rs ≤ i → left_in N W (drop i es) 0 0 ≡ []
  all_end l = left_end N W es i 0 0 (sym (slice_get_past es i (omega (arith, length-map rs meant))))

within : (N W : ℕ) (e : Element) → N ≤ 256 → W ≤ 64 → visits N W e ≤ 256
within N W (up os) n w = n
within N W (down os) n w = n
within N W (columns cs) n w = omega arith

cost_few : (rs : List ElementRecord) (N W : ℕ) → N ≤ 256 → W ≤ 64 → cost (map meant rs) N W ≤ length rs * 2048
cost_few [] N W n w = omega arith
cost_few (r ∷ rs) N W n w =
    omega (arith, mul-le-mul (per_visit_few r) (within N W (meant r) n w), cost_few rs N W n w)

pub steps_few : (t : Test) (N W : ℕ) → N ≤ 256 → W ≤ 64 → length (schedule N W (elements_of t)) ≤ 32768
steps_few t N W n w =
    omega (arith, schedule_length (elements_of t) N W, cost_few (listed t.elements) N W n w, listed_few t.elements)
