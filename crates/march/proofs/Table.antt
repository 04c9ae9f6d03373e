-- The elements of a test: how many there are, and the last one.
use Rattle.std.proofs.Common.{nat_le, nat_lt, ◌&&◌, ap₂, ◌≡◌, ℕ, ◌+◌, ◌<◌, ◌≤◌, min, List, [], ◌∷◌, ◌++◌, map, length, get_or, take, set, Ok, Err, Result, sym, refl, ap, ◌∙◌, subst, arith, MatchResult}
use lib.ListN.{length-map}
use Rattle.std.specs.List.{list_all}
use Rattle.std.proofs.lemmas.Bool.Decides.{nat_tests}
use Rattle.std.proofs.lemmas.List.{map_more, take_more_set, map_push, set-get_or}
use Rattle.cam.specs.Refusals.{Asks}
use Rattle.cam.specs.declared.fault.Fault.{Fault}
use Rattle.march.specs.declared.element.TestOperation.{TestOperation}
use Rattle.march.specs.declared.element.TestOperation.TheVariants.{Compare}
use Rattle.march.specs.declared.element.Element.{Element as ElementRecord}
use Rattle.march.specs.declared.element.Element.TheVariants.{Up, Down, Columns}
use Rattle.march.specs.declared.test.Test.{Test}
use Rattle.march.specs.Lists.{listed}
use Rattle.march.specs.Tests.{Element, meant}
use Rattle.march.specs.Every.{every}
use Rattle.march.specs.Building.{is_filled, operations_of, longer, last_longer, element_questions, operation_questions}
use Rattle.march.specs.Table.{elements_of}
use Rattle.march.proofs.Lists.{listed_length, listed_few}

-- an element with nothing in it, where a table has none
abbrev pub bare : ElementRecord
bare = Up (record { items = []; count = 0 })

pub elements_few : (t : Test) → length (elements_of t) ≤ 16
elements_few t = omega (arith, length-map (listed t.elements) meant, listed_few t.elements)

pub elements_counted : (t : Test) → length t.elements.items ≡ 16 → length (elements_of t) ≡ min t.elements.count 16
elements_counted t e = omega (arith, length-map (listed t.elements) meant, listed_length t.elements e)

-- the last element of a table
pub last_of : (es : List ElementRecord) (n i : ℕ) (d : ElementRecord) → n ≡ i + 1 → i < length es → map meant (take n es) ≡ map meant (take i es) ++ (meant (get_or es i d) ∷ [])
last_of es n i d e l = ap (λ (k : ℕ). map meant (take k es)) e ∙ map_more meant es i d l

-- the last element of a table, where it was just set
pub last_set : (es : List ElementRecord) (n i : ℕ) (x : ElementRecord) → n ≡ i + 1 → i < length es → map meant (take n (set es i x)) ≡ map meant (take i es) ++ (meant x ∷ [])
last_set es n i x e l = ap (λ (k : ℕ). map meant (take k (set es i x))) e ∙ ap (map meant) (take_more_set es i x l) ∙ map_push meant (take i es) x

pub longer_at_end : (es : List Element) (e : Element) (o : TestOperation) → last_longer (es ++ (e ∷ [])) o ≡ es ++ (longer e o ∷ [])
longer_at_end [] e o = refl
longer_at_end (x ∷ []) e o = refl
longer_at_end (x ∷ y ∷ es) e o = ap (λ l. x ∷ l) (longer_at_end (y ∷ es) e o)

pub questions_at_end : (es : List Element) (e : Element) (o : TestOperation) → operation_questions (es ++ (e ∷ [])) o ≡ element_questions e o
questions_at_end [] e o = refl
questions_at_end (x ∷ []) e o = refl
questions_at_end (x ∷ y ∷ es) e o = questions_at_end (y ∷ es) e o

-- the test with another element in a place of its table
abbrev pub with_element : Test → ℕ → ElementRecord → Test
with_element t i x =
    record { name = t.name; elements = record { items = set t.elements.items i x; count = t.elements.count } }

-- what the last element's answer makes of the test
pub added : (t : Test) (i : ℕ) (o : TestOperation) (r : Result (Unit {0}) Fault) (d x : ElementRecord)
    → min t.elements.count 16 ≡ i + 1 → i < length t.elements.items
    → Asks (element_questions (meant (get_or t.elements.items i d)) o) r
    → MatchResult r (λ _. meant x ≡ longer (meant (get_or t.elements.items i d)) o) (λ _. x ≡ get_or t.elements.items i d)
    → Asks (operation_questions (elements_of t) o) r
    × MatchResult r (λ _. elements_of (with_element t i x) ≡ last_longer (elements_of t) o) (λ _. with_element t i x ≡ t)
added t i o r d x n l asks does =
    let es = t.elements.items in
    let last = last_of es (min t.elements.count 16) i d n l in
    let asked : operation_questions (elements_of t) o ≡ element_questions (meant (get_or es i d)) o =
    ap (λ l. operation_questions l o) last ∙ questions_at_end (map meant (take i es)) (meant (get_or es i d)) o in (
      subst (λ q. Asks q r) (sym asked) asks,
      done r does,
    )
  where
    done : (r : Result (Unit {0}) Fault) → MatchResult r (λ _. meant x ≡ longer (meant (get_or t.elements.items i d)) o) (λ _. x ≡ get_or t.elements.items i d)
        → MatchResult r (λ _. elements_of (with_element t i x) ≡ last_longer (elements_of t) o) (λ _. with_element t i x ≡ t)
    done (Ok u) e =
        let es = t.elements.items in
        last_set es (min t.elements.count 16) i x n l
        ∙ ap (λ y. map meant (take i es) ++ (y ∷ [])) e
        ∙ sym (ap (λ l. last_longer l o) (last_of es (min t.elements.count 16) i d n l) ∙ longer_at_end (map meant (take i es)) (meant (get_or es i d)) o)
    done (Err f) e =
        let same : set t.elements.items i x ≡ t.elements.items = ap (set t.elements.items i) e ∙ set-get_or t.elements.items i d in
        λ j. record { name = t.name; elements = record { items = same j; count = t.elements.count } }

-- an element of the code has at most eight operations
pub operations_few : (e : ElementRecord) → length (operations_of (meant e)) ≤ 8
operations_few (Up os) = omega (arith, listed_few os)
operations_few (Down os) = omega (arith, listed_few os)
operations_few (Columns cs) = omega (arith, length-map (listed cs) Compare, listed_few cs)

-- each element has an operation, so each is filled
pub filled_all : (es : List ElementRecord) → list_all (λ (e : ElementRecord). nat_lt 0 (length (operations_of (meant e)))) es ≡ every is_filled (map meant es)
filled_all [] = refl
filled_all (e ∷ es) = ap₂ ◌&&◌ (few (length (operations_of (meant e))) (operations_few e)) (filled_all es)
  where
    few : (n : ℕ) → n ≤ 8 → nat_lt 0 n ≡ (nat_le 1 n && nat_le n 8)
    few n l = grind (arith, nat_tests)
