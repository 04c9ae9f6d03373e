-- Elements that grow by their operations.
use Rattle.std.proofs.Common.{◌≡◌, ℕ, ◌+◌, Bool, true, false, ◌&&◌, List, [], ◌∷◌, ◌++◌, map, length, sym, refl, ap, ◌∙◌, append_assoc, append-nil, arith}
use lib.ListN.{length-map}
use Rattle.std.proofs.lemmas.List.{length_push}
use Rattle.march.specs.Every.{every}
use Rattle.march.specs.declared.element.Comparison.{Comparison}
use Rattle.march.specs.declared.element.TestOperation.{TestOperation}
use Rattle.march.specs.declared.element.TestOperation.TheVariants.{Write, Read, Compare, Erase}
use Rattle.march.specs.declared.operations.Order.TheVariants.{Columns}
use Rattle.march.specs.Tests.{Element, up, down, columns}
use Rattle.march.specs.Building.{opened, order_of, operations_of, is_compare, allows, longer}

-- the element with more operations at its end, one after the other
abbrev pub grown : Element → List TestOperation → Element
grown e [] = e
grown e (o ∷ os) = grown (longer e o) os

grown_up : (os xs : List TestOperation) → grown (up xs) os ≡ up (xs ++ os)
grown_up [] xs = ap up (sym (append-nil xs))
grown_up (o ∷ os) xs = grown_up os (xs ++ (o ∷ [])) ∙ ap up (append_assoc xs (o ∷ []) os)

grown_down : (os xs : List TestOperation) → grown (down xs) os ≡ down (xs ++ os)
grown_down [] xs = ap down (sym (append-nil xs))
grown_down (o ∷ os) xs = grown_down os (xs ++ (o ∷ [])) ∙ ap down (append_assoc xs (o ∷ []) os)

grown_columns : (cs xs : List Comparison) → grown (columns xs) (map Compare cs) ≡ columns (xs ++ cs)
grown_columns [] xs = ap columns (sym (append-nil xs))
grown_columns (c ∷ cs) xs = grown_columns cs (xs ++ (c ∷ [])) ∙ ap columns (append_assoc xs (c ∷ []) cs)

-- an element is what its operations make of an empty one
pub grown_whole : (e : Element) → grown (opened (order_of e)) (operations_of e) ≡ e
grown_whole (up os) = grown_up os []
grown_whole (down os) = grown_down os []
grown_whole (columns cs) = grown_columns cs []

-- which operations an element may have does not change as it grows
same_allows : (e : Element) (o p : TestOperation) → allows (longer e o) p ≡ allows e p
same_allows (up os) o p = refl
same_allows (down os) o p = refl
same_allows (columns cs) (Write b) p = refl
same_allows (columns cs) (Read b) p = refl
same_allows (columns cs) (Compare c) p = refl
same_allows (columns cs) Erase p = refl

every_same : {X : Type 0} (f g : X → Bool) (xs : List X) → ((x : X) → f x ≡ g x) → every f xs ≡ every g xs
every_same f g [] e = refl
every_same f g (x ∷ xs) e = λ j. e x j && every_same f g xs e j

pub allows_longer : (e : Element) (o : TestOperation) (os : List TestOperation) → every (allows e) os ≡ true → every (allows (longer e o)) os ≡ true
allows_longer e o os h = every_same (allows (longer e o)) (allows e) os (same_allows e o) ∙ h

never : {A : Type 0} → false ≡ true → A
never e = absurd (let z : ◌≡◌ {A = ℕ} 0 1 = cc in omega arith)

pub length_longer : (e : Element) (o : TestOperation) → allows e o ≡ true → length (operations_of (longer e o)) ≡ length (operations_of e) + 1
length_longer (up os) o h = length_push os o
length_longer (down os) o h = length_push os o
length_longer (columns cs) (Write b) h = never h
length_longer (columns cs) (Read b) h = never h
length_longer (columns cs) (Compare c) h = omega (arith, length-map (cs ++ (c ∷ [])) Compare, length_push cs c, length-map cs Compare)
length_longer (columns cs) Erase h = never h

-- in columns, what an element may have is a compare
pub columns_compare : (e : Element) (o : TestOperation) → allows e o ≡ true → order_of e ≡ Columns → is_compare o ≡ true
columns_compare (up os) o h e = absurd (let z : ◌≡◌ {A = ℕ} 0 1 = cc in omega arith)
columns_compare (down os) o h e = absurd (let z : ◌≡◌ {A = ℕ} 0 1 = cc in omega arith)
columns_compare (columns cs) o h e = h

-- an element may have its own operations
pub every_allowed : (e : Element) → every (allows (opened (order_of e))) (operations_of e) ≡ true
every_allowed (up os) = all os
  where
    all : (os : List TestOperation) → every (allows (up [])) os ≡ true
    all [] = refl
    all (o ∷ os) = all os
every_allowed (down os) = all os
  where
    all : (os : List TestOperation) → every (allows (down [])) os ≡ true
    all [] = refl
    all (o ∷ os) = all os
every_allowed (columns cs) = all cs
  where
    all : (cs : List Comparison) → every (allows (columns [])) (map Compare cs) ≡ true
    all [] = refl
    all (c ∷ cs) = all cs
