-- The grammar of an element of a sheet, from after the word of its order on.
use Rattle.std.specs.Prelude.{◌≡◌, ℕ, ◌<◌, List, [], ◌∷◌, ◌++◌, length, Ok, Result}
use Rattle.cam.specs.declared.fault.Fault.{Fault}
use Rattle.march.specs.declared.operations.Order.{Order}
use Rattle.march.specs.Tests.{Element}
use Rattle.march.specs.Building.{opened, order_of, operations_of, longer}
use Rattle.words.specs.Lexing.{Token}
use Rattle.words.specs.Readings.{Then}
use Rattle.words.specs.Listings.{Gathered, gathered, Listing}
use Rattle.sheet_operations.specs.Questions.{ElementRoom}
use Rattle.sheet_operations.specs.Operations.{OperationAt}

-- an element has an operation at least
abbrev pub Filled : Element → Type 0
Filled e = 0 < length (operations_of e)

-- one more operation, which the bracket t opens
abbrev pub Grows : List ℕ → Element → Token → Result (Gathered Element) Fault → Type 0
Grows text e t =
    Then (OperationAt (order_of e) (length (operations_of e)) text t.from t.to)
    (λ p r. r ≡ Ok (gathered (longer e p.value) p.to))

-- inside the element e, what follows at `a` gives: its operations, up to its closing bracket
abbrev pub Inside : List ℕ → Element → ℕ → Result (Gathered Element) Fault → Type 0
Inside text = Listing Filled (Grows text) text

-- one more element after the elements es, of the order o; its bracket stands at p
abbrev pub ElementAt : Order → List Element → ℕ → List ℕ → ℕ → Result (Gathered (List Element)) Fault → Type 0
ElementAt o es p text a =
    Then (ElementRoom (length es) p) (λ _.
    Then (Inside text (opened o) a)
    (λ g r. r ≡ Ok (gathered (es ++ (g.value ∷ [])) g.to)))
