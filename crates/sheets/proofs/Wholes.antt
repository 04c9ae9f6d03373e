-- A sheet that is read is a whole test: 1 to 16 elements of 1 to 8 operations. Assumes nothing.
use Rattle.std.proofs.Common.{◌≡◌, ℕ, ◌+◌, ◌<◌, ◌≤◌, Bool, true, leb, List, [], ◌∷◌, ◌++◌, length, Ok, sym, refl, ap, subst, arith, length-append}
use lib.ListN.{length-map}
use Rattle.std.proofs.lemmas.Bool.Decides.{nat_tests}
use Rattle.std.proofs.lemmas.Bool.{and_parts}
use Rattle.march.specs.declared.element.TestOperation.{TestOperation}
use Rattle.march.specs.declared.element.TestOperation.TheVariants as operation
use Rattle.march.specs.declared.operations.Order.{Order}
use Rattle.march.specs.declared.operations.Order.TheVariants.{Up, Down, Columns}
use Rattle.march.specs.Every.{every}
use Rattle.march.specs.Tests as tests
use Rattle.march.specs.Tests.{up, down, columns}
use Rattle.march.specs.Building.{opened, operations_of, longer, is_filled, is_whole}
use Rattle.words.specs.Lexing.{Token}
use Rattle.words.specs.Readings.{on}
use Rattle.words.specs.Listings.{Gathered, shut, more}
use Rattle.words.proofs.Rules.{same_ok}
use Rattle.sheet_operations.specs.Questions.{room}
use Rattle.sheets.specs.declared.line.LineWord.{LineWord}
use Rattle.sheets.specs.declared.line.LineWord.TheVariants.{Note, Element}
use Rattle.sheets.specs.Elements.{Grows, Inside, ElementAt}
use Rattle.sheets.specs.Lines.{LineBody, LineAt, Lines}
use Rattle.sheets.specs.Sheets.{Sheet, SheetText}

longer_few : (e : tests.Element) (o : TestOperation) → length (operations_of (longer e o)) ≤ length (operations_of e) + 1
longer_few (up os) o = omega (arith, length-append os (o ∷ []))
longer_few (down os) o = omega (arith, length-append os (o ∷ []))
longer_few (columns cs) (operation.Write b) = omega arith
longer_few (columns cs) (operation.Read b) = omega arith
longer_few (columns cs) (operation.Compare c) =
    omega (arith, length-map (cs ++ (c ∷ [])) operation.Compare, length-append cs (c ∷ []), length-map cs operation.Compare)
longer_few (columns cs) operation.Erase = omega arith

grows_few : (text : List ℕ) (e : tests.Element) (t : Token) (g : Gathered tests.Element) → Grows text e t (Ok g) → length (operations_of g.value) ≤ 8
grows_few text e t g (on {x = p} (on (room h) _) q) =
    let same = ap (λ g. length (operations_of g.value)) (same_ok g _ q) in
    omega (arith, longer_few e p.value)

filled : (e : tests.Element) → 0 < length (operations_of e) → length (operations_of e) ≤ 8 → is_filled e ≡ true
filled e some few =
    let s : leb 1 (length (operations_of e)) ≡ true = grind (arith, nat_tests) in
    let f : leb (length (operations_of e)) 8 ≡ true = grind (arith, nat_tests) in
    rw (s, f)

inside_filled : (text : List ℕ) (e : tests.Element) (a : ℕ) (g : Gathered tests.Element) → Inside text e a (Ok g) → length (operations_of e) ≤ 8 → is_filled g.value ≡ true
inside_filled text e a _ (shut x k some) few = filled e some few
inside_filled text e a g (more {t} {y} x k p rest) few = inside_filled text y.value y.to g rest (grows_few text e t y p)

-- so far so good
record Good (es : List tests.Element) : Type 0 where
  few : length es ≤ 16
  all : every is_filled es ≡ true

every_push : (f : tests.Element → Bool) (es : List tests.Element) (e : tests.Element) → every f es ≡ true → f e ≡ true → every f (es ++ (e ∷ [])) ≡ true
every_push f [] e all h = rw h
every_push f (x ∷ es) e all h = let p = and_parts (f x) (every f es) all in rw p.0 (every_push f es e p.1 h)

opened_few : (o : Order) → length (operations_of (opened o)) ≤ 8
opened_few Up = omega arith
opened_few Down = omega arith
opened_few Columns = omega arith

element_good : (o : Order) (es : List tests.Element) (p : ℕ) (text : List ℕ) (a : ℕ) (g : Gathered (List tests.Element)) → ElementAt o es p text a (Ok g) → Good es → Good g.value
element_good o es p text a g (on (room h) (on {x = i} inside q)) good =
    let e = i.value in
    let f = inside_filled text (opened o) a i inside (opened_few o) in
    let n = length-append es (e ∷ []) in
    let new : Good (es ++ (e ∷ [])) = record { few = omega arith; all = every_push is_filled es e good.all f } in
    subst (λ g. Good g.value) (sym (same_ok g _ q)) new

body_good : (text : List ℕ) (es : List tests.Element) (p : ℕ) (w : LineWord) (a : ℕ) (g : Gathered (List tests.Element)) → LineBody text es p w a (Ok g) → Good es → Good g.value
body_good text es p Note a g (on _ q) good = subst (λ g. Good g.value) (sym (same_ok g _ q)) good
body_good text es p (Element o) a g x good = element_good o es p text a g x good

line_good : (text : List ℕ) (es : List tests.Element) (p a : ℕ) (g : Gathered (List tests.Element)) → LineAt text es p a (Ok g) → Good es → Good g.value
line_good text es p a g (on {x = h} _ (on {x = b} body (on _ q))) good =
    subst (λ g. Good g.value) (sym (same_ok g _ q)) (body_good text es p h.value h.to b body good)

whole : (es : List tests.Element) → 0 < length es → Good es → is_whole es ≡ true
whole es some good =
    let few = good.few in
    let s : leb 1 (length es) ≡ true = grind (arith, nat_tests) in
    let f : leb (length es) 16 ≡ true = grind (arith, nat_tests) in
    rw (s, f, good.all)

lines_whole : (text : List ℕ) (es : List tests.Element) (a : ℕ) (g : Gathered (List tests.Element)) → Lines text es a (Ok g) → Good es → is_whole g.value ≡ true
lines_whole text es a _ (shut x k some) good = whole es some good
lines_whole text es a g (more {t} {y} x k p rest) good = lines_whole text y.value y.to g rest (line_good text es t.from t.to y p good)

pub sheet_whole : (text : List ℕ) (s : Sheet) → SheetText text (Ok s) → is_whole s.elements ≡ true
sheet_whole text s (on {x = h} _ (on {x = g} lines (on _ (on _ q)))) =
    subst (λ s. is_whole s.elements ≡ true) (sym (same_ok s _ q)) (lines_whole text [] h.to g lines (record { few = omega arith; all = refl }))
