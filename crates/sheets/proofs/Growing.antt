-- An element that grows in the test as its operations are read. Assumes nothing.
use Rattle.std.proofs.Common.{◌≡◌, ℕ, ◌+◌, ◌<◌, true, ltb, List, [], ◌∷◌, ◌++◌, length, Ok, Result, sym, refl, ap, ◌∙◌, subst, arith, length-append}
use lib.ListN.{length-map}
use Rattle.std.proofs.lemmas.Bool.Decides.{nat_tests}
use Rattle.cam.specs.declared.fault.Fault.{Fault}
use Rattle.cam.specs.Refusals.{first_no, Refused}
use Rattle.cam.proofs.Asking.{refused_not_0, both_yes}
use Rattle.march.specs.declared.element.TestOperation.{TestOperation}
use Rattle.march.specs.declared.element.TestOperation.TheVariants as operation
use Rattle.march.specs.declared.operations.Order.{Order}
use Rattle.march.specs.declared.operations.Order.TheVariants.{Columns}
use Rattle.march.specs.Tests.{Element, up, down, columns}
use Rattle.march.specs.Building.{order_of, operations_of, is_compare, allows, longer, last_longer, operation_questions}
use Rattle.march.proofs.Table.{longer_at_end, questions_at_end}
use Rattle.words.specs.Readings.{on, Gathered}
use Rattle.words.proofs.Rules.{same_ok}
use Rattle.sheet_operations.specs.declared.letter.Letter.{Letter}
use Rattle.sheet_operations.specs.declared.letter.Letter.TheVariants as letter
use Rattle.sheet_operations.specs.Questions.{allowed, room}
use Rattle.sheet_operations.specs.Operations.{Rest, OperationAt}

pub longer_order : (e : Element) (o : TestOperation) → order_of (longer e o) ≡ order_of e
longer_order (up os) o = refl
longer_order (down os) o = refl
longer_order (columns cs) (operation.Write b) = refl
longer_order (columns cs) (operation.Read b) = refl
longer_order (columns cs) (operation.Compare c) = refl
longer_order (columns cs) operation.Erase = refl

longer_count : (e : Element) (o : TestOperation) → allows e o ≡ true → length (operations_of (longer e o)) ≡ length (operations_of e) + 1
longer_count (up os) o a = length-append os (o ∷ [])
longer_count (down os) o a = length-append os (o ∷ [])
longer_count (columns cs) (operation.Write b) a = absurd (cc)
longer_count (columns cs) (operation.Read b) a = absurd (cc)
longer_count (columns cs) (operation.Compare c) a =
    length-map (cs ++ (c ∷ [])) operation.Compare ∙ length-append cs (c ∷ []) ∙ ap (λ n. n + 1) (sym (length-map cs operation.Compare))
longer_count (columns cs) operation.Erase a = absurd (cc)

-- the letter c gives a compare
rest_compares : (text : List ℕ) (l : Letter) (a : ℕ) (p : Gathered TestOperation) → Rest text l a (Ok p) → l ≡ letter.Compare → is_compare p.value ≡ true
rest_compares text letter.Write a p x e = absurd (cc)
rest_compares text letter.Read a p x e = absurd (cc)
rest_compares text letter.Compare a p (on b (on h (on c q))) e = ap (λ p. is_compare p.value) (same_ok p _ q)
rest_compares text letter.Erase a p x e = absurd (cc)

columns_compare : (o : Order) (count : ℕ) (text : List ℕ) (q a : ℕ) (p : Gathered TestOperation) → OperationAt o count text q a (Ok p) → o ≡ Columns → is_compare p.value ≡ true
columns_compare o count text q a p (on _ (on {x = h} _ (on (allowed only) x))) e = rest_compares text h.letter h.to p x (only e)

-- an operation that was read is one that its element may have
read_allows : (e : Element) (count : ℕ) (text : List ℕ) (q a : ℕ) (p : Gathered TestOperation) → OperationAt (order_of e) count text q a (Ok p) → allows e p.value ≡ true
read_allows (up os) count text q a p x = refl
read_allows (down os) count text q a p x = refl
read_allows (columns cs) count text q a p x = columns_compare Columns count text q a p x refl

pub read_room : (o : Order) (count : ℕ) (text : List ℕ) (q a : ℕ) (p : Gathered TestOperation) → OperationAt o count text q a (Ok p) → count < 8
read_room o count text q a p (on (room h) _) = h

-- the last element of a test while it is read: it has `count` operations so far
module _ {text : List ℕ} (e : Element) {o : Order} {count : ℕ} (ordered : order_of e ≡ o) (counted : count ≡ length (operations_of e)) where
  -- an operation of the element, or a fault
  pub at_element : {q a : ℕ} {r : Result (Gathered TestOperation) Fault} → OperationAt o count text q a r → OperationAt (order_of e) (length (operations_of e)) text q a r
  at_element {q} {a} {r} x = subst (λ o. OperationAt o (length (operations_of e)) text q a r) (sym ordered) (subst (λ n. OperationAt o n text q a r) counted x)

  -- which then has one more
  pub longer_counted : {q a : ℕ} (p : Gathered TestOperation) → OperationAt o count text q a (Ok p) → count + 1 ≡ length (operations_of (longer e p.value))
  longer_counted {q} {a} p x = omega (arith, counted, longer_count e p.value (read_allows e _ text q a p (at_element x)))

  -- the test takes every operation that was read
  pub taken : {q a : ℕ} {all : List Element} (es : List Element) (p : Gathered TestOperation) (f : Fault) → all ≡ es ++ (e ∷ []) → OperationAt o count text q a (Ok p) → Refused (first_no (operation_questions all p.value)) f → ⊥
  taken {q} {a} es p f ending reads refusal =
      let y = at_element reads in
      let h = read_room (order_of e) _ text q a p y in
      let some : ltb (length (operations_of e)) 8 ≡ true = grind (arith, nat_tests) in
      let asked = ap (λ l. first_no (operation_questions l p.value)) ending ∙ ap first_no (questions_at_end es e p.value) in
      refused_not_0 _ f refusal (asked ∙ both_yes _ _ 32 33 some (read_allows e _ text q a p y))

-- and its last element alone gets longer
pub longer_ending : {all new : List Element} (es : List Element) (e : Element) (o : TestOperation) → all ≡ es ++ (e ∷ []) → new ≡ last_longer all o → new ≡ es ++ (longer e o ∷ [])
longer_ending es e o ending is = is ∙ ap (λ l. last_longer l o) ending ∙ longer_at_end es e o
