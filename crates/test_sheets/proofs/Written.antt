-- Pieces written one after another, and that each is granted.
use Rattle.std.proofs.Common.{◌≡◌, ℕ, ◌+◌, ◌<◌, ◌≤◌, true, ltb, List, [], ◌∷◌, ◌++◌, length, Ok, Err, Result, IsOk, sym, refl, ap, ◌∙◌, add-zero, arith, length-append}
use Rattle.std.specs.List.{flat_map}
use Rattle.std.proofs.lemmas.List.{flat_map_more}
use Rattle.std.proofs.lemmas.Bool.{lt-ltb, le-leb, cond-true}
use Rattle.cam.specs.Buffers.{over}
use Rattle.cam.specs.Refusals.{Question, first_no, AsksIn}
use Rattle.cam.proofs.Asking.{both_yes, refused_not_0}
use Rattle.cam.proofs.Buffers.{over_nil, over_over}
use Rattle.march.specs.declared.element.TestOperation.{TestOperation}
use Rattle.march.specs.Building.{opened, allows}
use Rattle.sheet_writer.specs.declared.states.InsideElement.{InsideElement}
use Rattle.cam.specs.declared.fault.Returned.{Returned}
use Rattle.sheet_writer.specs.Sheets.{operation_piece}
use Rattle.sheet_writer.specs.Writing.{fits, write_questions}

-- the pieces of the items that are done were written from a place on; the next comes at another
pub record Pieces {X : Type 0} (f : X → List ℕ) (from : ℕ) (done : List X) (old cur : List ℕ) (at : ℕ) : Type 0 where
  pub place : at ≡ from + length (flat_map f done)
  pub text : cur ≡ over old from (flat_map f done)

module _ {X : Type 0} (f : X → List ℕ) (from : ℕ) (old : List ℕ) where
  pub pieces_none : Pieces f from [] old old from
  pieces_none = record { place = sym (add-zero from); text = sym (over_nil old from) }

  pub pieces_more : (done : List X) (cur new : List ℕ) (at to : ℕ) (x : X)
      → Pieces f from done old cur at → from + length (flat_map f done) + length (f x) ≤ length old
      → to ≡ at + length (f x) → new ≡ over cur at (f x)
      → Pieces f from (done ++ (x ∷ [])) old new to
  pieces_more done cur new at to x so room next put =
      let joined : flat_map f done ++ f x ≡ flat_map f (done ++ (x ∷ [])) = flat_map_more f [] done x in
      record {
        place = omega (arith, so.place, ap length joined, length-append (flat_map f done) (f x));
        text = put ∙ (λ j. over (so.text j) (so.place j) (f x)) ∙ over_over old (flat_map f done) (f x) from room ∙ ap (over old from) joined;
      }

-- a call of the writer whose questions are all answered yes is granted
pub granted : {S T : Type 0} (qs : List Question) (r : Result T (Returned S)) → AsksIn (λ e. e.fault) qs r → first_no qs ≡ 0 → IsOk r
granted qs (Ok x) asked each = refl
granted qs (Err e) asked each = absurd (refused_not_0 _ _ asked each)

-- and so is an operation that the element may have, where there is room for it
pub operation_granted : (cur : List ℕ) (t : InsideElement) (o : TestOperation)
    → t.operations < 8 → allows (opened t.order) o ≡ true → t.at + length (operation_piece o) ≤ length cur
    → first_no (write_questions t o cur) ≡ 0
operation_granted cur t o few allowed room =
    cond-true (ltb t.operations 8) _ 32 (lt-ltb t.operations 8 few)
    ∙ both_yes (allows (opened t.order) o) (fits t.at (operation_piece o) cur) 33 61 allowed (le-leb (t.at + length (operation_piece o)) (length cur) room)
