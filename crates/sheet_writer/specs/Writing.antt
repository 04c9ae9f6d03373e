-- What the calls of the sheet writer ask, and what they leave in the buffer.
use Rattle.std.specs.Prelude.{◌≡◌, ℕ, ◌+◌, Bool, List, [], ◌∷◌, length, Ok, Err, Result, nat_le, nat_lt}
use Rattle.cam.specs.declared.fault.Returned.{Returned}
use Rattle.cam.specs.Buffers.{over}
use Rattle.cam.specs.Refusals.{Question, ask}
use Rattle.march.specs.declared.element.TestOperation.{TestOperation}
use Rattle.march.specs.declared.operations.Order.{Order}
use Rattle.march.specs.Building.{opened, allows}
use Rattle.march.specs.Letters.{is_name}
use Rattle.sheet_writer.specs.declared.states.BetweenElements.{BetweenElements}
use Rattle.sheet_writer.specs.declared.states.InsideElement.{InsideElement}
use Rattle.sheet_writer.specs.Sheets.{beginning, heading, operation_piece, ending}

-- whether a piece fits into a buffer from a place on
abbrev pub fits : ℕ → List ℕ → List ℕ → Bool
fits at piece buffer = nat_le (at + length piece) (length buffer)

-- the states: the place for the next piece, and how many elements were opened and operations written into the last one
abbrev pub between : ℕ → ℕ → BetweenElements
between at elements = record { at = at; elements = elements }

abbrev pub inside : ℕ → Order → ℕ → ℕ → InsideElement
inside at order elements operations =
    record { at = at; order = order; elements = elements; operations = operations }

-- What each call asks, in this order. 63: is it a name? 31: fewer than sixteen elements? 32: fewer than eight
-- operations? 33: may the element have this operation? 61: does the piece fit? 62: is there something inside?
abbrev pub begin_questions : List ℕ → List ℕ → List Question
begin_questions name buffer = ask (is_name name) 63 ∷ ask (fits 0 (beginning name) buffer) 61 ∷ []

abbrev pub open_questions : BetweenElements → Order → List ℕ → List Question
open_questions s order buffer = ask (nat_lt s.elements 16) 31 ∷ ask (fits s.at (heading order) buffer) 61 ∷ []

abbrev pub write_questions : InsideElement → TestOperation → List ℕ → List Question
write_questions s o buffer =
    ask (nat_lt s.operations 8) 32 ∷ ask (allows (opened s.order) o) 33 ∷ ask (fits s.at (operation_piece o) buffer) 61 ∷ []

abbrev pub close_questions : InsideElement → List ℕ → List Question
close_questions s buffer = ask (fits s.at ending buffer) 61 ∷ ask (nat_lt 0 s.operations) 62 ∷ []

abbrev pub end_questions : BetweenElements → List ℕ → List Question
end_questions s buffer = ask (fits s.at ending buffer) 61 ∷ ask (nat_lt 0 s.elements) 62 ∷ []

-- A call in the state s writes a piece and answers t: the piece stands over the buffer from the state's place on, and
-- all other bytes are as they were. A refused call hands s back and leaves every byte as it was.
abbrev pub Writes : {S T : Type 0} → List ℕ → ℕ → S → T → List ℕ → List ℕ → Result T (Returned S) → Type 0
Writes piece at s t old new (Ok r) = (r ≡ t) × (new ≡ over old at piece)
Writes piece at s t old new (Err e) = (e.back ≡ s) × (new ≡ old)
