-- Sheets that are written piece by piece, whatever calls wrote them.
use Rattle.std.specs.Prelude.{◌≡◌, ℕ, ◌+◌, List, [], ◌∷◌, ◌++◌, length}
use Rattle.cam.specs.Buffers.{over}
use Rattle.cam.specs.Refusals.{first_no}
use Rattle.march.specs.declared.element.TestOperation.{TestOperation}
use Rattle.march.specs.declared.operations.Order.{Order}
use Rattle.march.specs.Tests.{Element}
use Rattle.march.specs.Building.{opened, longer}
use Rattle.sheet_writer.specs.declared.states.BetweenElements.{BetweenElements}
use Rattle.sheet_writer.specs.declared.states.InsideElement.{InsideElement}
use Rattle.sheet_writer.specs.Sheets.{beginning, heading, operation_piece, ending, sheet}
use Rattle.sheet_writer.specs.Writing.{between, inside, begin_questions, open_questions, write_questions, close_questions, end_questions}
use Rattle.test_sheets.specs.RoundTrip.{Says}

-- where a sheet stands: no element is open, or this one is
pub data Standing : Type 0 where
  between_elements : BetweenElements → Standing
  in_element : Element → InsideElement → Standing

-- Written name old es s new: granted calls, each on the buffer that the one before left, began a sheet of this name in the
-- buffer `old`, wrote the elements es, and left it standing as s, in the buffer `new`. Refused calls change nothing.
pub data Written (name old : List ℕ) : List Element → Standing → List ℕ → Type 0 where
  begun : first_no (begin_questions name old) ≡ 0
      → Written name old [] (between_elements (between (length (beginning name)) 0)) (over old 0 (beginning name))
  opens : {es : List Element} {s : BetweenElements} {b : List ℕ} (o : Order) → Written name old es (between_elements s) b → first_no (open_questions s o b) ≡ 0
      → Written name old es (in_element (opened o) (inside (s.at + length (heading o)) o (s.elements + 1) 0)) (over b s.at (heading o))
  writes : {es : List Element} {e : Element} {s : InsideElement} {b : List ℕ} (o : TestOperation) → Written name old es (in_element e s) b → first_no (write_questions s o b) ≡ 0
      → Written name old es (in_element (longer e o) (inside (s.at + length (operation_piece o)) s.order s.elements (s.operations + 1))) (over b s.at (operation_piece o))
  closes : {es : List Element} {e : Element} {s : InsideElement} {b : List ℕ} → Written name old es (in_element e s) b → first_no (close_questions s b) ≡ 0
      → Written name old (es ++ (e ∷ [])) (between_elements (between (s.at + length ending) s.elements)) (over b s.at ending)

-- an ended sheet: the buffer has the sheet of the elements that were written at its front, and that reads as just these
pub record Ends (name old : List ℕ) (es : List Element) (s : BetweenElements) (b : List ℕ) : Type 0 where
  pub text : over b s.at ending ≡ over old 0 (sheet name es)
  pub size : s.at + length ending ≡ length (sheet name es)
  pub reads : Says (sheet name es) name es

-- Every sheet that the calls of the writer begin and end reads back as what was written.
abbrev pub PiecesReadBack : Type 0
PiecesReadBack =
    (name old b : List ℕ) (es : List Element) (s : BetweenElements)
    → Written name old es (between_elements s) b → first_no (end_questions s b) ≡ 0 → Ends name old es s b
