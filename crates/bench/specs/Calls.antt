-- What each call makes of a bench: granted where each question is answered yes, else refused and without effect.
use Rattle.std.specs.Prelude.{◌≡◌, ℕ, min, List, [], ◌∷◌, ◌++◌, length, ◌≢◌}
use Rattle.cam.specs.Model.{Build, State}
use Rattle.cam.specs.Operations.{operated, after_all}
use Rattle.cam.specs.Refusals.{Question, first_no}
use Rattle.mlt1.specs.Left.{left, Went}
use Rattle.chart.specs.Chart.{chart_operations, blemishes}
use Rattle.bench.specs.declared.books.Books.{Books}
use Rattle.bench.specs.declared.calls.Call.{Call}
use Rattle.bench.specs.declared.calls.Call.TheVariants.{ByHand, Start, Step, Close, Quit, Chart, Finding}
use Rattle.bench.specs.Books.{run_in_hand, handled, started, with_run, closed, stopped, charted}
use Rattle.bench.specs.Questions.{hand_questions, start_questions, step_questions, close_questions, quit_questions, chart_questions}

-- what of a bench can change: the state of its array, and its books
pub record Desk : Type 0 where
  pub state : State
  pub books : Books

abbrev pub desk : State → Books → Desk
desk S b = record { state = S; books = b }

-- where each question is answered yes the one holds, else the other
abbrev pub Decided : List Question → Type 0 → Type 0 → Type 0
Decided qs granted refused = (first_no qs ≡ 0 → granted) × ((first_no qs ≢ 0) → refused)

-- what a list of calls has for a chart: a byte for each cell of the largest array, 256 words of 64 bits
abbrev pub chart_bytes : ℕ
chart_bytes = 16384

-- A call leads from the desk D to the desk E. A chart is drawn into a buffer of so many bytes, at most all of M.
abbrev pub Performs : Build → ℕ → Call → Desk → Desk → Type 0
Performs B M (ByHand o) D E =
    Decided (hand_questions B D.state D.books o) (E ≡ desk (operated B o D.state) (handled D.books)) (E ≡ D)
Performs B M Start D E =
    Decided (start_questions B D.state D.books) (E ≡ desk D.state (started D.books)) (E ≡ D)
Performs B M (Step ticket most) D E =
    Decided (step_questions D.books ticket)
    (Went B (min most (length (left B.words B.width (run_in_hand D.books)))) (run_in_hand D.books) (run_in_hand E.books) D.state E.state
    × (E.books ≡ with_run (run_in_hand E.books) D.books))
    (E ≡ D)
Performs B M (Close ticket) D E =
    Decided (close_questions B D.books ticket) (E ≡ desk D.state (closed D.books)) (E ≡ D)
Performs B M (Quit ticket) D E =
    Decided (quit_questions D.books ticket) (E ≡ desk D.state (stopped D.books)) (E ≡ D)
Performs B M (Chart bytes) D E =
    Decided (chart_questions B D.state D.books (min bytes M))
    (E ≡ desk (after_all B (chart_operations B.words B.width) D.state) (charted (blemishes B) D.books))
    (E ≡ D)
Performs B M Finding D E = E ≡ D

-- a list of calls, one after the other
pub data Performed (B : Build) (M : ℕ) : List Call → Desk → Desk → Type 0 where
  none : (D : Desk) → Performed B M [] D D
  then : (cs : List Call) (c : Call) (D E F : Desk) → Performed B M cs D E → Performs B M c E F → Performed B M (cs ++ c ∷ []) D F
