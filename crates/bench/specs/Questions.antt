-- What each call of a bench asks, in its order. B and S are the array's build and state, b the books.
use Rattle.std.specs.Prelude.{ℕ, ◌+◌, ◌*◌, ◌^◌, Bool, ◌&&◌, List, [], ◌∷◌, is_some, is_none, ◌==◌, nat_le, nat_lt}
use Rattle.cam.specs.Model.{Build, State}
use Rattle.cam.specs.Refusals.{Question, ask}
use Rattle.cam.specs.declared.operation.Operation.{Operation}
use Rattle.cam.specs.declared.operation.Operation.TheVariants.{Write, Read, Compare, Erase}
use Rattle.bench.specs.declared.books.Books.{Books}
use Rattle.bench.specs.Books.{run_in_hand}

-- what a bench lets the tally and the starts come to
abbrev pub limit : ℕ
limit = 1000000000000

-- the operations of a run, and of a chart
abbrev pub run_length : Build → ℕ
run_length B = 11 * B.words + 2 * B.width

abbrev pub chart_length : Build → ℕ
chart_length B = B.words * (8 + 4 * B.width)

-- no run is in hand
abbrev pub idle : Books → Bool
idle b = is_none b.run

abbrev pub room : State → ℕ → Bool
room S n = nat_le (S.tally + n) limit

-- a pattern or a mask has no bit past the width
abbrev pub narrow : Build → ℕ → Bool
narrow B p = nat_lt p (2 ^ B.width)

abbrev pub hand_questions : Build → State → Books → Operation → List Question
hand_questions B S b (Write a p m) =
    ask (idle b) 51 ∷ ask (nat_lt a.number B.words) 52 ∷ ask (narrow B p && narrow B m) 53 ∷ ask (room S 1) 54 ∷ []
hand_questions B S b (Read a) = ask (idle b) 51 ∷ ask (nat_lt a.number B.words) 52 ∷ ask (room S 1) 54 ∷ []
hand_questions B S b (Compare p m) = ask (idle b) 51 ∷ ask (narrow B p && narrow B m) 53 ∷ ask (room S 1) 54 ∷ []
hand_questions B S b (Erase a) = ask (idle b) 51 ∷ ask (nat_lt a.number B.words) 52 ∷ ask (room S 1) 54 ∷ []

abbrev pub start_questions : Build → State → Books → List Question
start_questions B S b = ask (idle b) 51 ∷ ask (room S (run_length B) && nat_le (b.starts + 1) limit) 54 ∷ []

-- a run is in hand, and the ticket is its own
abbrev pub fits : Books → ℕ → Bool
fits b ticket = is_some b.run && ticket == b.starts

abbrev pub step_questions : Books → ℕ → List Question
step_questions b ticket = ask (fits b ticket) 55 ∷ []

abbrev pub close_questions : Build → Books → ℕ → List Question
close_questions B b ticket = ask (fits b ticket) 55 ∷ ask ((run_in_hand b).place == run_length B) 56 ∷ []

abbrev pub quit_questions : Books → ℕ → List Question
quit_questions b ticket = ask (fits b ticket) 55 ∷ []

abbrev pub chart_questions : Build → State → Books → ℕ → List Question
chart_questions B S b bytes =
    ask (idle b) 51 ∷ ask (nat_le (B.words * B.width) bytes) 57 ∷ ask (room S (chart_length B)) 54 ∷ []
