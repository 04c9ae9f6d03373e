-- The judging of an array from start to end.
use Rattle.std.specs.Prelude.{◌≡◌, ℕ, ◌+◌, ◌*◌, ◌↔◌, List, [], ◌∷◌, nat_le}
use Rattle.cam.specs.Model.{Build, State}
use Rattle.cam.specs.Defects.{Sound}
use Rattle.cam.specs.Operations.{after_all}
use Rattle.cam.specs.Refusals.{Question, ask}
use Rattle.march.specs.Tests.{schedule, misses, after}
use Rattle.mlt1.specs.Mlt1.{mlt1}
use Rattle.chart.specs.Chart.{chart_operations, blemishes}
use Rattle.bench.specs.declared.judging.Judgement.{Judgement}
use Rattle.bench.specs.Books.{found, finding_number}
use Rattle.bench.specs.Questions.{run_length, chart_length, room}

-- a byte for each cell, and room for a run and a chart
abbrev pub judge_questions : Build → State → ℕ → List Question
judge_questions B S bytes = ask (nat_le (B.words * B.width) bytes) 57 ∷ ask (room S (run_length B + chart_length B)) 54 ∷ []

-- the misses of a whole run from the state S
abbrev pub run_misses : Build → State → ℕ
run_misses B S = misses B (schedule B.words B.width mlt1) S

-- the state after a whole run and a chart
abbrev pub judged_state : Build → State → State
judged_state B S =
    after_all B (chart_operations B.words B.width) (after B (schedule B.words B.width mlt1) S)

pub record Judges (B : Build) (S : State) (j : Judgement) : Type 0 where
  pub words : j.size.words ≡ B.words
  pub width : j.size.width ≡ B.width
  pub operations : j.operations ≡ run_length B
  pub finding : j.finding ≡ found (run_misses B S)
  pub sound : (finding_number j.finding ≡ 1) ↔ Sound B
  pub charting : j.charting ≡ chart_length B
  pub blemished : j.blemished ≡ blemishes B
