-- The three rules of a bench.
use Rattle.std.specs.Prelude.{◌≡◌, ℕ, ◌+◌, ◌*◌, ◌⊎◌, ◌↔◌}
use Rattle.cam.specs.Model.{Build, State}
use Rattle.cam.specs.Defects.{Sound}
use Rattle.chart.specs.Chart.{blemishes}
use Rattle.bench.specs.declared.books.Books.{Books}
use Rattle.bench.specs.Books.{run_in_hand, finding_number, finding_count}
use Rattle.bench.specs.Questions.{run_length, chart_length}

-- B is the array's build, `made` its tally when the bench was made, S its state now, and b the bench's books.
pub record Rules (B : Build) (made : ℕ) (S : State) (b : Books) : Type 0 where
  -- the finding is right: sound only without a listed defect, faulty only with some, charted with the number of
  -- blemished cells
  pub sound_is_sound : finding_number b.finding ≡ 1 → Sound B
  pub faulty_is_faulty : finding_number b.finding ≡ 2 → Sound B → ⊥
  pub charted_is_counted : finding_number b.finding ≡ 3 → finding_count b.finding ≡ blemishes B
  -- so what a run that was closed last has found is sound exactly without a listed defect
  pub closed_decides : (finding_number b.finding ≡ 1) ⊎ (finding_number b.finding ≡ 2) → (finding_number b.finding ≡ 1) ↔ Sound B
  -- it is open exactly when no run was closed and no chart drawn
  pub open_exactly_before : (finding_number b.finding ≡ 0) ↔ ((b.closes ≡ 0) × (b.charts ≡ 0))
  -- each operation that the array did is accounted for
  pub tally_adds_up :
      S.tally ≡ made + b.hand + run_length B * b.closes + chart_length B * b.charts + b.quits + (run_in_hand b).place
