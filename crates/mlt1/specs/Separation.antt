-- What MLT-1 tells of an array.
use Rattle.std.specs.Prelude.{◌≡◌, ◌≤◌, ◌↔◌}
use Rattle.cam.specs.Model.{Build, State, Steady}
use Rattle.cam.specs.Defects.{Sound}
use Rattle.march.specs.Tests.{schedule, misses}
use Rattle.mlt1.specs.Mlt1.{mlt1}

-- From any held bits, marks and tally, and with any listed defects together: a whole run has no miss exactly when the
-- array has no listed defect.
abbrev pub Separates : Type 0
Separates =
    (B : Build) (S : State) → 1 ≤ B.width → Steady B S
    → (misses B (schedule B.words B.width mlt1) S ≡ 0) ↔ Sound B
