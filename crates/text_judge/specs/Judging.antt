-- What the judging of a text tells.
use Rattle.std.specs.Prelude.{◌≡◌, ℕ, ◌↔◌, List, [], length, Ok, Result}
use Rattle.cam.specs.declared.fault.Fault.{Fault}
use Rattle.cam.specs.Model.{Build}
use Rattle.words.specs.Readings.{Reading, Then}
use Rattle.chart.specs.Chart.{Charted}
use Rattle.bench.specs.declared.judging.Judgement.{Judgement}
use Rattle.bench.specs.Books.{finding_number}
use Rattle.bench.specs.Judging.{Judges, judged_state}
use Rattle.planes.specs.declared.array.PlaneArray.{PlaneArray}
use Rattle.planes.specs.Planes.{build_of, state_of}
use Rattle.array_text.specs.Meaning.{build_with, new_state}
use Rattle.array_text.specs.Grammar.{Description, Memory, ArrayCall}

-- the memory of the largest array is asked for first: 16,384 bytes of a chart, and 256 records; then the text is read
abbrev pub JudgeCall : ℕ → ℕ → List ℕ → Result Description Fault → Type 0
JudgeCall records bytes text = Then (Memory 16384 bytes) (λ _. ArrayCall records text)

-- the array that a text describes, as it was made
abbrev pub described : Description → Build
described d = build_with d.words d.width d.defects

-- A text was judged: it has one reading, the judgement is that of a new array with exactly the defects of its lines, and
-- the chart of this array stands at the front of the buffer. `old` and `new` are the buffer before and after, and p is
-- the array as the judging left it.
pub record TextJudged (records : ℕ) (text old new : List ℕ) (j : Judgement) (p : PlaneArray) : Type 0 where
  pub description : Description
  pub reading : Reading (JudgeCall records (length old) text) (Ok description)
  pub judgement_is_right : Judges (described description) (new_state (described description)) j
  pub sound_exactly_without_a_defect_line : (finding_number j.finding ≡ 1) ↔ (description.defects ≡ [])
  pub every_byte : Charted (described description) old new
  pub build_stays : build_of p ≡ described description
  pub only_these_operations : state_of p ≡ judged_state (described description) (new_state (described description))
