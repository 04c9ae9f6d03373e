-- Worked examples. Each is small enough to be followed by hand.
use Rattle.std.specs.Prelude.{◌≡◌, Bool, true, false, ℕ, length, Some}
use Rattle.cam.specs.Model.{Build, State, written}
use Rattle.cam.specs.Defects.{flawless, cleared, with_storage, with_pair, with_stuck_mark, is_pair}
use Rattle.cam.specs.declared.defect.Storage.TheVariants.{Sa0, NoRise}
use Rattle.march.specs.Tests.{schedule, misses}
use Rattle.mlt1.specs.Mlt1.{mlt1}
use Rattle.chart.specs.Chart.{chart_operations}
use Rattle.chart.specs.Bytes.{chart_byte}
use Rattle.cells.specs.declared.transistor.TransistorCell.{TransistorCell}
use Rattle.cells.specs.declared.transistor.TransistorFault.TheVariants.{On}
use Rattle.cells.specs.declared.transistor.Position.TheVariants.{SearchA}
use Rattle.cells.specs.Transistors.{AllGood, with_stuck, wrong_by}
use Rattle.bench.specs.Books.{found, finding_number}

-- the misses of a whole run of MLT-1 on a new array
abbrev pub misses_on : Build → ℕ
misses_on B = misses B (schedule B.words B.width mlt1) cleared

-- how many operations MLT-1 and a chart have, from the smallest array to the largest
pub record Lengths : Type 0 where
  pub mlt1_1_1 : length (schedule 1 1 mlt1) ≡ 13
  pub mlt1_3_3 : length (schedule 3 3 mlt1) ≡ 39
  pub mlt1_256_64 : length (schedule 256 64 mlt1) ≡ 2944
  pub chart_1_1 : length (chart_operations 1 1) ≡ 12
  pub chart_256_64 : length (chart_operations 256 64) ≡ 67584

-- one cell that does not rise, and holds 1
abbrev pub norise_cell : Build
norise_cell = with_storage 0 0 NoRise (flawless 1 1)

abbrev pub holding1 : State
holding1 = record { held = λ k j. true; mark = λ k. false; tally = 0 }

abbrev pub wrote : ℕ → State → State
wrote p = written norise_cell 0 p 0

-- writes of 1, 0 and 1 leave it at 1, 0 and 0
pub record Norise : Type 0 where
  pub after_1 : (wrote 1 holding1).held 0 0 ≡ true
  pub after_1_0 : (wrote 0 (wrote 1 holding1)).held 0 0 ≡ false
  pub after_1_0_1 : (wrote 1 (wrote 0 (wrote 1 holding1))).held 0 0 ≡ false

-- 2 words of 3 bits: cell (1, 2) is stuck at 0, and the pair 01 is wrong in cell (0, 0)
abbrev pub judged_array : Build
judged_array = with_pair 0 0 false true (with_storage 1 2 Sa0 (flawless 2 3))

abbrev pub JudgedExample : Type 0
JudgedExample = misses_on judged_array ≡ 4

-- 2 words of 1 bit: word 0 does not match a 0 that it holds, and word 1, holding 1, matches a 0
abbrev pub hiding_array : Build
hiding_array = with_pair 1 0 true false (with_pair 0 0 false false (flawless 2 1))

-- word 1 stands in for word 0's missing match, and the run finds the array faulty all the same
pub record HiddenExample : Type 0 where
  pub one_miss : misses_on hiding_array ≡ 1
  pub found_faulty : finding_number (found (misses_on hiding_array)) ≡ 2

abbrev pub stuck_mark : Build
stuck_mark = with_stuck_mark 0 (flawless 1 1)

-- a cell that never matches
abbrev pub never_matching : Build
never_matching = with_pair 0 0 true true (with_pair 0 0 false false (flawless 1 1))

-- a run tells the two by no number of misses; a chart does
pub record SameMisses : Type 0 where
  pub of_stuck_mark : misses_on stuck_mark ≡ 2
  pub of_never_matching : misses_on never_matching ≡ 2
  pub chart_of_stuck_mark : chart_byte stuck_mark 0 0 ≡ 64
  pub chart_of_never_matching : chart_byte never_matching 0 0 ≡ 5

-- leg A's search transistor stuck on, and all others good: just the pair 11 is wrong
abbrev pub StuckLeg : Type 0
StuckLeg = (c : TransistorCell) → AllGood c → (h b : Bool) → wrong_by (with_stuck SearchA (Some On) c) h b ≡ is_pair true true h b
