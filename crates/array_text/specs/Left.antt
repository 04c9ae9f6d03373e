-- What the parts of the reader leave in the array.
use Rattle.std.specs.Prelude.{◌≡◌, ℕ, true, false, List, [], ◌∷◌, Ok, Err, Result}
use Rattle.std.specs.List.{list_any}
use Rattle.cam.specs.declared.fault.Reason.TheVariants.{DefectRepeated}
use Rattle.cam.specs.declared.fault.Fault.{Fault}
use Rattle.words.specs.Readings.{Gathered, gathered}
use Rattle.planes.specs.declared.array.PlaneArray.{PlaneArray}
use Rattle.planes.specs.Planes.{build_of, state_of}
use Rattle.array_lines.specs.declared.cell.Defect.{Defect}
use Rattle.words.specs.Forms.{meaning_fault}
use Rattle.array_text.specs.Meaning.{repeats, build_with, new_state, AllInside}

-- no defect repeats an earlier one
abbrev pub Distinct : List Defect → Type 0
Distinct [] = Unit {0}
Distinct (d ∷ ds) = (list_any (repeats d) ds ≡ false) × Distinct ds

-- the array is a new one of N words of W bits with these defects
pub record Holds (N W : ℕ) (ds : List Defect) (p : PlaneArray) : Type 0 where
  pub build : build_of p ≡ build_with N W ds
  pub state : state_of p ≡ new_state (build_with N W ds)
  pub distinct : Distinct ds
  pub inside : AllInside N W ds

-- one more defect d, or the fault of a line that repeats one
abbrev pub PlantingLeaves : ℕ → ℕ → List Defect → Defect → ℕ → PlaneArray → Result (Unit {0}) Fault → Type 0
PlantingLeaves N W ds d bracket p (Ok _) = (list_any (repeats d) ds ≡ false) × Holds N W (d ∷ ds) p
PlantingLeaves N W ds d bracket p (Err f) = (list_any (repeats d) ds ≡ true) × (f ≡ meaning_fault DefectRepeated bracket)

-- what the rule P reads is in the array
abbrev pub Leaves : (Result (Gathered (List Defect)) Fault → Type 0) → ℕ → ℕ → PlaneArray → Result ℕ Fault → Type 0
Leaves P N W p (Ok e) = (ds : List Defect) × (P (Ok (gathered ds e)) × Holds N W ds p)
Leaves P N W p (Err f) = P (Err f)

abbrev pub RestLeaves : (Result (List Defect) Fault → Type 0) → ℕ → ℕ → PlaneArray → Result (Unit {0}) Fault → Type 0
RestLeaves P N W p (Ok _) = (ds : List Defect) × (P (Ok ds) × Holds N W ds p)
RestLeaves P N W p (Err f) = P (Err f)
