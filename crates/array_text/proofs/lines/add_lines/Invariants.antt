use Rattle.std.proofs.Common.{ℕ, ◌-◌, List, length, Result}
use Rattle.cam.specs.declared.fault.Fault.{Fault}
use Rattle.planes.specs.Planes.{KeepsLater}
use Rattle.words.specs.Going.{GoesOn}
use Rattle.words.specs.Readings.{Gathered}
use Rattle.array_lines.specs.declared.cell.Defect.{Defect}
use Rattle.array_text.specs.Grammar.{Lines}
use Rattle.array_text.specs.Left.{Holds}
use Rattle.array_text.proofs.lines.add_lines.Given as goal

-- the array has the defects so far, and what the rest gives after them, the whole gives
abbrev pub invariant-loop-token : goal.invariant-loop-token
invariant-loop-token l = record {
  goes_on : GoesOn l.initial.cursor l.cursor;
  rest : (N W : ℕ) (ds : List Defect) → Holds N W ds l.initial.array
      → (es : List Defect) × (Holds N W es l.array
      × ((r : Result (Gathered (List Defect)) Fault) → Lines N W l.initial.cursor.text.now es l.cursor.at r → Lines N W l.initial.cursor.text.now ds l.initial.cursor.at r));
  later : KeepsLater l.initial.array l.array;
}

abbrev pub decreases-loop-token : goal.decreases-loop-token
decreases-loop-token l = length l.cursor.text.now - l.cursor.at
