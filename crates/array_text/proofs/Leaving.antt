-- What a line with a defect leaves in the array. Assumes nothing.
use Rattle.std.proofs.Common.{◌≡◌, ℕ, List, [], ◌∷◌, Some, Ok, Err, Option, Result, sym, refl, subst}
use Rattle.cam.specs.declared.fault.Fault.{Fault}
use Rattle.planes.specs.declared.array.PlaneArray.{PlaneArray}
use Rattle.words.specs.Readings.{Gathered, gathered, reached, on, off}
use Rattle.words.specs.declared.token.Kind.TheVariants.{LineFeed, End}
use Rattle.words.specs.Forms.{Next}
use Rattle.array_lines.specs.declared.cell.Defect.{Defect}
use Rattle.array_lines.specs.Lines.{LineNext}
use Rattle.array_text.specs.Grammar.{AddsLine, new, repeated, LineAfter, Lines, Rest}
use Rattle.array_text.specs.Left.{Holds, PlantingLeaves, Leaves, RestLeaves}

-- a line whose defect is d was read up to l.to, and planting d left the array p and the answer r
pub line_leaves : (N W : ℕ) (text : List ℕ) (ds : List Defect) (bracket a : ℕ) (l : Gathered (Option Defect)) (d : Defect) (p : PlaneArray) (r : Result (Unit {0}) Fault)
    → LineNext N W text a (Ok l) → l.value ≡ Some d → PlantingLeaves N W ds d bracket p r → Leaves (LineAfter N W text ds bracket a) N W p (reached l.to r)
line_leaves N W text ds bracket a l d p (Ok _) x e q =
    (d ∷ ds, (on x (subst (λ o. AddsLine ds bracket l.to o (Ok (record { value = d ∷ ds; to = l.to }))) (sym e) (new q.0)), q.1))
line_leaves N W text ds bracket a l d p (Err f) x e q =
    on x (subst (λ o. AddsLine ds bracket l.to o (Err f)) (sym e) (subst (λ g. AddsLine ds bracket l.to (Some d) (Err g)) (sym q.1) (repeated q.0)))

-- the lines gave ds up to l, the line feed was read up to e, and r is what the reader of the end answered
pub rest_leaves : (N W : ℕ) (text : List ℕ) (a l : ℕ) (ds : List Defect) (e to : ℕ) (r : Result (Unit {0}) Fault) (p : PlaneArray)
    → Lines N W text [] a (Ok (gathered ds l)) → Next LineFeed text l (Ok e) → Next End text e (reached to r) → Holds N W ds p → RestLeaves (Rest N W text a) N W p r
rest_leaves N W text a l ds e to (Ok _) p x y z h = (ds, (on x (on y (on z refl)), h))
rest_leaves N W text a l ds e to (Err f) p x y z h = on x (on y (off z))
