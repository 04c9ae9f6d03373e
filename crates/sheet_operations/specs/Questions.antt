-- Layer 3 of a sheet: what the meaning asks of elements and operations.
use Rattle.std.specs.Prelude.{◌≡◌, ℕ, ◌<◌, ◌≤◌, Ok, Err, Result, ◌≢◌}
use Rattle.cam.specs.declared.fault.Reason.TheVariants.{TooManyElements, TooManyOperations, OnlyComparesInColumns}
use Rattle.cam.specs.declared.fault.Fault.{Fault}
use Rattle.march.specs.declared.operations.Order.{Order}
use Rattle.march.specs.declared.operations.Order.TheVariants.{Columns}
pub use Rattle.words.specs.Forms.{meaning_fault}
use Rattle.sheet_operations.specs.declared.letter.Letter.{Letter}
use Rattle.sheet_operations.specs.declared.letter.Letter.TheVariants.{Compare}

-- there are `count`, and may be `most`: one more is the fault f where there is no room
pub data Room (count most : ℕ) (f : Fault) : Result (Unit {0}) Fault → Type 0 where
  room : count < most → Room count most f (Ok tt)
  full : most ≤ count → Room count most f (Err f)

-- in columns there are only compares; the fault is at the letter, which stands at p
pub data Allowed (o : Order) (l : Letter) (p : ℕ) : Result (Unit {0}) Fault → Type 0 where
  allowed : (o ≡ Columns → l ≡ Compare) → Allowed o l p (Ok tt)
  compares_only : o ≡ Columns → (l ≢ Compare) → Allowed o l p (Err (meaning_fault OnlyComparesInColumns p))

-- the seventeenth element and the ninth operation are faults at their brackets
abbrev pub ElementRoom : ℕ → ℕ → Result (Unit {0}) Fault → Type 0
ElementRoom count p = Room count 16 (meaning_fault TooManyElements p)

abbrev pub OperationRoom : ℕ → ℕ → Result (Unit {0}) Fault → Type 0
OperationRoom count p = Room count 8 (meaning_fault TooManyOperations p)
