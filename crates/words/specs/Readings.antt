-- Readings of a text: relations between a text and the result that a reader answers, and how they follow one another.
use Rattle.std.specs.Prelude.{◌≡◌, ℕ, Ok, Err, Result}
use Rattle.cam.specs.declared.fault.Fault.{Fault}

-- r is what is read by the rule P, and nothing else is
pub record Reading {X : Type 0} (P : Result X Fault → Type 0) (r : Result X Fault) : Type 0 where
  pub reads : P r
  pub only : (s : Result X Fault) → P s → s ≡ r

-- one rule after another: what P reads, Q goes on from, and the fault of P is the fault of both
pub data Then {X Y : Type 0} (P : Result X Fault → Type 0) (Q : X → Result Y Fault → Type 0) : Result Y Fault → Type 0 where
  on : {x : X} {r : Result Y Fault} → P (Ok x) → Q x r → Then P Q r
  off : {f : Fault} → P (Err f) → Then P Q (Err f)

-- what was read, and the place after it
pub record Gathered (X : Type 0) : Type 0 where
  pub value : X
  pub to : ℕ

abbrev pub gathered : {X : Type 0} → X → ℕ → Gathered X
gathered x e = record { value = x; to = e }

-- what a reader answers that comes to the place e: both
abbrev pub come_to : {X : Type 0} → ℕ → Result X Fault → Result (Gathered X) Fault
come_to e (Ok x) = Ok (gathered x e)
come_to e (Err f) = Err f

-- and the place alone
abbrev pub reached : {X : Type 0} → ℕ → Result X Fault → Result ℕ Fault
reached e (Ok x) = Ok e
reached e (Err f) = Err f

-- what a reader answers, which gives the place and leaves the value elsewhere
abbrev pub leaving : {X : Type 0} → X → Result ℕ Fault → Result (Gathered X) Fault
leaving x (Ok e) = Ok (gathered x e)
leaving x (Err f) = Err f

-- the same answer about what the value stands for
abbrev pub result_map : {X Y : Type 0} → (X → Y) → Result X Fault → Result Y Fault
result_map f (Ok x) = Ok (f x)
result_map f (Err g) = Err g
