-- The comparison of a transistor cell, and what its wrong set is.
use Rattle.std.specs.Prelude.{◌≡◌, Bool, true, false, not, ◌&&◌, ◌||◌, ◌↔◌, Option, None, Some}
use Rattle.std.proofs.Common.{ap}
use Rattle.std.specs.Bool.{beq}
use Rattle.cam.specs.Defects.{settled_bit, is_pair}
use Rattle.cam.specs.declared.defect.Storage.{Storage}
use Rattle.cam.specs.declared.defect.Storage.TheVariants as storage
use Rattle.cam.specs.declared.defect.Pair.{Pair}
use Rattle.cells.specs.declared.transistor.Leg.{Leg}
use Rattle.cells.specs.declared.transistor.TransistorCell.{TransistorCell}
use Rattle.cells.specs.declared.transistor.Position.{Position}
use Rattle.cells.specs.declared.transistor.Position.TheVariants.{StorageA, SearchA, StorageB, SearchB}
use Rattle.cells.specs.declared.transistor.TransistorFault.{TransistorFault}
use Rattle.cells.specs.declared.transistor.TransistorFault.TheVariants.{Open, On}
use Rattle.cells.specs.Meaning.{CellMeaning, SteadyCell}

-- a transistor: its fault, if it has one
abbrev pub Transistor : Type 0
Transistor = Option TransistorFault

-- how a cell stores whose latch is good or stuck at a bit
abbrev pub latch_storage : Option Bool → Storage
latch_storage None = storage.Good
latch_storage (Some false) = storage.Sa0
latch_storage (Some true) = storage.Sa1

-- whether a transistor conducts when its gate is on or off
abbrev pub conducts : Transistor → Bool → Bool
conducts None gate = gate
conducts (Some Open) gate = false
conducts (Some On) gate = true

-- a leg pulls when both its transistors conduct; the gates are those of its storage and of its search transistor
abbrev pub pulls : Leg → Bool → Bool → Bool
pulls l stored sought = conducts l.storage stored && conducts l.search sought

-- Leg A's storage transistor conducts at held 1 and its search transistor at comparand 0, leg B's at held 0 and at
-- comparand 1. The cell mismatches when a leg pulls.
abbrev pub mismatches : TransistorCell → Bool → Bool → Bool
mismatches c h b = pulls c.leg_a h (not b) || pulls c.leg_b (not h) b

-- a pair is in the wrong set when the cell's answer is not that of a sound cell
abbrev pub wrong_by : TransistorCell → Bool → Bool → Bool
wrong_by c h b = not (beq (not (mismatches c h b)) (beq h b))

-- An sa0 cell means 0 and an sa1 cell 1, whatever bit is stored.
abbrev pub transistor_meaning : TransistorCell → CellMeaning
transistor_meaning c =
    record { held = settled_bit (latch_storage c.latch) c.held; storage = latch_storage c.latch; wrong = wrong_by c }

pub transistor_steady : (c : TransistorCell) → SteadyCell (transistor_meaning c)
transistor_steady c =
    record { low = λ e. ap (λ s. settled_bit s c.held) e; high = λ e. ap (λ s. settled_bit s c.held) e }

pub record AllGood (c : TransistorCell) : Type 0 where
  pub storage_a : c.leg_a.storage ≡ None
  pub search_a : c.leg_a.search ≡ None
  pub storage_b : c.leg_b.storage ≡ None
  pub search_b : c.leg_b.search ≡ None

-- a cell answers every pair rightly exactly when its four transistors are good
abbrev pub EmptyExactlyWhenGood : Type 0
EmptyExactlyWhenGood = (c : TransistorCell) → ((h b : Bool) → wrong_by c h b ≡ false) ↔ AllGood c

-- the cell with one of its transistors stuck, and all else as it was
abbrev pub with_stuck : Position → Transistor → TransistorCell → TransistorCell
with_stuck StorageA t c =
    record { held = c.held; latch = c.latch; leg_a = record { storage = t; search = c.leg_a.search }; leg_b = c.leg_b }
with_stuck SearchA t c =
    record { held = c.held; latch = c.latch; leg_a = record { storage = c.leg_a.storage; search = t }; leg_b = c.leg_b }
with_stuck StorageB t c =
    record { held = c.held; latch = c.latch; leg_a = c.leg_a; leg_b = record { storage = t; search = c.leg_b.search } }
with_stuck SearchB t c =
    record { held = c.held; latch = c.latch; leg_a = c.leg_a; leg_b = record { storage = c.leg_b.storage; search = t } }

abbrev pair : Bool → Bool → Pair
pair h b = record { held = h; comparand = b }

-- the one pair that a single stuck transistor puts into the wrong set
abbrev pub pair_of : Position → TransistorFault → Pair
pair_of StorageA Open = pair true false
pair_of SearchA Open = pair true false
pair_of StorageA On = pair false false
pair_of SearchA On = pair true true
pair_of StorageB Open = pair false true
pair_of SearchB Open = pair false true
pair_of StorageB On = pair true true
pair_of SearchB On = pair false false

-- each single transistor fault puts just its pair into the wrong set
abbrev pub EachSingleFault : Type 0
EachSingleFault =
    (c : TransistorCell) → AllGood c → (p : Position) (f : TransistorFault) (h b : Bool)
    → wrong_by (with_stuck p (Some f) c) h b ≡ is_pair (pair_of p f).held (pair_of p f).comparand h b
