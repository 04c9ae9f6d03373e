-- The faults that a campaign plants, and what planting one makes of an array.
use Rattle.std.specs.Prelude.{ℕ, Bool, not, ◌&&◌, ◌||◌, List, [], ◌∷◌}
use Rattle.std.specs.Bool.{beq}
use Rattle.cam.specs.Model.{Build, State}
use Rattle.cam.specs.Defects.{response, storage_with, same_cell, with_storage, settled, with_stuck_mark, unmarked}
use Rattle.cam.specs.declared.defect.NamedFault.{NamedFault}
use Rattle.cam.specs.declared.defect.NamedFault.TheVariants.{Smf, Smmf, Cm1f, Cm0f, Pm1f, Pm0f, Emm1f, Emm0f, Im1f, Im0f}
use Rattle.cam.specs.declared.defect.StorageDefect.TheVariants.{Sa0, Sa1, NoRise, NoFall}
use Rattle.campaigns.specs.declared.faults.CampaignFault.{CampaignFault}
use Rattle.campaigns.specs.declared.faults.CampaignFault.TheVariants.{Comparison, Storage, StuckMark}

-- the faults in the order of the rows
abbrev pub campaign_faults : List CampaignFault
campaign_faults =
    Comparison Smf ∷ Comparison Smmf ∷ Comparison Cm1f ∷ Comparison Cm0f ∷ Comparison Pm1f ∷ Comparison Pm0f
    ∷ Comparison Emm1f ∷ Comparison Emm0f ∷ Comparison Im1f ∷ Comparison Im0f
    ∷ Storage Sa0 ∷ Storage Sa1 ∷ Storage NoRise ∷ Storage NoFall ∷ StuckMark ∷ []

-- at how many places of a word a fault can be: its cells, or its mark
abbrev pub places_in : CampaignFault → ℕ → ℕ
places_in (Comparison f) W = W
places_in (Storage d) W = W
places_in StuckMark W = 1

-- the pairs that a cell with a named fault answers wrongly: its response is not whether the two bits are equal
abbrev pub wrong_pairs : NamedFault → Bool → Bool → Bool
wrong_pairs f h b = not (beq (response f h b) (beq h b))

-- these pairs are in the wrong set of cell (a, j), and all else is as it was
abbrev pub with_pairs : ℕ → ℕ → (Bool → Bool → Bool) → Build → Build
with_pairs a j pairs B =
    record {
      words = B.words;
      width = B.width;
      storage = B.storage;
      wrong = λ k i h b. (same_cell a j k i && pairs h b) || B.wrong k i h b;
      stuck = B.stuck;
    }

-- The fault is at cell (a, j), a stuck mark at word a, and all else is as it was.
abbrev pub with_fault : CampaignFault → ℕ → ℕ → Build → Build
with_fault (Comparison f) a j B = with_pairs a j (wrong_pairs f) B
with_fault (Storage d) a j B = with_storage a j (storage_with d) B
with_fault StuckMark a j B = with_stuck_mark a B

-- what is held then: an sa0 cell holds 0, an sa1 cell 1, a stuck mark is clear
abbrev pub settled_by : CampaignFault → ℕ → ℕ → State → State
settled_by (Comparison f) a j S = S
settled_by (Storage d) a j S = settled a j (storage_with d) S
settled_by StuckMark a j S = unmarked a S
