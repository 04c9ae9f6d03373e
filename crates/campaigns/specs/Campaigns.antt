-- Campaigns: a test is done with one fault at each place in turn, and its detections are counted.
use Rattle.std.specs.Prelude.{◌≡◌, ℕ, ◌*◌, ◌<◌, ◌≤◌, Bool, cond, ◌&&◌, List, [], ◌∷◌, length, nat_le, nat_lt, slice_index_or, count_by}
use Rattle.cam.specs.Machine.{upward}
use Rattle.cam.specs.Model.{Build, State}
use Rattle.cam.specs.Defects.{flawless, cleared}
use Rattle.cam.specs.Refusals.{Question, ask}
use Rattle.march.specs.declared.step.Step.{Step}
use Rattle.march.specs.Steps.{missing}
use Rattle.march.specs.Tests.{Element, schedule, stepped, misses}
use Rattle.planes.specs.declared.word.WordRecord.{WordRecord}
use Rattle.planes.specs.Word.{blank_record}
use Rattle.campaigns.specs.declared.faults.CampaignFault.{CampaignFault}
use Rattle.campaigns.specs.declared.row.Row.{Row}
use Rattle.campaigns.specs.Tenths.{tenths}
use Rattle.campaigns.specs.Faults.{places_in, with_fault, settled_by}

-- the steps up to the first that misses, which is the last of them
abbrev pub until_miss : Build → List Step → State → List Step
until_miss B [] S = []
until_miss B (s ∷ ss) S = s ∷ cond (missing B s S) [] (until_miss B ss (stepped B s S))

-- a place in an array: a cell, or for a mark a word, with column 0
pub record Place : Type 0 where
  pub word : ℕ
  pub column : ℕ

abbrev pub place_at : ℕ → ℕ → Place
place_at a j = record { word = a; column = j }

-- the places at which a fault can be, word by word
abbrev pub places : CampaignFault → ℕ → ℕ → List Place
places f N W = upward N (λ a. upward (places_in f W) (λ j. place_at a j ∷ []))

-- a new array with the one fault planted
abbrev pub faulty_build : CampaignFault → ℕ → ℕ → Place → Build
faulty_build f N W p = with_fault f p.word p.column (flawless N W)

abbrev pub faulty_state : CampaignFault → Place → State
faulty_state f p = settled_by f p.word p.column cleared

-- whether a test detects the fault at a place: whether some step of its schedule misses
abbrev pub detected_at : List Element → CampaignFault → ℕ → ℕ → Place → Bool
detected_at es f N W p = nat_lt 0 (misses (faulty_build f N W p) (schedule N W es) (faulty_state f p))

-- the row of a fault
abbrev pub row_from : ℕ → ℕ → Row
row_from detected total = record { detected = detected; total = total; tenths = tenths detected total }

abbrev pub row_of : List Element → ℕ → ℕ → CampaignFault → Row
row_of es N W f = row_from (count_by (detected_at es f N W) (places f N W)) (length (places f N W))

-- a fault has a place in each cell, a stuck mark in each word
abbrev pub PlacesAre : Type 0
PlacesAre = (f : CampaignFault) (N W : ℕ) → length (places f N W) ≡ N * places_in f W

-- every place is detected
abbrev pub full_row : ℕ → ℕ → CampaignFault → Row
full_row N W f = record { detected = N * places_in f W; total = N * places_in f W; tenths = 1000 }

-- The test detects each of the faults at every place, in arrays of every size.
abbrev pub DetectsAll : List Element → Type 0
DetectsAll es = (f : CampaignFault) (N W : ℕ) → 1 ≤ N → 1 ≤ W → row_of es N W f ≡ full_row N W f

-- 1 to 16 words of 1 to 16 bits, then a record for each word
abbrev pub campaign_questions : ℕ → ℕ → ℕ → List Question
campaign_questions N W records =
    ask ((nat_le 1 N && nat_le N 16) && (nat_le 1 W && nat_le W 16)) 81 ∷ ask (nat_le N records) 57 ∷ []

-- the first n of the records are there, and blank
pub record Blank (n : ℕ) (records : List WordRecord) : Type 0 where
  pub enough : n ≤ length records
  pub blank : (k : ℕ) → k < n → slice_index_or records k blank_record ≡ blank_record
