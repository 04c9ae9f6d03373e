-- Counting the places at which a fault is detected.
use Rattle.std.proofs.Common.{◌≡◌, ℕ, ◌+◌, ◌*◌, ◌≤◌, Bool, cond, List, [], ◌∷◌, refl, ap, ◌∙◌, mul_comm, add-one, arith}
use Rattle.std.specs.List.{count_by}
use Rattle.std.proofs.lemmas.List.Sums.{sum_by_push, sum_by-append}
use Rattle.cam.specs.Machine.{upward}
use Rattle.march.proofs.Lengths.{upward_length}
use Rattle.campaigns.specs.declared.faults.CampaignFault.{CampaignFault}
use Rattle.campaigns.specs.declared.faults.CampaignFault.TheVariants.{Comparison, Storage, StuckMark}
use Rattle.campaigns.specs.Faults.{places_in}
use Rattle.campaigns.specs.Campaigns.{Place, place_at, PlacesAre}

-- the places of word a
abbrev pub places_of : CampaignFault → ℕ → ℕ → List Place
places_of f W a = upward (places_in f W) (λ j. place_at a j ∷ [])

-- the columns of a word that were counted so far
abbrev pub some_of : ℕ → ℕ → List Place
some_of n a = upward n (λ j. place_at a j ∷ [])

-- one column more, and one word more
pub column_more : (det : Place → Bool) (a j : ℕ) → count_by det (some_of (j + 1) a) ≡ count_by det (some_of j a) + cond (det (place_at a j)) 1 0
column_more det a j =
    ap (λ (n : ℕ). count_by det (some_of n a)) (add-one j) ∙ sum_by_push (λ p. cond (det p) 1 0) (some_of j a) (place_at a j)

pub word_more : (det : Place → Bool) (f : CampaignFault) (W a : ℕ)
    → count_by det (upward (a + 1) (places_of f W)) ≡ count_by det (upward a (places_of f W)) + count_by det (places_of f W a)
word_more det f W a =
    ap (λ (n : ℕ). count_by det (upward n (places_of f W))) (add-one a) ∙ sum_by-append (λ p. cond (det p) 1 0) (upward a (places_of f W)) (places_of f W a)

pub places_are : PlacesAre
places_are f N W =
    upward_length (places_in f W) N (places_of f W) (λ a. upward_length 1 (places_in f W) (λ j. place_at a j ∷ []) (λ j. refl) ∙ (let e : 1 * places_in f W ≡ places_in f W = omega arith in e))
    ∙ mul_comm (places_in f W) N

-- a word has at most as many places as bits, and has one
pub places_few : (f : CampaignFault) (W : ℕ) → 1 ≤ W → places_in f W ≤ W
places_few (Comparison g) W l = omega arith
places_few (Storage d) W l = omega arith
places_few StuckMark W l = l

pub places_some : (f : CampaignFault) (W : ℕ) → 1 ≤ W → 1 ≤ places_in f W
places_some (Comparison g) W l = l
places_some (Storage d) W l = l
places_some StuckMark W l = omega arith
