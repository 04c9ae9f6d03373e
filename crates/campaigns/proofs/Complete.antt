-- MLT-1 detects every fault of a campaign at every place: an array with a planted fault is not sound.
use Rattle.std.proofs.Common.{◌≡◌, ℕ, zero, suc, ◌+◌, ◌*◌, ◌<◌, ◌≤◌, Bool, true, false, cond, ◌&&◌, ◌||◌, eqb, ltb, List, [], ◌∷◌, map, length, sym, refl, ap, ◌∙◌, ap₂, mul-le-mul, arith, length-append}
use mathlib.Core.Path.{fun_ext}
use Rattle.std.proofs.lemmas.Bool.{true≢false, eq-eqb, ltb-false, cond-true, and_from, and_right}
use Rattle.std.specs.List.{count_by}
use Rattle.std.proofs.lemmas.List.Sums.{sum_by-append}
use Rattle.cam.specs.Machine.{upward}
use Rattle.cam.specs.Model.{Build, State, Steady}
use Rattle.cam.specs.Defects.{Sound, same_cell, storage_with, settled_bit}
use Rattle.cam.specs.declared.defect.NamedFault.{NamedFault}
use Rattle.cam.specs.declared.defect.NamedFault.TheVariants.{Smf, Smmf, Cm1f, Cm0f, Pm1f, Pm0f, Emm1f, Emm0f, Im1f, Im0f}
use Rattle.cam.specs.declared.defect.Storage.{Storage as StorageKind}
use Rattle.cam.specs.declared.defect.Storage.TheVariants as kind
use Rattle.cam.specs.declared.defect.StorageDefect.{StorageDefect}
use Rattle.cam.specs.declared.defect.StorageDefect.TheVariants as defect
use Rattle.cam.proofs.Below.{split}
use Rattle.march.specs.Tests.{Element, schedule, misses}
use Rattle.mlt1.specs.Mlt1.{mlt1}
use Rattle.mlt1.proofs.Separating.{separates}
use Rattle.campaigns.specs.declared.faults.CampaignFault.{CampaignFault}
use Rattle.campaigns.specs.declared.faults.CampaignFault.TheVariants.{Comparison, Storage, StuckMark}
use Rattle.campaigns.specs.declared.row.Row.{Row}
use Rattle.campaigns.specs.Faults.{campaign_faults, places_in, wrong_pairs}
use Rattle.campaigns.specs.Campaigns.{place_at, places, faulty_build, faulty_state, detected_at, row_from, row_of, full_row, DetectsAll}
use Rattle.campaigns.proofs.Tenths.{tenths_all}
use Rattle.campaigns.proofs.Counts.{places_of, places_are, places_some}

-- each named fault answers some pair wrongly
wrong_some : (f : NamedFault) → (h : Bool) × ((b : Bool) × (wrong_pairs f h b ≡ true))
wrong_some Smf = (false, (true, refl))
wrong_some Smmf = (false, (false, refl))
wrong_some Cm1f = (false, (false, refl))
wrong_some Cm0f = (true, (true, refl))
wrong_some Pm1f = (false, (false, refl))
wrong_some Pm0f = (true, (true, refl))
wrong_some Emm1f = (true, (true, refl))
wrong_some Emm0f = (false, (false, refl))
wrong_some Im1f = (true, (false, refl))
wrong_some Im0f = (false, (true, refl))

not_good : (d : StorageDefect) → storage_with d ≡ kind.Good → ⊥
not_good d e = let z : ◌≡◌ {A = ℕ} 1 0 = sym (one d) ∙ ap number e in omega arith
  where
    number : StorageKind → ℕ
    number kind.Good = 0
    number kind.Sa0 = 1
    number kind.Sa1 = 1
    number kind.NoRise = 1
    number kind.NoFall = 1

    one : (d : StorageDefect) → number (storage_with d) ≡ 1
    one defect.Sa0 = refl
    one defect.Sa1 = refl
    one defect.NoRise = refl
    one defect.NoFall = refl

same : (a j : ℕ) → same_cell a j a j ≡ true
same a j = and_from (eqb a a) (eqb j j) (eq-eqb a a refl) (eq-eqb j j refl)

-- an array with a planted fault is not sound
not_sound : (f : CampaignFault) (N W a j : ℕ) → a < N → j < W → Sound (faulty_build f N W (place_at a j)) → ⊥
not_sound (Comparison g) N W a j ha hj sound =
    let pair = wrong_some g in
    let h = pair.0 in
    let b = pair.1.0 in
    true≢false (sym (ap (λ s. (s && wrong_pairs g h b) || false) (same a j) ∙ ap (λ p. p || false) pair.1.1) ∙ sound.right a j ha hj h b)
not_sound (Storage d) N W a j ha hj sound =
    not_good d (sym (cond-true (same_cell a j a j) (storage_with d) kind.Good (same a j)) ∙ sound.good a j ha hj)
not_sound StuckMark N W a j ha hj sound =
    true≢false (sym (ap (λ s. s || false) (eq-eqb a a refl)) ∙ sound.free a ha)

settled_low : (s : StorageKind) → s ≡ kind.Sa0 → settled_bit s false ≡ false
settled_low kind.Good e = refl
settled_low kind.Sa0 e = refl
settled_low kind.Sa1 e = absurd (let z : ◌≡◌ {A = ℕ} 0 1 = cc in omega arith)
settled_low kind.NoRise e = refl
settled_low kind.NoFall e = refl

settled_high : (s : StorageKind) → s ≡ kind.Sa1 → settled_bit s false ≡ true
settled_high kind.Good e = absurd (let z : ◌≡◌ {A = ℕ} 0 1 = cc in omega arith)
settled_high kind.Sa0 e = absurd (let z : ◌≡◌ {A = ℕ} 0 1 = cc in omega arith)
settled_high kind.Sa1 e = refl
settled_high kind.NoRise e = absurd (let z : ◌≡◌ {A = ℕ} 0 1 = cc in omega arith)
settled_high kind.NoFall e = absurd (let z : ◌≡◌ {A = ℕ} 0 1 = cc in omega arith)

good_low : kind.Good ≡ kind.Sa1 → ⊥
good_low e = let z : ◌≡◌ {A = ℕ} 0 1 = cc in omega arith

low_by : (t : Bool) (s : StorageKind) → cond t s kind.Good ≡ kind.Sa0 → cond t (settled_bit s false) false ≡ false
low_by true s e = settled_low s e
low_by false s e = refl

high_by : (t : Bool) (s : StorageKind) → cond t s kind.Good ≡ kind.Sa1 → cond t (settled_bit s false) false ≡ true
high_by true s e = settled_high s e
high_by false s e = absurd (good_low e)

-- what it holds is steady
steady : (f : CampaignFault) (N W a j : ℕ) → Steady (faulty_build f N W (place_at a j)) (faulty_state f (place_at a j))
steady (Comparison g) N W a j =
    record { low = λ k i hk hi e. refl; high = λ k i hk hi e. absurd (good_low e); clear = λ k hk e. refl }
steady (Storage d) N W a j =
    record {
      low = λ k i hk hi e. low_by (same_cell a j k i) (storage_with d) e;
      high = λ k i hk hi e. high_by (same_cell a j k i) (storage_with d) e;
      clear = λ k hk e. refl;
    }
steady StuckMark N W a j =
    record { low = λ k i hk hi e. refl; high = λ k i hk hi e. absurd (good_low e); clear = λ k hk e. and_right _ false refl }

-- a planted fault leaves the size
size : (f : CampaignFault) (N W a j : ℕ) → ((faulty_build f N W (place_at a j)).words ≡ N) × ((faulty_build f N W (place_at a j)).width ≡ W)
size (Comparison g) N W a j = (refl, refl)
size (Storage d) N W a j = (refl, refl)
size StuckMark N W a j = (refl, refl)

-- an array that is not sound makes a run miss
misses_some : (B : Build) (S : State) (N W : ℕ) → B.words ≡ N → B.width ≡ W → 1 ≤ W → Steady B S → (Sound B → ⊥)
    → ltb 0 (misses B (schedule N W mlt1) S) ≡ true
misses_some B S N W n w some st bad =
    split (ltb 0 (misses B (schedule N W mlt1) S)) (λ t. t)
    (λ z. absurd (bad ((separates B S (omega arith) st).0
    (ap₂ (λ (a b : ℕ). misses B (schedule a b mlt1) S) n w ∙ (let none : misses B (schedule N W mlt1) S ≡ 0 = omega (arith, ltb-false 0 (misses B (schedule N W mlt1) S) z) in none)))))

detected : (f : CampaignFault) (N W a j : ℕ) → 1 ≤ W → a < N → j < W → detected_at mlt1 f N W (place_at a j) ≡ true
detected f N W a j some ha hj =
    let sizes = size f N W a j in
    misses_some (faulty_build f N W (place_at a j)) (faulty_state f (place_at a j)) N W sizes.0 sizes.1 some (steady f N W a j) (not_sound f N W a j ha hj)

-- every item of a list that is put together from lists passes
count_each : {X : Type 0} (f : X → Bool) (n : ℕ) (g : ℕ → List X) → ((k : ℕ) → k < n → count_by f (g k) ≡ length (g k)) → count_by f (upward n g) ≡ length (upward n g)
count_each f zero g h = refl
count_each f (suc n) g h =
    omega (arith, sum_by-append (λ x. cond (f x) 1 0) (upward n g) (g n), length-append (upward n g) (g n), count_each f n g (λ k l. h k (omega arith)), h n (omega arith))

inside : (f : CampaignFault) (W j : ℕ) → 1 ≤ W → j < places_in f W → j < W
inside (Comparison g) W j some l = l
inside (Storage d) W j some l = l
inside StuckMark W j some l = omega arith

pub detects_all : DetectsAll mlt1
detects_all f N W words some =
    let total = N * places_in f W in
    let long : length (places f N W) ≡ total = places_are f N W in
    let all : count_by (detected_at mlt1 f N W) (places f N W) ≡ length (places f N W) =
    count_each (detected_at mlt1 f N W) N (places_of f W) (λ a ha. count_each (detected_at mlt1 f N W) (places_in f W) (λ j. place_at a j ∷ []) (λ j hj.
    ap (λ (b : Bool). 0 + cond {A = ℕ} b 1 0) (detected f N W a j some ha (inside f W j some hj)))) in
    let more : 0 < total = omega (arith, mul-le-mul words (places_some f W some)) in
    ap₂ row_from (all ∙ long) long ∙ ap {B = Row} (λ (t : ℕ). record { detected = total; total = total; tenths = t }) (tenths_all total more)

-- the rows of a campaign of MLT-1
pub full_rows : (es : List Element) (N W : ℕ) → es ≡ mlt1 → 1 ≤ N → 1 ≤ W → map (row_of es N W) campaign_faults ≡ map (full_row N W) campaign_faults
full_rows es N W e words some =
    ap (λ es. map (row_of es N W) campaign_faults) e ∙ ap (λ f. map f campaign_faults) (fun_ext (λ f. detects_all f N W words some))
