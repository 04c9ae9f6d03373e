-- Every plane array is well formed: by what its records mean, an sa0 cell holds 0, an sa1 cell holds 1, and a stuck
-- mark is clear.
use Rattle.std.specs.Prelude.{◌≡◌, ℕ, ◌<◌, Bool, true, false, cond, not, ◌||◌, vec_items, nat_lt, refl}
use Rattle.std.proofs.Common.{ap}
use Rattle.std.proofs.lemmas.Bool.{true≢false, and_from, and_right, or_right, lt-ltb}
use Rattle.cam.specs.Bits.{bit}
use Rattle.cam.specs.Model.{WellFormed}
use Rattle.cam.specs.declared.defect.Storage.{Storage}
use Rattle.cam.specs.declared.defect.Storage.TheVariants.{Good, Sa0, Sa1, NoRise, NoFall}
use Rattle.planes.specs.declared.word.WordRecord.{WordRecord}
use Rattle.planes.specs.declared.array.PlaneArray.{PlaneArray}
use Rattle.planes.specs.Word.{storage_of, shown}
use Rattle.planes.specs.Planes.{record_at, build_of, state_of}

is_sa0 : Storage → Bool
is_sa0 Good = false
is_sa0 Sa0 = true
is_sa0 Sa1 = false
is_sa0 NoRise = false
is_sa0 NoFall = false

is_sa1 : Storage → Bool
is_sa1 Good = false
is_sa1 Sa0 = false
is_sa1 Sa1 = true
is_sa1 NoRise = false
is_sa1 NoFall = false

-- the storage that four planes give: sa0, sa1, norise and nofall, the first that is set
abbrev first_of : Bool → Bool → Bool → Bool → Storage
first_of a b c d = cond a Sa0 (cond b Sa1 (cond c NoRise (cond d NoFall Good)))

sa0_set : (a b c d : Bool) → first_of a b c d ≡ Sa0 → a ≡ true
unfolding is_sa0
sa0_set true b c d e = refl
sa0_set false true c d e = ap is_sa0 e
sa0_set false false true d e = ap is_sa0 e
sa0_set false false false true e = ap is_sa0 e
sa0_set false false false false e = ap is_sa0 e

sa1_set : (a b c d : Bool) → first_of a b c d ≡ Sa1 → (a ≡ false) × (b ≡ true)
unfolding is_sa1
sa1_set true b c d e = absurd (true≢false (ap (λ s. not (is_sa1 s)) e))
sa1_set false true c d e = (refl, refl)
sa1_set false false true d e = (refl, ap is_sa1 e)
sa1_set false false false true e = (refl, ap is_sa1 e)
sa1_set false false false false e = (refl, ap is_sa1 e)

shows_low : (w : ℕ) (r : WordRecord) (j : ℕ) → storage_of r j ≡ Sa0 → shown w r j ≡ false
shows_low w r j e =
    let set = sa0_set (bit r.sa0 j) (bit r.sa1 j) (bit r.norise j) (bit r.nofall j) e in
    and_right (nat_lt j w) _ (and_right (bit r.held j || bit r.sa1 j) _ (ap not set))

shows_high : (w : ℕ) (r : WordRecord) (j : ℕ) → j < w → storage_of r j ≡ Sa1 → shown w r j ≡ true
shows_high w r j l e =
    let set = sa1_set (bit r.sa0 j) (bit r.sa1 j) (bit r.norise j) (bit r.nofall j) e in
    and_from (nat_lt j w) _ (lt-ltb j w l)
    (and_from (bit r.held j || bit r.sa1 j) _ (or_right (bit r.held j) _ set.1) (ap not set.0))

pub well_formed : (p : PlaneArray) → WellFormed (build_of p) (state_of p)
well_formed p =
    let word : ℕ → WordRecord = record_at p.size.words (vec_items p.records) in
    record {
      few_words = p.few_words;
      some_bits = p.some_bits;
      few_bits = p.few_bits;
      tally_within = p.tally_within;
      steady = record {
        low = λ k j hk hj e. shows_low p.size.width (word k) j e;
        high = λ k j hk hj e. shows_high p.size.width (word k) j hj e;
        clear = λ k hk e. and_right (word k).mark (not (word k).stuck) (ap not e);
      };
    }
