-- Planting faults.
use Rattle.std.proofs.Common.{◌≡◌, ℕ, ◌+◌, ◌<◌, List, get_or, drop, add-one, drop-cons, Bool, true, false, not, ◌&&◌, ◌||◌, eqb, [], ◌∷◌, Ok, Err, Result, sym, refl, ap, ◌∙◌, ap₂, MatchResult}
use mathlib.Core.Path.{fun_ext}
use Rattle.std.proofs.lemmas.Bool.{true≢false, eqb-true, and_parts}
use Rattle.cam.specs.Model.{Build}
use Rattle.cam.specs.Defects.{in_set, is_pair, same_cell, with_pair, has_cell}
use Rattle.cam.specs.Refusals.{ask, Asks}
use Rattle.cam.specs.declared.fault.Fault.{Fault}
use Rattle.cam.specs.declared.defect.Pair.{Pair}
use Rattle.cam.specs.declared.defect.WrongSet.{WrongSet}
use Rattle.cam.proofs.Asking.{refused_not_0, both_yes}
use Rattle.cam.proofs.Below.{split}
use Rattle.planes.specs.declared.array.PlaneArray.{PlaneArray}
use Rattle.planes.specs.Planes.{build_of, state_of}
use Rattle.campaigns.specs.Faults.{with_pairs}

-- equal pairs, equal builds
pairs_same : (a j : ℕ) (p q : Bool → Bool → Bool) (B : Build) → ((h b : Bool) → p h b ≡ q h b) → with_pairs a j p B ≡ with_pairs a j q B
pairs_same a j p q B e = ap (λ f. with_pairs a j f B) (fun_ext (λ h. fun_ext (λ b. e h b)))

or_both : (s p q w : Bool) → ((s && p) || ((s && q) || w)) ≡ ((s && (p || q)) || w)
or_both true true q w = refl
or_both true false q w = refl
or_both false p q w = refl

-- pairs planted after others
pub pairs_joined : (a j : ℕ) (p q : Bool → Bool → Bool) (B : Build) → with_pairs a j p (with_pairs a j q B) ≡ with_pairs a j (λ h b. p h b || q h b) B
pairs_joined a j p q B = λ d.
    record {
      words = B.words;
      width = B.width;
      storage = B.storage;
      wrong = fun_ext (λ k. fun_ext (λ i. fun_ext (λ h. fun_ext (λ b. or_both (same_cell a j k i) (p h b) (q h b) (B.wrong k i h b))))) d;
      stuck = B.stuck;
    }

-- one pair planted alone
and_yes : (p w : Bool) → w ≡ true → (p && w) ≡ p
and_yes true w t = t
and_yes false w t = refl

pair_alone : (a j : ℕ) (h b wanted : Bool) (B : Build) → wanted ≡ true → with_pair a j h b B ≡ with_pairs a j (λ g d. is_pair h b g d && wanted) B
pair_alone a j h b wanted B t = pairs_same a j (is_pair h b) (λ g d. is_pair h b g d && wanted) B (λ g d. sym (and_yes (is_pair h b g d) wanted t))

pair_is : (h b g d : Bool) → is_pair h b g d ≡ true → (g ≡ h) × (d ≡ b)
pair_is true true true true e = (refl, refl)
pair_is true true true false e = absurd (true≢false (sym e))
pair_is true true false d e = absurd (true≢false (sym e))
pair_is true false true true e = absurd (true≢false (sym e))
pair_is true false true false e = (refl, refl)
pair_is true false false d e = absurd (true≢false (sym e))
pair_is false true true d e = absurd (true≢false (sym e))
pair_is false true false true e = (refl, refl)
pair_is false true false false e = absurd (true≢false (sym e))
pair_is false false true d e = absurd (true≢false (sym e))
pair_is false false false true e = absurd (true≢false (sym e))
pair_is false false false false e = (refl, refl)

present : (s p v w : Bool) → (s ≡ true → p ≡ true → w ≡ true) → ((s && (p && v)) || w) ≡ w
present true true true w h = sym (h refl refl)
present true true false w h = refl
present true false v w h = refl
present false p v w h = refl

-- a pair that is there already
pair_there : (a j : ℕ) (h b wanted : Bool) (B : Build) → B.wrong a j h b ≡ true → with_pairs a j (λ g d. is_pair h b g d && wanted) B ≡ B
pair_there a j h b wanted B t = λ d.
    record {
      words = B.words;
      width = B.width;
      storage = B.storage;
      wrong = fun_ext (λ k. fun_ext (λ i. fun_ext (λ g. fun_ext (λ c. present (same_cell a j k i) (is_pair h b g c) wanted (B.wrong k i g c) (λ s p.
          let cell = and_parts (eqb k a) (eqb i j) s in
          let pair = pair_is h b g c p in
          ap₂ (λ (k i : ℕ). B.wrong k i g c) (eqb-true k a cell.0) (eqb-true i j cell.1) ∙ ap₂ (B.wrong a j) pair.0 pair.1 ∙ t))))) d;
      stuck = B.stuck;
    }

-- a pair is planted where it is wanted, or is there already
pub pair_planted : (a j : ℕ) (h b wanted : Bool) (p q : PlaneArray) (r : Result (Unit {0}) Fault)
    → has_cell (build_of p) a j ≡ true → wanted ≡ true
    → Asks (ask (has_cell (build_of p) a j) 42 ∷ ask (not ((build_of p).wrong a j h b)) 43 ∷ []) r
    → MatchResult r (λ _. build_of q ≡ with_pair a j h b (build_of p)) (λ _. q ≡ p)
    → build_of q ≡ with_pairs a j (λ g d. is_pair h b g d && wanted) (build_of p)
pair_planted a j h b wanted p q (Ok u) inside t asked e = e ∙ pair_alone a j h b wanted (build_of p) t
pair_planted a j h b wanted p q (Err f) inside t asked e =
    split ((build_of p).wrong a j h b)
    (λ there. ap build_of e ∙ sym (pair_there a j h b wanted (build_of p) there))
    (λ new. absurd (refused_not_0 _ f asked (both_yes _ _ 42 43 inside (ap not new))))

pub state_kept : (p q : PlaneArray) (r : Result (Unit {0}) Fault) → MatchResult r (λ _. state_of q ≡ state_of p) (λ _. q ≡ p) → state_of q ≡ state_of p
state_kept p q (Ok u) e = e
state_kept p q (Err f) e = ap state_of e

-- those of some pairs that are in a set
abbrev pub among : WrongSet → List Pair → Bool → Bool → Bool
among s [] h b = false
among s (p ∷ ps) h b = among s ps h b || (is_pair p.held p.comparand h b && in_set s p.held p.comparand)

abbrev pub pair : Bool → Bool → Pair
pair h b = record { held = h; comparand = b }

abbrev pub four_pairs : List Pair
four_pairs = pair false false ∷ pair false true ∷ pair true true ∷ pair true false ∷ []

-- one of the four pairs is planted, if it is in the set
pub pair_turn : (a j i : ℕ) (s : WrongSet) (B E W : Build) → i < 4 → has_cell B a j ≡ true
    → with_pairs a j (among s (drop i four_pairs)) B ≡ W
    → (let p = get_or four_pairs i (pair false false) in E ≡ with_pairs a j (λ h b. is_pair p.held p.comparand h b && in_set s p.held p.comparand) B)
    → (with_pairs a j (among s (drop (i + 1) four_pairs)) E ≡ W) × (has_cell E a j ≡ true)
pair_turn a j i s B E W l inside w e =
    let p = get_or four_pairs i (pair false false) in
    let rest = drop (i + 1) four_pairs in (
      ap (with_pairs a j (among s rest)) e ∙ pairs_joined a j (among s rest) _ B
          ∙ ap (λ qs. with_pairs a j (among s qs) B) (ap (λ (n : ℕ). p ∷ drop n four_pairs) (add-one i) ∙ sym (drop-cons four_pairs i (pair false false) l)) ∙ w,
      ap (λ B. has_cell B a j) e ∙ inside,
    )

none_there : (s p w : Bool) → ((s && (p && false)) || w) ≡ w
none_there true true w = refl
none_there true false w = refl
none_there false p w = refl

-- a pair that is not wanted
pub not_planted : (a j : ℕ) (h b wanted : Bool) (B : Build) → wanted ≡ false → B ≡ with_pairs a j (λ g d. is_pair h b g d && wanted) B
not_planted a j h b wanted B t = λ d.
    record {
      words = B.words;
      width = B.width;
      storage = B.storage;
      wrong = fun_ext (λ k. fun_ext (λ i. fun_ext (λ g. fun_ext (λ c.
          sym (ap (λ w. (same_cell a j k i && (is_pair h b g c && w)) || B.wrong k i g c) t ∙ none_there (same_cell a j k i) (is_pair h b g c) (B.wrong k i g c)))))) d;
      stuck = B.stuck;
    }

-- all four are planted
pub four_planted : (a j : ℕ) (s : WrongSet) (ps qs : List Pair) (B E : Build) → ps ≡ four_pairs → qs ≡ []
    → with_pairs a j (among s qs) E ≡ with_pairs a j (among s ps) B → E ≡ with_pairs a j (in_set s) B
four_planted a j s ps qs B E four none e =
    not_planted a j false false false E refl ∙ pairs_same a j _ (among s []) E (λ h b. and_no (is_pair false false h b))
    ∙ ap (λ qs. with_pairs a j (among s qs) E) (sym none) ∙ e ∙ ap (λ ps. with_pairs a j (among s ps) B) four ∙ pairs_same a j _ (in_set s) B each
  where
    and_no : (p : Bool) → (p && false) ≡ false
    and_no true = refl
    and_no false = refl

    or_no : (x : Bool) → (x || false) ≡ x
    or_no true = refl
    or_no false = refl

    each : (h b : Bool) → among s four_pairs h b ≡ in_set s h b
    each true true = or_no _ ∙ or_no s.has11
    each true false = or_no _ ∙ or_no _ ∙ or_no s.has10
    each false true = or_no s.has01
    each false false = refl
