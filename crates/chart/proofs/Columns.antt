-- The loop that compares on one column after the other.
use Rattle.std.proofs.Common.{◌≡◌, ℕ, ◌+◌, ◌≤◌, min, Bool, List, [], ◌∷◌, refl, ap, ◌∙◌, ap₂, arith}
use Rattle.cam.specs.declared.operation.Operation.{Operation}
use Rattle.cam.specs.declared.operation.Operation.TheVariants.{Compare}
use Rattle.cam.specs.Machine.{upward}
use Rattle.cam.specs.Model.{Build, State, counted, hit}
use Rattle.cam.specs.Operations.{after_all}
use Rattle.cam.specs.Patterns.{equal_bits, all_but}
use Rattle.chart.specs.Chart.{Hits}
use Rattle.cam.proofs.BitLaws.{Built, built_none}
use Rattle.cam.proofs.Operating.{after_up}

-- the compare of one column
abbrev pub one : Build → Bool → ℕ → List Operation
one B b j = Compare (equal_bits B.width b) (all_but B.width j) ∷ []

-- whether it hits
abbrev pub hits_at : Build → Bool → State → ℕ → Bool
hits_at B b S j = hit B (equal_bits B.width b) (all_but B.width j) S

-- The first i columns are compared: `hits` has their hits, and nothing but the tally changed.
pub record Asked (B : Build) (b : Bool) (S : State) (i hits : ℕ) (E : Build) (T : State) : Type 0 where
  pub stays : E ≡ B
  pub ends : T ≡ after_all B (upward i (one B b)) S
  pub bits : T.held ≡ S.held
  pub marks : T.mark ≡ S.mark
  pub built : Built (hits_at B b S) hits i

pub asked_none : (B : Build) (b : Bool) (S : State) → Asked B b S 0 0 B S
asked_none B b S = record { stays = refl; ends = refl; bits = refl; marks = refl; built = built_none _ }

pub equal_at : (w x p : ℕ) (b : Bool) → w ≤ 64 → x ≡ w → p ≡ equal_bits (min x 64) b → p ≡ equal_bits w b
equal_at w x p b l e q = q ∙ ap (λ (n : ℕ). equal_bits n b) (let m : min x 64 ≡ w = omega arith in m)

pub but_at : (w x p j : ℕ) → w ≤ 64 → x ≡ w → p ≡ all_but (min x 64) j → p ≡ all_but w j
but_at w x p j l e q = q ∙ ap (λ (n : ℕ). all_but n j) (let m : min x 64 ≡ w = omega arith in m)

module _ (B : Build) (b : Bool) (S : State) (i hits : ℕ) (E : Build) (T : State) (asked : Asked B b S i hits E T)
    (p m : ℕ) (p-is : p ≡ equal_bits B.width b) (m-is : m ≡ all_but B.width i) where
  -- a compare answers what it would have answered before the others
  pub asked_hit : (r : Bool) → r ≡ hit E p m T → r ≡ hits_at B b S i
  asked_hit r e =
      e ∙ ap₂ (λ p m. hit E p m T) p-is m-is ∙ ap (λ E. hit E (equal_bits B.width b) (all_but B.width i) T) asked.stays
      ∙ ap₂ (λ h k. hit B (equal_bits B.width b) (all_but B.width i) (record { held = h; mark = k; tally = T.tally })) asked.bits asked.marks

  pub asked_next : (more : ℕ) (F : Build) (U : State) → F ≡ E → U ≡ counted T → Built (hits_at B b S) more (i + 1)
      → Asked B b S (i + 1) more F U
  asked_next more F U f u built =
      record {
        stays = f ∙ asked.stays;
        ends = after_up (one B b) i (Compare p m ∷ []) B E S T U (ap₂ (λ p m. Compare p m ∷ []) p-is m-is) asked.stays asked.ends u;
        bits = ap (λ U. U.held) u ∙ asked.bits;
        marks = ap (λ U. U.mark) u ∙ asked.marks;
        built = built;
      }

-- every column is compared
pub asked_all : (B : Build) (b : Bool) (S : State) (n hits : ℕ) (E : Build) (T : State) → n ≡ B.width → Asked B b S n hits E T → Hits B b S hits E T
asked_all B b S n hits E T all asked =
    record {
      each = λ j l. asked.built.0 j (omega arith);
      bits = asked.bits;
      marks = asked.marks;
      ends = asked.ends ∙ ap (λ (n : ℕ). after_all B (upward n (one B b)) S) all;
      stays = asked.stays;
    }
