-- MLT-1 separates sound from faulty.
use Rattle.std.proofs.Common.{◌≡◌, ℕ, ◌<◌, true, false, List, [], ◌∷◌, ◌++◌, map, sym, refl, ap, ◌∙◌, ap₂, le_refl}
use Rattle.cam.specs.Model.{Build, State, Steady}
use Rattle.cam.specs.Defects.{Sound}
use Rattle.march.specs.declared.step.Step.{Step}
use Rattle.march.specs.declared.element.TestOperation.TheVariants.{Write}
use Rattle.cam.specs.Machine.{upward}
use Rattle.march.specs.Tests.{at_word, schedule, after, misses}
use Rattle.cam.proofs.Machine.{upward_reversed}
use Rattle.march.proofs.Sweeps.{gather, passes, then_passes, both_pass}
use Rattle.mlt1.specs.Mlt1.{mlt1}
use Rattle.mlt1.specs.Separation.{Separates}
use Rattle.mlt1.proofs.Halves.{turn, look, column, half, takes_good, half_takes, half_shows, half_passes, wr_is, wr_free, is_kept, AllGood, Free, Is, Uniform}

module _ (B : Build) where
  abbrev start : ℕ → List Step
  start a = map (at_word B.width a) (Write true ∷ [])

  abbrev E1 : List Step
  E1 = upward B.words start

  abbrev tail : List Step
  tail = half B true true (half B false false [])

  start_passes : (S : State) → misses B E1 S ≡ 0
  start_passes S = passes B B.words start (λ k T. Unit {0}) (λ k T hk u. refl) (λ k i T hk hi n u. tt) true B.words (le_refl B.words) S (λ i hi. tt)

  start_uniform : AllGood B → (S : State) → Steady B S → Uniform B true (after B E1 S)
  start_uniform good S st =
      (gather B B.words start (λ T. (k : ℕ) → k < B.words → Free B k T) (Is B true)
      (λ k T hk f m. (λ i hi. wr_free B true k i T (f i hi), wr_is B good true k T hk (f k hk)))
      (λ k i T hk hi q. is_kept B good true k i T hk q)
      true B.words (le_refl B.words) S (λ k hk e. st.clear k hk e) (start_passes S)).1

  -- the schedule is the first sweep and the two halves
  schedule_is : schedule B.words B.width mlt1 ≡ E1 ++ tail
  schedule_is =
      ap₂ (λ xs ys. E1 ++ half B true true (xs ++ (ys ++ (upward B.width (column B false) ++ []))))
      (upward_reversed B.words (turn B false)) (upward_reversed B.words (look B false))

  to : (S : State) → 0 < B.width → Steady B S → misses B (E1 ++ tail) S ≡ 0 → Sound B
  to S w1 st h =
      let T : State = after B E1 S in
      let ht : misses B tail T ≡ 0 = then_passes B E1 tail S h in
      let t1 = half_takes B true true (half B false false []) T ht in
      let t0 = half_takes B false false [] t1.1.0 t1.1.1 in
      let good : AllGood B = λ k j hk hj. takes_good (B.storage k j) (t1.0 k hk j hj) (t0.0 k hk j hj) in
      let s1 = half_shows B good w1 true true (half B false false []) T (start_uniform good S st) ht in
      let s0 = half_shows B good w1 false false [] s1.2.0 s1.2.1 s1.2.2 in
      let r0 : (k : ℕ) → k < B.words → (B.stuck k ≡ false) × ((j : ℕ) → j < B.width → B.wrong k j false false ≡ false) = s1.0 s0.1 in
      let r1 : (k : ℕ) → k < B.words → (B.stuck k ≡ false) × ((j : ℕ) → j < B.width → B.wrong k j true true ≡ false) = s0.0 s1.1 in
      record {
        good = good;
        right = λ k j hk hj. elim [
          | true ↦ elim [ true ↦ (r1 k hk).1 j hj | false ↦ s0.1 k hk (r0 k hk).0 j hj ]
          | false ↦ elim [ true ↦ s1.1 k hk (r0 k hk).0 j hj | false ↦ (r0 k hk).1 j hj ]
        ];
        free = λ k hk. (r0 k hk).0;
      }

  from : (S : State) → Steady B S → Sound B → misses B (E1 ++ tail) S ≡ 0
  from S st sound =
      both_pass B E1 tail S (start_passes S)
      (half_passes B sound true true (half B false false []) (after B E1 S) (start_uniform sound.good S st)
      (λ T u. half_passes B sound false false [] T u (λ U v. refl)))

pub separates : Separates
separates B S w1 st =
    let same : misses B (schedule B.words B.width mlt1) S ≡ misses B (E1 B ++ tail B) S = ap (λ xs. misses B xs S) (schedule_is B) in
    (λ h. to B S w1 st (sym same ∙ h), λ s. same ∙ from B S st s)
