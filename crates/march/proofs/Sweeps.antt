-- The laws of runs, at the machine of the model: each is the general one of Machine.
use Rattle.std.proofs.Common.{◌≡◌, ℕ, ◌+◌, ◌<◌, ◌≤◌, min, Bool, true, false, cond, List, [], ◌∷◌, ◌++◌, map, length, refl, ap, ◌∙◌, arith}
use lib.ListN.{length-map}
use Rattle.cam.specs.Model.{Build, State, tally_cap}
use Rattle.cam.specs.Operations.{after_all}
use Rattle.cam.proofs.Operating.{tally_rises}
use Rattle.march.specs.declared.step.Step.{Step}
use Rattle.march.specs.Steps.{missing}
use Rattle.march.specs.Tests.{stepped, missed, after, misses}
use Rattle.cam.proofs.Machine as R
pub use Rattle.cam.proofs.Machine.{sweep}

pub after-++ : (B : Build) (xs ys : List Step) (S : State) → after B (xs ++ ys) S ≡ after B ys (after B xs S)
after-++ B = R.after-++ (stepped B) (missed B)

pub first_passes : (B : Build) (xs ys : List Step) (S : State) → misses B (xs ++ ys) S ≡ 0 → misses B xs S ≡ 0
first_passes B = R.first_passes (stepped B) (missed B)

pub then_passes : (B : Build) (xs ys : List Step) (S : State) → misses B (xs ++ ys) S ≡ 0 → misses B ys (after B xs S) ≡ 0
then_passes B = R.then_passes (stepped B) (missed B)

pub both_pass : (B : Build) (xs ys : List Step) (S : State) → misses B xs S ≡ 0 → misses B ys (after B xs S) ≡ 0 → misses B (xs ++ ys) S ≡ 0
both_pass B = R.both_pass (stepped B) (missed B)

module _ (B : Build) (N : ℕ) (f : ℕ → List Step) where
  pub kept : (Q : State → Type 0) (n : ℕ) → n ≤ N → ((k : ℕ) (S : State) → k < n → Q S → Q (after B (f k) S))
      → (dir : Bool) (S : State) → Q S → Q (after B (sweep dir n f) S)
  kept = R.kept (stepped B) (missed B) N f

  pub gather : (I : State → Type 0) (Q : ℕ → State → Type 0)
      → ((k : ℕ) (S : State) → k < N → I S → misses B (f k) S ≡ 0 → I (after B (f k) S) × Q k (after B (f k) S))
      → ((k i : ℕ) (S : State) → k < N → i < N → Q i S → Q i (after B (f k) S))
      → (dir : Bool) (n : ℕ) → n ≤ N → (S : State) → I S → misses B (sweep dir n f) S ≡ 0
      → I (after B (sweep dir n f) S) × ((i : ℕ) → i < n → Q i (after B (sweep dir n f) S))
  gather = R.gather (stepped B) (missed B) N f

  pub passes : (P : ℕ → State → Type 0) → ((k : ℕ) (S : State) → k < N → P k S → misses B (f k) S ≡ 0)
      → ((k i : ℕ) (S : State) → k < N → i < N → (i ≡ k → ⊥) → P i S → P i (after B (f k) S))
      → (dir : Bool) (n : ℕ) → n ≤ N → (S : State) → ((i : ℕ) → i < n → P i S) → misses B (sweep dir n f) S ≡ 0
  passes = R.passes (stepped B) (missed B) N f

after_operations : (B : Build) (ss : List Step) (S : State) → after B ss S ≡ after_all B (map (λ s. s.operation) ss) S
after_operations B [] S = refl
after_operations B (s ∷ ss) S = after_operations B ss (stepped B s S)

-- each step counts as one operation
pub after_tally : (B : Build) (ss : List Step) (S : State) → S.tally ≤ tally_cap → (after B ss S).tally ≡ min (S.tally + length ss) tally_cap
after_tally B ss S h =
    ap (λ S. S.tally) (after_operations B ss S) ∙ tally_rises B (map (λ s. s.operation) ss) S h
    ∙ ap (λ (n : ℕ). min (S.tally + n) tally_cap) (length-map ss _)

-- a step misses at most once
pub misses_within : (B : Build) (ss : List Step) (S : State) → misses B ss S ≤ length ss
misses_within B = R.misses_few (stepped B) (missed B) (λ s S. one (missing B s S))
  where
    one : (b : Bool) → cond {A = ℕ} b 1 0 ≤ 1
    one true = omega arith
    one false = omega arith
