-- What a trial comes to from where it stands. Each turn of a loop leaves this as it is, so that it is in the end what it
-- was at the start.
use Rattle.std.proofs.Common.{◌≡◌, ℕ, suc, ◌+◌, ◌<◌, ◌≤◌, min, Bool, true, false, cond, List, [], ◌∷◌, ◌++◌, length, take, drop, set, sym, refl, ap, ◌∙◌, ap₂, append_assoc, add-one, arith, take-suc-set, drop-set-lt}
use Rattle.cam.specs.Buffers.{over}
use Rattle.cam.specs.Model.{Build, State}
use Rattle.cam.proofs.Buffers.{over_nil}
use Rattle.march.specs.declared.step.Step.{Step}
use Rattle.mlt1.specs.Left.{left_in}
use Rattle.mlt1.proofs.Lefts.{left_start}
use Rattle.march.specs.Tests.{Element, schedule, stepped, missed, after, misses}
use Rattle.std.proofs.lemmas.Bool.{cond-true}
use Rattle.march.proofs.Sweeps.{misses_within}
use Rattle.trials.specs.declared.doing.Log.{Log}
use Rattle.trials.specs.declared.result.TrialResult.{TrialResult}
use Rattle.trials.specs.Outcomes.{is_check, outcomes, check_count}
use Rattle.trials.proofs.Outcomes.{checks-cons, one_each}
use Rattle.trials.specs.Trials.{logged, noted}

pub record Outlook : Type 0 where
  pub build : Build
  pub ends : State
  pub operations : ℕ
  pub misses : ℕ
  pub buffer : List ℕ
  pub filled : ℕ

-- these steps are left to do on an array, with this buffer and this log
abbrev pub outlook : Build → List Step → State → List ℕ → Log → Outlook
outlook B ss S b log =
    record {
      build = B;
      ends = after B ss S;
      operations = log.so_far.operations + length ss;
      misses = log.so_far.misses + misses B ss S;
      buffer = over b log.outcomes (outcomes B ss S);
      filled = log.outcomes + length (outcomes B ss S);
    }

-- a byte more
over_more : (x at : ℕ) (b xs : List ℕ) → at < length b → over (set b at x) (at + 1) xs ≡ over b at (x ∷ xs)
over_more x at b xs l =
    ap₂ (λ p q. p ++ (xs ++ q))
    (ap (λ (n : ℕ). take n (set b at x)) (add-one at) ∙ take-suc-set b at x l)
    (drop-set-lt (at + 1 + length xs) b at x (omega arith) ∙ ap (λ (n : ℕ). drop n b) (let e : at + 1 + length xs ≡ at + suc (length xs) = omega arith in e))
    ∙ append_assoc (take at b) (x ∷ []) (xs ++ drop (at + suc (length xs)) b)

over_noted : (t : Bool) (x at : ℕ) (b xs : List ℕ) → (t ≡ true → at < length b)
    → over (cond t (set b at x) b) (at + cond t 1 0) xs ≡ over b at (cond t (x ∷ []) [] ++ xs)
over_noted true x at b xs l = over_more x at b xs (l refl)
over_noted false x at b xs l = ap (λ (n : ℕ). over b n xs) (let e : at + 0 ≡ at = omega arith in e)

filled_noted : (t : Bool) (x at : ℕ) (xs : List ℕ) → at + cond t 1 0 + length xs ≡ at + length (cond t (x ∷ []) [] ++ xs)
filled_noted true x at xs = omega arith
filled_noted false x at xs = omega arith

step_done : (B : Build) (s : Step) (ss : List Step) (S : State) (b : List ℕ) (log : Log)
    → (is_check s.operation ≡ true → log.outcomes < length b)
    → outlook B ss (stepped B s S) (noted B s S log.outcomes b) (logged B s S log) ≡ outlook B (s ∷ ss) S b log
step_done B s ss S b log room = λ d.
    record {
      build = B;
      ends = after B ss (stepped B s S);
      operations = (let e : log.so_far.operations + 1 + length ss ≡ log.so_far.operations + suc (length ss) = omega arith in e) d;
      misses = (let e : log.so_far.misses + missed B s S + misses B ss (stepped B s S) ≡ log.so_far.misses + (missed B s S + misses B ss (stepped B s S)) = omega arith in e) d;
      buffer = over_noted (is_check s.operation) (missed B s S) log.outcomes b (outcomes B ss (stepped B s S)) room d;
      filled = filled_noted (is_check s.operation) (missed B s S) log.outcomes (outcomes B ss (stepped B s S)) d;
    }

-- the first of the steps that are left is done
pub outlook_step : (B E : Build) (s : Step) (ss : List Step) (S T : State) (b c : List ℕ) (log next : Log)
    → E ≡ B → T ≡ stepped B s S → c ≡ noted B s S log.outcomes b → next ≡ logged B s S log
    → (is_check s.operation ≡ true → log.outcomes < length b)
    → outlook E ss T c next ≡ outlook B (s ∷ ss) S b log
outlook_step B E s ss S T b c log next e t n l room =
    ap₂ (λ (E : Build) (T : State). outlook E ss T c next) e t
    ∙ ap₂ (λ c log. outlook B ss (stepped B s S) c log) n l
    ∙ step_done B s ss S b log room

pub outlook_at : (B : Build) (xs ys : List Step) (S : State) (b : List ℕ) (log : Log) → xs ≡ ys → outlook B xs S b log ≡ outlook B ys S b log
outlook_at B xs ys S b log e = ap (λ zs. outlook B zs S b log) e

-- a trial that has done nothing, with all of these steps before it
abbrev pub nothing_done : Log
nothing_done = record { so_far = record { operations = 0; misses = 0 }; outcomes = 0 }

abbrev pub whole_outlook : Build → List Step → State → List ℕ → Outlook
whole_outlook B ss S b = outlook B ss S b nothing_done

-- a default log says that nothing is done
pub started : (B : Build) (ss : List Step) (S : State) (b : List ℕ) (log : Log)
    → ((log.so_far.operations ≡ 0) × (log.so_far.misses ≡ 0)) × (log.outcomes ≡ 0) → outlook B ss S b log ≡ whole_outlook B ss S b
started B ss S b log e =
    ap {A = Log} (outlook B ss S b) (λ d. record { so_far = record { operations = e.0.0 d; misses = e.0.1 d }; outcomes = e.1 d })

abbrev told : ℕ → ℕ → TrialResult
told operations misses = record { operations = operations; misses = misses }

-- Nothing is left: what was to come has come.
pub outlook_end : (B E : Build) (left whole : List Step) (S T : State) (b c : List ℕ) (log : Log)
    → outlook E left T c log ≡ whole_outlook B whole S b → left ≡ []
    → (E ≡ B) × (T ≡ after B whole S) × (log.so_far ≡ record { operations = length whole; misses = misses B whole S }) × (c ≡ over b 0 (outcomes B whole S))
outlook_end B E left whole S T b c log e none =
    let all : outlook E [] T c log ≡ whole_outlook B whole S b = sym (outlook_at E left [] T c log none) ∙ e in
    let done : log.so_far.operations + 0 ≡ 0 + length whole = ap (λ o. o.operations) all in
    let lost : log.so_far.misses + 0 ≡ 0 + misses B whole S = ap (λ o. o.misses) all in (
      ap (λ o. o.build) all,
      ap (λ o. o.ends) all,
      ap₂ told (omega arith) (omega arith),
      sym (over_nil c log.outcomes) ∙ ap (λ o. o.buffer) all,
    )

-- The whole test as the code walks it: the words and bits are those that it was told.
pub whole_is : (N W n w : ℕ) (xs : List Element) {es : List Element} → n ≡ N → w ≡ W → W ≤ 64 → xs ≡ es → left_in n (min w 64) xs 0 0 ≡ schedule N W es
whole_is N W n w xs {es} p q l e =
    ap₂ (λ (a b : ℕ). left_in a b xs 0 0) p (let e : min w 64 ≡ W = omega arith in e) ∙ left_start N W xs ∙ ap (schedule N W) e

-- A step comes next. The counts have room for it, and the buffer has where it is a check, as both had for all of them
-- at the start.
pub outlook_room : (B E : Build) (s : Step) (ss whole : List Step) (S T : State) (b c : List ℕ) (log : Log)
    → outlook E (s ∷ ss) T c log ≡ whole_outlook B whole S b
    → check_count whole ≤ length b → length c ≡ length b
    → (is_check s.operation ≡ true → log.outcomes < length c) × (log.so_far.operations < length whole) × (log.so_far.misses ≤ length whole)
outlook_room B E s ss whole S T b c log e room size =
    let same : log.outcomes + length (outcomes E (s ∷ ss) T) ≡ 0 + length (outcomes B whole S) = ap (λ o. o.filled) e in
    let done : log.so_far.operations + suc (length ss) ≡ 0 + length whole = ap (λ o. o.operations) e in
    let lost : log.so_far.misses + misses E (s ∷ ss) T ≡ 0 + misses B whole S = ap (λ o. o.misses) e in (
      λ t. let one : check_count (s ∷ ss) ≡ 1 + check_count ss = checks-cons s ss ∙ ap (λ (n : ℕ). n + check_count ss) (cond-true (is_check s.operation) 1 0 t) in
          omega (arith, one_each E (s ∷ ss) T, one_each B whole S),
      omega arith,
      omega (arith, misses_within B whole S),
    )
