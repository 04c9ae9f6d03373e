-- A whole run on a bench: every step of the schedule is done, and the close is granted.
use Rattle.std.proofs.Common.{◌≡◌, ℕ, ◌+◌, ◌*◌, ◌≤◌, min, leb, true, is_some, is_none, eqb, ◌↔◌, List, length, None, Ok, Err, Result, sym, refl, ap, ◌∙◌, subst, ap₂, ⊎_elim, arith, IfOk, OnOk, MatchResult}
use Rattle.std.proofs.lemmas.Bool.{eq-eqb, le-leb, cond-true, and_from}
use Rattle.std.proofs.lemmas.Bool.Decides.{nat_tests as tells}
use Rattle.cam.specs.declared.fault.Fault.{Fault}
use Rattle.cam.specs.Defects.{Sound}
use Rattle.cam.specs.Model.{Build, State, WellFormed, tally_cap}
use Rattle.cam.specs.Refusals.{Question, Asks, AsksIn, first_no}
use Rattle.cam.proofs.Asking.{refused_not_0, both_yes}
use Rattle.march.specs.Tests.{schedule, after, misses}
use Rattle.march.proofs.Sweeps.{after_tally}
use Rattle.mlt1.specs.declared.state.RunState.{RunState}
use Rattle.mlt1.specs.Left.{left, at_start, Went}
use Rattle.mlt1.specs.Mlt1.{mlt1}
use Rattle.mlt1.proofs.Lefts.{left_start}
use Rattle.mlt1.proofs.Lengths.{length_is}
use Rattle.mlt1.proofs.Wents.{went_whole}
use Rattle.bench.specs.declared.books.Books.{Books}
use Rattle.bench.specs.Books.{new_books, run_in_hand, started, with_run, closed, found, finding_number, ran_whole}
use Rattle.bench.specs.Questions.{limit, run_length, chart_length, start_questions, step_questions, close_questions, chart_questions}
use Rattle.bench.specs.Judging.{judge_questions}
use Rattle.bench.proofs.Ruling.{found_cases}

-- a call whose questions are all answered yes is granted
pub granted_in : {X E : Type 0} (fault : E → Fault) (qs : List Question) (r : Result X E) → first_no qs ≡ 0 → AsksIn fault qs r → (x : X) × (r ≡ Ok x)
granted_in fault qs (Ok x) z a = (x, refl)
granted_in fault qs (Err e) z a = absurd (refused_not_0 (first_no qs) (fault e) a z)

pub at_ok : {X E : Type 0} (P : X → Type 0) (Q : E → Type 0) (r : Result X E) (x : X) → r ≡ Ok x → MatchResult r P Q → P x
at_ok {X = X} {E = E} P Q r x e m = let M : Result X E → Type 0 = λ r. MatchResult r P Q in subst M e m

-- what was found is sound exactly without a defect
pub found_sound : (B : Build) (n : ℕ) → ((n ≡ 0) ↔ Sound B) → (finding_number (found n) ≡ 1) ↔ Sound B
found_sound B n tells = (
  λ e. ⊎_elim (λ p. tells.0 p.0) (λ p. absurd (omega (arith, e, ap finding_number p.1))) (found_cases n),
  λ s. ⊎_elim (λ p. ap finding_number p.1) (λ p. absurd (p.0 (tells.1 s))) (found_cases n),
)

-- The steps of a run that was just started, as many as a whole run has, and what they leave for the close.
pub record AllDone (B : Build) (S : State) (b : Books) (number : ℕ) (E : Build) (T : State) (c : Books) : Type 0 where
  pub stays : E ≡ B
  pub array : T ≡ after B (schedule B.words B.width mlt1) S
  pub missed : (run_in_hand c).misses ≡ misses B (schedule B.words B.width mlt1) S
  pub asked : first_no (close_questions E c number) ≡ 0
  pub closes : closed c ≡ ran_whole (found (run_in_hand c).misses) b

pub all_done : (B : Build) (S : State) (b : Books) (C E : Build) (R T : State) (s c : Books) (number k : ℕ) (r : Result ℕ Fault)
    → WellFormed B S → C ≡ B → R ≡ S → s ≡ started b → number ≡ s.starts → k ≡ run_length B
    → Asks (step_questions s number) r
    → IfOk r (λ n. n ≡ min k (length (left C.words C.width (run_in_hand s))))
    → IfOk r (λ n. Went C n (run_in_hand s) (run_in_hand c) R T)
    → OnOk r (c ≡ with_run (run_in_hand c) s)
    → E ≡ C → AllDone B S b number E T c
all_done B S b C E R T s c number k r formed e t s-is n-is k-is asks most went other f =
    let on : is_some s.run ≡ true = ap (λ (s : Books). is_some s.run) s-is in
    let fresh : run_in_hand s ≡ at_start = ap run_in_hand s-is in
    let granted : first_no (step_questions s number) ≡ 0 = cond-true _ 0 55 (and_from (is_some s.run) (eqb number s.starts) on (eq-eqb number s.starts n-is)) in
    let got = granted_in (λ f. f) (step_questions s number) r granted asks in
    let n = got.0 in
    let many = at_ok (λ n. n ≡ min k (length (left C.words C.width (run_in_hand s)))) _ r n got.1 most in
    let done = at_ok (λ n. Went C n (run_in_hand s) (run_in_hand c) R T) _ r n got.1 went in
    let others = at_ok (λ _. c ≡ with_run (run_in_hand c) s) _ r n got.1 other in
    let go : Went B n at_start (run_in_hand c) S T =
    subst (λ (R : State). Went B n at_start (run_in_hand c) R T) t
    (subst (λ (C : Build). Went C n at_start (run_in_hand c) R T) e
    (subst (λ (q : RunState). Went C n q (run_in_hand c) R T) fresh done)) in
    let begun = left_start B.words B.width mlt1 in
    let all_left : length (left C.words C.width (run_in_hand s)) ≡ length (left B.words B.width at_start) =
    ap₂ (λ (C : Build) (q : RunState). length (left C.words C.width q)) e fresh in
    let count = length_is B.words B.width in
    let run = went_whole B n k at_start (run_in_hand c) S T go begun refl (omega (arith, many, all_left)) (omega (arith, count)) (omega (arith, formed.few_words, formed.few_bits)) in
    let place : (run_in_hand c).place ≡ run_length B = omega (arith, go.place, run.2, count, formed.few_words, formed.few_bits) in
    let there : (run_in_hand c).place ≡ run_length E = place ∙ ap run_length (sym (f ∙ e)) in
    let running : is_some c.run ≡ true = ap (λ (c : Books). is_some c.run) others in
    let starts : number ≡ c.starts = n-is ∙ sym (ap (λ (c : Books). c.starts) others) in
    record {
      stays = f ∙ e;
      array = run.1;
      missed = run.0;
      asked = both_yes _ _ 55 56 (and_from (is_some c.run) (eqb number c.starts) running (eq-eqb number c.starts starts)) (eq-eqb (run_in_hand c).place (run_length E) there);
      closes = ap closed others ∙ ap (λ (s : Books). closed (with_run (run_in_hand c) s)) s-is;
    }

-- an array whose judging is granted has a byte for each cell, and room for a run and a chart
judge_asked : (B : Build) (S : State) (bytes : ℕ) → first_no (judge_questions B S bytes) ≡ 0
    → (B.words * B.width ≤ bytes) × (S.tally + (run_length B + chart_length B) ≤ limit)
judge_asked B S bytes e = (grind (arith, tells), grind (arith, tells))

-- a run on a new bench is granted where a judging is
pub run_granted : (B : Build) (S : State) (b : Books) (bytes : ℕ) → b ≡ new_books
    → first_no (judge_questions B S bytes) ≡ 0 → first_no (start_questions B S b) ≡ 0
run_granted B S b bytes new asked =
    let both = judge_asked B S bytes asked in
    ap (λ (b : Books). first_no (start_questions B S b)) new
    ∙ both_yes true _ 51 54 refl (and_from (leb (S.tally + run_length B) limit) true (le-leb (S.tally + run_length B) limit (omega (arith, both.1))) refl)

-- after a whole run there is still room for a chart that there was room for before
pub chart_granted : (B : Build) (S : State) (C : Build) (T : State) (b : Books) (bytes : ℕ)
    → C ≡ B → T ≡ after B (schedule B.words B.width mlt1) S → b.run ≡ None
    → first_no (judge_questions B S bytes) ≡ 0 → S.tally ≤ tally_cap → first_no (chart_questions C T b bytes) ≡ 0
chart_granted B S C T b bytes e t idle asked cap =
    let both = judge_asked B S bytes asked in
    let tally = ap (λ (S : State). S.tally) t ∙ after_tally B (schedule B.words B.width mlt1) S cap in
    let count = length_is B.words B.width in
    cond-true (is_none b.run) _ 51 (ap is_none idle)
    ∙ cond-true _ _ 57 (le-leb (C.words * C.width) bytes (omega (arith, both.0, ap (λ (C : Build). C.words * C.width) e)))
    ∙ cond-true _ 0 54 (le-leb (T.tally + chart_length C) limit (omega (arith, both.1, tally, count, ap chart_length e)))
