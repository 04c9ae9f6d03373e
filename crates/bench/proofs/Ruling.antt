-- The rules hold of a new bench, and each call keeps them.
use Rattle.std.proofs.Common.{◌≡◌, ℕ, ◌+◌, ◌*◌, ◌<◌, ◌≤◌, true, false, is_some, is_none, Some, None, Option, eqb, ◌⊎◌, ◌↔◌, List, [], ◌++◌, length, get_or, take, drop, sym, refl, ap, ◌∙◌, subst, ap₂, inl, inr, ⊎_elim, mul-zero, zero-mul, mul-one, mul-add, arith, take-add}
use Rattle.std.proofs.lemmas.List.{length-drop, length-take-le, drop-drop, take_all, take_more}
use Rattle.std.proofs.lemmas.Nat.{mul-le}
use Rattle.std.specs.Option.{unwrap_or}
use Rattle.std.proofs.lemmas.Bool.{true≢false, cases_eq, eqb-true, eqb-false, not-true, cond-true, cond-false, both_ways}
use Rattle.std.proofs.lemmas.Bool.Decides.{nat_tests as tells}
use Rattle.cam.specs.Model.{Build, State, Steady, WellFormed, tally_cap}
use Rattle.cam.specs.Defects.{Sound}
use Rattle.cam.specs.Operations.{operated, after_all}
use Rattle.cam.specs.Refusals.{first_no}
use Rattle.cam.specs.declared.operation.Operation.{Operation}
use Rattle.cam.specs.declared.operation.Operation.TheVariants.{Write, Read, Compare, Erase}
use Rattle.cam.proofs.Below.{split}
use Rattle.cam.proofs.Operating.{tally_more, tally_rises}
use Rattle.cam.proofs.Machine.{after-++, misses-++}
use Rattle.march.specs.Tests.{schedule, stepped, missed, after, misses}
use Rattle.march.specs.declared.step.Step.{Step as TestStep}
use Rattle.march.proofs.Sweeps.{misses_within}
use Rattle.mlt1.specs.declared.state.RunState.{RunState}
use Rattle.mlt1.specs.Mlt1.{mlt1}
use Rattle.mlt1.specs.Left.{left, at_start, Went}
use Rattle.mlt1.proofs.Lefts.{left_start}
use Rattle.mlt1.proofs.Lengths.{length_is}
use Rattle.mlt1.proofs.Wents.{went_tally}
use Rattle.mlt1.proofs.Separating.{separates}
use Rattle.chart.specs.Chart.{chart_operations, blemishes}
use Rattle.chart.proofs.Lengths.{chart_length_lem}
use Rattle.bench.specs.declared.books.Books.{Books}
use Rattle.bench.specs.declared.books.Finding.{Finding}
use Rattle.bench.specs.declared.books.Finding.TheVariants.{Open, Sound as FoundSound, Faulty, Charted}
use Rattle.bench.specs.declared.calls.Call.{Call}
use Rattle.bench.specs.declared.calls.Call.TheVariants.{ByHand, Start, Step, Close, Quit, Chart, Finding as AskFinding}
use Rattle.bench.specs.Books.{finding_number, finding_count, more, new_books, run_in_hand, handled, started, with_run, found, closed, stopped, charted}
use Rattle.bench.specs.Questions.{limit, run_length, chart_length, hand_questions, start_questions, step_questions, close_questions, chart_questions}
use Rattle.bench.specs.Calls.{Desk, desk, Performs, Performed, none, then}
use Rattle.bench.specs.Rules.{Rules}

-- A run in hand: it began in the state `origin`, and has done the first steps of the schedule, as many as its place says.
pub record UnderWay (B : Build) (S : State) (r : RunState) : Type 0 where
  pub origin : State
  pub steady : Steady B origin
  pub rest : left B.words B.width r ≡ drop r.place (schedule B.words B.width mlt1)
  pub within : r.place ≤ length (schedule B.words B.width mlt1)
  pub array : S ≡ after B (take r.place (schedule B.words B.width mlt1)) origin
  pub missed : r.misses ≡ misses B (take r.place (schedule B.words B.width mlt1)) origin

-- What holds of every bench that calls have led to.
pub record Holds (B : Build) (made : ℕ) (D : Desk) : Type 0 where
  pub rules : Rules B made D.state D.books
  pub running : is_some D.books.run ≡ true → UnderWay B D.state (run_in_hand D.books)
  pub room : is_some D.books.run ≡ true → D.state.tally + run_length B ≤ limit + (run_in_hand D.books).place

-- what decides a finding
closed_of : (B : Build) (f : Finding) → (finding_number f ≡ 1 → Sound B) → (finding_number f ≡ 2 → Sound B → ⊥)
    → (finding_number f ≡ 1) ⊎ (finding_number f ≡ 2) → (finding_number f ≡ 1) ↔ Sound B
closed_of B f s n (inl e) = (s, λ _. e)
closed_of B f s n (inr e) = (s, λ sound. absurd (n e sound))

pub new_holds : (B : Build) (S : State) → Holds B S.tally (desk S new_books)
new_holds B S =
    record {
      rules = record {
        sound_is_sound = λ e. absurd (omega arith);
        faulty_is_faulty = λ e. absurd (omega arith);
        charted_is_counted = λ e. absurd (omega arith);
        closed_decides = closed_of B Open (λ e. absurd (omega arith)) (λ e. absurd (omega arith));
        open_exactly_before = (λ e. (refl, refl), λ e. refl);
        tally_adds_up = omega (arith, mul-zero (run_length B), mul-zero (chart_length B));
      };
      running = λ e. absurd (both_ways false refl e);
      room = λ e. absurd (both_ways false refl e);
    }

-- a count that is a factor of the tally is far from its largest number
product_more : (k c t : ℕ) → k * c ≤ t → t ≤ tally_cap → k * more c 1 ≡ k * c + k
product_more k c t h l =
    ⊎_elim
    (λ (z : k ≡ 0). ap (λ (k : ℕ). k * more c 1) z ∙ zero-mul (more c 1) ∙ sym (omega (arith, ap (λ (k : ℕ). k * c) z, zero-mul c)))
    (λ (p : k ≡ 0 → ⊥).
    let few : 1 * c ≤ k * c = mul-le 1 c k c (omega arith) (omega arith) in
    let one : more c 1 ≡ c + 1 = omega arith in
    ap (λ (n : ℕ). k * n) one ∙ mul-add k c 1 ∙ omega (arith, mul-one k))
    (cases_eq k 0)

-- what the questions of an operation by hand have in common
hand_asked : (B : Build) (S : State) (b : Books) (o : Operation) → first_no (hand_questions B S b o) ≡ 0
    → (is_none b.run ≡ true) × (S.tally + 1 ≤ limit)
hand_asked B S b (Write a p m) e = (grind (arith, tells), grind (arith, tells))
hand_asked B S b (Read a) e = (grind (arith, tells), grind (arith, tells))
hand_asked B S b (Compare p m) e = (grind (arith, tells), grind (arith, tells))
hand_asked B S b (Erase a) e = (grind (arith, tells), grind (arith, tells))

start_asked : (B : Build) (S : State) (b : Books) → first_no (start_questions B S b) ≡ 0
    → (is_none b.run ≡ true) × (S.tally + run_length B ≤ limit)
start_asked B S b e = (grind (arith, tells), grind (arith, tells))

step_asked : (b : Books) (ticket : ℕ) → first_no (step_questions b ticket) ≡ 0 → is_some b.run ≡ true
step_asked b ticket e = grind (arith, tells)

close_asked : (B : Build) (b : Books) (ticket : ℕ) → first_no (close_questions B b ticket) ≡ 0
    → (is_some b.run ≡ true) × ((run_in_hand b).place ≡ run_length B)
close_asked B b ticket e = (grind (arith, tells), grind (arith, tells))

chart_asked : (B : Build) (S : State) (b : Books) (bytes : ℕ) → first_no (chart_questions B S b bytes) ≡ 0
    → (is_none b.run ≡ true) × (S.tally + chart_length B ≤ limit)
chart_asked B S b bytes e = (grind (arith, tells), grind (arith, tells))

-- the two rules that what was found has to meet, for any new tally
module _ (B : Build) (made : ℕ) (S : State) (b : Books) (old : Rules B made S b) where
  same_finding : (T : State) (c : Books) → c.finding ≡ b.finding → c.closes ≡ b.closes → c.charts ≡ b.charts
      → T.tally ≡ made + c.hand + run_length B * c.closes + chart_length B * c.charts + c.quits + (run_in_hand c).place
      → Rules B made T c
  same_finding T c f l h t =
      record {
        sound_is_sound = λ e. old.sound_is_sound (ap finding_number (sym f) ∙ e);
        faulty_is_faulty = λ e. old.faulty_is_faulty (ap finding_number (sym f) ∙ e);
        charted_is_counted = λ e. ap finding_count f ∙ old.charted_is_counted (ap finding_number (sym f) ∙ e);
        closed_decides = closed_of B c.finding (λ e. old.sound_is_sound (ap finding_number (sym f) ∙ e)) (λ e. old.faulty_is_faulty (ap finding_number (sym f) ∙ e));
        open_exactly_before = (
          λ e. let both = old.open_exactly_before.0 (ap finding_number (sym f) ∙ e) in (l ∙ both.0, h ∙ both.1),
          λ p. ap finding_number f ∙ old.open_exactly_before.1 (sym l ∙ p.0, sym h ∙ p.1),
        );
        tally_adds_up = t;
      }

hand_holds : (B : Build) (made : ℕ) (D : Desk) (o : Operation) → WellFormed B D.state → Holds B made D
    → first_no (hand_questions B D.state D.books o) ≡ 0 → Holds B made (desk (operated B o D.state) (handled D.books))
hand_holds B made D o formed holds asked =
    let S = D.state in
    let b = D.books in
    let both = hand_asked B S b o asked in
    let idle : is_some b.run ≡ false = not-true (is_some b.run) both.0 in
    let sum = holds.rules.tally_adds_up in
    record {
      rules = same_finding B made S b holds.rules (operated B o S) (handled b) refl refl refl
          (omega (arith, tally_more B o S, both.1, sum));
      running = λ e. absurd (both_ways (is_some b.run) idle e);
      room = λ e. absurd (both_ways (is_some b.run) idle e);
    }

none_at_start : (o : Option RunState) → is_some o ≡ false → unwrap_or o at_start ≡ at_start
none_at_start None e = refl
none_at_start (Some r) e = absurd (true≢false e)

start_holds : (B : Build) (made : ℕ) (D : Desk) → WellFormed B D.state → Holds B made D
    → first_no (start_questions B D.state D.books) ≡ 0 → Holds B made (desk D.state (started D.books))
start_holds B made D formed holds asked =
    let S = D.state in
    let b = D.books in
    let both = start_asked B S b asked in
    let idle : is_some b.run ≡ false = not-true (is_some b.run) both.0 in
    let at = ap (λ (r : RunState). r.place) (none_at_start b.run idle) in
    record {
      rules = same_finding B made S b holds.rules S (started b) refl refl refl (omega (arith, holds.rules.tally_adds_up, at));
      running = λ e. record {
        origin = S;
        steady = formed.steady;
        rest = left_start B.words B.width mlt1;
        within = omega arith;
        array = refl;
        missed = refl;
      };
      room = λ e. omega (arith, both.1);
    }

-- a run that goes on
under_way_next : (B : Build) (n : ℕ) (S T : State) (r s : RunState) → WellFormed B S → UnderWay B S r
    → Went B n r s S T → (s.place ≡ r.place + n) × UnderWay B T s
under_way_next B n S T r s formed u w =
    let ss : List TestStep = schedule B.words B.width mlt1 in
    let k : ℕ = r.place in
    let count : length ss ≡ 11 * B.words + 2 * B.width = length_is B.words B.width in
    let fits : k + n ≤ length ss = omega (arith, u.within, w.within, ap length u.rest, length-drop k ss) in
    let place : s.place ≡ k + n = omega (arith, w.place, formed.few_words, formed.few_bits) in
    let next : take n (left B.words B.width r) ≡ take n (drop k ss) = ap (take n) u.rest in
    let whole : take (k + n) ss ≡ take k ss ++ take n (drop k ss) = take-add k n ss in
    let front : take s.place ss ≡ take k ss ++ take n (drop k ss) = ap (λ (i : ℕ). take i ss) place ∙ whole in
    let ends : T ≡ after B (take s.place ss) u.origin =
    w.array ∙ ap₂ (after B) next u.array ∙ sym (after-++ (stepped B) (missed B) (take k ss) (take n (drop k ss)) u.origin) ∙ ap (λ xs. after B xs u.origin) (sym front) in
    let added : misses B (take n (left B.words B.width r)) S ≡ misses B (take n (drop k ss)) (after B (take k ss) u.origin) =
    ap₂ (misses B) next u.array in
    let sum : misses B (take s.place ss) u.origin ≡ misses B (take k ss) u.origin + misses B (take n (drop k ss)) (after B (take k ss) u.origin) =
    ap (λ xs. misses B xs u.origin) front ∙ misses-++ (stepped B) (missed B) (take k ss) (take n (drop k ss)) u.origin in
    let few : misses B (take s.place ss) u.origin ≤ k + n =
    omega (arith, misses_within B (take s.place ss) u.origin, ap (λ (i : ℕ). length (take i ss)) place, length-take-le (k + n) ss fits) in (
      place,
      record {
        origin = u.origin;
        steady = u.steady;
        rest = w.rest ∙ ap (drop n) u.rest ∙ drop-drop n k ss ∙ ap (λ (i : ℕ). drop i ss) (sym place);
        within = omega arith;
        array = ends;
        missed = omega (arith, w.missed, u.missed, added, sum, few, fits, count, formed.few_words, formed.few_bits);
      },
    )

step_holds : (B : Build) (made : ℕ) (D E : Desk) (ticket n : ℕ) → WellFormed B D.state → Holds B made D
    → first_no (step_questions D.books ticket) ≡ 0
    → Went B n (run_in_hand D.books) (run_in_hand E.books) D.state E.state → E.books ≡ with_run (run_in_hand E.books) D.books → Holds B made E
step_holds B made D E ticket n formed holds asked w e =
    let S = D.state in
    let b = D.books in
    let T = E.state in
    let s = run_in_hand E.books in
    let on : is_some b.run ≡ true = step_asked b ticket asked in
    let u = holds.running on in
    let next = under_way_next B n S T (run_in_hand b) s formed u w in
    let ss : List TestStep = schedule B.words B.width mlt1 in
    let room = holds.room on in
    let count = length_is B.words B.width in
    let tally = went_tally B n (run_in_hand b) s S T w formed.tally_within in
    let within : (run_in_hand b).place + n ≤ run_length B = omega (arith, next.1.within, next.0, count) in
    let P : Books → Type 0 = λ c. Holds B made (desk T c) in
    subst P (sym e)
    (record {
      rules = same_finding B made S b holds.rules T (with_run s b) refl refl refl (omega (arith, holds.rules.tally_adds_up, tally, next.0, room, within));
      running = λ f. next.1;
      room = λ f. omega (arith, tally, next.0, room, within);
    })

-- what a run with these misses finds
pub found_cases : (n : ℕ) → ((n ≡ 0) × (found n ≡ FoundSound)) ⊎ ((n ≡ 0 → ⊥) × (found n ≡ Faulty n))
found_cases n =
    split (eqb n 0)
    (λ t. inl (eqb-true n 0 t, cond-true (eqb n 0) FoundSound (Faulty n) t))
    (λ t. inr (eqb-false n 0 t, cond-false (eqb n 0) FoundSound (Faulty n) t))

close_holds : (B : Build) (made : ℕ) (D : Desk) (ticket : ℕ) → WellFormed B D.state → Holds B made D
    → first_no (close_questions B D.books ticket) ≡ 0 → Holds B made (desk D.state (closed D.books))
close_holds B made D ticket formed holds asked =
    let S = D.state in
    let b = D.books in
    let both = close_asked B b ticket asked in
    let u = holds.running both.0 in
    let ss : List TestStep = schedule B.words B.width mlt1 in
    let n : ℕ = (run_in_hand b).misses in
    let all : take (run_in_hand b).place ss ≡ ss = take_all (run_in_hand b).place ss (omega (arith, both.1, length_is B.words B.width)) in
    let counted : n ≡ misses B ss u.origin = u.missed ∙ ap (λ xs. misses B xs u.origin) all in
    let tells = separates B u.origin formed.some_bits u.steady in
    let sound : n ≡ 0 → Sound B = λ z. tells.0 (sym counted ∙ z) in
    let clean : Sound B → n ≡ 0 = λ s. counted ∙ tells.1 s in
    let sum = holds.rules.tally_adds_up in
    let more-closes = product_more (run_length B) b.closes S.tally (omega arith) formed.tally_within in
    let is-sound : finding_number (found n) ≡ 1 → Sound B =
    λ e. ⊎_elim (λ p. sound p.0) (λ p. absurd (omega (arith, e, ap finding_number p.1))) (found_cases n) in
    let is-faulty : finding_number (found n) ≡ 2 → Sound B → ⊥ =
    λ e s. ⊎_elim (λ p. omega (arith, e, ap finding_number p.1)) (λ p. p.0 (clean s)) (found_cases n) in
    record {
      rules = record {
        sound_is_sound = is-sound;
        faulty_is_faulty = is-faulty;
        charted_is_counted = λ e. ⊎_elim (λ p. absurd (omega (arith, e, ap finding_number p.1))) (λ p. absurd (omega (arith, e, ap finding_number p.1))) (found_cases n);
        closed_decides = closed_of B (found n) is-sound is-faulty;
        open_exactly_before = (
          λ e. ⊎_elim (λ p. absurd (omega (arith, e, ap finding_number p.1))) (λ p. absurd (omega (arith, e, ap finding_number p.1))) (found_cases n),
          λ p. absurd (omega (arith, p.0)),
        );
        tally_adds_up = omega (arith, sum, more-closes, both.1);
      };
      running = λ e. absurd (both_ways false refl e);
      room = λ e. absurd (both_ways false refl e);
    }

quit_holds : (B : Build) (made : ℕ) (D : Desk) (ticket : ℕ) → WellFormed B D.state → Holds B made D
    → Holds B made (desk D.state (stopped D.books))
quit_holds B made D ticket formed holds =
    let S = D.state in
    let b = D.books in
    record {
      rules = same_finding B made S b holds.rules S (stopped b) refl refl refl (omega (arith, holds.rules.tally_adds_up, formed.tally_within));
      running = λ e. absurd (both_ways false refl e);
      room = λ e. absurd (both_ways false refl e);
    }

chart_holds : (B : Build) (made : ℕ) (D : Desk) (bytes : ℕ) → WellFormed B D.state → Holds B made D
    → first_no (chart_questions B D.state D.books bytes) ≡ 0
    → Holds B made (desk (after_all B (chart_operations B.words B.width) D.state) (charted (blemishes B) D.books))
chart_holds B made D bytes formed holds asked =
    let S = D.state in
    let b = D.books in
    let both = chart_asked B S b bytes asked in
    let idle : is_some b.run ≡ false = not-true (is_some b.run) both.0 in
    let sum = holds.rules.tally_adds_up in
    let tally = tally_rises B (chart_operations B.words B.width) S formed.tally_within in
    let more-charts = product_more (chart_length B) b.charts S.tally (omega arith) formed.tally_within in
    record {
      rules = record {
        sound_is_sound = λ e. absurd (omega arith);
        faulty_is_faulty = λ e. absurd (omega arith);
        charted_is_counted = λ e. refl;
        closed_decides = closed_of B (Charted (blemishes B)) (λ e. absurd (omega arith)) (λ e. absurd (omega arith));
        open_exactly_before = (λ e. absurd (omega arith), λ p. absurd (omega (arith, p.1)));
        tally_adds_up = omega (arith, sum, tally, more-charts, both.1, chart_length_lem B.words B.width);
      };
      running = λ e. absurd (both_ways (is_some b.run) idle e);
      room = λ e. absurd (both_ways (is_some b.run) idle e);
    }

-- granted or refused
decided : (B : Build) (made : ℕ) (D E : Desk) (k : ℕ) (granted : Type 0)
    → Holds B made D → (k ≡ 0 → granted) × ((k ≡ 0 → ⊥) → E ≡ D) → (k ≡ 0 → granted → Holds B made E) → Holds B made E
decided B made D E k granted holds told go =
    ⊎_elim (λ z. go z (told.0 z)) (λ n. subst (Holds B made) (sym (told.1 n)) holds) (cases_eq k 0)

pub call_holds : (B : Build) (made M : ℕ) (c : Call) (D E : Desk) → WellFormed B D.state → Holds B made D → Performs B M c D E → Holds B made E
call_holds B made M (ByHand o) D E formed holds told =
    decided B made D E _ _ holds told (λ z e. subst (Holds B made) (sym e) (hand_holds B made D o formed holds z))
call_holds B made M Start D E formed holds told =
    decided B made D E _ _ holds told (λ z e. subst (Holds B made) (sym e) (start_holds B made D formed holds z))
call_holds B made M (Step ticket most) D E formed holds told =
    decided B made D E _ _ holds told (λ z e. step_holds B made D E ticket _ formed holds z e.0 e.1)
call_holds B made M (Close ticket) D E formed holds told =
    decided B made D E _ _ holds told (λ z e. subst (Holds B made) (sym e) (close_holds B made D ticket formed holds z))
call_holds B made M (Quit ticket) D E formed holds told =
    decided B made D E _ _ holds told (λ z e. subst (Holds B made) (sym e) (quit_holds B made D ticket formed holds))
call_holds B made M (Chart bytes) D E formed holds told =
    decided B made D E _ _ holds told (λ z e. subst (Holds B made) (sym e) (chart_holds B made D _ formed holds z))
call_holds B made M AskFinding D E formed holds told = subst (Holds B made) (sym told) holds

-- What a loop over a list of calls keeps.
pub record Led (B : Build) (S : State) (M : ℕ) (calls : List Call) (E : Build) (D : Desk) : Type 0 where
  pub stays : E ≡ B
  pub holds : Holds B S.tally D
  pub performed : Performed B M calls (desk S new_books) D

pub led_none : (B : Build) (S : State) (M : ℕ) (E : Build) (T : State) (b : Books) → E ≡ B → T ≡ S → b ≡ new_books → Led B S M [] E (desk T b)
led_none B S M E T b e t n =
    let P : Desk → Type 0 = λ D. Led B S M [] E D in
    subst P (sym (ap₂ desk t n)) (record { stays = e; holds = new_holds B S; performed = none (desk S new_books) })

pub led_more : (B : Build) (S : State) (M L : ℕ) (calls : List Call) (i : ℕ) (d : Call) (E F : Build) (D C : Desk)
    → i < length calls → L ≡ M → WellFormed E D.state → Led B S M (take i calls) E D → Performs E L (get_or calls i d) D C → F ≡ E
    → Led B S M (take (i + 1) calls) F C
led_more B S M L calls i d E F D C l same formed led told f =
    let c = get_or calls i d in
    let formed' : WellFormed B D.state = subst (λ E. WellFormed E D.state) led.stays formed in
    let told' : Performs B M c D C = subst (λ E. Performs E M c D C) led.stays (subst (λ (M : ℕ). Performs E M c D C) same told) in
    record {
      stays = f ∙ led.stays;
      holds = call_holds B S.tally M c D C formed' led.holds told';
      performed = subst (λ cs. Performed B M cs (desk S new_books) C) (sym (take_more calls i d l)) (then (take i calls) c (desk S new_books) D C led.performed told');
    }

-- every call of the list is performed
pub led_all : (B O : Build) (S P : State) (M i : ℕ) (calls : List Call) (E : Build) (D : Desk)
    → O ≡ B → P ≡ S → length calls ≤ i → Led O P M (take i calls) E D
    → Rules B S.tally D.state D.books × Performed B M calls (desk S new_books) D × (E ≡ B)
led_all B O S P M i calls E D o p l led = go (subst (λ (O : Build). Led O S M calls E D) o (subst (λ (P : State). Led O P M calls E D) p (subst (λ cs. Led O P M cs E D) (take_all i calls l) led)))
  where
    go : Led B S M calls E D → Rules B S.tally D.state D.books × Performed B M calls (desk S new_books) D × (E ≡ B)
    go led = (led.holds.rules, led.performed, led.stays)
