-- Stretches of a run, one after the other.
use Rattle.std.proofs.Common.{◌≡◌, ℕ, ◌+◌, ◌^◌, ◌<◌, ◌≤◌, min, false, ltb, List, ◌++◌, length, take, drop, sym, refl, ap, ◌∙◌, subst, ap₂, arith, take-add}
use Rattle.std.proofs.lemmas.List.{length-drop, length-take-le, drop-drop, take_all}
use Rattle.std.proofs.lemmas.Bool.{ltb-false}
use Rattle.cam.specs.Model.{Build, State, tally_cap}
use Rattle.march.specs.declared.step.Step.{Step}
use Rattle.march.specs.Tests.{stepped, missed, after, misses, schedule}
use Rattle.cam.proofs.Machine.{after-++, misses-++}
use Rattle.march.proofs.Sweeps.{after_tally, misses_within}
use Rattle.mlt1.specs.declared.state.RunState.{RunState}
use Rattle.mlt1.specs.Mlt1.{mlt1}
use Rattle.mlt1.specs.Left.{left, Went}

pub went_none : (B : Build) (s : RunState) (S : State) → Went B 0 s s S S
went_none B s S =
    record { within = omega arith; rest = refl; array = refl; missed = omega arith; place = omega arith }

pub went_then : (B E : Build) (n m : ℕ) (s t u : RunState) (S T U : State)
    → E ≡ B → Went B n s t S T → Went E m t u T U → Went B (n + m) s u S U
went_then B E n m s t u S T U e p q = go (subst (λ E. Went E m t u T U) e q)
  where
    l : List Step
    l = left B.words B.width s

    go : Went B m t u T U → Went B (n + m) s u S U
    go q =
        let whole : take (n + m) l ≡ take n l ++ take m (drop n l) = take-add n m l in
        let next : take m (left B.words B.width t) ≡ take m (drop n l) = ap (take m) p.rest in
        let count : misses B (take m (left B.words B.width t)) T ≡ misses B (take m (drop n l)) (after B (take n l) S) =
        ap₂ (misses B) next p.array in
        record {
          within = omega (arith, p.within, q.within, ap length p.rest, length-drop n l);
          rest = q.rest ∙ ap (drop m) p.rest ∙ drop-drop m n l;
          array = q.array ∙ ap₂ (after B) next p.array ∙ sym (after-++ (stepped B) (missed B) (take n l) (take m (drop n l)) S) ∙ ap (λ xs. after B xs S) (sym whole);
          missed = omega (arith, p.missed, q.missed, count, ap (λ xs. misses B xs S) whole, misses-++ (stepped B) (missed B) (take n l) (take m (drop n l)) S);
          place = omega (arith, p.place, q.place);
        }

pub went_at : (B : Build) (n m : ℕ) (s t : RunState) (S T : State) → n ≡ m → Went B n s t S T → Went B m s t S T
went_at B n m s t S T e p = subst (λ k. Went B k s t S T) e p

-- the next call found the run at its end
pub went_stop : (B E : Build) (n : ℕ) (s t u : RunState) (S T U : State)
    → E ≡ B → Went B n s t S T → Went E 0 t u T U → Went B n s u S U
went_stop B E n s t u S T U e p q =
    went_at B (n + 0) n s u S U (omega arith) (went_then B E n 0 s t u S T U e p q)

pub went_all : (B E : Build) (n m : ℕ) (s t : RunState) (S T : State)
    → E ≡ B → Went B n s t S T → n ≤ m → false ≡ ltb 0 (length (left E.words E.width t))
    → n ≡ min m (length (left B.words B.width s))
went_all B E n m s t S T e p l z =
    let none : length (left B.words B.width t) ≤ 0 =
    ltb-false 0 _ (ap (λ (E : Build). ltb 0 (length (left E.words E.width t))) (sym e) ∙ sym z) in
    omega (arith, p.within, ap length p.rest, length-drop n (left B.words B.width s))

-- each step is one operation of the tally
pub went_tally : (B : Build) (n : ℕ) (s t : RunState) (S T : State)
    → Went B n s t S T → S.tally ≤ tally_cap → T.tally ≡ min (S.tally + n) tally_cap
went_tally B n s t S T p h =
    let l : List Step = left B.words B.width s in
    ap (λ S. S.tally) p.array ∙ after_tally B (take n l) S h
    ∙ ap (λ (k : ℕ). min (S.tally + k) tally_cap) (length-take-le n l p.within)

-- A run from the start that did all of its m steps, of which there are few: the whole schedule was done.
pub went_whole : (B : Build) (n m : ℕ) (s t : RunState) (S T : State)
    → Went B n s t S T → left B.words B.width s ≡ schedule B.words B.width mlt1 → s.misses ≡ 0
    → n ≡ min m (length (left B.words B.width s)) → length (schedule B.words B.width mlt1) ≤ m → m < 2 ^ 32
    → (t.misses ≡ misses B (schedule B.words B.width mlt1) S) × (T ≡ after B (schedule B.words B.width mlt1) S)
    × (n ≡ length (schedule B.words B.width mlt1))
went_whole B n m s t S T p e z c h l =
    let ss : List Step = schedule B.words B.width mlt1 in
    let n-is : n ≡ length ss = omega (arith, c, ap length e) in
    let all : take n (left B.words B.width s) ≡ ss = ap (take n) e ∙ take_all n ss (omega arith) in (
      omega (arith, p.missed, ap (λ xs. misses B xs S) all, misses_within B ss S),
      p.array ∙ ap (λ xs. after B xs S) all,
      n-is,
    )
