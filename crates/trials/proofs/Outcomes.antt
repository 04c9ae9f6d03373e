-- The laws of outcomes.
use Rattle.std.proofs.Common.{◌≡◌, ℕ, zero, suc, ◌+◌, ◌-◌, ◌*◌, ◌≤◌, Bool, true, false, cond, eqb, List, [], ◌∷◌, ◌++◌, map, length, get_or, sym, refl, ap, ◌∙◌, ap₂, append_assoc, mul-zero, mul-suc, arith}
use Rattle.std.specs.List.{sum_by}
use Rattle.std.proofs.lemmas.List.Sums.{sum_by-cons, sum_by-append}
use Rattle.cam.specs.Machine.{upward}
use Rattle.cam.specs.Model.{Build, State}
use Rattle.cam.proofs.Machine.{misses-++}
use Rattle.march.specs.declared.step.Step.{Step}
use Rattle.march.specs.declared.element.TestOperation.{TestOperation}
use Rattle.march.specs.declared.element.TestOperation.TheVariants.{Write, Read, Compare, Erase}
use Rattle.march.specs.declared.element.Comparison.{Comparison}
use Rattle.march.specs.declared.element.Element.{Element as ElementRecord}
use Rattle.march.specs.Steps.{missing}
use Rattle.march.specs.Tests.{Element, up, down, columns, at_word, on_column, visits, visit, steps_of, schedule, stepped, missed, after, misses, meant}
use Rattle.trials.specs.Outcomes.{is_check, outcome, outcomes, check_count, ones, OutcomeLaws, reads_or_compares, checks_among, checks_of, checks_in}

one_more : (t : Bool) (x : ℕ) (xs : List ℕ) → length (cond t (x ∷ []) [] ++ xs) ≡ cond t 1 0 + length xs
one_more true x xs = omega arith
one_more false x xs = omega arith

pub checks-cons : (s : Step) (ss : List Step) → check_count (s ∷ ss) ≡ cond (is_check s.operation) 1 0 + check_count ss
checks-cons s ss = sum_by-cons (λ s. cond (is_check s.operation) 1 0) s ss

pub one_each : (B : Build) (ss : List Step) (S : State) → length (outcomes B ss S) ≡ check_count ss
one_each B [] S = refl
one_each B (s ∷ ss) S =
    one_more (is_check s.operation) (missed B s S) (outcomes B ss (stepped B s S))
    ∙ ap (λ (n : ℕ). cond (is_check s.operation) 1 0 + n) (one_each B ss (stepped B s S)) ∙ sym (checks-cons s ss)

few : (m : Bool) → cond {A = ℕ} m 1 0 ≤ 1
few true = omega arith
few false = omega arith

low_front : (t : Bool) (x : ℕ) (xs : List ℕ) → x ≤ 1 → ((i : ℕ) → get_or xs i 0 ≤ 1) → (i : ℕ) → get_or (cond t (x ∷ []) [] ++ xs) i 0 ≤ 1
low_front true x xs l h zero = l
low_front true x xs l h (suc i) = h i
low_front false x xs l h i = h i

zero_or_one : (B : Build) (ss : List Step) (S : State) (i : ℕ) → get_or (outcomes B ss S) i 0 ≤ 1
zero_or_one B [] S i = omega arith
zero_or_one B (s ∷ ss) S i =
    low_front (is_check s.operation) (missed B s S) (outcomes B ss (stepped B s S)) (few (missing B s S)) (zero_or_one B ss (stepped B s S)) i

ones-cons : (x : ℕ) (xs : List ℕ) → ones (x ∷ xs) ≡ cond (eqb x 1) 1 0 + ones xs
ones-cons x xs = sum_by-cons (λ x. cond (eqb x 1) 1 0) x xs

outcomes-++ : (B : Build) (xs ys : List Step) (S : State) → outcomes B (xs ++ ys) S ≡ outcomes B xs S ++ outcomes B ys (after B xs S)
outcomes-++ B [] ys S = refl
outcomes-++ B (x ∷ xs) ys S =
    ap (λ zs. outcome B x S ++ zs) (outcomes-++ B xs ys (stepped B x S))
    ∙ sym (append_assoc (outcome B x S) (outcomes B xs (stepped B x S)) (outcomes B ys (after B xs (stepped B x S))))

-- a list whose steps miss only where they have an outcome
abbrev Fair : Build → List Step → Type 0
Fair B ss = (S : State) → ones (outcomes B ss S) ≡ misses B ss S

fair-++ : (B : Build) (xs ys : List Step) → Fair B xs → Fair B ys → Fair B (xs ++ ys)
fair-++ B xs ys f g S =
    ap ones (outcomes-++ B xs ys S) ∙ sum_by-append _ (outcomes B xs S) (outcomes B ys (after B xs S))
    ∙ ap₂ ◌+◌ (f S) (g (after B xs S)) ∙ sym (misses-++ (stepped B) (missed B) xs ys S)

fair_upward : (B : Build) (n : ℕ) (f : ℕ → List Step) → ((k : ℕ) → Fair B (f k)) → Fair B (upward n f)
fair_upward B zero f h S = refl
fair_upward B (suc n) f h S = fair-++ B (upward n f) (f n) (fair_upward B n f h) (h n) S

byte_one : (m : Bool) → cond {A = ℕ} (eqb (cond m 1 0) 1) 1 0 ≡ cond m 1 0
byte_one true = refl
byte_one false = refl

fair_words : (B : Build) (W a : ℕ) (os : List TestOperation) → Fair B (map (at_word W a) os)
fair_words B W a [] S = refl
fair_words B W a (Write b ∷ os) S = omega (arith, fair_words B W a os (stepped B (at_word W a (Write b)) S))
fair_words B W a (Read b ∷ os) S =
    omega (arith, ones-cons (missed B (at_word W a (Read b)) S) (outcomes B (map (at_word W a) os) (stepped B (at_word W a (Read b)) S)), byte_one (missing B (at_word W a (Read b)) S), fair_words B W a os (stepped B (at_word W a (Read b)) S))
fair_words B W a (Compare c ∷ os) S =
    omega (arith, ones-cons (missed B (at_word W a (Compare c)) S) (outcomes B (map (at_word W a) os) (stepped B (at_word W a (Compare c)) S)), byte_one (missing B (at_word W a (Compare c)) S), fair_words B W a os (stepped B (at_word W a (Compare c)) S))
fair_words B W a (Erase ∷ os) S = omega (arith, fair_words B W a os (stepped B (at_word W a Erase) S))

fair_columns : (B : Build) (W j : ℕ) (cs : List Comparison) → Fair B (map (on_column W j) cs)
fair_columns B W j [] S = refl
fair_columns B W j (c ∷ cs) S =
    omega (arith, ones-cons (missed B (on_column W j c) S) (outcomes B (map (on_column W j) cs) (stepped B (on_column W j c) S)), byte_one (missing B (on_column W j c) S), fair_columns B W j cs (stepped B (on_column W j c) S))

fair_visit : (B : Build) (N W : ℕ) (e : Element) (v : ℕ) → Fair B (visit N W e v)
fair_visit B N W (up os) v = fair_words B W v os
fair_visit B N W (down os) v = fair_words B W (N - 1 - v) os
fair_visit B N W (columns cs) v = fair_columns B W v cs

fair_schedule : (B : Build) (N W : ℕ) (es : List Element) → Fair B (schedule N W es)
fair_schedule B N W [] S = refl
fair_schedule B N W (e ∷ es) S =
    fair-++ B (steps_of N W e) (schedule N W es) (fair_upward B (visits N W e) (visit N W e) (fair_visit B N W e)) (fair_schedule B N W es) S

pub outcome_laws : OutcomeLaws
outcome_laws =
    record { one_each = one_each; zero_or_one = zero_or_one; ones_are_misses = λ B N W es S. fair_schedule B N W es S }

-- how many reads and compares a schedule has
checks-++ : (xs ys : List Step) → check_count (xs ++ ys) ≡ check_count xs + check_count ys
checks-++ xs ys = sum_by-append (λ s. cond (is_check s.operation) 1 0) xs ys

checks_upward : (c n : ℕ) (f : ℕ → List Step) → ((k : ℕ) → check_count (f k) ≡ c) → check_count (upward n f) ≡ c * n
checks_upward c zero f h = omega (arith, mul-zero c)
checks_upward c (suc n) f h =
    omega (arith, checks-++ (upward n f) (f n), checks_upward c n f h, h n, mul-suc c n)

checks_words : (W a : ℕ) (os : List TestOperation) → check_count (map (at_word W a) os) ≡ checks_among os
checks_words W a [] = refl
checks_words W a (o ∷ os) =
    omega (arith, checks-cons (at_word W a o) (map (at_word W a) os), sum_by-cons (λ o. cond (reads_or_compares o) 1 0) o os, same o, checks_words W a os)
  where
    same : (o : TestOperation) → cond {A = ℕ} (is_check (at_word W a o).operation) 1 0 ≡ cond (reads_or_compares o) 1 0
    same (Write b) = refl
    same (Read b) = refl
    same (Compare c) = refl
    same Erase = refl

checks_columns : (W j : ℕ) (cs : List Comparison) → check_count (map (on_column W j) cs) ≡ length cs
checks_columns W j [] = refl
checks_columns W j (c ∷ cs) = omega (arith, checks-cons (on_column W j c) (map (on_column W j) cs), checks_columns W j cs)

-- each operation of a columns element is a compare, and so a check
all_compares : (cs : List Comparison) → checks_among (map Compare cs) ≡ length cs
all_compares [] = refl
all_compares (c ∷ cs) =
    omega (arith, sum_by-cons (λ o. cond (reads_or_compares o) 1 0) (Compare c) (map Compare cs), all_compares cs)

checks_visit : (N W : ℕ) (e : Element) (v : ℕ) → check_count (visit N W e v) ≡ checks_of e
checks_visit N W (up os) v = checks_words W v os
checks_visit N W (down os) v = checks_words W (N - 1 - v) os
checks_visit N W (columns cs) v = checks_columns W v cs ∙ sym (all_compares cs)

-- the first element's, and the others'
checks_schedule : (N W : ℕ) (e : Element) (es : List Element) → check_count (schedule N W (e ∷ es)) ≡ checks_of e * visits N W e + check_count (schedule N W es)
checks_schedule N W e es =
    omega (arith, checks-++ (steps_of N W e) (schedule N W es), checks_upward (checks_of e) (visits N W e) (visit N W e) (checks_visit N W e))

pub checks_each : (N W : ℕ) (rs : List ElementRecord) → sum_by (λ r. checks_in N W (meant r)) rs ≡ check_count (schedule N W (map meant rs))
checks_each N W [] = refl
checks_each N W (r ∷ rs) =
    sum_by-cons (λ r. checks_in N W (meant r)) r rs ∙ ap (λ (n : ℕ). checks_in N W (meant r) + n) (checks_each N W rs)
    ∙ sym (checks_schedule N W (meant r) (map meant rs))
