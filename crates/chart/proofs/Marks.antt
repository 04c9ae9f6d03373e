-- The marks while a chart is drawn: before each word's visit none is set.
use Rattle.std.proofs.Common.{◌≡◌, ℕ, zero, suc, ◌<◌, ◌≤◌, Bool, true, false, cond, eqb, List, [], ◌∷◌, ◌++◌, sym, refl, ◌∙◌, subst, le_refl, arith}
use Rattle.std.proofs.lemmas.Bool.{eq-eqb, eqb-true, eqb-false, lt-ltb, cond-true, and_from}
use Rattle.cam.specs.declared.operation.Operation.{Operation}
use Rattle.cam.specs.declared.operation.Operation.TheVariants.{Read, Compare, Erase}
use Rattle.cam.specs.Machine.{upward}
use Rattle.cam.specs.Model.{Build, State, here, erased, counted}
use Rattle.cam.specs.Operations.{operated, after_all}
use Rattle.cam.specs.Patterns.{equal_bits, all_but}
use Rattle.cam.proofs.Below.{split, below_suc}
use Rattle.cam.proofs.Machine.{kept}
use Rattle.cam.proofs.Operating.{after_joined}
use Rattle.cam.proofs.Writes.{wr, wr_mark_other}
use Rattle.march.specs.Tests.{word}
use Rattle.chart.specs.Chart.{on_each_column, writing, word_operations, lowered}
use Rattle.chart.proofs.Words.{Dark}

-- what compares on single columns leave alone
module _ (B : Build) (b : Bool) where
  pub columns_keep : (Q : State → Type 0) → ((T : State) → Q T → Q (counted T)) → (n : ℕ) (S : State)
      → Q S → Q (after_all B (upward n (λ j. Compare (equal_bits B.width b) (all_but B.width j) ∷ [])) S)
  columns_keep Q keep n S q = kept (operated B) (λ o S. 0) n (λ j. Compare (equal_bits B.width b) (all_but B.width j) ∷ []) Q n (le_refl n) (λ k T hk g. keep T g) true S q

erase_keeps : (B : Build) (k i : ℕ) (S : State) → S.mark i ≡ false → (erased B k S).mark i ≡ false
erase_keeps B k i S e = go (here B k i) (S.mark i) e
  where
    go : (t m : Bool) → m ≡ false → cond t false m ≡ false
    go true m q = refl
    go false m q = q

erase_clears : (B : Build) (k : ℕ) (S : State) → k < B.words → (erased B k S).mark k ≡ false
erase_clears B k S h = cond-true (here B k k) false (S.mark k) (and_from _ _ (eq-eqb k k refl) (lt-ltb k B.words h))

abbrev wipes : ℕ → List Operation
wipes a = Erase (word a) ∷ []

wiped : (B : Build) (S : State) (n : ℕ) → n ≤ B.words → (i : ℕ) → i < n → (after_all B (upward n wipes) S).mark i ≡ false
wiped B S zero l i h = absurd (omega arith)
wiped B S (suc n) l i h =
    let T : State = after_all B (upward n wipes) S in
    let P : State → Type 0 = λ U. U.mark i ≡ false in
    subst P (sym (after_joined B (upward n wipes) (wipes n) S))
    (below_suc {P = λ x. (erased B n T).mark x ≡ false} n (erase_clears B n T (omega arith)) (λ x g. erase_keeps B n x T (wiped B S n (omega arith) x g)) i h)

-- once every word is erased none is marked
pub erased_dark : (B : Build) (S : State) → Dark B (after_all B (upward B.words wipes) S)
erased_dark B S k hk = wiped B S B.words (le_refl B.words) k hk

module _ (B : Build) (a : ℕ) where
  -- no other word is marked
  abbrev Near : State → Type 0
  Near S = (k : ℕ) → k < B.words → (k ≡ a → ⊥) → S.mark k ≡ false

  abbrev Leads : List Operation → Type 0
  Leads xs = (S : State) → Near S → Dark B (after_all B xs S)

  over : (b : Bool) (rest : List Operation) → Leads rest → Leads (on_each_column B.width b ++ rest)
  over b rest l S near =
      let U : List Operation = on_each_column B.width b in
      subst (Dark B) (sym (after_joined B U rest S)) (l (after_all B U S) (columns_keep B b Near (λ T g. g) B.width S near))

  ends : a < B.words → Leads (Erase (word a) ∷ [])
  ends ha S near k hk =
      split (eqb k a)
      (λ e. let P : ℕ → Type 0 = λ x. (erased B a S).mark x ≡ false in subst P (sym (eqb-true k a e)) (erase_clears B a S ha))
      (λ e. erase_keeps B a k S (near k hk (eqb-false k a e)))

  -- a visit leaves no word marked
  pub visit_dark : a < B.words → (S : State) → Dark B S → Dark B (after_all B (word_operations B.width a) S)
  visit_dark ha S dark =
      let W : ℕ = B.width in
      let rest : List Operation = on_each_column W true ++ (on_each_column W false ++ (Erase (word a) ∷ [])) in
      let l1 : Leads rest = over true _ (over false _ (ends ha)) in
      let l2 : Leads (writing W a true ∷ Read (word a) ∷ rest) =
      λ T near. l1 (counted (wr B true a T)) (λ k hk n. wr_mark_other B true a k T n ∙ near k hk n) in
      over false _ (over true _ l2) (counted (counted (lowered B a S)))
      (λ k hk n. wr_mark_other B false a k (wr B true a S) n ∙ wr_mark_other B true a k S n ∙ dark k hk)

pub erasing_dark : (B E : Build) (S T : State) → E ≡ B → T ≡ after_all B (upward B.words wipes) S → Dark E T
erasing_dark B E S T e t =
    subst (λ E. Dark E T) (sym e) (subst (Dark B) (sym t) (erased_dark B S))
