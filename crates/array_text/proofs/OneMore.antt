-- One more defect in an array that has those of a list. Assumes nothing.
use Rattle.std.proofs.Common.{◌≡◌, ℕ, ◌<◌, Bool, true, false, cond, not, ◌||◌, eqb, ltb, List, [], ◌∷◌, Ok, Err, Result, MatchResult, IsErrAnd, sym, refl, ap, ◌∙◌, subst, ap₂, arith}
use Rattle.std.specs.List.{list_any}
use mathlib.Core.Path.{fun_ext}
use Rattle.std.proofs.lemmas.Bool.{and_parts, and_right, and_from, eqb-true, lt-ltb, true≢false}
use Rattle.cam.specs.declared.defect.Pair.{Pair}
use Rattle.cam.specs.declared.defect.Storage.{Storage as How}
use Rattle.cam.specs.declared.defect.Storage.TheVariants.{Good, Sa0, Sa1, NoRise, NoFall}
use Rattle.cam.specs.declared.defect.StorageDefect.{StorageDefect}
use Rattle.cam.specs.declared.defect.StorageDefect.TheVariants as defect
use Rattle.cam.specs.declared.fault.Reason.TheVariants.{DefectRepeated}
use Rattle.cam.specs.declared.fault.Fault.{Fault}
use Rattle.cam.specs.declared.index.CellIndex.{CellIndex}
use Rattle.cam.specs.declared.index.WordIndex.{WordIndex}
use Rattle.cam.specs.Model.{State}
use Rattle.cam.specs.Defects.{same_cell, storage_with, is_good, has_cell, has_word, with_storage, settled, settled_bit, with_pair, with_stuck_mark, unmarked}
use Rattle.cam.specs.Refusals.{ask, first_no, Asks, Refused}
use Rattle.cam.proofs.Asking.{refused_not_0, both_yes}
use Rattle.words.specs.Forms.{meaning_fault}
use Rattle.planes.specs.declared.array.PlaneArray.{PlaneArray}
use Rattle.planes.specs.Planes.{build_of, state_of}
use Rattle.array_lines.specs.declared.cell.Defect.{Defect}
use Rattle.array_lines.specs.declared.cell.Defect.TheVariants.{Storage, Wrong, Mark}
use Rattle.array_lines.specs.Cells.{Inside}
use Rattle.array_text.specs.Meaning.{says_storage, says_wrong, says_stuck, repeats, storage_in, build_with, is_sa1, new_state}
use Rattle.array_text.specs.Left.{Holds, PlantingLeaves}

-- how the second of two questions was answered
second_yes : (p q : Bool) → first_no (ask p 42 ∷ ask q 43 ∷ []) ≡ 0 → q ≡ true
second_yes true true e = refl
second_yes true false e = absurd (omega arith)
second_yes false true e = refl
second_yes false false e = absurd (omega arith)

second_no : (p q : Bool) (f : Fault) → p ≡ true → Refused (first_no (ask p 42 ∷ ask q 43 ∷ [])) f → q ≡ false
second_no p true f e r = absurd (refused_not_0 _ f r (both_yes p true 42 43 e refl))
second_no p false f e r = refl

head_storage : (b : Bool) (s : StorageDefect) (x : Bool) (y : How) → x ≡ not (is_good y) → (b || x) ≡ not (is_good (cond b (storage_with s) y))
head_storage true defect.Sa0 x y e = refl
head_storage true defect.Sa1 x y e = refl
head_storage true defect.NoRise x y e = refl
head_storage true defect.NoFall x y e = refl
head_storage false s x y e = e

-- a cell has a storage line exactly when it does not store well
pub said_storage : (ds : List Defect) (k i : ℕ) → list_any (says_storage k i) ds ≡ not (is_good (storage_in ds k i))
said_storage [] k i = refl
said_storage (Storage c s ∷ ds) k i = head_storage (same_cell c.word.number c.column.number k i) s _ _ (said_storage ds k i)
said_storage (Wrong c p ∷ ds) k i = said_storage ds k i
said_storage (Mark a ∷ ds) k i = said_storage ds k i

pub same_cell_lem : (a j k i : ℕ) → same_cell a j k i ≡ true → (k ≡ a) × (i ≡ j)
same_cell_lem a j k i e = let p = and_parts (eqb k a) (eqb i j) e in (eqb-true k a p.0, eqb-true i j p.1)

good_is : (h : How) → is_good h ≡ true → h ≡ Good
good_is Good e = refl
good_is Sa0 e = absurd (true≢false (sym e))
good_is Sa1 e = absurd (true≢false (sym e))
good_is NoRise e = absurd (true≢false (sym e))
good_is NoFall e = absurd (true≢false (sym e))

settles : (s : StorageDefect) → settled_bit (storage_with s) false ≡ is_sa1 (storage_with s)
settles defect.Sa0 = refl
settles defect.Sa1 = refl
settles defect.NoRise = refl
settles defect.NoFall = refl

settle_at : (b : Bool) (s : StorageDefect) (y : How) → (b ≡ true → y ≡ Good) → cond b (settled_bit (storage_with s) (is_sa1 y)) (is_sa1 y) ≡ is_sa1 (cond b (storage_with s) y)
settle_at true s y g = ap (λ z. settled_bit (storage_with s) (is_sa1 z)) (g refl) ∙ settles s
settle_at false s y g = refl

-- a cell that stored well, and holds 0, gets its storage
settle_state : (N W : ℕ) (ds : List Defect) (c : CellIndex) (s : StorageDefect) → storage_in ds c.word.number c.column.number ≡ Good
    → settled c.word.number c.column.number (storage_with s) (new_state (build_with N W ds)) ≡ new_state (build_with N W (Storage c s ∷ ds))
settle_state N W ds c s good =
    ap {B = State} (λ h. record { held = h; mark = λ k. false; tally = 0 })
    (fun_ext (λ k. fun_ext (λ i. settle_at (same_cell c.word.number c.column.number k i) s (storage_in ds k i)
    (λ e. let p = same_cell_lem c.word.number c.column.number k i e in ap₂ (storage_in ds) p.0 p.1 ∙ good))))

unmark_state : (N W : ℕ) (ds : List Defect) (a : WordIndex) → unmarked a.number (new_state (build_with N W ds)) ≡ new_state (build_with N W (Mark a ∷ ds))
unmark_state N W ds a =
    ap {B = State} (λ m. record { held = λ k i. is_sa1 (storage_in ds k i); mark = m; tally = 0 }) (fun_ext (λ k. and_right (not (eqb k a.number)) false refl))

module _ (N W : ℕ) (ds : List Defect) (p q : PlaneArray) (h : Holds N W ds p) where
  cell_there : (a j : ℕ) → a < N → j < W → has_cell (build_of p) a j ≡ true
  cell_there a j l m = ap (λ B. has_cell B a j) h.build ∙ and_from (ltb a N) (ltb j W) (lt-ltb a N l) (lt-ltb j W m)

  storage_planted : (c : CellIndex) (s : StorageDefect) → Inside N W (Storage c s)
      → first_no (ask (has_cell (build_of p) c.word.number c.column.number) 42 ∷ ask (is_good ((build_of p).storage c.word.number c.column.number)) 43 ∷ []) ≡ 0
      → build_of q ≡ with_storage c.word.number c.column.number (storage_with s) (build_of p)
      → state_of q ≡ settled c.word.number c.column.number (storage_with s) (state_of p)
      → (list_any (repeats (Storage c s)) ds ≡ false) × Holds N W (Storage c s ∷ ds) q
  storage_planted c s i asks b t =
      let good : is_good (storage_in ds c.word.number c.column.number) ≡ true = ap (λ B. is_good (B.storage c.word.number c.column.number)) (sym h.build) ∙ second_yes _ _ asks in
      let fresh : list_any (says_storage c.word.number c.column.number) ds ≡ false = said_storage ds c.word.number c.column.number ∙ ap not good in (
        fresh,
        record {
          build = b ∙ ap (with_storage c.word.number c.column.number (storage_with s)) h.build;
          state = t ∙ ap (settled c.word.number c.column.number (storage_with s)) h.state ∙ settle_state N W ds c s (good_is _ good);
          distinct = (fresh, h.distinct);
          inside = (i, h.inside);
        },
      )

  storage_repeated : (c : CellIndex) (s : StorageDefect) (f : Fault) → c.word.number < N → c.column.number < W
      → Refused (first_no (ask (has_cell (build_of p) c.word.number c.column.number) 42 ∷ ask (is_good ((build_of p).storage c.word.number c.column.number)) 43 ∷ [])) f
      → list_any (repeats (Storage c s)) ds ≡ true
  storage_repeated c s f l m r =
      said_storage ds c.word.number c.column.number
      ∙ ap not (ap (λ B. is_good (B.storage c.word.number c.column.number)) (sym h.build) ∙ second_no _ _ f (cell_there c.word.number c.column.number l m) r)

  not_not : (b : Bool) (t : Bool) → not b ≡ t → b ≡ not t
  not_not true t e = ap not e
  not_not false t e = ap not e

  pair_planted : (c : CellIndex) (x : Pair) → Inside N W (Wrong c x)
      → first_no (ask (has_cell (build_of p) c.word.number c.column.number) 42 ∷ ask (not ((build_of p).wrong c.word.number c.column.number x.held x.comparand)) 43 ∷ []) ≡ 0
      → build_of q ≡ with_pair c.word.number c.column.number x.held x.comparand (build_of p)
      → state_of q ≡ state_of p
      → (list_any (repeats (Wrong c x)) ds ≡ false) × Holds N W (Wrong c x ∷ ds) q
  pair_planted c x i asks b t =
      let fresh : list_any (says_wrong c.word.number c.column.number x.held x.comparand) ds ≡ false =
      ap (λ B. B.wrong c.word.number c.column.number x.held x.comparand) (sym h.build) ∙ not_not _ true (second_yes _ _ asks) in (
        fresh,
        record {
          build = b ∙ ap (with_pair c.word.number c.column.number x.held x.comparand) h.build;
          state = t ∙ h.state;
          distinct = (fresh, h.distinct);
          inside = (i, h.inside);
        },
      )

  pair_repeated : (c : CellIndex) (x : Pair) (f : Fault) → c.word.number < N → c.column.number < W
      → Refused (first_no (ask (has_cell (build_of p) c.word.number c.column.number) 42 ∷ ask (not ((build_of p).wrong c.word.number c.column.number x.held x.comparand)) 43 ∷ [])) f
      → list_any (repeats (Wrong c x)) ds ≡ true
  pair_repeated c x f l m r =
      ap (λ B. B.wrong c.word.number c.column.number x.held x.comparand) (sym h.build) ∙ not_not _ false (second_no _ _ f (cell_there c.word.number c.column.number l m) r)

  mark_planted : (a : WordIndex) → Inside N W (Mark a)
      → first_no (ask (has_word (build_of p) a.number) 42 ∷ ask (not ((build_of p).stuck a.number)) 43 ∷ []) ≡ 0
      → build_of q ≡ with_stuck_mark a.number (build_of p)
      → state_of q ≡ unmarked a.number (state_of p)
      → (list_any (repeats (Mark a)) ds ≡ false) × Holds N W (Mark a ∷ ds) q
  mark_planted a i asks b t =
      let fresh : list_any (says_stuck a.number) ds ≡ false = ap (λ B. B.stuck a.number) (sym h.build) ∙ not_not _ true (second_yes _ _ asks) in (
        fresh,
        record {
          build = b ∙ ap (with_stuck_mark a.number) h.build;
          state = t ∙ ap (unmarked a.number) h.state ∙ unmark_state N W ds a;
          distinct = (fresh, h.distinct);
          inside = (i, h.inside);
        },
      )

  mark_repeated : (a : WordIndex) (f : Fault) → a.number < N
      → Refused (first_no (ask (has_word (build_of p) a.number) 42 ∷ ask (not ((build_of p).stuck a.number)) 43 ∷ [])) f
      → list_any (repeats (Mark a)) ds ≡ true
  mark_repeated a f l r =
      ap (λ B. B.stuck a.number) (sym h.build) ∙ not_not _ false (second_no _ _ f (ap (λ B. has_word B a.number) h.build ∙ lt-ltb a.number N l) r)

  -- the defect d was planted, or an earlier one is the same
  abbrev pub Planted : Defect → Result (Unit {0}) Fault → Type 0
  Planted d r = MatchResult r (λ _. (list_any (repeats d) ds ≡ false) × Holds N W (d ∷ ds) q) (λ _. list_any (repeats d) ds ≡ true)

  pub storage_told : (c : CellIndex) (s : StorageDefect) (r : Result (Unit {0}) Fault) → Inside N W (Storage c s)
      → Asks (ask (has_cell (build_of p) c.word.number c.column.number) 42 ∷ ask (is_good ((build_of p).storage c.word.number c.column.number)) 43 ∷ []) r
      → MatchResult r (λ _. build_of q ≡ with_storage c.word.number c.column.number (storage_with s) (build_of p)) (λ _. q ≡ p)
      → MatchResult r (λ _. state_of q ≡ settled c.word.number c.column.number (storage_with s) (state_of p)) (λ _. q ≡ p)
      → Planted (Storage c s) r
  storage_told c s (Ok _) i asks b t = storage_planted c s i asks b t
  storage_told c s (Err f) i asks b t = storage_repeated c s f i.0 i.1 asks

  pub pair_told : (c : CellIndex) (x : Pair) (r : Result (Unit {0}) Fault) → Inside N W (Wrong c x)
      → Asks (ask (has_cell (build_of p) c.word.number c.column.number) 42 ∷ ask (not ((build_of p).wrong c.word.number c.column.number x.held x.comparand)) 43 ∷ []) r
      → MatchResult r (λ _. build_of q ≡ with_pair c.word.number c.column.number x.held x.comparand (build_of p)) (λ _. q ≡ p)
      → MatchResult r (λ _. state_of q ≡ state_of p) (λ _. q ≡ p)
      → Planted (Wrong c x) r
  pair_told c x (Ok _) i asks b t = pair_planted c x i asks b t
  pair_told c x (Err f) i asks b t = pair_repeated c x f i.0 i.1 asks

  pub mark_told : (a : WordIndex) (r : Result (Unit {0}) Fault) → Inside N W (Mark a)
      → Asks (ask (has_word (build_of p) a.number) 42 ∷ ask (not ((build_of p).stuck a.number)) 43 ∷ []) r
      → MatchResult r (λ _. build_of q ≡ with_stuck_mark a.number (build_of p)) (λ _. q ≡ p)
      → MatchResult r (λ _. state_of q ≡ unmarked a.number (state_of p)) (λ _. q ≡ p)
      → Planted (Mark a) r
  mark_told a (Ok _) i asks b t = mark_planted a i asks b t
  mark_told a (Err f) i asks b t = mark_repeated a f i asks

  -- and what the reader of the line answers then: `Post` is what is known of the fault that stands for the refusal
  pub planting_left : (d : Defect) (bracket : ℕ) (Post : Fault → Fault → Type 0) (r s : Result (Unit {0}) Fault)
      → MatchResult r (λ x. s ≡ Ok x) (λ e. IsErrAnd s (Post e)) → ((e f : Fault) → Post e f → f ≡ meaning_fault DefectRepeated bracket)
      → Planted d r → PlantingLeaves N W ds d bracket q s
  planting_left d bracket Post (Ok _) s m told there = subst (PlantingLeaves N W ds d bracket q) (sym m) there
  planting_left d bracket Post (Err e) (Ok _) m told there = absurd m
  planting_left d bracket Post (Err e) (Err f) m told there = (there, told e f m)
