-- Operations on a field's cells and marks, as the model sees them.
use Rattle.std.proofs.Common.{◌≡◌, ℕ, ◌+◌, ◌-◌, ◌*◌, ◌<◌, ◌≤◌, min, Bool, true, false, cond, not, ◌&&◌, ◌||◌, eqb, ltb, List, [], map, length, get_or, set, replicate, take, sym, refl, ap, ◌∙◌, ap₂, arith}
use borrow.Rule.Slice.PartMut.{put_mid}
use Rattle.std.specs.List.{between}
use Rattle.std.proofs.lemmas.List.{get_or-take, length-take, get_or-set_same, get_or-set_other, get_or-replicate, get_or_past, length-replicate}
use Rattle.std.proofs.lemmas.List.Edits.{length-between}
use Rattle.std.proofs.lemmas.Bool.{eqb-true, eqb-false, lt-ltb, ltb-true, ltb-false, cond-true, cond-false, and_from, and_left, and_right, and_parts}
use Rattle.cam.specs.Bits.{bit}
use Rattle.cam.specs.Model.{written, written_bit, put, mark_after_write, one_more, tally_cap, read_word, hit, value, any_below, agrees}
use Rattle.cam.specs.Defects.{with_stuck_mark, unmarked}
use Rattle.cam.proofs.Below.{split, any_same, all_same}
use Rattle.cam.proofs.Outside.{tally_more}
use Rattle.cam.proofs.Values.{value_same}
use Rattle.cells.specs.Meaning.{CellMeaning, taken}
use Rattle.cam.specs.declared.mark.Mark.{Mark}
use Rattle.cam.specs.declared.mark.Mark.TheVariants.{Clear, Stuck}
use Rattle.cam.specs.Mark.{is_set, is_stuck}
use Rattle.cell_field.specs.Row.{blank_cell, at, wrote_cell, row_matches}
use Rattle.cell_field.specs.Field.{fits as size_fits, used_words, used_bits, cell_at, mark_at, build_from, state_from}
use Rattle.cell_field.proofs.Places.{cell_between, put_before, put_inside, put_after, row_within}

module _ (n w : ℕ) where
  cell_in : (ms : List CellMeaning) (k j : ℕ) → k < n → j < w → cell_at n w ms k j ≡ at ms (k * w + j)
  cell_in ms k j hk hj = cond-true (ltb k n && ltb j w) _ _ (and_from _ _ (lt-ltb k n hk) (lt-ltb j w hj))

  mark_in : (marks : List Mark) (k : ℕ) → k < n → mark_at n marks k ≡ get_or marks k Clear
  mark_in marks k hk = cond-true (ltb k n) _ _ (lt-ltb k n hk)

  module _ {X : Type 0} (f : X → CellMeaning) (xs : List X) (room : n * w ≤ length xs) (marks : List Mark) (t : ℕ) where
    -- the row of a word
    abbrev row : ℕ → List X
    row a = between (a * w) (a * w + w) xs

    row_long : (a : ℕ) → a < n → length (row a) ≡ w
    row_long a h = length-between xs (a * w) (a * w + w) (omega (arith, row_within a n w h, room)) ∙ omega arith

    row_cell : (a j : ℕ) → a < n → j < w → at (map f (row a)) j ≡ cell_at n w (map f xs) a j
    row_cell a j h l = cell_between f xs (a * w) (a * w + w) j (omega arith) ∙ sym (cell_in (map f xs) a j h l)

    pub read_row_of : (a : ℕ) → a < n
        → value (length (row a)) (λ j. (at (map f (row a)) j).held) ≡ read_word (build_from n w (map f xs) marks) a (state_from n w (map f xs) marks t)
    read_row_of a h =
        ap (λ (l : ℕ). value l (λ j. (at (map f (row a)) j).held)) (row_long a h)
        ∙ value_same w _ _ (λ j l. ap (λ c. c.held) (row_cell a j h l)) ∙ sym (cond-true (ltb a n) _ _ (lt-ltb a n h))

    -- the marks of the array's words, beside its rows
    pub some_match : n ≤ length marks → (p m : ℕ)
        → any_below (length (take n marks)) (λ k. is_set (get_or (take n marks) k Clear) && row_matches (length (row k)) p m (map f (row k)))
        ≡ hit (build_from n w (map f xs) marks) p m (state_from n w (map f xs) marks t)
    some_match long p m =
        let count : length (take n marks) ≡ n = omega (arith, length-take n marks) in
        ap (λ (l : ℕ). any_below l (λ k. is_set (get_or (take n marks) k Clear) && row_matches (length (row k)) p m (map f (row k)))) count
        ∙ any_same n _ _ (λ k h.
        ap₂ ◌&&◌ (ap is_set (get_or-take n marks k Clear h ∙ sym (mark_in marks k h)))
        (ap (λ (l : ℕ). row_matches l p m (map f (row k))) (row_long k h)
        ∙ all_same w _ _ (λ j l. ap (λ c. bit m j || agrees c.wrong c.held (bit p j)) (row_cell k j h l))))

-- a write to word a, whose row became ys: what stands where
module _ {X : Type 0} (f : X → CellMeaning) (n w a p m : ℕ) (xs ys : List X) (inside : a < n) (room : n * w ≤ length xs) (long : length ys ≡ w)
    (wrote : (j : ℕ) → j < w → at (map f ys) j ≡ wrote_cell p m j (at (map f (between (a * w) (a * w + w) xs)) j)) where
  -- the cells before and after
  abbrev pub ms : List CellMeaning
  ms = map f xs

  abbrev pub ns : List CellMeaning
  ns = map f (put_mid (a * w) (a * w + w - a * w) xs ys)

  row_fits : length ys ≡ a * w + w - a * w
  row_fits = omega (arith, long)

  fits : a * w + w ≤ length xs
  fits = omega (arith, row_within a n w inside, room)

  -- whether a cell is of the word
  abbrev of_word : ℕ → ℕ → Bool
  of_word k j = eqb k a && (ltb k n && ltb j w)

  same_word : (k j : ℕ) → k ≡ a → j < w → at ns (k * w + j) ≡ wrote_cell p m j (at ms (k * w + j))
  same_word k j e l =
      ap (λ (k : ℕ). at ns (k * w + j)) e ∙ put_inside f xs ys (a * w) (a * w + w) row_fits (omega arith) fits j (omega arith) ∙ wrote j l
      ∙ ap (wrote_cell p m j) (cell_between f xs (a * w) (a * w + w) j (omega arith) ∙ ap (λ (k : ℕ). at ms (k * w + j)) (sym e))

  other_word : (k j : ℕ) → (k ≡ a → ⊥) → j < w → at ns (k * w + j) ≡ at ms (k * w + j)
  other_word k j ne l =
      split (ltb k a)
      (λ e. put_before f xs ys (a * w) (a * w + w) row_fits (omega arith) fits (k * w + j) (omega (arith, row_within k a w (ltb-true k a e))))
      (λ e. put_after f xs ys (a * w) (a * w + w) row_fits (omega arith) fits (k * w + j) (omega (arith, row_within a k w (let q = ltb-false k a e in omega arith))))

  cell_after : (k j : ℕ) → cell_at n w ns k j ≡ cond (of_word k j) (wrote_cell p m j (cell_at n w ms k j)) (cell_at n w ms k j)
  cell_after k j =
      split (ltb k n && ltb j w)
      (λ e.
      let b = and_parts (ltb k n) _ e in
      let new = cond-true (ltb k n && ltb j w) (at ns (k * w + j)) blank_cell e in
      let old = cond-true (ltb k n && ltb j w) (at ms (k * w + j)) blank_cell e in
      split (eqb k a)
      (λ q. new ∙ same_word k j (eqb-true k a q) (ltb-true j w b.1) ∙ ap (wrote_cell p m j) (sym old)
      ∙ sym (cond-true (of_word k j) _ _ (and_from _ _ q e)))
      (λ q. new ∙ other_word k j (eqb-false k a q) (ltb-true j w b.1) ∙ sym old ∙ sym (cond-false (of_word k j) _ _ (and_left (eqb k a) _ q))))
      (λ e. cond-false (ltb k n && ltb j w) _ _ e ∙ sym (cond-false (ltb k n && ltb j w) (at ms (k * w + j)) blank_cell e)
      ∙ sym (cond-false (of_word k j) _ _ (and_right (eqb k a) _ e)))

  held_bit : (x y z b v : Bool) (c : CellMeaning)
      → (cond (x && (y && z)) (cond b c (taken v c)) c).held ≡ cond (x && y) (cond (z && not b) (put c.storage c.held v) c.held) c.held
  held_bit false y z b v c = refl
  held_bit true false z b v c = refl
  held_bit true true false b v c = refl
  held_bit true true true false v c = refl
  held_bit true true true true v c = refl

  same_storage : (x b v : Bool) (c : CellMeaning) → (cond x (cond b c (taken v c)) c).storage ≡ c.storage
  same_storage false b v c = refl
  same_storage true false v c = refl
  same_storage true true v c = refl

  same_wrong : (x b v : Bool) (c : CellMeaning) → (cond x (cond b c (taken v c)) c).wrong ≡ c.wrong
  same_wrong false b v c = refl
  same_wrong true false v c = refl
  same_wrong true true v c = refl

  pub held_after : (k j : ℕ) → (cell_at n w ns k j).held
      ≡ cond (eqb k a && ltb k n) (written_bit w (λ j. (cell_at n w ms k j).storage) p m (λ j. (cell_at n w ms k j).held) j) (cell_at n w ms k j).held
  held_after k j = ap (λ c. c.held) (cell_after k j) ∙ held_bit (eqb k a) (ltb k n) (ltb j w) (bit m j) (bit p j) (cell_at n w ms k j)

  pub storage_after : (k j : ℕ) → (cell_at n w ns k j).storage ≡ (cell_at n w ms k j).storage
  storage_after k j = ap (λ c. c.storage) (cell_after k j) ∙ same_storage (of_word k j) (bit m j) (bit p j) (cell_at n w ms k j)

  pub wrong_after : (k j : ℕ) → (cell_at n w ns k j).wrong ≡ (cell_at n w ms k j).wrong
  wrong_after k j = ap (λ c. c.wrong) (cell_after k j) ∙ same_wrong (of_word k j) (bit m j) (bit p j) (cell_at n w ms k j)

-- the mark of word a replaced by `mark`
module _ (n a : ℕ) (marks : List Mark) (mark : Mark) (inside : a < n) (room : a < length marks) where
  mark_after : (k : ℕ) → mark_at n (set marks a mark) k ≡ cond (eqb k a && ltb k n) mark (mark_at n marks k)
  mark_after k =
      split (ltb k n)
      (λ e. split (eqb k a)
      (λ q. cond-true (ltb k n) _ _ e ∙ ap (λ (k : ℕ). get_or (set marks a mark) k Clear) (eqb-true k a q) ∙ get_or-set_same marks a mark Clear room
      ∙ sym (cond-true (eqb k a && ltb k n) _ _ (and_from _ _ q e)))
      (λ q. ap (λ y. cond (ltb k n) y Clear) (get_or-set_other marks a k mark Clear (eqb-false k a q)) ∙ sym (cond-false (eqb k a && ltb k n) _ _ (and_left (eqb k a) _ q))))
      (λ e. cond-false (ltb k n) _ _ e ∙ sym (cond-false (ltb k n) (get_or marks k Clear) Clear e) ∙ sym (cond-false (eqb k a && ltb k n) _ _ (and_right (eqb k a) _ e)))

  -- what u tells of the marks, where it is known of the mark that was replaced
  pub marks_after : (u : Mark → Bool) (v : Mark → Bool) → u mark ≡ v (get_or marks a Clear)
      → (k : ℕ) → u (mark_at n (set marks a mark) k) ≡ cond (eqb k a && ltb k n) (v (mark_at n marks k)) (u (mark_at n marks k))
  marks_after u v e k =
      ap u (mark_after k)
      ∙ split (eqb k a && ltb k n)
      (λ q. let b = and_parts (eqb k a) _ q in
      ap u (cond-true (eqb k a && ltb k n) mark (mark_at n marks k) q) ∙ e ∙ ap v (ap (λ (k : ℕ). get_or marks k Clear) (sym (eqb-true k a b.0)) ∙ sym (cond-true (ltb k n) (get_or marks k Clear) Clear b.1))
      ∙ sym (cond-true (eqb k a && ltb k n) (v (mark_at n marks k)) (u (mark_at n marks k)) q))
      (λ q. ap u (cond-false (eqb k a && ltb k n) mark (mark_at n marks k) q) ∙ sym (cond-false (eqb k a && ltb k n) (v (mark_at n marks k)) (u (mark_at n marks k)) q))

  pub marks_stay : (u : Mark → Bool) → u mark ≡ u (get_or marks a Clear) → (k : ℕ) → u (mark_at n (set marks a mark) k) ≡ u (mark_at n marks k)
  marks_stay u e k = marks_after u u e k ∙ both_same (eqb k a && ltb k n) (u (mark_at n marks k))
    where
      both_same : (t y : Bool) → cond t y y ≡ y
      both_same true y = refl
      both_same false y = refl

-- a write to word a
module _ {X : Type 0} (f : X → CellMeaning) (n w a p m : ℕ) (xs ys : List X) (inside : a < n) (room : n * w ≤ length xs) (long : length ys ≡ w)
    (wrote : (j : ℕ) → j < w → at (map f ys) j ≡ wrote_cell p m j (at (map f (between (a * w) (a * w + w) xs)) j))
    (t : ℕ) (marks : List Mark) (mark : Mark) (place : a < length marks)
    (set_unless_stuck : is_set mark ≡ mark_after_write (is_stuck (get_or marks a Clear)) (is_set (get_or marks a Clear)))
    (stuck_stays : is_stuck mark ≡ is_stuck (get_or marks a Clear)) where
  pub write_state : state_from n w (map f (put_mid (a * w) (a * w + w - a * w) xs ys)) (set marks a mark) (one_more t)
      ≡ written (build_from n w (map f xs) marks) a p m (state_from n w (map f xs) marks t)
  write_state = λ d.
      record {
        held = λ k j. held_after f n w a p m xs ys inside room long wrote k j d;
        mark = λ k. marks_after n a marks mark inside place is_set (λ y. mark_after_write (is_stuck y) (is_set y)) set_unless_stuck k d;
        tally = tally_more t d;
      }

  pub write_build : build_from n w (map f (put_mid (a * w) (a * w + w - a * w) xs ys)) (set marks a mark) ≡ build_from n w (map f xs) marks
  write_build = λ d.
      record {
        words = n;
        width = w;
        storage = λ k j. storage_after f n w a p m xs ys inside room long wrote k j d;
        wrong = λ k j. wrong_after f n w a p m xs ys inside room long wrote k j d;
        stuck = λ k. marks_stay n a marks mark inside place is_stuck stuck_stays k d;
      }

-- the mark of word a becomes stuck
module _ (n w a : ℕ) (ms : List CellMeaning) (marks : List Mark) (inside : a < n) (place : a < length marks) where
  stuck_or : (k : ℕ) (u : Bool) → cond (eqb k a && ltb k n) true u ≡ (eqb k a || u)
  stuck_or k u =
      split (eqb k a)
      (λ q. let e = eqb-true k a q in
      let h : k < n = omega arith in
      cond-true (eqb k a && ltb k n) true u (and_from _ _ q (lt-ltb k _ h)) ∙ ap (λ b. b || u) (sym q))
      (λ q. cond-false (eqb k a && ltb k n) true u (and_left (eqb k a) _ q) ∙ ap (λ b. b || u) (sym q))

  clear_and : (k : ℕ) (u : Bool) → cond (eqb k a && ltb k n) false u ≡ (not (eqb k a) && u)
  clear_and k u =
      split (eqb k a)
      (λ q. let e = eqb-true k a q in
      let h : k < n = omega arith in
      cond-true (eqb k a && ltb k n) false u (and_from _ _ q (lt-ltb k _ h)) ∙ ap (λ b. not b && u) (sym q))
      (λ q. cond-false (eqb k a && ltb k n) false u (and_left (eqb k a) _ q) ∙ ap (λ b. not b && u) (sym q))

  pub plant_build : build_from n w ms (set marks a Stuck) ≡ with_stuck_mark a (build_from n w ms marks)
  plant_build = λ d.
      record {
        words = n;
        width = w;
        storage = λ k j. (cell_at n w ms k j).storage;
        wrong = λ k j. (cell_at n w ms k j).wrong;
        stuck = λ k. (marks_after n a marks Stuck inside place is_stuck (λ y. true) refl k ∙ stuck_or k _) d;
      }

  pub plant_state : (t : ℕ) → state_from n w ms (set marks a Stuck) t ≡ unmarked a (state_from n w ms marks t)
  plant_state t = λ d.
      record {
        held = λ k j. (cell_at n w ms k j).held;
        mark = λ k. (marks_after n a marks Stuck inside place is_set (λ y. false) refl k ∙ clear_and k _) d;
        tally = min t tally_cap;
      }

-- a size that fits its cells is used whole
pub used_whole : (N W l : ℕ) → size_fits N W l ≡ true → (used_words N W l ≡ N) × (used_bits N W l ≡ W)
used_whole N W l e = (cond-true (size_fits N W l) N 0 e, cond-true (size_fits N W l) W 1 e)

-- a new field: every mark is clear
clear_at : (n k : ℕ) → mark_at n (replicate 256 Clear) k ≡ mark_at n [] k
clear_at n k =
    ap (λ y. cond (ltb k n) y Clear)
    (split (ltb k 256)
    (λ e. get_or-replicate 256 k Clear Clear (ltb-true k 256 e))
    (λ e. get_or_past (replicate 256 Clear) k Clear (omega (arith, ltb-false k 256 e, length-replicate 256 Clear))))

module _ (n w : ℕ) (ms : List CellMeaning) where
  pub made_build : build_from n w ms (replicate 256 Clear) ≡ build_from n w ms []
  made_build = λ d.
      record {
        words = n;
        width = w;
        storage = λ k j. (cell_at n w ms k j).storage;
        wrong = λ k j. (cell_at n w ms k j).wrong;
        stuck = λ k. is_stuck (clear_at n k d);
      }

  pub made_state : state_from n w ms (replicate 256 Clear) 0 ≡ state_from n w ms [] 0
  made_state = λ d. record { held = λ k j. (cell_at n w ms k j).held; mark = λ k. is_set (clear_at n k d); tally = 0 }
