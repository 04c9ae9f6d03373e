-- One record of the list changed, as the model sees it. Word a is one of the n words, x is what was read there, and r
-- is what stands there now.
use Rattle.std.proofs.Common.{◌≡◌, ℕ, ◌<◌, ◌≤◌, Bool, true, false, cond, not, ◌&&◌, ◌||◌, eqb, ltb, List, length, get_or, take, set, sym, refl, ap, ◌∙◌, ap₂, arith}
use mathlib.Core.Path.{fun_ext}
use Rattle.std.proofs.lemmas.List.{get_or-set_same, get_or-set_other, get_or_read, get_or-take, length-take-le}
use Rattle.std.proofs.lemmas.Bool.{eq-eqb, ne_eqb, eqb-true, eqb-false, lt-ltb, cond-true, cond-false, and_left}
use Rattle.cam.specs.Model.{Build, State, written, erased, written_bit, mark_after_write, one_more, any_below, word_matches}
use Rattle.cam.specs.Defects.{with_storage, settled, settled_bit, with_pair, is_pair, with_stuck_mark, unmarked}
use Rattle.cam.specs.declared.defect.Storage.{Storage}
use Rattle.cam.proofs.Below.{split, any_same}
use Rattle.planes.specs.declared.word.WordRecord.{WordRecord}
use Rattle.planes.specs.Word.{storage_of, wrong_of, shown, mark_of, defects, blank_record}
use Rattle.planes.specs.Planes.{record_at, build_from, state_from, matches_in}

-- the model's choices between word a and the others
on : {X : Type 0} (a : ℕ) (t : Bool) (y z : X) → cond (eqb a a && t) y z ≡ cond t y z
on a t y z = ap (λ b. cond (b && t) y z) (eq-eqb a a refl)

on_word : {X : Type 0} (n a : ℕ) (y z : X) → a < n → cond (eqb a a && ltb a n) y z ≡ y
on_word n a y z l = on a (ltb a n) y z ∙ cond-true (ltb a n) y z (lt-ltb a n l)

off_word : {X : Type 0} (k a : ℕ) (t : Bool) (y z : X) → (k ≡ a → ⊥) → cond (eqb k a && t) y z ≡ z
off_word k a t y z ne = cond-false (eqb k a && t) y z (and_left (eqb k a) t (ne_eqb k a ne))

pub record_read : (n : ℕ) (rs : List WordRecord) (a : ℕ) (x : WordRecord) → n ≤ length rs → a < n → x ≡ get_or rs a x → x ≡ record_at n rs a
record_read n rs a x fits inside seen =
    let i : a < length rs = omega arith in
    get_or_read rs a x i seen blank_record ∙ sym (cond-true (ltb a n) _ _ (lt-ltb a n inside))

module _ (n : ℕ) (rs : List WordRecord) (a : ℕ) (x r : WordRecord) (fits : n ≤ length rs) (inside : a < n) (seen : x ≡ get_or rs a x) where
  old : x ≡ record_at n rs a
  old = record_read n rs a x fits inside seen

  new : record_at n (set rs a r) a ≡ r
  new =
      let i : a < length rs = omega arith in
      cond-true (ltb a n) _ _ (lt-ltb a n inside) ∙ get_or-set_same rs a r blank_record i

  other : (k : ℕ) → (k ≡ a → ⊥) → record_at n (set rs a r) k ≡ record_at n rs k
  other k ne = ap (λ y. cond (ltb k n) y blank_record) (get_or-set_other rs a k r blank_record ne)

  -- what g makes of each word is u, where u is right at word a and elsewhere as it was
  each : {X : Type 0} (g : WordRecord → X) (u : ℕ → X) → g r ≡ u a → ((k : ℕ) → (k ≡ a → ⊥) → g (record_at n rs k) ≡ u k)
      → (k : ℕ) → g (record_at n (set rs a r) k) ≡ u k
  each g u here elsewhere k =
      split (eqb k a)
      (λ e. let s : k ≡ a = eqb-true k a e in ap (λ (i : ℕ). g (record_at n (set rs a r) i)) s ∙ ap g new ∙ here ∙ ap u (sym s))
      (λ e. ap g (other k (eqb-false k a e)) ∙ elsewhere k (eqb-false k a e))

  state_set : (w t : ℕ) (H : ℕ → ℕ → Bool) (M : ℕ → Bool)
      → ((j : ℕ) → shown w r j ≡ H a j) → ((k j : ℕ) → (k ≡ a → ⊥) → shown w (record_at n rs k) j ≡ H k j)
      → mark_of r ≡ M a → ((k : ℕ) → (k ≡ a → ⊥) → mark_of (record_at n rs k) ≡ M k)
      → state_from n w (set rs a r) t ≡ record { held = H; mark = M; tally = t }
  state_set w t H M held helds mark marks =
      ap₂ {C = State} (λ h m. record { held = h; mark = m; tally = t })
      (fun_ext (λ k. fun_ext (λ j. each (λ y. shown w y j) (λ k. H k j) (held j) (λ k. helds k j) k)))
      (fun_ext (each mark_of M mark marks))

  state_same : (w t : ℕ) → ((j : ℕ) → shown w r j ≡ shown w x j) → mark_of r ≡ mark_of x
      → state_from n w (set rs a r) t ≡ state_from n w rs t
  state_same w t held mark =
      state_set w t (λ k. shown w (record_at n rs k)) (λ k. mark_of (record_at n rs k))
      (λ j. held j ∙ ap (λ y. shown w y j) old) (λ k j ne. refl) (mark ∙ ap mark_of old) (λ k ne. refl)

  pub build_same : (w : ℕ) → defects r ≡ defects x → build_from n w (set rs a r) ≡ build_from n w rs
  build_same w e =
      ap {B = Build} (λ f. record { words = n; width = w; storage = λ k. storage_of (f k); wrong = λ k. wrong_of (f k); stuck = λ k. (f k).stuck })
      (fun_ext (each defects (λ k. defects (record_at n rs k)) (e ∙ ap defects old) (λ k ne. refl)))

  pub write_inside : (w t p m : ℕ)
      → ((j : ℕ) → shown w r j ≡ written_bit w (storage_of x) p m (shown w x) j) → mark_of r ≡ mark_after_write x.stuck (mark_of x)
      → state_from n w (set rs a r) (one_more t) ≡ written (build_from n w rs) a p m (state_from n w rs t)
  write_inside w t p m cells mark =
      state_set w (one_more t) _ _
      (λ j. cells j ∙ ap (λ y. written_bit w (storage_of y) p m (shown w y) j) old ∙ sym (on_word n a _ _ inside))
      (λ k j ne. sym (off_word k a (ltb k n) _ _ ne))
      (mark ∙ ap (λ y. mark_after_write y.stuck (mark_of y)) old ∙ sym (on_word n a _ _ inside))
      (λ k ne. sym (off_word k a (ltb k n) _ _ ne))

  pub erase_inside : (w t : ℕ) → ((j : ℕ) → shown w r j ≡ shown w x j) → mark_of r ≡ false
      → state_from n w (set rs a r) (one_more t) ≡ erased (build_from n w rs) a (state_from n w rs t)
  erase_inside w t cells mark =
      state_set w (one_more t) _ _
      (λ j. cells j ∙ ap (λ y. shown w y j) old) (λ k j ne. refl)
      (mark ∙ sym (on_word n a _ _ inside)) (λ k ne. sym (off_word k a (ltb k n) _ _ ne))

  pub build_with_storage : (w j : ℕ) (s : Storage)
      → ((i : ℕ) → storage_of r i ≡ cond (eqb i j) s (storage_of x i)) → wrong_of r ≡ wrong_of x → r.stuck ≡ x.stuck
      → build_from n w (set rs a r) ≡ with_storage a j s (build_from n w rs)
  build_with_storage w j s cells wrong stuck = λ d.
      record {
        words = n;
        width = w;
        storage = fun_ext (λ k. fun_ext (λ i. each (λ y. storage_of y i) (λ k. cond (eqb k a && eqb i j) s (storage_of (record_at n rs k) i))
            (cells i ∙ ap (λ y. cond (eqb i j) s (storage_of y i)) old ∙ sym (on a (eqb i j) _ _)) (λ k ne. sym (off_word k a (eqb i j) _ _ ne)) k)) d;
        wrong = fun_ext (each wrong_of (λ k. wrong_of (record_at n rs k)) (wrong ∙ ap wrong_of old) (λ k ne. refl)) d;
        stuck = fun_ext (each (λ y. y.stuck) (λ k. (record_at n rs k).stuck) (stuck ∙ ap (λ y. y.stuck) old) (λ k ne. refl)) d;
      }

  pub state_settled : (w t j : ℕ) (s : Storage)
      → ((i : ℕ) → shown w r i ≡ cond (eqb i j) (settled_bit s (shown w x i)) (shown w x i)) → mark_of r ≡ mark_of x
      → state_from n w (set rs a r) t ≡ settled a j s (state_from n w rs t)
  state_settled w t j s cells mark =
      state_set w t _ _
      (λ i. cells i ∙ ap (λ y. cond (eqb i j) (settled_bit s (shown w y i)) (shown w y i)) old ∙ sym (on a (eqb i j) _ _))
      (λ k i ne. sym (off_word k a (eqb i j) _ _ ne))
      (mark ∙ ap mark_of old) (λ k ne. refl)

  pub build_with_pair : (w j : ℕ) (h b : Bool)
      → ((i : ℕ) (g c : Bool) → wrong_of r i g c ≡ ((eqb i j && is_pair h b g c) || wrong_of x i g c))
      → storage_of r ≡ storage_of x → r.stuck ≡ x.stuck
      → build_from n w (set rs a r) ≡ with_pair a j h b (build_from n w rs)
  build_with_pair w j h b pairs storage stuck = λ d.
      record {
        words = n;
        width = w;
        storage = fun_ext (each storage_of (λ k. storage_of (record_at n rs k)) (storage ∙ ap storage_of old) (λ k ne. refl)) d;
        wrong = fun_ext (λ k. fun_ext (λ i. fun_ext (λ g. fun_ext (λ c. each (λ y. wrong_of y i g c)
            (λ k. ((eqb k a && eqb i j) && is_pair h b g c) || wrong_of (record_at n rs k) i g c)
            (pairs i g c ∙ ap (λ y. (eqb i j && is_pair h b g c) || wrong_of y i g c) old ∙ ap (λ e. ((e && eqb i j) && is_pair h b g c) || wrong_of (record_at n rs a) i g c) (sym (eq-eqb a a refl)))
            (λ k ne. ap (λ e. ((e && eqb i j) && is_pair h b g c) || wrong_of (record_at n rs k) i g c) (sym (ne_eqb k a ne))) k)))) d;
        stuck = fun_ext (each (λ y. y.stuck) (λ k. (record_at n rs k).stuck) (stuck ∙ ap (λ y. y.stuck) old) (λ k ne. refl)) d;
      }

  pub state_stays : (w t : ℕ) → shown w r ≡ shown w x → mark_of r ≡ mark_of x
      → state_from n w (set rs a r) t ≡ state_from n w rs t
  state_stays w t held mark = state_same w t (λ j. ap (λ f. f j) held) mark

  pub build_with_stuck_mark : (w : ℕ) → r.stuck ≡ true → storage_of r ≡ storage_of x → wrong_of r ≡ wrong_of x
      → build_from n w (set rs a r) ≡ with_stuck_mark a (build_from n w rs)
  build_with_stuck_mark w stuck storage wrong = λ d.
      record {
        words = n;
        width = w;
        storage = fun_ext (each storage_of (λ k. storage_of (record_at n rs k)) (storage ∙ ap storage_of old) (λ k ne. refl)) d;
        wrong = fun_ext (each wrong_of (λ k. wrong_of (record_at n rs k)) (wrong ∙ ap wrong_of old) (λ k ne. refl)) d;
        stuck = fun_ext (each (λ y. y.stuck) (λ k. eqb k a || (record_at n rs k).stuck)
            (stuck ∙ ap (λ e. e || (record_at n rs a).stuck) (sym (eq-eqb a a refl)))
            (λ k ne. ap (λ e. e || (record_at n rs k).stuck) (sym (ne_eqb k a ne)))) d;
      }

  pub state_unmarked : (w t : ℕ) → mark_of r ≡ false → shown w r ≡ shown w x
      → state_from n w (set rs a r) t ≡ unmarked a (state_from n w rs t)
  state_unmarked w t mark held =
      state_set w t _ _
      (λ j. ap (λ f. f j) held ∙ ap (λ y. shown w y j) old) (λ k j ne. refl)
      (mark ∙ ap (λ e. not e && mark_of (record_at n rs a)) (sym (eq-eqb a a refl)))
      (λ k ne. ap (λ e. not e && mark_of (record_at n rs k)) (sym (ne_eqb k a ne)))

-- the words of the first n records, as a compare asks them
pub some_match : (n w p m : ℕ) (rs : List WordRecord) → n ≤ length rs
    → any_below (length (take n rs)) (matches_in w p m (take n rs))
    ≡ any_below n (λ k. word_matches w (wrong_of (record_at n rs k)) p m (mark_of (record_at n rs k)) (shown w (record_at n rs k)))
some_match n w p m rs fits =
    ap (λ (l : ℕ). any_below l (matches_in w p m (take n rs))) (length-take-le n rs fits)
    ∙ any_same n _ _ (λ k l.
    ap (λ y. word_matches w (wrong_of y) p m (mark_of y) (shown w y))
    (get_or-take n rs k blank_record l ∙ sym (cond-true (ltb k n) _ _ (lt-ltb k n l))))
