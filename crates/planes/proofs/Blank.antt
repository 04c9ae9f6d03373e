-- An array whose records are blank has no defect, bits 0 and marks clear.
use Rattle.std.proofs.Common.{◌≡◌, ℕ, ◌<◌, ◌≤◌, Bool, true, false, cond, not, ◌&&◌, ◌||◌, ltb, List, map, length, take, drop, ap, ◌∙◌, arith}
use mathlib.Core.Path.{fun_ext}
use Rattle.std.proofs.lemmas.List.{get_or_append_left, length-map, length-take-le, get_or-map}
use Rattle.std.proofs.lemmas.Bool.{and_right, ltb-true, cond-true, cond-false}
use Rattle.cam.specs.Model.{Build, State}
use Rattle.cam.specs.Defects.{flawless, cleared}
use Rattle.cam.specs.declared.defect.Storage.TheVariants.{Good, Sa0, Sa1, NoRise, NoFall}
use Rattle.cam.proofs.Below.{split}
use Rattle.cam.proofs.BitLaws.{bit_zero}
use Rattle.planes.specs.declared.word.WordRecord.{WordRecord}
use Rattle.planes.specs.Word.{storage_of, wrong_of, shown, mark_of, blank_record}
use Rattle.planes.specs.Planes.{record_at, build_from, state_from, blanked}

blank_at : (n : ℕ) (rs : List WordRecord) → n ≤ length rs → (k : ℕ) → record_at n (blanked n rs) k ≡ blank_record
blank_at n rs fits k =
    split (ltb k n)
    (λ e.
    let front = map (λ (r : WordRecord). blank_record) (take n rs) in
    let count : length front ≡ n = length-map (take n rs) _ ∙ length-take-le n rs fits in
    let l : k < length front = omega (arith, ltb-true k n e) in
    let m : k < length (take n rs) = omega (arith, length-map (take n rs) (λ (r : WordRecord). blank_record)) in
    cond-true (ltb k n) _ _ e ∙ get_or_append_left front (drop n rs) blank_record k l ∙ get_or-map _ (take n rs) k blank_record blank_record m)
    (λ e. cond-false (ltb k n) _ _ e)

storage_blank : (j : ℕ) → storage_of blank_record j ≡ Good
storage_blank j = ap (λ b. cond b Sa0 (cond b Sa1 (cond b NoRise (cond b NoFall Good)))) (bit_zero j)

wrong_blank : (j : ℕ) (h b : Bool) → wrong_of blank_record j h b ≡ false
wrong_blank j true true = bit_zero j
wrong_blank j true false = bit_zero j
wrong_blank j false true = bit_zero j
wrong_blank j false false = bit_zero j

shown_blank : (w j : ℕ) → shown w blank_record j ≡ false
shown_blank w j = and_right (ltb j w) _ (ap (λ b. (b || b) && not b) (bit_zero j))

pub build_blanked : (n w : ℕ) (rs : List WordRecord) → n ≤ length rs → build_from n w (blanked n rs) ≡ flawless n w
build_blanked n w rs fits =
    ap {B = Build} (λ f. record { words = n; width = w; storage = λ k. storage_of (f k); wrong = λ k. wrong_of (f k); stuck = λ k. (f k).stuck }) (fun_ext (blank_at n rs fits))
    ∙ λ d.
    record {
      words = n;
      width = w;
      storage = λ k j. storage_blank j d;
      wrong = λ k j h b. wrong_blank j h b d;
      stuck = λ k. false;
    }

pub state_blanked : (n w : ℕ) (rs : List WordRecord) → n ≤ length rs → state_from n w (blanked n rs) 0 ≡ cleared
state_blanked n w rs fits =
    ap {B = State} (λ f. record { held = λ k. shown w (f k); mark = λ k. mark_of (f k); tally = 0 }) (fun_ext (blank_at n rs fits))
    ∙ λ d. record { held = λ k j. shown_blank w j d; mark = λ k. false; tally = 0 }
