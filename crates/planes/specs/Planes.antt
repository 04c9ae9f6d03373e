-- What an array of records means.
use Rattle.std.specs.Prelude.{◌≡◌, ℕ, Bool, cond, List, ◌++◌, map, take, drop, vec_items, nat_lt, slice_index_or}
use Rattle.cam.specs.Model.{Build, State, word_matches}
use Rattle.planes.specs.declared.word.WordRecord.{WordRecord}
use Rattle.planes.specs.declared.array.PlaneArray.{PlaneArray}
use Rattle.planes.specs.Word.{storage_of, wrong_of, shown, mark_of, blank_record}

-- the record of word k of n words; outside the array there is nothing
abbrev pub record_at : ℕ → List WordRecord → ℕ → WordRecord
record_at n rs k = cond (nat_lt k n) (slice_index_or rs k blank_record) blank_record

abbrev pub build_from : ℕ → ℕ → List WordRecord → Build
build_from n w rs =
    record {
      words = n;
      width = w;
      storage = λ k. storage_of (record_at n rs k);
      wrong = λ k. wrong_of (record_at n rs k);
      stuck = λ k. (record_at n rs k).stuck;
    }

abbrev pub state_from : ℕ → ℕ → List WordRecord → ℕ → State
state_from n w rs t =
    record { held = λ k. shown w (record_at n rs k); mark = λ k. mark_of (record_at n rs k); tally = t }

abbrev pub build_of : PlaneArray → Build
build_of p = build_from p.size.words p.size.width (vec_items p.records)

abbrev pub state_of : PlaneArray → State
state_of p = state_from p.size.words p.size.width (vec_items p.records) p.tally

-- the first n records blank, the others as they were
abbrev pub blanked : ℕ → List WordRecord → List WordRecord
blanked n rs = map (λ r. blank_record) (take n rs) ++ drop n rs

-- the array has as many words as before, and the records past the last of them are as they were
pub record KeepsLater (before after : PlaneArray) : Type 0 where
  pub words : after.size.words ≡ before.size.words
  pub later : drop before.size.words (vec_items after.records) ≡ drop before.size.words (vec_items before.records)

-- whether the word of record k matches
abbrev pub matches_in : ℕ → ℕ → ℕ → List WordRecord → ℕ → Bool
matches_in w p m rs k =
    word_matches w (wrong_of (slice_index_or rs k blank_record)) p m (mark_of (slice_index_or rs k blank_record)) (shown w (slice_index_or rs k blank_record))
