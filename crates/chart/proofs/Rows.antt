-- A word's bytes in a buffer, one more at a time, and the words' rows one after the other.
use Rattle.std.proofs.Common.{◌≡◌, ℕ, ◌+◌, ◌*◌, ◌-◌, ◌<◌, ◌≤◌, min, ltb, List, [], ◌∷◌, map, length, get_or, sym, refl, ap, ◌∙◌, subst, inl, inr, ⊎_elim, suc-mul, mul_comm, mul-le-mul, add-one, arith}
use borrow.Rule.Slice.PartMut.{put_mid}
use Rattle.std.specs.List.{slice_index, range_with_len}
use Rattle.std.proofs.lemmas.Grind.{common_steps}
use Rattle.std.proofs.lemmas.List.FromFn.{length-map-range_with_len, get_or-map-range_with_len}
use Rattle.std.proofs.lemmas.Bool.{cases_eq, cases_lt}
use Rattle.std.proofs.lemmas.Nat.{mul-add-lt}
use Rattle.cam.specs.declared.operation.Operation.TheVariants.{Erase}
use Rattle.cam.specs.Machine.{upward}
use Rattle.cam.specs.Model.{Build, State}
use Rattle.cam.specs.Operations.{after_all}
use Rattle.cam.specs.Defects.{blemished}
use Rattle.march.specs.Tests.{word}
use Rattle.chart.specs.declared.answers.Answers.{Answers}
use Rattle.chart.specs.Bytes.{byte_of, chart_byte}
use Rattle.chart.specs.Chart.{count_below, sum_below, Charted, word_operations, chart_operations, blemishes, Answered}
use Rattle.chart.proofs.Words.{Dark, one_word, byte_tells}
use Rattle.cam.proofs.Operating.{after_up, after_joined}
use Rattle.chart.proofs.Counts.{count_same, count_few}
use Rattle.chart.proofs.Marks.{visit_dark}

-- the bytes of a word of W columns stand from a place of a buffer on, as far as they fit; the others are as they were
pub record Row (r : Answers) (start W : ℕ) (old new : List ℕ) : Type 0 where
  pub cells : (j : ℕ) → j < W → start + j < length old → slice_index new (start + j) ≡ byte_of r j
  pub earlier : (i : ℕ) → i < start → slice_index new i ≡ slice_index old i
  pub later : (i : ℕ) → start + W ≤ i → slice_index new i ≡ slice_index old i
  pub size : length new ≡ length old

-- the elements of a list, k of which were written over from place s on
module _ (s k : ℕ) (xs ys : List ℕ) (inside : s + k ≤ length xs) (long : length ys ≡ k) where
  put_there : (i : ℕ) → i < k → get_or (put_mid s k xs ys) (s + i) 0 ≡ get_or ys i 0
  put_there i l = grind (arith, common_steps)

  put_before : (i : ℕ) → i < s → get_or (put_mid s k xs ys) i 0 ≡ get_or xs i 0
  put_before i l = grind (arith, common_steps)

  put_after : (i : ℕ) → s + k ≤ i → get_or (put_mid s k xs ys) i 0 ≡ get_or xs i 0
  put_after i l = grind (arith, common_steps)

  put_size : length (put_mid s k xs ys) ≡ length xs
  put_size = grind (arith, common_steps)

-- The bytes of a word that are written from place s of a buffer on, k of them, are its row: s and k are as much of the
-- row's start and width as the buffer has.
pub row_put : (r : Answers) (start W s k : ℕ) (old : List ℕ) → s ≡ min start (length old) → k ≡ min (s + W) (length old) - s
    → Row r start W old (put_mid s k old (map (byte_of r) (range_with_len 0 k)))
row_put r start W s k old s-is k-is =
    let ys = map (byte_of r) (range_with_len 0 k) in
    let long = length-map-range_with_len (byte_of r) 0 k in
    let inside : s + k ≤ length old = omega arith in
    record {
      cells = λ j l h.
          let same : start ≡ s = omega arith in
          let below : j < k = omega arith in
          ap (λ (i : ℕ). get_or (put_mid s k old ys) (i + j) 0) same ∙ put_there s k old ys inside long j below ∙ get_or-map-range_with_len (byte_of r) 0 k j j 0 below (omega arith);
      earlier = λ i l. elim (cases_lt i s) [
        | inl before ↦ put_before s k old ys inside long i before
        | inr past ↦ put_after s k old ys inside long i (omega arith)
      ];
      later = λ i l. put_after s k old ys inside long i (omega arith);
      size = put_size s k old ys inside long;
    }

-- The rows of the first n words stand in a buffer, as far as they fit.
pub record Rows (B : Build) (n : ℕ) (old new : List ℕ) : Type 0 where
  pub cells : (a j : ℕ) → a < n → j < B.width → a * B.width + j < length old → get_or new (a * B.width + j) 0 ≡ chart_byte B a j
  pub later : (i : ℕ) → n * B.width ≤ i → get_or new i 0 ≡ get_or old i 0
  pub size : length new ≡ length old

pub rows_none : (B : Build) (old : List ℕ) → Rows B 0 old old
rows_none B old = record { cells = λ a j l h k. absurd (omega arith); later = λ i l. refl; size = refl }

pub rows_more : (B : Build) (n start w : ℕ) (r : Answers) (old mid new : List ℕ)
    → start ≡ n * B.width → w ≡ B.width → ((j : ℕ) → j < B.width → byte_of r j ≡ chart_byte B n j)
    → Rows B n old mid → Row r start w mid new → Rows B (n + 1) old new
rows_more B n start w r old mid new s v bytes rows row =
    let W : ℕ = B.width in
    let grown : (n + 1) * W ≡ n * W + W = ap (λ (k : ℕ). k * W) (add-one n) ∙ suc-mul n W in
    record {
      cells = λ a j l h k. ⊎_elim
          (λ (q : a ≡ n).
          let p : a * W + j ≡ start + j = ap (λ (a : ℕ). a * W + j) q ∙ ap (λ (s : ℕ). s + j) (sym s) in
          ap (λ (i : ℕ). get_or new i 0) p ∙ row.cells j (omega arith) (let z = rows.size in omega arith) ∙ bytes j h ∙ ap (λ (a : ℕ). chart_byte B a j) (sym q))
          (λ (q : a ≡ n → ⊥).
          let below : a * W + j < n * W = omega (arith, mul-add-lt a W j n (omega arith) h, mul_comm W n) in
          row.earlier (a * W + j) (omega arith) ∙ rows.cells a j (omega arith) h k)
          (cases_eq a n);
      later = λ i l. row.later i (omega arith) ∙ rows.later i (omega arith);
      size = row.size ∙ rows.size;
    }

-- The first n words are charted, and no word is marked. S is the state in which the visits began.
pub record Drawn (B : Build) (S : State) (n marred : ℕ) (old new : List ℕ) (E : Build) (T : State) : Type 0 where
  pub stays : E ≡ B
  pub ends : T ≡ after_all B (upward n (word_operations B.width)) S
  pub dark : Dark B T
  pub rows : Rows B n old new
  pub count : marred ≡ sum_below n (λ a. count_below B.width (blemished B a))
  pub few : marred ≤ n * B.width

pub drawn_none : (B E : Build) (S T : State) (old : List ℕ) → E ≡ B → T ≡ S → Dark B T → Drawn B S 0 0 old old E T
drawn_none B E S T old e t dark = record { stays = e; ends = t; dark = dark; rows = rows_none B old; count = refl; few = omega arith }

pub drawn_more : (B E F : Build) (S T U : State) (n marred w k : ℕ) (r : Answers) (old mid new : List ℕ)
    → Drawn B S n marred old mid E T → n < B.words → w ≡ B.width → Answered E n T r
    → U ≡ after_all E (word_operations E.width n) T → F ≡ E
    → Row r (n * w) w mid new → k ≡ count_below w (λ j. ltb 0 (byte_of r j))
    → Drawn B S (n + 1) (marred + k) old new F U
drawn_more B E F S T U n marred w k r old mid new d inside v told u f row count =
    let W : ℕ = B.width in
    let told' : Answered B n T r = subst (λ E. Answered E n T r) d.stays told in
    let bytes : (j : ℕ) → j < W → byte_of r j ≡ chart_byte B n j = λ j h. one_word B n j T r inside h d.dark told' in
    let u' : U ≡ after_all B (word_operations W n) T = u ∙ ap (λ (E : Build). after_all E (word_operations E.width n) T) d.stays in
    let same : k ≡ count_below W (blemished B n) =
    count ∙ ap (λ (w : ℕ). count_below w (λ j. ltb 0 (byte_of r j))) v
    ∙ count_same W (λ j. ltb 0 (byte_of r j)) (blemished B n) (λ j h. ap (ltb 0) (bytes j h) ∙ byte_tells B n j) in
    let grown : (n + 1) * W ≡ n * W + W = ap (λ (k : ℕ). k * W) (add-one n) ∙ suc-mul n W in
    let sum : sum_below (n + 1) (λ a. count_below W (blemished B a)) ≡ sum_below n (λ a. count_below W (blemished B a)) + count_below W (blemished B n) =
    ap (λ (n : ℕ). sum_below n (λ a. count_below W (blemished B a))) (add-one n) in
    record {
      stays = f ∙ d.stays;
      ends = after_up (word_operations W) n (word_operations W n) B B S T U refl refl d.ends u';
      dark = subst (Dark B) (sym u') (visit_dark B n inside T d.dark);
      rows = rows_more B n (n * w) w r old mid new (ap (λ (w : ℕ). n * w) v) v bytes d.rows row;
      count = omega (arith, d.count);
      few = omega (arith, d.few, count, count_few w (λ j. ltb 0 (byte_of r j)));
    }

-- all words are charted
pub drawn_all : (B E F : Build) (S T U : State) (n marred : ℕ) (old new : List ℕ)
    → E ≡ B → T ≡ after_all B (upward B.words (λ a. Erase (word a) ∷ [])) S → Drawn E T n marred old new F U → n ≡ E.words
    → Charted B old new × (marred ≡ blemishes B) × (U ≡ after_all B (chart_operations B.words B.width) S) × (F ≡ B)
drawn_all B E F S T U n marred old new e t d m = go (subst (λ E. Drawn E T n marred old new F U) e d)
  where
    go : Drawn B T n marred old new F U → Charted B old new × (marred ≡ blemishes B) × (U ≡ after_all B (chart_operations B.words B.width) S) × (F ≡ B)
    go d =
        let all : n ≡ B.words = m ∙ ap (λ (E : Build). E.words) e in
        let rows : Rows B B.words old new = subst (λ (n : ℕ). Rows B n old new) all d.rows in (
          record { cells = rows.cells; later = rows.later; size = rows.size },
          d.count ∙ ap (λ (n : ℕ). sum_below n (λ a. count_below B.width (blemished B a))) all,
          d.ends ∙ ap (λ (n : ℕ). after_all B (upward n (word_operations B.width)) T) all
              ∙ ap (after_all B (upward B.words (word_operations B.width))) t
              ∙ sym (after_joined B (upward B.words (λ a. Erase (word a) ∷ [])) (upward B.words (word_operations B.width)) S),
          d.stays,
        )

-- an array has at most 16,384 cells
pub drawn_few : (B E : Build) (S T : State) (n marred : ℕ) (old new : List ℕ)
    → Drawn B S n marred old new E T → n < B.words → B.words ≤ 256 → B.width ≤ 64 → marred ≤ 16384
drawn_few B E S T n marred old new d l words width =
    let fewer : n ≤ 256 = omega arith in
    omega (arith, d.few, mul-le-mul fewer width)
