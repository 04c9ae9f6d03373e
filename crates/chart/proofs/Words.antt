-- The bytes of a word that is charted while no other word is marked.
use Rattle.std.proofs.Common.{◌≡◌, ℕ, ◌<◌, Bool, true, false, cond, not, ◌&&◌, ◌||◌, eqb, ltb, sym, refl, ap, ◌∙◌, subst, true≢false, arith}
use Rattle.std.proofs.lemmas.Bool.{both_ways, eqb-true, eqb-false, lt-ltb, cond-true, and_left, or_left}
use Rattle.cam.specs.declared.defect.Storage.{Storage}
use Rattle.cam.specs.declared.defect.Storage.TheVariants.{Good, Sa0, Sa1, NoRise, NoFall}
use Rattle.cam.specs.Model.{Build, State, put, agrees, bit, read_word, matches, hit, value, any_below, all_below}
use Rattle.cam.specs.Defects.{is_good, some_wrong, blemished}
use Rattle.cam.specs.Patterns.{equal_bits, all_but}
use Rattle.cam.proofs.Below.{split, some_below, all_true}
use Rattle.cam.proofs.BitLaws.{bit_ones}
use Rattle.cam.proofs.Patterns.{bit_but_here, bit_but_other, bit_equal, bit_value, agrees_at}
use Rattle.cam.proofs.Writes.{wr, wr_here, wr_mark_here, wr_mark_other}
use Rattle.march.proofs.Masking.{only_one, all_fails}
use Rattle.chart.specs.declared.answers.Answers.{Answers}
use Rattle.chart.specs.Bytes.{low, high, byte_from, chart_byte, byte_of}
use Rattle.chart.specs.Chart.{Answered, lowered, raised}

-- where no other word can match, the hit is the word's own match
any_own : (n a : ℕ) (f : ℕ → Bool) → a < n → ((k : ℕ) → k < n → (k ≡ a → ⊥) → f k ≡ false) → any_below n f ≡ f a
any_own n a f h others =
    split (f a) (λ t. some_below n f a h t ∙ sym t)
    (λ t. split (any_below n f) (λ s. absurd (both_ways (f a) t (only_one n a f s others))) (λ s. s ∙ sym t))

-- all columns but j pass: the whole is column j's
all_own : (n j : ℕ) (f : ℕ → Bool) → j < n → ((i : ℕ) → i < n → (i ≡ j → ⊥) → f i ≡ true) → all_below n f ≡ f j
all_own n j f h others =
    split (f j)
    (λ t. all_true n f (λ i hi. split (eqb i j) (λ e. let P : ℕ → Type 0 = λ x. f x ≡ true in subst P (sym (eqb-true i j e)) t) (λ e. others i hi (eqb-false i j e))) ∙ sym t)
    (λ t. all_fails n f j h t ∙ sym t)

or_false_left : (a b : Bool) → a ≡ false → (a || b) ≡ b
or_false_left false b e = refl
or_false_left true b e = absurd (true≢false e)

-- a cell's two states in a visit
lows : (s : Storage) (h : Bool) → put s (put s h true) false ≡ high s
lows Good h = refl
lows Sa0 h = refl
lows Sa1 h = refl
lows NoRise true = refl
lows NoRise false = refl
lows NoFall true = refl
lows NoFall false = refl

highs : (s : Storage) → put s (high s) true ≡ not (low s)
highs Good = refl
highs Sa0 = refl
highs Sa1 = refl
highs NoRise = refl
highs NoFall = refl

-- no word is marked
abbrev pub Dark : Build → State → Type 0
Dark B S = (k : ℕ) → k < B.words → S.mark k ≡ false

module _ (B : Build) (a : ℕ) (ha : a < B.words) where
  -- one word is marked, unless its mark is stuck, and holds what f says
  abbrev Alone : (ℕ → Bool) → State → Type 0
  Alone f S =
      (S.mark a ≡ not (B.stuck a)) × ((k : ℕ) → k < B.words → (k ≡ a → ⊥) → S.mark k ≡ false)
      × ((j : ℕ) → j < B.width → S.held a j ≡ f j)

  low_alone : (S : State) → Dark B S → Alone (λ j. high (B.storage a j)) (lowered B a S)
  low_alone S dark =
      let T : State = wr B true a S in (
        wr_mark_here B false a T ha
            ∙ ap (λ x. cond (B.stuck a) x true) (wr_mark_here B true a S ha)
            ∙ ap (λ x. cond (B.stuck a) (cond (B.stuck a) x true) true) (dark a ha) ∙ go (B.stuck a),
        λ k hk n. wr_mark_other B false a k T n ∙ wr_mark_other B true a k S n ∙ dark k hk,
        λ j hj. wr_here B false a j T ha hj ∙ ap (λ x. put (B.storage a j) x false) (wr_here B true a j S ha hj) ∙ lows (B.storage a j) (S.held a j),
      )
    where
      go : (s : Bool) → cond s (cond s false true) true ≡ not s
      go true = refl
      go false = refl

  high_alone : (S : State) → Dark B S → Alone (λ j. not (low (B.storage a j))) (raised B a S)
  high_alone S dark =
      let T : State = lowered B a S in
      let l = low_alone S dark in (
        wr_mark_here B true a T ha ∙ ap (λ x. cond (B.stuck a) x true) l.0 ∙ go (B.stuck a),
        λ k hk n. wr_mark_other B true a k T n ∙ l.1 k hk n,
        λ j hj. wr_here B true a j T ha hj ∙ ap (λ x. put (B.storage a j) x true) (l.2 j hj) ∙ highs (B.storage a j),
      )
    where
      go : (s : Bool) → cond s (not s) true ≡ not s
      go true = refl
      go false = refl

  read_bit : (f : ℕ → Bool) (S : State) → Alone f S → (j : ℕ) → j < B.width → bit (read_word B a S) j ≡ f j
  read_bit f S l j hj =
      ap (λ x. bit x j) (cond-true (ltb a B.words) (value B.width (S.held a)) 0 (lt-ltb a B.words ha))
      ∙ bit_value B.width (S.held a) j hj ∙ l.2 j hj

  seen_is : (f : ℕ → Bool) (S : State) → Alone f S → hit B 0 (equal_bits B.width true) S ≡ not (B.stuck a)
  seen_is f S l =
      any_own B.words a (matches B 0 (equal_bits B.width true) S) ha (λ k hk n. and_left (S.mark k) _ (l.1 k hk n))
      ∙ ap (λ x. S.mark a && x) (all_true B.width _ (λ j hj. or_left (bit (equal_bits B.width true) j) _ (bit_ones B.width j hj)))
      ∙ and_one (S.mark a) ∙ l.0
    where
      and_one : (b : Bool) → (b && true) ≡ b
      and_one true = refl
      and_one false = refl

  column_is : (f : ℕ → Bool) (S : State) → Alone f S → (c : Bool) (j : ℕ) → j < B.width
      → hit B (equal_bits B.width c) (all_but B.width j) S ≡ (not (B.stuck a) && agrees (B.wrong a j) (f j) c)
  column_is f S l c j hj =
      let p : ℕ = equal_bits B.width c in
      let m : ℕ = all_but B.width j in
      any_own B.words a (matches B p m S) ha (λ k hk n. and_left (S.mark k) _ (l.1 k hk n))
      ∙ ap (λ x. S.mark a && x)
      (all_own B.width j (λ i. bit m i || agrees (B.wrong a i) (S.held a i) (bit p i)) hj
      (λ i hi n. or_left (bit m i) _ (bit_but_other B.width j i hj hi n))
      ∙ or_false_left (bit m j) _ (bit_but_here B.width j hj)
      ∙ agrees_at (B.wrong a j) (S.held a j) (bit p j) (f j) c (l.2 j hj) (bit_equal B.width c j hj))
      ∙ ap (λ x. x && agrees (B.wrong a j) (f j) c) l.0

-- the seven tests of a byte

as_is : (t : Bool) → cond t true false ≡ t
as_is true = refl
as_is false = refl

reversed : (t : Bool) → not (cond t false true) ≡ t
reversed true = refl
reversed false = refl

not_not : (t : Bool) → not (not t) ≡ t
not_not true = refl
not_not false = refl

part1 : (K H : Bool) (w : Bool → Bool → Bool) → (not K && (not H && not (not K && agrees w H false))) ≡ (not K && (not H && w false false))
part1 true H w = refl
part1 false true w = refl
part1 false false w = reversed (w false false)

part2 : (K H : Bool) (w : Bool → Bool → Bool) → (not H && (not K && agrees w H true)) ≡ (not K && (not H && w false true))
part2 true true w = refl
part2 true false w = refl
part2 false true w = refl
part2 false false w = as_is (w false true)

part3 : (K L : Bool) (w : Bool → Bool → Bool) → (not K && (not L && not (not K && agrees w (not L) true))) ≡ (not K && (not L && w true true))
part3 true L w = refl
part3 false true w = refl
part3 false false w = reversed (w true true)

part4 : (K L : Bool) (w : Bool → Bool → Bool) → (not L && (not K && agrees w (not L) false)) ≡ (not K && (not L && w true false))
part4 true true w = refl
part4 true false w = refl
part4 false true w = refl
part4 false false w = as_is (w true false)

-- the core: one word, where no word is marked before
pub one_word : (B : Build) (a j : ℕ) (S : State) (r : Answers)
    → a < B.words → j < B.width → Dark B S → Answered B a S r → byte_of r j ≡ chart_byte B a j
one_word B a j S r ha hj dark told =
    let K : Bool = B.stuck a in
    let H : Bool = high (B.storage a j) in
    let L : Bool = low (B.storage a j) in
    let w : Bool → Bool → Bool = B.wrong a j in
    let fl : ℕ → Bool = λ i. high (B.storage a i) in
    let fh : ℕ → Bool = λ i. not (low (B.storage a i)) in
    let al = low_alone B a ha S dark in
    let ah = high_alone B a ha S dark in
    let z : bit r.zeros j ≡ H = ap (λ (n : ℕ). bit n j) told.zeros ∙ read_bit B a ha fl (lowered B a S) al j hj in
    let o : bit r.ones j ≡ not L = ap (λ (n : ℕ). bit n j) told.ones ∙ read_bit B a ha fh (raised B a S) ah j hj in
    let k : r.seen ≡ not K = told.seen ∙ seen_is B a ha fl (lowered B a S) al in
    let z0 : bit r.zero0 j ≡ (not K && agrees w H false) = told.zero0 j hj ∙ column_is B a ha fl (lowered B a S) al false j hj in
    let z1 : bit r.zero1 j ≡ (not K && agrees w H true) = told.zero1 j hj ∙ column_is B a ha fl (lowered B a S) al true j hj in
    let o1 : bit r.one1 j ≡ (not K && agrees w (not L) true) = told.one1 j hj ∙ column_is B a ha fh (raised B a S) ah true j hj in
    let o0 : bit r.one0 j ≡ (not K && agrees w (not L) false) = told.one0 j hj ∙ column_is B a ha fh (raised B a S) ah false j hj in
    (λ i. byte_from (k i && (not (z i) && not (z0 i))) (not (z i) && z1 i) (k i && (o i && not (o1 i))) (o i && o0 i) (not (o i)) (not (not (z i))) (not (k i)))
    ∙ (λ i. byte_from (part1 K H w i) (part2 K H w i) (part3 K L w i) (part4 K L w i) (not_not L i) (not_not H i) (not_not K i))

abbrev mix : Bool → Bool → Bool → Bool → Bool → Bool → Bool → ℕ
mix K L H a b c d = byte_from (not K && (not H && a)) (not K && (not H && b)) (not K && (not L && c)) (not K && (not L && d)) L H K

mixed : (K L H a b c d : Bool)
    → ltb 0 (mix K L H a b c d) ≡ (K || (L || (H || (a || (b || (c || d))))))
mixed true L H a b c d = lt-ltb 0 (mix true L H a b c d) (omega arith)
mixed false true H a b c d = lt-ltb 0 (mix false true H a b c d) (omega arith)
mixed false false true a b c d = lt-ltb 0 (mix false false true a b c d) (omega arith)
mixed false false false true b c d = lt-ltb 0 (mix false false false true b c d) (omega arith)
mixed false false false false true c d = lt-ltb 0 (mix false false false false true c d) (omega arith)
mixed false false false false false true d = lt-ltb 0 (mix false false false false false true d) (omega arith)
mixed false false false false false false true = refl
mixed false false false false false false false = refl

not_good : (s : Storage) → not (is_good s) ≡ (low s || high s)
not_good Good = refl
not_good Sa0 = refl
not_good Sa1 = refl
not_good NoRise = refl
not_good NoFall = refl

or_joined : (a b c : Bool) → ((a || b) || c) ≡ (a || (b || c))
or_joined true b c = refl
or_joined false b c = refl

-- a byte is above 0 exactly at a blemished cell
pub byte_tells : (B : Build) (a j : ℕ) → ltb 0 (chart_byte B a j) ≡ blemished B a j
byte_tells B a j =
    mixed (B.stuck a) (low (B.storage a j)) (high (B.storage a j)) (B.wrong a j false false) (B.wrong a j false true) (B.wrong a j true true) (B.wrong a j true false)
    ∙ ap (λ t. B.stuck a || t)
    (sym (or_joined (low (B.storage a j)) (high (B.storage a j)) (some_wrong (B.wrong a j))) ∙ ap (λ t. t || some_wrong (B.wrong a j)) (sym (not_good (B.storage a j))))
