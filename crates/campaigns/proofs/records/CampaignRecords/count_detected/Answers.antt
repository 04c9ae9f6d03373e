use Rattle.std.proofs.Common.{◌≡◌, ℕ, ◌≤◌, Bool, true, false, cond, refl, ap, ◌∙◌, arith}
use Rattle.cam.specs.declared.size.Size.{Size}
use Rattle.std.specs.Int.{from_bool}
use Rattle.std.specs.List.{count_by}
use Rattle.march.specs.Table.{elements_of}
use Rattle.campaigns.specs.Faults.{places_in}
use Rattle.campaigns.specs.Campaigns.{Place, place_at, detected_at}
use Rattle.campaigns.proofs.Counts.{some_of, column_more, word_more, places_few}
use Rattle.campaigns.proofs.records.CampaignRecords.count_detected.Goals as goal

byte_is : (b : Bool) → from_bool b ≡ cond b 1 0
byte_is true = refl
byte_is false = refl

few : (b : Bool) → cond {A = ℕ} b 1 0 ≤ 1
few true = omega arith
few false = omega arith

pub loop-column-preserved : goal.loop-column-preserved
loop-column-preserved c =
    let size = c.args.self.now.size in
    let det : Place → Bool = detected_at (elements_of c.args.test.now) c.args.fault size.words size.width in
    let a = c.loop-word.word in
    let j = c.loop-column.column in
    let inv = c.loop-column.invariant in
    let told = c.examine-detected.ensures in
    let here : c.examine-detected.result ≡ det (place_at a j) =
    (rw c.at.ensures.this_word_and_column at told.detected_at_place) ∙ ap (λ (s : Size). detected_at (elements_of c.args.test.now) c.args.fault s.words s.width (place_at a j)) inv.2 in
    let one : c.from-count.result ≡ cond (det (place_at a j)) 1 0 = c.from-count.ensures ∙ ap from_bool here ∙ byte_is (det (place_at a j)) in (
      omega (arith, one, inv.0, column_more det a j),
      omega (arith, one, few (det (place_at a j)), inv.1),
      told.size_stays ∙ inv.2,
    )

pub loop-word-preserved : goal.loop-word-preserved
loop-word-preserved c =
    let f = c.args.fault in
    let size = c.args.self.now.size in
    let det : Place → Bool = detected_at (elements_of c.args.test.now) f size.words size.width in
    let a = c.loop-word.word in
    let inv = c.loop-column.invariant in
    let all : c.loop-column.column ≡ places_in f size.width = omega (arith, c.loop-column-test.false, c.places_in_word-column-end.ensures.cells_or_mark) in
    let here : count_by det (some_of c.loop-column.column a) ≡ count_by det (some_of (places_in f size.width) a) = ap (λ (n : ℕ). count_by det (some_of n a)) all in (
      omega (arith, inv.0, c.loop-word.invariant.0, word_more det f size.width a),
      omega (arith, inv.1, c.loop-word.invariant.1, places_few f size.width c.args.self.now.some_bits, c.args.self.now.few_bits),
      inv.2,
    )
