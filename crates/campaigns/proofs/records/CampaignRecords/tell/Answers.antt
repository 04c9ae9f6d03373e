use Rattle.std.proofs.Common.{◌≡◌, ℕ, ◌*◌, Bool, length, sym, ap, ◌∙◌, ap₂, arith}
use Rattle.std.proofs.lemmas.List.Sums.{count_by-le-length}
use Rattle.march.specs.Table.{elements_of}
use Rattle.campaigns.specs.declared.row.Row.{Row}
use Rattle.campaigns.specs.Campaigns.{Place, places, detected_at, row_from}
use Rattle.campaigns.proofs.Counts.{places_are}
use Rattle.campaigns.proofs.records.CampaignRecords.tell.Goals as goal

pub tenths_of_percent-requires-clause-within : goal.tenths_of_percent-requires-clause-within
tenths_of_percent-requires-clause-within c =
    let f = c.args.fault in
    let n = c.args.self.now.size.words in
    let w = c.args.self.now.size.width in
    let det : Place → Bool = detected_at (elements_of c.args.test.now) f n w in
    let total : n * c.places_in_word.result ≡ length (places f n w) = ap (λ (k : ℕ). n * k) c.places_in_word.ensures.cells_or_mark ∙ sym (places_are f n w) in
    omega (arith, c.count_detected-detected.ensures.places_with_a_miss, count_by-le-length det (places f n w), total)

pub returns-clause-row_of_fault : goal.returns-clause-row_of_fault
returns-clause-row_of_fault c =
    let f = c.args.fault in
    let n = c.args.self.now.size.words in
    let w = c.args.self.now.size.width in
    let total : n * c.places_in_word.result ≡ length (places f n w) = ap (λ (k : ℕ). n * k) c.places_in_word.ensures.cells_or_mark ∙ sym (places_are f n w) in
    ap {B = Row} (λ (t : ℕ). record { detected = c.count_detected-detected.result; total = n * c.places_in_word.result; tenths = t }) c.tenths_of_percent.ensures.rounded_down
    ∙ ap₂ row_from c.count_detected-detected.ensures.places_with_a_miss total
