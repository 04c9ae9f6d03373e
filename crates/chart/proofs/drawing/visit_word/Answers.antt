use Rattle.std.proofs.Common.{◌≡◌, ℕ, min, true}
use Rattle.cam.specs.Patterns.{equal_bits}
use Rattle.chart.proofs.Columns.{equal_at}
use Rattle.chart.proofs.Visits.{visit_told}
use Rattle.chart.proofs.drawing.visit_word.Goals as goal

pub returns : goal.returns
returns g c =
    let B = g.C.CamArray.build c.args.array.now in
    let few = (g.C.CamArray.formed c.args.array.now).few_bits in
    let pattern : (p : ℕ) → p ≡ equal_bits (min c.width-width.result 64) true → p ≡ equal_bits B.width true =
    λ p e. equal_at B.width c.width-width.result p true few c.width-width.ensures.bits_of_word e in
    let told = visit_told _ _ _ _ _ _ _ _ _ _ _ _ _ _ _ _ _ _ _ _ _ _ _ _ c.args.word.number _ _ _ _ _ _
    (pattern _ c.equal_bits.ensures.pattern) (pattern _ c.equal_bits-3.ensures.pattern)
    c.write.ensures.state_after_write c.write.ensures.build_stays
    c.write-2.ensures.state_after_write c.write-2.ensures.build_stays
    c.read-zeros.ensures.only_counted c.read-zeros.ensures.build_stays
    c.compare-seen.ensures.only_counted c.compare-seen.ensures.build_stays
    c.hits_by_column-zero0.ensures.hits_of_the_columns c.hits_by_column-zero1.ensures.hits_of_the_columns
    c.write-3.ensures.state_after_write c.write-3.ensures.build_stays
    c.read-ones.ensures.only_counted c.read-ones.ensures.build_stays
    c.hits_by_column-one1.ensures.hits_of_the_columns c.hits_by_column-one0.ensures.hits_of_the_columns
    c.erase.ensures.state_after_erase c.erase.ensures.build_stays
    _ _ _ _
    c.read-zeros.ensures.held_bits (pattern _ c.equal_bits-2.ensures.pattern) c.compare-seen.ensures.some_word_matches c.read-ones.ensures.held_bits in
    record { answers_of_the_word = told.0; state_after = told.1.ends; build_stays = told.1.stays }
