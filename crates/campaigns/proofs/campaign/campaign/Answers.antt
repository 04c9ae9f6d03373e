use Rattle.std.proofs.Common.{map, vec_items, ap, ◌∙◌, arith}
use Rattle.march.specs.Table.{elements_of}
use Rattle.campaigns.specs.Faults.{campaign_faults}
use Rattle.campaigns.specs.Campaigns.{row_of}
use Rattle.campaigns.proofs.Blanks.{blank_first}
use Rattle.campaigns.proofs.Complete.{full_rows}
use Rattle.campaigns.proofs.campaign.campaign.Goals as goal

pub returns-clause-row_of_each_fault : goal.returns-clause-row_of_each_fault
returns-clause-row_of_each_fault c =
    c.fill.ensures.row_of_each_fault ∙ ap (λ s. map (row_of (elements_of c.args.test.now) s.words s.width) campaign_faults) c.in_ok-own.ensures.this_size

pub returns-clause-records_come_back : goal.returns-clause-records_come_back
returns-clause-records_come_back c =
    let own = c.fill.new.self in
    let made = rw c.unwrap.ensures at c.new-2.ensures.later_records_stay in
    let same = ap (λ s. s.words) (c.fill.ensures.size_stays ∙ c.in_ok-own.ensures.this_size) in
    blank_first c.args.size.words (vec_items own.records) _ (omega (arith, own.record_a_word, own.records.ok.0, same))
    (ap vec_items c.into_records.ensures.records_as_they_are ∙ made)

pub returns-clause-mlt1_detects_every_place : goal.returns-clause-mlt1_detects_every_place
returns-clause-mlt1_detects_every_place c =
    let own = c.in_ok-own.own in
    let same = c.in_ok-own.ensures.this_size in
    λ e. returns-clause-row_of_each_fault c
    ∙ full_rows (elements_of c.args.test.now) c.args.size.words c.args.size.width e (omega (arith, own.some_words, ap (λ s. s.words) same)) (omega (arith, own.some_bits, ap (λ s. s.width) same))
