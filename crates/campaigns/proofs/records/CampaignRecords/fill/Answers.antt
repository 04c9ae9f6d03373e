use Rattle.std.proofs.Common.{◌≡◌, ℕ, [], ◌∷◌, ◌++◌, map, length, get_or, take, sym, ap, ◌∙◌, ap₂, arith, length-set}
use Rattle.std.proofs.lemmas.List.{take_all, take_more_set, map_more}
use Rattle.cam.specs.declared.size.Size.{Size}
use Rattle.march.specs.Table.{elements_of}
use Rattle.campaigns.specs.declared.faults.CampaignFault.{CampaignFault}
use Rattle.campaigns.specs.declared.faults.CampaignFault.TheVariants.{Comparison}
use Rattle.cam.specs.declared.defect.NamedFault.TheVariants.{Smf}
use Rattle.campaigns.specs.declared.row.Row.{Row}
use Rattle.campaigns.specs.Campaigns.{row_of}
use Rattle.campaigns.proofs.records.CampaignRecords.fill.Goals as goal

pub loop-number-preserved : goal.loop-number-preserved
loop-number-preserved c =
    let row : Size → CampaignFault → Row = λ s f. row_of (elements_of c.args.test.now) s.words s.width f in
    let faults = c.faults_of_rows.result in
    let rows = c.loop-number.rows in
    let i = c.loop-number.number in
    let inv = c.loop-number.invariant in
    let told = c.tell.ensures in
    let many : length faults ≡ 15 = ap length c.faults_of_rows.ensures.in_order in (
      take_more_set rows i _ (omega arith)
          ∙ ap₂ (λ xs x. xs ++ x ∷ []) inv.0 (told.row_of_fault ∙ ap (λ s. row s (get_or faults i (Comparison Smf))) inv.2)
          ∙ sym (map_more (row c.args.self.now.size) faults i _ (omega arith)),
      length-set rows i _ ∙ inv.1,
      told.size_stays ∙ inv.2,
    )

pub returns-clause-row_of_each_fault : goal.returns-clause-row_of_each_fault
returns-clause-row_of_each_fault c =
    let row : CampaignFault → Row = row_of (elements_of c.args.test.now) c.args.self.now.size.words c.args.self.now.size.width in
    let rows = c.loop-number.rows in
    let i = c.loop-number.number in
    let inv = c.loop-number.invariant in
    let all : i ≡ 15 = omega arith in
    sym (take_all i rows (omega arith)) ∙ inv.0 ∙ ap₂ (λ (n : ℕ) fs. map row (take n fs)) all c.faults_of_rows.ensures.in_order
