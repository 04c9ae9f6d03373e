use Rattle.std.proofs.Common.{ap}
use Rattle.cam.specs.Defects.{is_good}
use Rattle.campaigns.proofs.records.CampaignRecords.examine.Goals as goal

pub plant-requires-clause-good_storage : goal.plant-requires-clause-good_storage
plant-requires-clause-good_storage c =
    let new = rw c.unwrap-array.ensures at c.new.ensures.made_flawless in
    ap (λ B. is_good (B.storage c.args.cell.word.number c.args.cell.column.number)) new

pub plant-requires-clause-free_mark : goal.plant-requires-clause-free_mark
plant-requires-clause-free_mark c =
    let new = rw c.unwrap-array.ensures at c.new.ensures.made_flawless in
    ap (λ B. B.stuck c.args.cell.word.number) new
