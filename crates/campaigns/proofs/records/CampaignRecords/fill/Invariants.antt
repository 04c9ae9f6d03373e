use Rattle.std.proofs.Common.{◌≡◌, map, length, take}
use Rattle.march.specs.Table.{elements_of}
use Rattle.campaigns.specs.Campaigns.{row_of}
use Rattle.campaigns.proofs.records.CampaignRecords.fill.Given as goal

abbrev pub invariant-loop-number : goal.invariant-loop-number
invariant-loop-number l =
    (take l.number l.rows ≡ map (row_of (elements_of l.test) l.fn.self.size.words l.fn.self.size.width) (take l.number l.fault-items))
    × (length l.rows ≡ 15) × (l.self.size ≡ l.fn.self.size)
