use Rattle.std.proofs.Common.{◌≡◌, ◌+◌, ◌*◌, ◌≤◌}
use Rattle.std.specs.List.{count_by}
use Rattle.cam.specs.Machine.{upward}
use Rattle.march.specs.Table.{elements_of}
use Rattle.campaigns.specs.Campaigns.{detected_at}
use Rattle.campaigns.proofs.Counts.{places_of, some_of}
use Rattle.campaigns.proofs.records.CampaignRecords.count_detected.Given as goal

abbrev pub invariant-loop-word : goal.invariant-loop-word
invariant-loop-word l =
    (l.count ≡ count_by (detected_at (elements_of l.test) l.fault l.size.words l.size.width) (upward l.word (places_of l.fault l.size.width)))
    × (l.count ≤ l.word * 16) × (l.self.size ≡ l.size)

abbrev pub invariant-loop-column : goal.invariant-loop-column
invariant-loop-column l =
    (l.count ≡ l.initial.count + count_by (detected_at (elements_of l.test) l.fault l.size.words l.size.width) (some_of l.column l.word))
    × (l.count ≤ l.initial.count + l.column) × (l.self.size ≡ l.size)
