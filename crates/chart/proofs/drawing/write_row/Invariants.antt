use Rattle.std.proofs.Common.{◌≡◌, ℕ, ◌<◌, length, get_or}
use Rattle.chart.specs.Bytes.{byte_of}
use Rattle.chart.proofs.drawing.write_row.Given as goal

abbrev pub invariant-loop-number : goal.invariant-loop-number
invariant-loop-number l =
    (length l.row ≡ length l.initial.row) × ((k : ℕ) → k < l.number → get_or l.row k 0 ≡ byte_of l.answers k)
