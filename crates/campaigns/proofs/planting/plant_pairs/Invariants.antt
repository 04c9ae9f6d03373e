use Rattle.std.proofs.Common.{◌≡◌, true, drop}
use Rattle.cam.specs.Defects.{has_cell}
use Rattle.planes.specs.Planes.{build_of, state_of}
use Rattle.campaigns.specs.Faults.{with_pairs}
use Rattle.campaigns.proofs.Plantings.{among}
use Rattle.campaigns.proofs.planting.plant_pairs.Given as goal

abbrev pub invariant-loop-pair : goal.invariant-loop-pair
invariant-loop-pair l =
    (with_pairs l.cell.word.number l.cell.column.number (among l.wrong (drop l.pair-index l.pair-items)) (build_of l.array)
    ≡ with_pairs l.cell.word.number l.cell.column.number (among l.wrong l.pair-items) (build_of l.initial.array))
    × (state_of l.array ≡ state_of l.initial.array) × (has_cell (build_of l.array) l.cell.word.number l.cell.column.number ≡ true)
