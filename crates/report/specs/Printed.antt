-- What is printed of a judgement.
use Rattle.std.specs.Prelude.{ℕ, ◌*◌, ◌/◌, ◌%◌, cond, List, [], ◌++◌, length, take, slice_index, ◌==◌}
use Rattle.cam.specs.Machine.{upward}
use Rattle.bench.specs.declared.judging.Judgement.{Judgement}
use Rattle.bench.specs.Books.{finding_count}
use Rattle.report.specs.Text.{array_line, run_line, chart_line, cell_line}

-- the line of the cell at a place of a chart, if its byte is above 0
abbrev pub marked_line : ℕ → ℕ → ℕ → List ℕ
marked_line width place byte = cond (byte == 0) [] (cell_line (place / width) (place % width) byte)

-- such lines for all bytes of a chart
abbrev pub cell_lines : ℕ → List ℕ → List ℕ
cell_lines width chart = upward (length chart) (λ place. marked_line width place (slice_index chart place))

-- all lines of a judgement; a chart is read up to its last cell, or as far as it reaches
abbrev pub judgement_lines : Judgement → List ℕ → List ℕ
judgement_lines j chart =
    array_line j.size.words j.size.width ++ (run_line j.operations (finding_count j.finding) ++ (chart_line j.charting j.blemished
    ++ cell_lines j.size.width (take (j.size.words * j.size.width) chart)))
