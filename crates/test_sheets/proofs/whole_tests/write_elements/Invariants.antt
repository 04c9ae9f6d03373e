use Rattle.std.proofs.Common.{◌≡◌, ◌+◌, map, take}
use Rattle.march.specs.Tests.{meant}
use Rattle.sheet_writer.specs.Sheets.{element_line}
use Rattle.test_sheets.proofs.Written.{Pieces}
use Rattle.test_sheets.proofs.whole_tests.write_elements.Given as goal

-- the lines so far were written, and the state counts them
abbrev pub invariant-loop-element : goal.invariant-loop-element
invariant-loop-element l =
    record {
      pieces : Pieces element_line l.initial.state.at (map meant (take l.element-index l.elements)) l.initial.buffer l.buffer l.state.at;
      counted : l.state.elements ≡ l.initial.state.elements + l.element-index;
    }
