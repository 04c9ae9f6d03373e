use Rattle.std.proofs.Common.{◌≡◌, ◌-◌, List, length, Result}
use Rattle.cam.specs.declared.fault.Fault.{Fault}
use Rattle.march.specs.Tests.{Element}
use Rattle.march.specs.Table.{elements_of, name_of}
use Rattle.words.specs.Going.{GoesOn}
use Rattle.words.specs.Readings.{Gathered}
use Rattle.sheets.specs.Lines.{Lines}
use Rattle.sheets.proofs.line.read_lines.Given as goal

-- what the rest gives, the whole gives
abbrev pub invariant-loop-token : goal.invariant-loop-token
invariant-loop-token l = record {
  goes_on : GoesOn l.fn.cursor l.cursor;
  name_stays : name_of l.test ≡ name_of l.fn.test;
  rest : (r : Result (Gathered (List Element)) Fault) → Lines l.fn.cursor.text.now (elements_of l.test) l.cursor.at r → Lines l.fn.cursor.text.now (elements_of l.fn.test) l.fn.cursor.at r;
}

abbrev pub decreases-loop-token : goal.decreases-loop-token
decreases-loop-token l = length l.cursor.text.now - l.cursor.at
