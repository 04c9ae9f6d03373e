use Rattle.std.proofs.Common.{◌≡◌, ◌++◌, length}
use Rattle.march.specs.Going.{operations_left}
use Rattle.march.specs.Tests.{meant}
use Rattle.march.specs.Building.{operations_of}
use Rattle.sheet_writer.specs.Sheets.{operation_piece}
use Rattle.test_sheets.proofs.Written.{Pieces}
use Rattle.test_sheets.proofs.whole_tests.write_operations.Given as goal

-- the operations so far were written, the others are left, and the state counts them
abbrev pub invariant-loop-operation : goal.invariant-loop-operation
invariant-loop-operation l =
    record {
      pieces : Pieces operation_piece l.initial.state.at l.yielded l.initial.buffer l.buffer l.state.at;
      others : l.yielded ++ operations_left l.operation-iterator ≡ operations_of (meant l.element);
      same_order : l.state.order ≡ l.initial.state.order;
      same_elements : l.state.elements ≡ l.initial.state.elements;
      counted : l.state.operations ≡ length l.yielded;
    }
