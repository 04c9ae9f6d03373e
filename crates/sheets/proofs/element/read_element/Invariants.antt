use Rattle.std.proofs.Common.{◌≡◌, ◌-◌, [], ◌∷◌, ◌++◌, length, Result}
use Rattle.cam.specs.declared.fault.Fault.{Fault}
use Rattle.march.specs.Tests.{Element}
use Rattle.march.specs.Building.{opened, order_of, operations_of}
use Rattle.march.specs.Table.{elements_of, name_of}
use Rattle.words.specs.Going.{GoesOn}
use Rattle.words.specs.Readings.{Gathered}
use Rattle.sheets.specs.Elements.{Inside}
use Rattle.sheets.proofs.element.read_element.Given as goal

-- the test has one element more, at its end, with so many operations; what the rest gives, the whole element gives
abbrev pub invariant-loop-token : goal.invariant-loop-token
invariant-loop-token l = record {
  goes_on : GoesOn l.fn.cursor l.cursor;
  name_stays : name_of l.test ≡ name_of l.fn.test;
  element : Element;
  ending : elements_of l.test ≡ elements_of l.fn.test ++ (element ∷ []);
  ordered : order_of element ≡ l.order;
  counted : l.count ≡ length (operations_of element);
  rest : (r : Result (Gathered Element) Fault) → Inside l.fn.cursor.text.now element l.cursor.at r → Inside l.fn.cursor.text.now (opened l.order) l.fn.cursor.at r;
}

abbrev pub decreases-loop-token : goal.decreases-loop-token
decreases-loop-token l = length l.cursor.text.now - l.cursor.at
