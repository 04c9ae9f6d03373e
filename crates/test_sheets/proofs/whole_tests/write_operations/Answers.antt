use Rattle.std.proofs.Common.{◌≡◌, ◌+◌, ◌≤◌, [], ◌∷◌, ◌++◌, length, sym, ap, ◌∙◌, append_assoc, arith}
use Rattle.std.proofs.lemmas.List.{length_push}
use Rattle.std.specs.List.{flat_map}
use Rattle.march.specs.Going.{operations_left}
use Rattle.march.specs.Tests.{meant}
use Rattle.march.specs.Building.{opened, order_of, operations_of, allows}
use Rattle.march.proofs.Table.{operations_few}
use Rattle.sheet_writer.specs.Sheets.{operation_piece}
use Rattle.sheet_writer.specs.Writing.{write_questions}
use Rattle.test_sheets.proofs.Elements.{every_allowed}
use Rattle.test_sheets.proofs.Joins.{has_place, passes, within}
use Rattle.test_sheets.proofs.Written.{pieces_more, granted, operation_granted}
use Rattle.test_sheets.proofs.whole_tests.write_operations.Goals as goal

pub unwrap-state-requires : goal.unwrap-state-requires
unwrap-state-requires c =
    let e = meant c.args.element.now in
    let s = c.loop-operation.state in
    let done = c.loop-operation.yielded in
    let o = c.in-Some.operation in
    let left = operations_left c.next.new.self in
    let inv = c.loop-operation.invariant in
    let whole : done ++ (o ∷ left) ≡ operations_of e = ap (λ xs. done ++ xs) (sym c.in-Some.ensures.steps) ∙ inv.others in
    let few = has_place done left o _ whole in
    let allowed = passes done left o _ whole (allows (opened (order_of e))) (every_allowed e) in
    let room = within done left o _ whole operation_piece in
    granted (write_questions s o c.loop-operation.buffer) c.write.result c.write.ensures.asks_in_order
    (operation_granted c.loop-operation.buffer s o
    (omega (arith, inv.counted, operations_few c.args.element.now))
    (ap (λ r. allows (opened r) o) (inv.same_order ∙ c.requires.same_order) ∙ allowed)
    (omega (arith, inv.pieces.place, c.loop-operation.auto.buffer, c.requires.room)))

pub loop-operation-preserved : goal.loop-operation-preserved
loop-operation-preserved c =
    let done = c.loop-operation.yielded in
    let o = c.in-Some.operation in
    let left = operations_left c.next.new.self in
    let inv = c.loop-operation.invariant in
    let whole : done ++ (o ∷ left) ≡ operations_of (meant c.args.element.now) = ap (λ xs. done ++ xs) (sym c.in-Some.ensures.steps) ∙ inv.others in
    let wrote = rw c.unwrap-state.ensures at c.write.ensures.operation_written in
    let room : c.args.state.at + length (flat_map operation_piece done) + length (operation_piece o) ≤ length c.args.buffer.now =
    omega (arith, within done left o _ whole operation_piece, c.requires.room) in
    record {
      pieces = pieces_more operation_piece c.args.state.at c.args.buffer.now done c.loop-operation.buffer c.write.new.buffer c.loop-operation.state.at c.unwrap-state.result.at o
          inv.pieces room (ap (λ s. s.at) wrote.0) wrote.1;
      others = append_assoc done (o ∷ []) left ∙ whole;
      same_order = ap (λ s. s.order) wrote.0 ∙ inv.same_order;
      same_elements = ap (λ s. s.elements) wrote.0 ∙ inv.same_elements;
      counted = omega (arith, ap (λ s. s.operations) wrote.0, inv.counted, length_push done o);
    }
