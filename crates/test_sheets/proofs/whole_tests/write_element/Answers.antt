use Rattle.std.proofs.Common.{◌≡◌, ◌++◌, length, ap, ◌∙◌, append_assoc, arith, length-append}
use Rattle.std.specs.List.{flat_map}
use Rattle.cam.specs.Buffers.{over}
use Rattle.cam.proofs.Buffers.{Stands, stands_more}
use Rattle.march.specs.Tests.{meant}
use Rattle.march.specs.Building.{order_of, operations_of}
use Rattle.sheet_writer.specs.Sheets.{heading, operation_piece, ending, element_line}
use Rattle.test_sheets.proofs.Bytes.{line_length}
use Rattle.test_sheets.proofs.whole_tests.write_element.Goals as goal

pub returns-clause-line_written : goal.returns-clause-line_written
returns-clause-line_written c =
    let s = c.args.state in
    let b = c.args.buffer.now in
    let e = meant c.args.element.now in
    let h = heading c.order.result in
    let p = flat_map operation_piece (operations_of e) in
    let wrote = rw c.unwrap-opened.ensures at c.open.ensures.heading_written in
    let filled = c.write_operations-filled.ensures in
    let closed = rw c.unwrap.ensures at c.close.ensures.ending_written in
    let visits = c.order.ensures.what_it_visits in
    let same : length h ≡ length (heading (order_of e)) = ap (λ o. length (heading o)) visits in
    let line = line_length e in
    let room = c.requires.room in
    let first : Stands b s.at h c.unwrap-opened.result.at c.open.new.buffer = record { ends = ap (λ s. s.at) wrote.0; text = wrote.1 } in
    let second = stands_more b s.at h p _ c.write_operations-filled.result.at _ _ first filled.operations_written (ap (λ s. s.at) filled.state_after) (omega arith) in
    let third = stands_more b s.at (h ++ p) ending _ c.unwrap.result.at _ _ second closed.1 (ap (λ s. s.at) closed.0) (omega (arith, length-append h p)) in
    let whole : (h ++ p) ++ ending ≡ element_line e = append_assoc h p ending ∙ ap (λ o. heading o ++ (p ++ ending)) visits in
    third.text ∙ ap (over b s.at) whole
