use Rattle.std.proofs.Common.{ℕ, ◌+◌, ◌≤◌, leb, map, length, get_or, take, ap, arith}
use Rattle.std.specs.List.{flat_map}
use Rattle.std.proofs.lemmas.Bool.{and_parts, leb-true}
use Rattle.std.proofs.lemmas.List.{map_more}
use Rattle.march.specs.Tests.{meant}
use Rattle.march.specs.Building.{operations_of, is_filled}
use Rattle.march.proofs.Table.{bare}
use Rattle.sheet_writer.specs.Sheets.{element_line}
use Rattle.test_sheets.proofs.Joins.{passes, within, split_at}
use Rattle.test_sheets.proofs.Written.{pieces_more}
use Rattle.test_sheets.proofs.whole_tests.write_elements.Goals as goal

pub write_element-state-requires : goal.write_element-state-requires
write_element-state-requires c =
    let es = c.args.elements.now in
    let i = c.loop-element.element-index in
    let e = meant (get_or es i bare) in
    let n : ℕ = length (operations_of e) in
    let inv = c.loop-element.invariant in
    let whole = split_at meant es i bare c.loop-element-test.true in
    let filled = passes _ _ e _ whole is_filled c.requires.each_filled in
    let room = within _ _ e _ whole element_line in
    record {
      few_elements = omega (arith, inv.counted, c.requires.few_elements);
      some_operation = leb-true 1 n (and_parts (leb 1 n) (leb n 8) filled).0;
      room = omega (arith, inv.pieces.place, c.loop-element.auto.buffer, c.requires.room);
    }

pub loop-element-preserved : goal.loop-element-preserved
loop-element-preserved c =
    let es = c.args.elements.now in
    let i = c.loop-element.element-index in
    let e = meant (get_or es i bare) in
    let done = map meant (take i es) in
    let wrote = c.write_element-state.ensures in
    let inv = c.loop-element.invariant in
    let whole = split_at meant es i bare c.loop-element-test.true in
    let within = within _ _ e _ whole element_line in
    let room : c.args.state.at + length (flat_map element_line done) + length (element_line e) ≤ length c.args.buffer.now = omega (arith, c.requires.room) in
    record {
      pieces = rw (map_more meant es i bare c.loop-element-test.true) (pieces_more element_line c.args.state.at c.args.buffer.now done c.loop-element.buffer c.write_element-state.new.buffer
          c.loop-element.state.at c.write_element-state.result.at e inv.pieces room (ap (λ s. s.at) wrote.state_after) wrote.line_written);
      counted = omega (arith, ap (λ s. s.elements) wrote.state_after, inv.counted);
    }
