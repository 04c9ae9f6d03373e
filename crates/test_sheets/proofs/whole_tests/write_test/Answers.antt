use Rattle.std.proofs.Common.{◌≡◌, ℕ, ◌+◌, ◌≤◌, true, List, ◌++◌, map, length, take, codes, sym, ap, ◌∙◌, subst, append_assoc, arith, length-append}
use Rattle.std.proofs.lemmas.List.{take_at}
use Rattle.std.specs.List.{flat_map}
use Rattle.std.proofs.lemmas.Grind.{common_steps}
use Rattle.cam.specs.Buffers.{over}
use Rattle.cam.proofs.Buffers.{Stands, stands_more}
use Rattle.march.specs.Tests.{meant}
use Rattle.march.specs.Building.{is_whole}
use Rattle.march.specs.Table.{elements_of, name_of}
use Rattle.sheet_writer.specs.Sheets.{beginning, ending, element_line, sheet, sheet_text}
use Rattle.test_sheets.proofs.Bytes.{sheet_length}
use Rattle.test_sheets.specs.RoundTrip.{Says}
use Rattle.test_sheets.proofs.PieceRuns.{pieces_read_back}
use Rattle.test_sheets.proofs.Trips.{reads_back}
use Rattle.test_sheets.proofs.whole_tests.write_test.Goals as goal

begin_length : (name : List ℕ) → length (beginning name) ≡ 7 + length name
begin_length name = omega (arith, length-append name (codes "\n"))

pub returns-then-not-is_whole-clause-every_sheet_reads_back : goal.returns-then-not-is_whole-clause-every_sheet_reads_back
returns-then-not-is_whole-clause-every_sheet_reads_back c = reads_back

pub returns-then-not-is_whole-clause-every_list_of_pieces_reads_back : goal.returns-then-not-is_whole-clause-every_list_of_pieces_reads_back
returns-then-not-is_whole-clause-every_list_of_pieces_reads_back c = pieces_read_back

pub returns-then-buffer-sheet_length-clause-every_sheet_reads_back : goal.returns-then-buffer-sheet_length-clause-every_sheet_reads_back
returns-then-buffer-sheet_length-clause-every_sheet_reads_back c = reads_back

pub returns-then-buffer-sheet_length-clause-every_list_of_pieces_reads_back : goal.returns-then-buffer-sheet_length-clause-every_list_of_pieces_reads_back
returns-then-buffer-sheet_length-clause-every_list_of_pieces_reads_back c = pieces_read_back

pub returns : goal.returns
returns c =
    let t = c.args.test.now in
    let b = c.args.buffer.now in
    let n = c.as_bytes.result.now in
    let x = beginning n in
    let are : map meant c.elements.result.now ≡ elements_of t = c.elements.ensures.all_elements in
    let y = flat_map element_line (map meant c.elements.result.now) in
    let begun = c.in_ok-begun.ensures.sheet_begun in
    let filled = c.write_elements-filled.ensures in
    let ended = rw c.unwrap.ensures at c.end.ensures.ending_written in
    let same : n ≡ name_of t = c.as_bytes.ensures.letters ∙ c.name-name.ensures.its_name in
    let whole : is_whole (elements_of t) ≡ true = sym c.if-not-is_whole.ensures.decides_whole in
    let room : length (sheet_text t) ≤ length b = omega (arith, c.sheet_length.ensures.length_of_sheet, c.if-buffer-sheet_length.false) in
    let long = sheet_length (name_of t) (elements_of t) in
    let short = begin_length n in
    let names = ap length same in
    let lines = ap (λ xs. length (flat_map element_line xs)) are in
    let place : c.in_ok-begun.begun.at ≡ 0 + length x = omega (arith, ap (λ s. s.at) begun.0) in
    let first : Stands b 0 x c.in_ok-begun.begun.at c.begin.new.buffer = record { ends = place; text = begun.1 } in
    let second = stands_more b 0 x y _ c.write_elements-filled.result.at _ _ first filled.lines_written (ap (λ s. s.at) filled.state_after) (omega arith) in
    let third = stands_more b 0 (x ++ y) ending _ c.unwrap.result _ _ second ended.1 ended.0 (omega (arith, length-append x y)) in
    let text : (x ++ y) ++ ending ≡ sheet_text t = append_assoc x y ending ∙ (λ j. sheet (same j) (are j)) in
    let count : c.unwrap.result ≡ length (sheet_text t) = omega (arith, third.ends, ap length text) in
    let bytes : c.end.new.buffer ≡ over b 0 (sheet_text t) = third.text ∙ ap (over b 0) text in
    let front : take c.unwrap.result c.end.new.buffer ≡ sheet_text t =
    ap (take c.unwrap.result) bytes ∙ take_at (sheet_text t) _ c.unwrap.result (sym count) in
    record {
      asks_in_order = grind (arith, common_steps, room, c.if-not-is_whole.ensures.decides_whole);
      sheet_written = (count, bytes);
      reads_back = subst (λ xs. Says xs (name_of t) (elements_of t)) (sym front) (reads_back (name_of t) (elements_of t) t.name.allowed whole);
      every_sheet_reads_back = reads_back;
      every_list_of_pieces_reads_back = pieces_read_back;
    }
