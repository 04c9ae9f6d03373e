use Rattle.std.proofs.Common.{rules, ◌≡◌, length, sym, ap, ◌∙◌, arith}
use Rattle.std.specs.List.{sum_by}
use Rattle.std.proofs.lemmas.List.Concat.{length-flat_map}
use Rattle.std.proofs.lemmas.List.Folds.{flat_map-map}
use Rattle.march.specs.Tests.{meant}
use Rattle.sheet_writer.specs.Sheets.{element_line}
use Rattle.test_sheets.proofs.Bytes.{lines_few}
use Rattle.test_sheets.proofs.lengths.lines_length.Goals as goal

pub returns : goal.returns
returns c =
    let es = c.args.elements.now in
    let summed = ap length (flat_map-map element_line meant es) ∙ length-flat_map (λ e. element_line (meant e)) es in
    let is : c.sum.result ≡ sum_by (λ e. length (element_line (meant e))) es = search rules in
    record {
      length_of_lines = is ∙ sym summed;
      short_lines = omega (arith, is, summed, lines_few es, c.requires.few_elements);
    }
