use Rattle.std.proofs.Common.{rules, ◌^◌, length, ap, ◌∙◌, sym, arith}
use Rattle.std.proofs.lemmas.Iterator.{YieldsList-from_map}
use Rattle.std.proofs.lemmas.Iterator.Consumers.{YieldsList-from_first, fits_by_from_yields_list, sum_by_from_yields_List}
use Rattle.std.proofs.lemmas.List.Concat.{length-flat_map}
use Rattle.march.proofs.Table.{operations_few}
use Rattle.march.specs.declared.element.TestOperation.{TestOperation}
use Rattle.march.specs.Tests.{meant}
use Rattle.march.specs.Building.{operations_of}
use Rattle.march.specs.Going.{operations_left}
use Rattle.sheet_writer.specs.Sheets.{operation_piece}
use Rattle.test_sheets.proofs.Bytes.{operations_short}
use Rattle.test_sheets.proofs.lengths.operations_length.Goals as goal

pub sum-requires-clause-fits : goal.sum-requires-clause-fits
sum-requires-clause-fits c =
    let os = operations_of (meant c.args.element.now) in
    let source = YieldsList-from_first (λ (o : TestOperation). o) operations_left os (ap operations_left c.map.ensures.source ∙ c.operations-operations.ensures.each_operation) in
    fits_by_from_yields_list (λ o. length (operation_piece o)) os c.map.result (2 ^ 64)
    (YieldsList-from_map _ (λ o. length (operation_piece o)) source c.map.ensures.closure (λ x r q k. search rules))
    (omega (arith, length-flat_map operation_piece os, operations_short os, operations_few c.args.element.now))

pub returns : goal.returns
returns c =
    let os = operations_of (meant c.args.element.now) in
    let source = YieldsList-from_first (λ (o : TestOperation). o) operations_left os (ap operations_left c.map.ensures.source ∙ c.operations-operations.ensures.each_operation) in
    let each = sum_by_from_yields_List (λ o. length (operation_piece o)) os c.map.result c.sum.result c.sum.ensures.ran
    (YieldsList-from_map _ (λ o. length (operation_piece o)) source c.map.ensures.closure (λ x r q k. search rules)) in
    let whole = length-flat_map operation_piece os in
    record {
      length_of_operations = each ∙ sym whole;
      short_operations = omega (arith, each, whole, operations_short os, operations_few c.args.element.now);
    }
