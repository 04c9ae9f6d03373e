use Rattle.std.proofs.Common.{◌<◌, length, sym, ap, ◌∙◌, arith}
use lib.ListN.{length-map}
use Rattle.std.proofs.lemmas.Bool.{lt-ltb}
use Rattle.cam.proofs.Asking.{both_yes}
use Rattle.march.specs.declared.element.TestOperation.TheVariants.{Compare}
use Rattle.march.specs.Lists.{listed}
use Rattle.march.specs.Tests.{meant, columns}
use Rattle.march.specs.Building.{operations_of, is_compare, allows, longer}
use Rattle.march.proofs.element.Element.add.Goals as goal

pub returns-in-Compare : goal.returns-in-Compare
returns-in-Compare c =
    let o = c.args.operation in
    let cs = listed c.in-Columns.comparisons in
    let is = c.in-Columns.is in
    let asked = c.in-Compare.is in
    let few : length (operations_of (meant c.args.self.now)) < 8 = omega (arith, c.operation_count.ensures.how_many_operations) in
    let room : length cs < 8 = omega (arith, ap (λ e. length (operations_of (meant e))) is, length-map cs Compare) in
    record {
      asks_in_order = both_yes _ _ 32 33 (lt-ltb _ 8 few) (ap (λ e. allows (meant e) o) is ∙ ap is_compare asked);
      one_more_at_the_end = ap columns (c.push-in-Compare.ensures.one_more_at_the_end room) ∙ sym (λ i. longer (meant (is i)) (asked i));
    }
