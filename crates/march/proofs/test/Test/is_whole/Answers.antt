use Rattle.std.proofs.Common.{◌≡◌, ◌≤◌, arith, rules, length, nat_lt, sym, ap, ◌∙◌}
use borrow.Author.Tests.{tests}
use lib.ListN.{length-map}
use Rattle.std.proofs.lemmas.Bool.Decides.{nat_tests}
use Rattle.std.proofs.lemmas.Grind.{common_steps}
use Rattle.std.proofs.lemmas.Iterator.{YieldsList-from_slice}
use Rattle.std.proofs.lemmas.Iterator.Search.{all_from_yields_List}
use Rattle.march.specs.declared.element.Element.{Element}
use Rattle.march.specs.Tests.{meant}
use Rattle.march.specs.Every.{every}
use Rattle.march.specs.Building.{operations_of, is_filled}
use Rattle.march.specs.Table.{elements_of}
use Rattle.march.proofs.Table.{elements_few, filled_all}
use Rattle.march.proofs.Lists.{within_both}
use Rattle.march.proofs.test.Test.is_whole.Goals as goal

pub returns-then-not-is_empty : goal.returns-then-not-is_empty
returns-then-not-is_empty c =
    let t = c.args.self.now in
    let es = c.elements-elements.result.now in
    let listed = c.elements-elements.ensures.all_elements in
    let all : c.all.result ≡ every is_filled (elements_of t) =
    all_from_yields_List (λ (e : Element). nat_lt 0 (length (operations_of (meant e)))) _ _ c.all.result c.all.ensures.ran (YieldsList-from_slice es cc) (λ x b q k. search (rules, tests))
    ∙ filled_all es ∙ ap (every is_filled) listed in
    let some : 1 ≤ length (elements_of t) = grind (arith, common_steps, nat_tests, length-map es meant, ap length listed) in
    record { decides_whole = all ∙ sym (within_both (length (elements_of t)) 1 16 _ some (elements_few t)) }
