use Rattle.std.proofs.Common.{◌≡◌, arith, rules, sym, ◌∙◌, ◌≤◌, length}
use borrow.Author.Tests.{tests}
use Rattle.std.specs.List.{list_all}
use Rattle.std.proofs.lemmas.Bool.Decides.{nat_tests}
use Rattle.std.proofs.lemmas.Grind.{common_steps}
use Rattle.std.proofs.lemmas.Iterator.{YieldsList-from_slice}
use Rattle.std.proofs.lemmas.Iterator.Search.{all_from_yields_List}
use Rattle.march.specs.Letters.{is_letter_or_digit}
use Rattle.march.proofs.Lists.{within_both}
use Rattle.march.proofs.naming.is_name.Goals as goal

pub returns-then-text-le16 : goal.returns-then-text-le16
returns-then-text-le16 c =
    let xs = c.args.text.now in
    let all : c.all.result ≡ list_all is_letter_or_digit xs =
    all_from_yields_List is_letter_or_digit _ _ c.all.result c.all.ensures.ran (YieldsList-from_slice xs cc) (λ x b q k. search (rules, tests)) in
    let some : 1 ≤ length xs = grind (arith, common_steps, nat_tests) in
    record { allowed_name = all ∙ sym (within_both (length xs) 1 16 _ some (omega arith)) }
