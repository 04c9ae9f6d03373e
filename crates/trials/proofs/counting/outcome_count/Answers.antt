use Rattle.std.proofs.Common.{min, ap, length, ◌∙◌, arith, rules, tests}
use lib.ListN.{length-map}
use Rattle.std.proofs.lemmas.Iterator.{YieldsList-from_slice, YieldsList-from_map}
use Rattle.std.proofs.lemmas.Iterator.Adapters.{fits_from_length, at_most_from_yields_List}
use Rattle.std.proofs.lemmas.Iterator.Consumers.{sum_by_from_yields_List}
use Rattle.march.specs.Tests.{meant, schedule}
use Rattle.march.proofs.Table.{elements_few}
use Rattle.trials.specs.Outcomes.{check_count, checks_in}
use Rattle.trials.proofs.Outcomes.{checks_each}
use Rattle.trials.proofs.counting.outcome_count.Goals as goal

pub sum-requires-clause-fits : goal.sum-requires-clause-fits
sum-requires-clause-fits c =
    let rs = c.elements.result.now in
    fits_from_length _ _ 16 _
    (at_most_from_yields_List (YieldsList-from_slice rs (cc)) (omega (arith, elements_few c.args.test.now, ap length c.elements.ensures.all_elements, length-map rs meant)))
    c.map.ensures.closure (omega arith) (λ x r q k. search (rules, tests))

pub returns : goal.returns
returns c =
    let rs = c.elements.result.now in
    let n = c.args.size.words in
    let w = min c.args.size.width 64 in
    record {
      reads_and_compares = sum_by_from_yields_List (λ r. checks_in n w (meant r)) rs c.map.result _ c.sum.ensures.ran
          (YieldsList-from_map _ (λ r. checks_in n w (meant r)) (YieldsList-from_slice rs (cc)) c.map.ensures.closure (λ x r q k. search (rules, tests)))
          ∙ checks_each n w rs ∙ ap (λ es. check_count (schedule n w es)) c.elements.ensures.all_elements;
    }
