use Rattle.std.proofs.Common.{◌≡◌, ℕ, rules, ◌∙◌, nat_lt, length, arith}
use borrow.Author.Tests.{tests}
use Rattle.std.specs.List.{range_with_len, filter}
use Rattle.std.proofs.lemmas.Iterator.{YieldsList-from_range}
use Rattle.std.proofs.lemmas.Iterator.Consumers.{YieldsList-from_filter, count_from_yields_List}
use Rattle.chart.specs.Bytes.{byte_of}
use Rattle.chart.proofs.Counts.{filter_below, count_few}
use Rattle.chart.proofs.answers.Answers.blemished.Goals as goal

pub returns : goal.returns
returns c =
    let r = c.args.self.now in
    let w = c.args.width in
    let test = λ (j : ℕ). nat_lt 0 (byte_of r j) in
    let counted : c.count.result ≡ length (filter test (range_with_len 0 w)) =
    count_from_yields_List _ c.count.result c.count.ensures.ran (YieldsList-from_filter _ test (YieldsList-from_range 0 w w c.filter.ensures.source (omega arith)) c.filter.ensures.closure (λ x b q k. search (rules, tests))) in
    let told = counted ∙ filter_below w test in
    record { bytes_above_0 = told; at_most_the_width = omega (arith, told, count_few w test) }
