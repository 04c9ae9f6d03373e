use Rattle.std.proofs.Common.{ap, ◌∙◌}
use Rattle.bench.specs.Judging.{judged_state}
use Rattle.bench.proofs.judging.judge_array.Goals as goal

pub returns-in-Ok-clause-only_these_operations : goal.returns-in-Ok-clause-only_these_operations
returns-in-Ok-clause-only_these_operations g c =
    let m = g.C.CamArray in
    ap m.state c.into_array-array.ensures.array_as_it_is ∙ c.in-Ok.ensures.only_these_operations
    ∙ ap (λ x. judged_state (m.build x) (m.state x)) c.new-bench.ensures.array_as_it_is
