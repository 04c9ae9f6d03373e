use Rattle.std.proofs.Common.{refl, ap}
use Rattle.bench.proofs.Ruling.{led_none, led_more, led_all}
use Rattle.bench.proofs.every_list.perform_all.Goals as goal

pub loop-call-init : goal.loop-call-init
loop-call-init g c = led_none _ _ _ _ _ _ refl refl c.new-bench.ensures.nothing_done_or_found

pub loop-call-preserved : goal.loop-call-preserved
loop-call-preserved g c =
    led_more _ _ _ _ c.args.calls.now c.loop-call.call-index _ _ _ _ _ c.loop-call-test.true refl
    (g.C.CamArray.formed c.loop-call.bench.array) c.loop-call.invariant c.perform.ensures.call_performed c.perform.ensures.build_stays

pub returns : goal.returns
returns g c =
    let m = g.C.CamArray in
    let same = c.new-bench.ensures.array_as_it_is in
    let all = led_all _ _ _ _ _ c.loop-call.call-index c.args.calls.now _ _ (ap m.build same) (ap m.state same) c.loop-call-test.false c.loop-call.invariant in
    record { rules_hold = all.0; every_call_performed = all.1; build_stays = all.2 }
