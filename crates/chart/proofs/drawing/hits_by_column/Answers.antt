use Rattle.std.proofs.Common.{◌+◌, ◌<◌, sym, ◌∙◌, subst, arith}
use Rattle.cam.proofs.BitLaws.{Built, built_set, built_left}
use Rattle.chart.proofs.Columns.{hits_at, asked_none, equal_at, but_at, asked_hit, asked_next, asked_all}
use Rattle.chart.proofs.drawing.hits_by_column.Goals as goal
use Rattle.chart.proofs.drawing.hits_by_column.Goals.{then-compare, else-compare}

pub loop-number-init : goal.loop-number-init
loop-number-init g c = asked_none _ c.args.value _

pub loop-number-preserved : goal.loop-number-preserved
loop-number-preserved g c =
    let m = g.C.CamArray in
    let B = m.build c.args.array.now in
    let S = m.state c.args.array.now in
    let formed = m.formed c.args.array.now in
    let i = c.loop-number.number in
    let width = c.width-width.ensures.bits_of_word in
    let p-is = equal_at B.width _ _ c.args.value formed.few_bits width c.equal_bits-pattern.ensures.pattern in
    let m-is = but_at B.width _ _ i formed.few_bits width c.all_but_column.ensures.mask in
    let few : i < 64 = omega (arith, width, formed.few_bits) in
    let told = asked_hit B c.args.value S i c.loop-number.hits _ _ c.loop-number.invariant _ _ p-is m-is _ c.compare.ensures.some_word_matches in
    let next : Built (hits_at B c.args.value S) c.if-compare.hits (i + 1) =
    elim c.if-compare.branch [
      | then-compare y ↦ subst (λ h. Built (hits_at B c.args.value S) h (i + 1)) (sym y.hits-is) (built_set _ c.loop-number.hits i few (sym told ∙ y.if-compare.true) c.loop-number.invariant.built)
      | else-compare y ↦ subst (λ h. Built (hits_at B c.args.value S) h (i + 1)) (sym y.hits-is) (built_left _ c.loop-number.hits i (sym told ∙ y.if-compare.false) c.loop-number.invariant.built)
    ] in
    asked_next B c.args.value S i c.loop-number.hits _ _ c.loop-number.invariant _ _ p-is m-is _ _ _ c.compare.ensures.build_stays c.compare.ensures.only_counted next

pub returns : goal.returns
returns g c =
    record {
      hits_of_the_columns = asked_all _ c.args.value _ c.loop-number.number _ _ _ (omega (arith, c.width-width.ensures.bits_of_word)) c.loop-number.invariant;
    }
