use Rattle.std.proofs.Common.{[]}
use Rattle.words.specs.Readings.{on, off}
use Rattle.words.proofs.Rules.{same_fault}
use Rattle.array_text.proofs.Leaving.{rest_leaves}
use Rattle.array_text.proofs.lines.add_rest.Goals as goal

pub returns-in_err-add_lines-clause-reading : goal.returns-in_err-add_lines-clause-reading
returns-in_err-add_lines-clause-reading c =
    rw (same_fault _ c.from_residual.ensures.1) (λ N W h. off (c.in_err-add_lines.ensures.reading N W [] h))

pub returns-in_err-want-clause-reading : goal.returns-in_err-want-clause-reading
returns-in_err-want-clause-reading c =
    let l = c.in_ok-add_lines.ensures in
    let e = rw l.goes_on.text_stays at c.in_err-want.ensures.reading.reads in
    rw (same_fault _ c.from_residual-in_err-want.ensures.1) (λ N W h. on (l.reading N W [] h).1.0 (off e))

pub returns-clause-reading : goal.returns-clause-reading
returns-clause-reading c = λ N W h.
    let l = c.in_ok-add_lines.ensures in
    let x = l.reading N W [] h in
    let e = rw l.goes_on.text_stays at c.in_ok-want.ensures.reading.reads in
    let f = rw (c.in_ok-want.ensures.goes_on.text_stays, l.goes_on.text_stays) at c.want-2.ensures.reading.reads in
    rest_leaves _ _ _ _ _ x.0 _ _ c.want-2.result _ x.1.0 e f x.1.1
