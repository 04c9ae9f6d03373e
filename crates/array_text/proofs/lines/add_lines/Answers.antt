use Rattle.words.specs.Listings.{shut, more, lexed, other, piece}
use Rattle.words.proofs.Going.{goes_further}
use Rattle.words.proofs.Rules.{same_fault}
use Rattle.array_text.proofs.Later.{keeps_on}
use Rattle.array_text.proofs.lines.add_lines.Goals as goal

pub returns-in_err-token-clause-reading : goal.returns-in_err-token-clause-reading
returns-in_err-token-clause-reading c =
    let i = c.loop-token.invariant in
    let x = rw i.goes_on.text_stays at c.in_err-token.ensures.reading.reads in
    rw (same_fault _ c.from_residual.ensures.1) (λ N W ds h. (i.rest N W ds h).1.1 _ (lexed x))

pub returns-in-Close-clause-reading : goal.returns-in-Close-clause-reading
returns-in-Close-clause-reading c = λ N W ds h.
    let i = c.loop-token.invariant in
    let x = rw i.goes_on.text_stays at c.in_ok-token.ensures.reading.reads in
    let y = i.rest N W ds h in
    (y.0, (y.1.1 _ (shut x c.in-Close.is tt), y.1.0))

pub returns-in_err-add_line-in-Open-clause-reading : goal.returns-in_err-add_line-in-Open-clause-reading
returns-in_err-add_line-in-Open-clause-reading c =
    let i = c.loop-token.invariant in
    let t = c.in_ok-token.ensures in
    let x = rw i.goes_on.text_stays at t.reading.reads in
    let l = rw (t.goes_on.text_stays, i.goes_on.text_stays) at c.in_err-add_line-in-Open.ensures.reading in
    rw (same_fault _ c.from_residual-in_err-add_line-in-Open.ensures.1) (λ N W ds h.
    let y = i.rest N W ds h in
    y.1.1 _ (piece x c.in-Open.is (l N W y.0 y.1.0)))

pub loop-token-preserved : goal.loop-token-preserved
loop-token-preserved c =
    let i = c.loop-token.invariant in
    let t = c.in_ok-token.ensures in
    let a = c.in_ok-add_line-in-Open.ensures in
    let x = rw i.goes_on.text_stays at t.reading.reads in
    let l = rw (t.goes_on.text_stays, i.goes_on.text_stays) at a.reading in
    record {
      goes_on = goes_further i.goes_on (goes_further t.goes_on a.goes_on);
      rest = λ N W ds h.
          let y = i.rest N W ds h in
          let z = l N W y.0 y.1.0 in
          (z.0, (z.1.1, λ r rest. y.1.1 r (more x c.in-Open.is z.1.0 rest)));
      later = keeps_on _ _ _ i.later a.later_records_stay;
    }

pub returns-in_default-clause-reading : goal.returns-in_default-clause-reading
returns-in_default-clause-reading c =
    let i = c.loop-token.invariant in
    let x = rw i.goes_on.text_stays at c.in_ok-token.ensures.reading.reads in
    rw c.not_wanted.ensures.not_wanted_there (λ N W ds h. (i.rest N W ds h).1.1 _ (other x c.in_default.not-Close c.in_default.not-Open))
