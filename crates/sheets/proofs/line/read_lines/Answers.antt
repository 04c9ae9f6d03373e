use Rattle.std.proofs.Common.{◌∙◌, arith}
use Rattle.words.specs.Listings.{shut, more, lexed, too_few, other, piece}
use Rattle.words.proofs.Going.{goes_further}
use Rattle.words.proofs.Rules.{pinned, same_fault}
use Rattle.sheets.proofs.Ones.{lines_one}
use Rattle.sheets.proofs.line.read_lines.Goals as goal
use Rattle.sheets.proofs.line.read_lines.Goals.{in_default-via-in-Close+else-element_count-gt0, in_default-via-in_default}

pub returns-in_err-token-clause-reading : goal.returns-in_err-token-clause-reading
returns-in_err-token-clause-reading c =
    let i = c.loop-token.invariant in
    let x = rw i.goes_on.text_stays at c.in_err-token.ensures.reading.reads in
    rw (same_fault _ c.from_residual.ensures.1) (pinned (lines_one _ _ _) (i.rest _ (lexed x)))

pub returns-in-Close-clause-reading : goal.returns-in-Close-clause-reading
returns-in-Close-clause-reading c =
    let i = c.loop-token.invariant in
    let x = rw i.goes_on.text_stays at c.in_ok-token.ensures.reading.reads in
    let n = c.element_count.ensures.how_many_elements in
    pinned (lines_one _ _ _) (i.rest _ (shut x c.in-Close.is (omega (arith, n, c.if-element_count-gt0.true))))

pub returns-in_err-read_line-in-Open-clause-reading : goal.returns-in_err-read_line-in-Open-clause-reading
returns-in_err-read_line-in-Open-clause-reading c =
    let i = c.loop-token.invariant in
    let t = c.in_ok-token.ensures in
    let x = rw i.goes_on.text_stays at t.reading.reads in
    let l = rw (t.goes_on.text_stays, i.goes_on.text_stays) at c.in_err-read_line-in-Open.ensures.reading.reads in
    rw (same_fault _ c.from_residual-in_err-read_line-in-Open.ensures.1) (pinned (lines_one _ _ _) (i.rest _ (piece x c.in-Open.is l)))

pub loop-token-preserved : goal.loop-token-preserved
loop-token-preserved c =
    let i = c.loop-token.invariant in
    let t = c.in_ok-token.ensures in
    let x = rw i.goes_on.text_stays at t.reading.reads in
    let l = rw (t.goes_on.text_stays, i.goes_on.text_stays) at c.in_ok-read_line-in-Open.ensures.reading.reads in
    record {
      goes_on = goes_further i.goes_on (goes_further t.goes_on c.in_ok-read_line-in-Open.ensures.goes_on);
      name_stays = c.in_ok-read_line-in-Open.ensures.name_stays ∙ i.name_stays;
      rest = λ r z. i.rest r (more x c.in-Open.is l z);
    }

pub returns-in_default-clause-reading : goal.returns-in_default-clause-reading
returns-in_default-clause-reading c =
    let i = c.loop-token.invariant in
    let t = c.in_ok-token.ensures in
    let x = rw i.goes_on.text_stays at t.reading.reads in
    rw c.not_wanted.ensures.not_wanted_there
    (pinned (lines_one _ _ _) (i.rest _ (elim c.in_default.branch [
      | in_default-via-in-Close+else-element_count-gt0 w ↦ (let n = w.element_count.ensures.how_many_elements in too_few x w.in-Close.is (λ some. omega (arith, n, w.if-element_count-gt0.false)))
      | in_default-via-in_default w ↦ other x w.in_default.not-Close w.in_default.not-Open
    ])))
