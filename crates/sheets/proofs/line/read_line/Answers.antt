use Rattle.march.specs.Table.{elements_of}
use Rattle.words.specs.Readings.{on, off}
use Rattle.words.proofs.Rules.{pinned, same_fault}
use Rattle.words.proofs.Lists.{leaves}
use Rattle.sheets.proofs.Ones.{line_one, noted, elemental, Unended}
use Rattle.sheets.proofs.line.read_line.Goals as goal
use Rattle.sheets.proofs.line.read_line.Goals.{in-Note+in_ok-outermost_remark-in-Note, in-Element+in_ok-read_element-in-Element}

pub returns-in_err-one_of-clause-reading : goal.returns-in_err-one_of-clause-reading
returns-in_err-one_of-clause-reading c =
    rw (same_fault _ c.from_residual.ensures.1) (pinned (line_one _ _ _ _) (off c.in_err-one_of.ensures.reading.reads))

pub returns-in_err-outermost_remark-in-Note-clause-reading : goal.returns-in_err-outermost_remark-in-Note-clause-reading
returns-in_err-outermost_remark-in-Note-clause-reading c =
    let l = c.in_ok-one_of.ensures in
    let m = rw l.goes_on.text_stays at c.in_err-outermost_remark-in-Note.ensures.reading.reads in
    rw (same_fault _ c.from_residual-in_err-outermost_remark-in-Note.ensures.1) (pinned (line_one _ _ _ _) (on l.reading.reads (off (noted _ _ _ _ _ _ c.in-Note.is m))))

pub returns-in_err-read_element-in-Element-clause-reading : goal.returns-in_err-read_element-in-Element-clause-reading
returns-in_err-read_element-in-Element-clause-reading c =
    let l = c.in_ok-one_of.ensures in
    let e = rw l.goes_on.text_stays at c.in_err-read_element-in-Element.ensures.reading.reads in
    rw (same_fault _ c.from_residual-in_err-read_element-in-Element.ensures.1) (pinned (line_one _ _ _ _) (on l.reading.reads (off (elemental _ _ _ _ _ _ _ c.in-Element.is e))))

pub returns-clause-reading : goal.returns-clause-reading
returns-clause-reading c =
    let l = c.in_ok-one_of.ensures in
    let u : Unended c.one_of.new.self c.match-branch-2.cursor (elements_of c.args.test.now) c.args.bracket c.in_ok-one_of.field-0 (elements_of c.match-branch-2.test) = elim c.match-branch-2.branch [
      | in-Note+in_ok-outermost_remark-in-Note w ↦ (let r = w.in_ok-outermost_remark-in-Note.ensures in rw (w.cursor-is, w.test-is) (record { goes_on = r.goes_on; body = noted _ _ _ _ _ _ w.in-Note.is r.reading.reads }))
      | in-Element+in_ok-read_element-in-Element w ↦ (let r = w.in_ok-read_element-in-Element.ensures in rw (w.cursor-is, w.test-is) (record { goes_on = r.goes_on; body = elemental _ _ _ _ _ _ _ w.in-Element.is r.reading.reads }))
    ] in
    pinned (line_one _ _ _ _) (on l.reading.reads (on (rw l.goes_on.text_stays at u.body) (leaves _ _ _ (rw (u.goes_on.text_stays, l.goes_on.text_stays) at c.want.ensures.reading.reads))))
