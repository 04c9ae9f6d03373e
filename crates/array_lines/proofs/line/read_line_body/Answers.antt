use Rattle.std.proofs.Common.{◌≡◌, ℕ, List, Option, Result, sym, refl, subst}
use Rattle.cam.specs.declared.fault.Fault.{Fault}
use Rattle.words.specs.Readings.{Gathered, on, off}
use Rattle.words.proofs.Rules.{pinned, same_fault}
use Rattle.array_lines.specs.declared.cell.Defect.{Defect}
use Rattle.array_lines.specs.declared.line.LineWord.{LineWord}
use Rattle.array_lines.specs.declared.line.LineWord.TheVariants.{Note, Cell, Mark}
use Rattle.array_lines.specs.Lines.{LineBody}
use Rattle.array_lines.proofs.Ones.{body_one, Unclosed}
use Rattle.array_lines.proofs.line.read_line_body.Goals as goal
use Rattle.array_lines.proofs.line.read_line_body.Goals.{After-want, in-Cell+in_ok-defect-in-Cell, in-Mark+in_ok-defect-in-Mark}

-- what the rule says of the word that was read
after_word : (N W : ℕ) (text : List ℕ) (v w : LineWord) (a : ℕ) (r : Result (Gathered (Option Defect)) Fault) → v ≡ w → LineBody N W text w a r → LineBody N W text v a r
after_word N W text v w a r e x = subst (λ u. LineBody N W text u a r) (sym e) x

pub returns-in_err-one_of-clause-reading : goal.returns-in_err-one_of-clause-reading
returns-in_err-one_of-clause-reading c =
    rw (same_fault _ c.from_residual.ensures.1) (pinned (body_one _ _ _ _) (off c.in_err-one_of.ensures.reading.reads))

pub returns-in_err-outermost_remark-in-Note-clause-reading : goal.returns-in_err-outermost_remark-in-Note-clause-reading
returns-in_err-outermost_remark-in-Note-clause-reading c =
    let x = c.in_ok-one_of.ensures in
    let e = rw x.goes_on.text_stays at c.in_err-outermost_remark-in-Note.ensures.reading.reads in
    rw (same_fault _ c.from_residual-in_err-outermost_remark-in-Note.ensures.1) (pinned (body_one _ _ _ _) (on x.reading.reads (after_word _ _ _ _ Note _ _ c.in-Note.is (off e))))

pub returns-in-Note-clause-reading : goal.returns-in-Note-clause-reading
returns-in-Note-clause-reading c =
    let x = c.in_ok-one_of.ensures in
    let e = rw x.goes_on.text_stays at c.in_ok-outermost_remark-in-Note.ensures.reading.reads in
    pinned (body_one _ _ _ _) (on x.reading.reads (after_word _ _ _ _ Note _ _ c.in-Note.is (on e refl)))

pub returns-in_err-defect-in-Cell-clause-reading : goal.returns-in_err-defect-in-Cell-clause-reading
returns-in_err-defect-in-Cell-clause-reading c =
    let x = c.in_ok-one_of.ensures in
    let d = rw x.goes_on.text_stays at c.in_err-defect-in-Cell.ensures.reading.reads in
    rw (same_fault _ c.from_residual-in_err-defect-in-Cell.ensures.1) (pinned (body_one _ _ _ _) (on x.reading.reads (after_word _ _ _ _ Cell _ _ c.in-Cell.is (off d))))

pub returns-in_err-defect-in-Mark-clause-reading : goal.returns-in_err-defect-in-Mark-clause-reading
returns-in_err-defect-in-Mark-clause-reading c =
    let x = c.in_ok-one_of.ensures in
    let d = rw x.goes_on.text_stays at c.in_err-defect-in-Mark.ensures.reading.reads in
    rw (same_fault _ c.from_residual-in_err-defect-in-Mark.ensures.1) (pinned (body_one _ _ _ _) (on x.reading.reads (after_word _ _ _ _ Mark _ _ c.in-Mark.is (off d))))

-- the defect that was read, whose closing bracket comes next, by the word
unclosed : (c : After-want) → Unclosed c.args.size.words c.args.size.width c.one_of.new.self c.match-branch-2.cursor c.in_ok-one_of.field-0 c.match-branch-2.defect
unclosed c =
    elim c.match-branch-2.branch [
      | in-Cell+in_ok-defect-in-Cell w ↦ (let d = w.in_ok-defect-in-Cell.ensures in rw (w.cursor-is, w.defect-is) (record { goes_on = d.goes_on; closes = λ r x. after_word _ _ _ _ Cell _ _ w.in-Cell.is (on d.reading.reads x) }))
      | in-Mark+in_ok-defect-in-Mark w ↦ (let d = w.in_ok-defect-in-Mark.ensures in rw (w.cursor-is, w.defect-is) (record { goes_on = d.goes_on; closes = λ r x. after_word _ _ _ _ Mark _ _ w.in-Mark.is (on d.reading.reads x) }))
    ]

pub returns-in_err-want-clause-reading : goal.returns-in_err-want-clause-reading
returns-in_err-want-clause-reading c =
    let x = c.in_ok-one_of.ensures in
    let u = unclosed (goal.at.returns-in_err-want-clause-reading c).After-want in
    let k = rw (u.goes_on.text_stays, x.goes_on.text_stays) at c.in_err-want.ensures.reading.reads in
    let closes = rw x.goes_on.text_stays at u.closes in
    rw (same_fault _ c.from_residual-in_err-want.ensures.1) (pinned (body_one _ _ _ _) (on x.reading.reads (closes _ (off k))))

pub returns-clause-reading : goal.returns-clause-reading
returns-clause-reading c =
    let x = c.in_ok-one_of.ensures in
    let u = unclosed (goal.at.returns-clause-reading c).After-want in
    let k = rw (u.goes_on.text_stays, x.goes_on.text_stays) at c.in_ok-want.ensures.reading.reads in
    let closes = rw x.goes_on.text_stays at u.closes in
    pinned (body_one _ _ _ _) (on x.reading.reads (closes _ (on k refl)))
