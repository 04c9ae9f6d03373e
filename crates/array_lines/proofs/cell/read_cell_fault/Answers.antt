use Rattle.std.proofs.Common.{◌≡◌, ℕ, List, Result, sym, refl, subst}
use Rattle.cam.specs.declared.fault.Fault.{Fault}
use Rattle.cam.specs.declared.index.CellIndex.{CellIndex}
use Rattle.words.specs.Readings.{Gathered, on, off}
use Rattle.words.proofs.Rules.{pinned, same_fault}
use Rattle.array_lines.specs.declared.cell.Defect.{Defect}
use Rattle.array_lines.specs.declared.cell.CellWord.{CellWord}
use Rattle.array_lines.specs.declared.cell.CellWord.TheVariants.{Storage, Wrong}
use Rattle.array_lines.specs.Cells.{CellFault}
use Rattle.array_lines.proofs.Ones.{cell_fault_next_one}
use Rattle.array_lines.proofs.cell.read_cell_fault.Goals as goal

-- what the rule says of the word that was read
after_word : (text : List ℕ) (c : CellIndex) (v w : CellWord) (a : ℕ) (r : Result (Gathered Defect) Fault) → v ≡ w → CellFault text c w a r → CellFault text c v a r
after_word text c v w a r e x = subst (λ u. CellFault text c u a r) (sym e) x

pub returns-in_err-defect-clause-reading : goal.returns-in_err-defect-clause-reading
returns-in_err-defect-clause-reading c =
    rw (same_fault _ c.from_residual.ensures.1) (pinned (cell_fault_next_one _ _ _) (off c.in_err-defect.ensures.reading.reads))

pub returns-in-Storage-clause-reading : goal.returns-in-Storage-clause-reading
returns-in-Storage-clause-reading c =
    pinned (cell_fault_next_one _ _ _) (on c.in_ok-defect.ensures.reading.reads (after_word _ _ _ (Storage _) _ _ c.in-Storage.is refl))

pub returns-in_err-held-in-Wrong-clause-reading : goal.returns-in_err-held-in-Wrong-clause-reading
returns-in_err-held-in-Wrong-clause-reading c =
    let x = c.in_ok-defect.ensures in
    let h = rw x.goes_on.text_stays at c.in_err-held-in-Wrong.ensures.reading.reads in
    rw (same_fault _ c.from_residual-in_err-held-in-Wrong.ensures.1) (pinned (cell_fault_next_one _ _ _) (on x.reading.reads (after_word _ _ _ Wrong _ _ c.in-Wrong.is (off h))))

pub returns-in_err-comparand-in-Wrong-clause-reading : goal.returns-in_err-comparand-in-Wrong-clause-reading
returns-in_err-comparand-in-Wrong-clause-reading c =
    let x = c.in_ok-defect.ensures in
    let y = c.in_ok-held-in-Wrong.ensures in
    let h = rw x.goes_on.text_stays at y.reading.reads in
    let b = rw (y.goes_on.text_stays, x.goes_on.text_stays) at c.in_err-comparand-in-Wrong.ensures.reading.reads in
    rw (same_fault _ c.from_residual-in_err-comparand-in-Wrong.ensures.1) (pinned (cell_fault_next_one _ _ _) (on x.reading.reads (after_word _ _ _ Wrong _ _ c.in-Wrong.is (on h (off b)))))

pub returns-in_ok-comparand-in-Wrong-clause-reading : goal.returns-in_ok-comparand-in-Wrong-clause-reading
returns-in_ok-comparand-in-Wrong-clause-reading c =
    let x = c.in_ok-defect.ensures in
    let y = c.in_ok-held-in-Wrong.ensures in
    let h = rw x.goes_on.text_stays at y.reading.reads in
    let b = rw (y.goes_on.text_stays, x.goes_on.text_stays) at c.in_ok-comparand-in-Wrong.ensures.reading.reads in
    pinned (cell_fault_next_one _ _ _) (on x.reading.reads (after_word _ _ _ Wrong _ _ c.in-Wrong.is (on h (on b refl))))
