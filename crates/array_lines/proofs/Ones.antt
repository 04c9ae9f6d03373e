-- Numbers and lines are read in one way; what a line says is inside the array. Assumes nothing.
use Rattle.std.proofs.Common.{◌≡◌, ℕ, ◌<◌, ◌≤◌, List, IfSome, IfOk, Ok, Option, Result, sym, refl, ◌∙◌, subst}
use Rattle.cam.specs.declared.fault.Fault.{Fault}
use Rattle.cam.specs.declared.fault.Reason.{Reason}
use Rattle.cam.specs.declared.fault.Reason.TheVariants.{OutsideArray}
use Rattle.cam.specs.declared.index.CellIndex.{CellIndex}
use Rattle.words.specs.declared.token.Kind.TheVariants.{Close, LineFeed}
use Rattle.words.specs.declared.cursor.Cursor.{Cursor}
use Rattle.words.specs.Going.{GoesOn}
use Rattle.words.specs.Lexing.{Token}
use Rattle.words.specs.Readings.{Gathered, gathered}
use Rattle.words.specs.Forms.{NameNext, BitNext, Next}
use Rattle.words.specs.Remarks.{Outermost}
use Rattle.words.proofs.Rules.{One, then_one, then_made}
use Rattle.words.proofs.Lexemes.{clash}
use Rattle.words.proofs.Nesting.{remark_one}
use Rattle.words.proofs.Parts.{next_one, name_next_one, either_next_one, one_of_next_one}
use Rattle.array_lines.specs.declared.number.Number.{Number}
use Rattle.array_lines.specs.declared.cell.Defect.{Defect}
use Rattle.array_lines.specs.declared.cell.CellWord.{CellWord}
use Rattle.array_lines.specs.declared.cell.CellWord.TheVariants.{Storage, Wrong}
use Rattle.array_lines.specs.declared.line.LineWord.{LineWord}
use Rattle.array_lines.specs.declared.line.LineWord.TheVariants.{Note, Cell, Mark}
use Rattle.array_lines.specs.Numbers.{WantsNumber, number, no_number, NumberNext, Bounded, within, outside, NumberWithin}
use Rattle.array_lines.specs.CellWords.{cell_spelling, cell_words_differ}
use Rattle.array_lines.specs.Cells.{Inside, cell, CellWordNext, CellFault, CellFaultNext, CellNext, MarkNext}
use Rattle.array_lines.specs.LineWords.{line_spelling, line_words_differ}
use Rattle.array_lines.specs.Lines.{LineWordNext, Closed, LineBody, BodyNext, LineNext}

pub cell_word_one : (text : List ℕ) (a : ℕ) → One (CellWordNext text a)
cell_word_one = one_of_next_one cell_spelling cell_words_differ

pub line_word_one : (text : List ℕ) (a : ℕ) → One (LineWordNext text a)
line_word_one = one_of_next_one line_spelling line_words_differ

wants_number_one : (text : List ℕ) (t : Token) → One (WantsNumber text t)
wants_number_one text t _ _ (number p) (number q) = refl
wants_number_one text t _ _ (number p) (no_number q) = clash _ p q
wants_number_one text t _ _ (no_number p) (number q) = clash _ q p
wants_number_one text t _ _ (no_number p) (no_number q) = refl

pub number_one : (text : List ℕ) (a : ℕ) → One (NumberNext text a)
number_one text a = then_one (NameNext text a) (WantsNumber text) (name_next_one text a) (wants_number_one text)

bounded_one : (least limit : ℕ) (reason : Reason) (n : Gathered Number) → One (Bounded least limit reason n)
bounded_one least limit reason n _ _ (within p q) (within x y) = refl
bounded_one least limit reason n _ _ (within p q) (outside x) = absurd (x p q)
bounded_one least limit reason n _ _ (outside p) (within x y) = absurd (p x y)
bounded_one least limit reason n _ _ (outside p) (outside x) = refl

pub within_one : (least limit : ℕ) (reason : Reason) (text : List ℕ) (a : ℕ) → One (NumberWithin least limit reason text a)
within_one least limit reason text a = then_one (NumberNext text a) (Bounded least limit reason) (number_one text a) (bounded_one least limit reason)

-- one value only
pub value_one : {X : Type 0} (v : Result X Fault) → One (λ r. r ≡ v)
value_one v r s p q = p ∙ sym q

cell_fault_one : (text : List ℕ) (c : CellIndex) (w : CellWord) (a : ℕ) → One (CellFault text c w a)
cell_fault_one text c (Storage s) a = value_one _
cell_fault_one text c Wrong a =
    then_one (BitNext text a) _ (either_next_one _ _ text a)
    (λ h. then_one (BitNext text h.to) _ (either_next_one _ _ text h.to) (λ b. value_one _))

pub cell_fault_next_one : (text : List ℕ) (c : CellIndex) (a : ℕ) → One (CellFaultNext text c a)
cell_fault_next_one text c a =
    then_one (CellWordNext text a) _ (cell_word_one text a) (λ h. cell_fault_one text c h.value h.to)

pub cell_one : (N W : ℕ) (text : List ℕ) (a : ℕ) → One (CellNext N W text a)
cell_one N W text a =
    then_one (NumberWithin 0 N OutsideArray text a) _ (within_one 0 N OutsideArray text a)
    (λ k. then_one (NumberWithin 0 W OutsideArray text k.to) _ (within_one 0 W OutsideArray text k.to)
    (λ j. cell_fault_next_one text (cell k.value.value j.value.value) j.to))

pub mark_one : (N : ℕ) (text : List ℕ) (a : ℕ) → One (MarkNext N text a)
mark_one N text a = then_one (NumberWithin 0 N OutsideArray text a) _ (within_one 0 N OutsideArray text a) (λ k. value_one _)

closed_one : (text : List ℕ) (d : Gathered Defect) → One (Closed text d)
closed_one text d = then_one (Next Close text d.to) _ (next_one Close text d.to) (λ e. value_one _)

line_body_one : (N W : ℕ) (text : List ℕ) (w : LineWord) (a : ℕ) → One (LineBody N W text w a)
line_body_one N W text Note a = then_one (Outermost text a) _ (remark_one text 7 a) (λ e. value_one _)
line_body_one N W text Cell a = then_one (CellNext N W text a) (Closed text) (cell_one N W text a) (closed_one text)
line_body_one N W text Mark a = then_one (MarkNext N text a) (Closed text) (mark_one N text a) (closed_one text)

pub body_one : (N W : ℕ) (text : List ℕ) (a : ℕ) → One (BodyNext N W text a)
body_one N W text a =
    then_one (LineWordNext text a) _ (line_word_one text a) (λ h. line_body_one N W text h.value h.to)

pub line_one : (N W : ℕ) (text : List ℕ) (a : ℕ) → One (LineNext N W text a)
line_one N W text a =
    then_one (BodyNext N W text a) _ (body_one N W text a)
    (λ l. then_one (Next LineFeed text l.to) _ (next_one LineFeed text l.to) (λ e. value_one _))

-- a number that was read within limits is within them
bounded_least : (least limit : ℕ) (reason : Reason) (n : Gathered Number) (s : Result (Gathered Number) Fault) → Bounded least limit reason n s → IfOk s (λ m. least ≤ m.value.value)
bounded_least least limit reason n _ (within p q) = p
bounded_least least limit reason n _ (outside p) = tt

pub within_least : (least limit : ℕ) (reason : Reason) (text : List ℕ) (a : ℕ) (r : Result (Gathered Number) Fault) → NumberWithin least limit reason text a r → IfOk r (λ m. least ≤ m.value.value)
within_least least limit reason text a r = then_made (λ m. least ≤ m.value.value) (λ n s p q. bounded_least least limit reason n s q)

bounded_below : (least limit : ℕ) (reason : Reason) (n : Gathered Number) (s : Result (Gathered Number) Fault) → Bounded least limit reason n s → IfOk s (λ m. m.value.value < limit)
bounded_below least limit reason n _ (within p q) = q
bounded_below least limit reason n _ (outside p) = tt

pub within_below : (least limit : ℕ) (reason : Reason) (text : List ℕ) (a : ℕ) (r : Result (Gathered Number) Fault) → NumberWithin least limit reason text a r → IfOk r (λ m. m.value.value < limit)
within_below least limit reason text a r = then_made (λ m. m.value.value < limit) (λ n s p q. bounded_below least limit reason n s q)

pub value_made : {X : Type 0} (Z : X → Type 0) (v r : Result X Fault) → IfOk v Z → r ≡ v → IfOk r Z
value_made Z v r m e = subst (λ s. IfOk s Z) (sym e) m

-- what a line describes lies inside the array
abbrev DefectInside : ℕ → ℕ → Gathered Defect → Type 0
DefectInside N W d = Inside N W d.value

cell_fault_inside : (N W : ℕ) (text : List ℕ) (c : CellIndex) (w : CellWord) (a : ℕ) (r : Result (Gathered Defect) Fault) → c.word.number < N → c.column.number < W → CellFault text c w a r → IfOk r (DefectInside N W)
cell_fault_inside N W text c (Storage s) a r p q x = value_made (DefectInside N W) _ r (p, q) x
cell_fault_inside N W text c Wrong a r p q x =
    then_made (DefectInside N W) (λ h s y. then_made (DefectInside N W) (λ b t z e. value_made (DefectInside N W) _ t (p, q) e)) x

cell_inside : (N W : ℕ) (text : List ℕ) (a : ℕ) (r : Result (Gathered Defect) Fault) → CellNext N W text a r → IfOk r (DefectInside N W)
cell_inside N W text a r =
    then_made (DefectInside N W) (λ k s x.
    then_made (DefectInside N W) (λ j t y.
    then_made (DefectInside N W) (λ h u z.
    cell_fault_inside N W text _ h.value h.to u (within_below 0 N OutsideArray text a (Ok k) x) (within_below 0 W OutsideArray text k.to (Ok j) y))))

mark_inside : (N W : ℕ) (text : List ℕ) (a : ℕ) (r : Result (Gathered Defect) Fault) → MarkNext N text a r → IfOk r (DefectInside N W)
mark_inside N W text a r =
    then_made (DefectInside N W) (λ k s x e. value_made (DefectInside N W) _ s (within_below 0 N OutsideArray text a (Ok k) x) e)

abbrev LineInside : ℕ → ℕ → Gathered (Option Defect) → Type 0
LineInside N W l = IfSome l.value (Inside N W)

closed_inside : (N W : ℕ) (text : List ℕ) (d : Gathered Defect) (r : Result (Gathered (Option Defect)) Fault) → Inside N W d.value → Closed text d r → IfOk r (LineInside N W)
closed_inside N W text d r i = then_made (LineInside N W) (λ e s x q. value_made (LineInside N W) _ s i q)

line_body_inside : (N W : ℕ) (text : List ℕ) (w : LineWord) (a : ℕ) (r : Result (Gathered (Option Defect)) Fault) → LineBody N W text w a r → IfOk r (LineInside N W)
line_body_inside N W text Note a r = then_made (LineInside N W) (λ e s x q. value_made (LineInside N W) _ s tt q)
line_body_inside N W text Cell a r = then_made (LineInside N W) (λ d s x. closed_inside N W text d s (cell_inside N W text a (Ok d) x))
line_body_inside N W text Mark a r = then_made (LineInside N W) (λ d s x. closed_inside N W text d s (mark_inside N W text a (Ok d) x))

pub line_inside : (N W : ℕ) (text : List ℕ) (a : ℕ) (r : Result (Gathered (Option Defect)) Fault) → LineNext N W text a r → IfOk r (λ l. IfSome l.value (Inside N W))
line_inside N W text a r =
    then_made (LineInside N W) (λ l t y.
    then_made (LineInside N W) (λ e u z q.
    value_made (LineInside N W) _ u (then_made (LineInside N W) (λ h s x. line_body_inside N W text h.value h.to s) y) q))

-- a line whose closing bracket comes next: its defect, the cursor after the line's word, and where it came to
pub record Unclosed (N W : ℕ) (before after : Cursor) (w : LineWord) (d : Defect) : Type 0 where
  pub goes_on : GoesOn before after
  pub closes : (r : Result (Gathered (Option Defect)) Fault) → Closed before.text.now (gathered d after.at) r → LineBody N W before.text.now w before.at r
