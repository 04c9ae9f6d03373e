use Rattle.std.proofs.Common.{◌≡◌, ℕ, List, [], ◌∷◌, length, Ok, Err, codes, Result, sym, refl, ◌∙◌, subst, MatchResult}
use Rattle.cam.specs.Buffers.{over}
use Rattle.cam.specs.Refusals.{Asks, Refused, Question, ask, first_no}
use Rattle.cam.specs.declared.fault.Fault.{Fault}
use Rattle.march.specs.Table.{elements_of, name_of}
use Rattle.mlt1.specs.Mlt1.{mlt1}
use Rattle.sheet_writer.specs.Sheets.{sheet, sheet_text}
use Rattle.sheet_writer.specs.Writing.{fits}
use Rattle.test_sheets.specs.Mlt1Sheet.{mlt1_sheet}
use Rattle.test_sheets.specs.Questions.{test_questions}
use Rattle.test_sheets.proofs.Trips.{reads_back}
use Rattle.test_sheets.proofs.mlt1_sheet.write_mlt1.Goals as goal

-- the same first no is the same answer
same_no : {X : Type 0} (qs qs' : List Question) (r : Result X Fault) → first_no qs ≡ first_no qs' → Asks qs r → Asks qs' r
same_no qs qs' (Ok x) e a = sym e ∙ a
same_no qs qs' (Err f) e a = subst (λ (n : ℕ). Refused n f) e a

pub returns : goal.returns
returns c =
    let t = c.mlt1_test.result in
    let b = c.args.buffer.now in
    let r = c.write_test.result in
    let named : name_of t ≡ codes "mlt1" = c.mlt1_test.ensures.named_mlt1 in
    let elements : elements_of t ≡ mlt1 = c.mlt1_test.ensures.elements_of_mlt1 in
    let text : sheet_text t ≡ mlt1_sheet = λ j. sheet (named j) (elements j) in
    let no : first_no (test_questions (name_of t) (elements_of t) b) ≡ first_no (ask (fits 0 mlt1_sheet b) 61 ∷ []) =
    λ j. first_no (test_questions (named j) (elements j) b) in
    let new = c.write_test.new.buffer in
    record {
      asks_room = same_no (test_questions (name_of t) (elements_of t) b) (ask (fits 0 mlt1_sheet b) 61 ∷ []) r no c.write_test.ensures.asks_in_order;
      sheet_written = subst (λ xs. MatchResult r (λ n. (n ≡ length xs) × (new ≡ over b 0 xs)) (λ _. new ≡ b)) text c.write_test.ensures.sheet_written;
      reads_as_mlt1 = reads_back (codes "mlt1") mlt1 refl refl;
    }
