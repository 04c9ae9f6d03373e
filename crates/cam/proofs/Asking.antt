-- The questions of a call: what grants it.
use Rattle.std.proofs.Common.{◌≡◌, ℕ, Bool, true, [], ◌∷◌, ◌∙◌, arith}
use Rattle.std.proofs.lemmas.Bool.{cond-true}
use Rattle.cam.specs.declared.fault.Fault.{Fault}
use Rattle.cam.specs.declared.fault.Reason.{Reason}
use Rattle.cam.specs.declared.fault.Reason.TheVariants.{TextTooLong, ByteNotAllowed, WordTooLong, NotWanted, RemarkTooDeep, TooManyElements, TooManyOperations, OnlyComparesInColumns, SizeOutsideLimits, OutsideArray, DefectRepeated, RunInHand, NoSuchWord, PatternTooWide, LimitPassed, TicketDoesNotFit, RunNotAtEnd, BufferTooShort, PieceDoesNotFit, NothingInside, NameNotAllowed, OutcomesDoNotFit, CampaignTooLarge}
use Rattle.cam.specs.Refusals.{ask, first_no, Refused, reason_number}

-- no refusal has the number 0
pub refused_not_0 : (n : ℕ) (f : Fault) → Refused n f → n ≡ 0 → ⊥
refused_not_0 n f r z = go f.reason (r.number ∙ z)
  where
    go : (s : Reason) → reason_number s ≡ 0 → ⊥
    go TextTooLong e = omega arith
    go ByteNotAllowed e = omega arith
    go WordTooLong e = omega arith
    go NotWanted e = omega arith
    go RemarkTooDeep e = omega arith
    go TooManyElements e = omega arith
    go TooManyOperations e = omega arith
    go OnlyComparesInColumns e = omega arith
    go SizeOutsideLimits e = omega arith
    go OutsideArray e = omega arith
    go DefectRepeated e = omega arith
    go RunInHand e = omega arith
    go NoSuchWord e = omega arith
    go PatternTooWide e = omega arith
    go LimitPassed e = omega arith
    go TicketDoesNotFit e = omega arith
    go RunNotAtEnd e = omega arith
    go BufferTooShort e = omega arith
    go PieceDoesNotFit e = omega arith
    go NothingInside e = omega arith
    go NameNotAllowed e = omega arith
    go OutcomesDoNotFit e = omega arith
    go CampaignTooLarge e = omega arith

pub both_yes : (p q : Bool) (m n : ℕ) → p ≡ true → q ≡ true → first_no (ask p m ∷ ask q n ∷ []) ≡ 0
both_yes p q m n e f = cond-true p _ m e ∙ cond-true q 0 n f
