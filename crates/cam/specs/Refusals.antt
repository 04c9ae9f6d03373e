-- The numbers of the refusals, and the order in which a call asks.
use Rattle.std.specs.Prelude.{◌≡◌, ℕ, Bool, cond, List, [], ◌∷◌, Ok, Err, Result}
use Rattle.cam.specs.declared.fault.Reason.{Reason}
use Rattle.cam.specs.declared.fault.Reason.TheVariants.{TextTooLong, ByteNotAllowed, WordTooLong, NotWanted, RemarkTooDeep, TooManyElements, TooManyOperations, OnlyComparesInColumns, SizeOutsideLimits, OutsideArray, DefectRepeated, RunInHand, NoSuchWord, PatternTooWide, LimitPassed, TicketDoesNotFit, RunNotAtEnd, BufferTooShort, PieceDoesNotFit, NothingInside, NameNotAllowed, OutcomesDoNotFit, CampaignTooLarge}
use Rattle.cam.specs.declared.fault.Layer.{Layer}
use Rattle.cam.specs.declared.fault.Layer.TheVariants.{Call, Words, Forms, Meaning}
use Rattle.cam.specs.declared.fault.Fault.{Fault}

abbrev pub reason_number : Reason → ℕ
reason_number TextTooLong = 11
reason_number ByteNotAllowed = 12
reason_number WordTooLong = 13
reason_number NotWanted = 21
reason_number RemarkTooDeep = 22
reason_number TooManyElements = 31
reason_number TooManyOperations = 32
reason_number OnlyComparesInColumns = 33
reason_number SizeOutsideLimits = 41
reason_number OutsideArray = 42
reason_number DefectRepeated = 43
reason_number RunInHand = 51
reason_number NoSuchWord = 52
reason_number PatternTooWide = 53
reason_number LimitPassed = 54
reason_number TicketDoesNotFit = 55
reason_number RunNotAtEnd = 56
reason_number BufferTooShort = 57
reason_number PieceDoesNotFit = 61
reason_number NothingInside = 62
reason_number NameNotAllowed = 63
reason_number OutcomesDoNotFit = 71
reason_number CampaignTooLarge = 81

abbrev pub layer_number : Layer → ℕ
layer_number Call = 0
layer_number Words = 1
layer_number Forms = 2
layer_number Meaning = 3

-- the refusal with this number, of a call without a text
pub record Refused (n : ℕ) (f : Fault) : Type 0 where
  pub number : reason_number f.reason ≡ n
  pub layer : layer_number f.layer ≡ 0
  pub place : f.place ≡ 0

-- What a call asks before it does anything: whether the input is right, and the number of the refusal if it is not.
pub data Question : Type 0 where
  ask : Bool → ℕ → Question

-- the number of the first question that is answered no, and 0 where each is answered yes
abbrev pub first_no : List Question → ℕ
first_no [] = 0
first_no (ask right n ∷ qs) = cond right (first_no qs) n

-- A call that asks these questions in this order: granted where each is answered yes, else refused by the first
-- that is not. `fault` finds the refusal in what the call hands back.
abbrev pub AsksIn : {X E : Type 0} → (E → Fault) → List Question → Result X E → Type 0
AsksIn fault qs (Ok x) = first_no qs ≡ 0
AsksIn fault qs (Err e) = Refused (first_no qs) (fault e)

abbrev pub Asks : {X : Type 0} → List Question → Result X Fault → Type 0
Asks qs r = AsksIn (λ f. f) qs r
