-- An operation is read in one way, and ends ahead. Assumes nothing.
use Rattle.std.specs.Option.{ok_or}
use Rattle.std.proofs.Common.{◌≡◌, ℕ, List, Option, Some, None, MatchOption, Ok, Err, codes, Result, sym, refl, ap, ◌∙◌, subst, arith}
use Rattle.cam.specs.declared.fault.Fault.{Fault}
use Rattle.march.specs.declared.element.TestOperation.{TestOperation}
use Rattle.march.specs.declared.operations.Order.{Order}
use Rattle.words.specs.declared.token.Kind.TheVariants.{Close}
use Rattle.words.specs.declared.cursor.Cursor.{Cursor}
use Rattle.words.specs.Going.{GoesOn}
use Rattle.words.specs.Lexing.{Token, Lexed, bytes_of}
use Rattle.words.specs.Readings.{on, off, Gathered}
use Rattle.words.specs.Forms.{not_wanted, Next, BitNext, EitherNext, NameNext, named, nameless}
use Rattle.words.proofs.Rules.{One, then_one}
use Rattle.words.proofs.Lexemes.{lexed_one}
use Rattle.words.proofs.Parts.{next_one, either_next_one}
use Rattle.sheet_operations.specs.declared.letter.Letter.{Letter}
use Rattle.sheet_operations.specs.declared.letter.Letter.TheVariants.{Write, Read, Compare, Erase}
use Rattle.sheet_operations.specs.Letters.{spelling, letters_differ, head_to, WantsLetter, known, unknown, LetterNext}
use Rattle.sheet_operations.specs.Questions.{Room, room, full, Allowed, allowed, compares_only, OperationRoom}
use Rattle.sheet_operations.specs.Operations.{Closing, Rest, OperationAt}

letter_one : (text : List ℕ) (t : Token) → One (WantsLetter text t)
letter_one text t _ _ (known l p) (known m q) =
    ap (λ k. Ok (record { letter = k; from = t.from; to = t.to })) (letters_differ l m (sym p.is ∙ q.is))
letter_one text t _ _ (known l p) (unknown q) = absurd (q l p)
letter_one text t _ _ (unknown p) (known m q) = absurd (p m q)
letter_one text t _ _ (unknown p) (unknown q) = refl

pub letter_next_one : (text : List ℕ) (a : ℕ) → One (LetterNext text a)
letter_next_one text a = then_one (Lexed text a) (WantsLetter text) (lexed_one text a) (letter_one text)

pub room_one : (count most : ℕ) (f : Fault) → One (Room count most f)
room_one count most f _ _ (room p) (room q) = refl
room_one count most f _ _ (room p) (full q) = absurd (omega arith)
room_one count most f _ _ (full p) (room q) = absurd (omega arith)
room_one count most f _ _ (full p) (full q) = refl

pub allowed_one : (o : Order) (l : Letter) (p : ℕ) → One (Allowed o l p)
allowed_one o l p _ _ (allowed x) (allowed y) = refl
allowed_one o l p _ _ (allowed x) (compares_only e n) = absurd (n (x e))
allowed_one o l p _ _ (compares_only e n) (allowed x) = absurd (n (x e))
allowed_one o l p _ _ (compares_only e n) (compares_only e' n') = refl

-- a rule that names its one result
pub says_one : {X : Type 0} (y : Result X Fault) → One (λ r. r ≡ y)
says_one y r s p q = p ∙ sym q

pub closing_one : (o : TestOperation) (text : List ℕ) (a : ℕ) → One (Closing o text a)
closing_one o text a = then_one (Next Close text a) _ (next_one Close text a) (λ e. says_one _)

pub rest_one : (text : List ℕ) (l : Letter) (a : ℕ) → One (Rest text l a)
rest_one text Write a = then_one (BitNext text a) _ (either_next_one _ _ text a) (λ b. closing_one _ text b.to)
rest_one text Read a = then_one (BitNext text a) _ (either_next_one _ _ text a) (λ b. closing_one _ text b.to)
rest_one text Compare a =
    then_one (BitNext text a) _ (either_next_one _ _ text a) (λ b.
    then_one (EitherNext (codes "none") (codes "hit") text b.to) _ (either_next_one _ _ text b.to) (λ h.
    closing_one _ text h.to))
rest_one text Erase a = closing_one _ text a

pub operation_one : (o : Order) (count : ℕ) (text : List ℕ) (p a : ℕ) → One (OperationAt o count text p a)
operation_one o count text p a =
    then_one (OperationRoom count p) _ (room_one _ _ _) (λ _.
    then_one (LetterNext text a) _ (letter_next_one text a) (λ h.
    then_one (Allowed o h.letter h.from) _ (allowed_one o h.letter h.from) (λ _.
    rest_one text h.letter h.to)))

-- what is read after a letter that is known
pub after_letter : (text : List ℕ) (l m : Letter) (a : ℕ) (r : Result (Gathered TestOperation) Fault) → l ≡ m → Rest text m a r → Rest text l a r
after_letter text l m a r e x = subst (λ k. Rest text k a r) (sym e) x

abbrev pub paired : ℕ → Result Letter Fault → Result (Letter × ℕ) Fault
paired p (Ok l) = Ok (l, p)
paired p (Err f) = Err f

-- a word and the letter that it is, or none
pub chosen : {text w : List ℕ} {a : ℕ} {u : Token} (o : Option Letter) (r : Result Letter Fault) → w ≡ bytes_of text u → MatchOption o ((l : Letter) → w ≡ spelling l → ⊥) (λ l. w ≡ spelling l) → NameNext text a (Ok u) → r ≡ ok_or o (not_wanted u.from) → LetterNext text a (head_to u.to (paired u.from r))
chosen (Some l) r s m (on x (named k)) e = rw e (on x (known l (record { kind = k; is = sym s ∙ m })))
chosen None r s m (on x (named k)) e = rw e (on x (unknown (λ l h. m l (s ∙ h.is))))

pub no_word : {text : List ℕ} {a : ℕ} {f : Fault} → NameNext text a (Err f) → LetterNext text a (Err f)
no_word (off x) = off x
no_word (on x (nameless n)) = on x (unknown (λ l h. n h.kind))

-- what was read of an operation, whose closing bracket comes next: the cursor after the letter, and where it came to
pub record Unclosed (before after : Cursor) (l : Letter) (o : TestOperation) : Type 0 where
  pub goes_on : GoesOn before after
  pub closes : (r : Result (Gathered TestOperation) Fault) → Closing o before.text.now after.at r → Rest before.text.now l before.at r
