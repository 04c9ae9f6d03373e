-- A sheet is read in one way. Assumes nothing.
use Rattle.std.proofs.Common.{◌≡◌, ℕ, ◌<◌, true, List, [], ◌∷◌, length, IfOk, Ok, Err, codes, Result, sym, ap, subst}
use Rattle.std.proofs.lemmas.Bool.{cond-true}
use Rattle.cam.specs.declared.fault.Fault.{Fault}
use Rattle.march.specs.declared.operations.Order.{Order}
use Rattle.cam.specs.Refusals.{Asks, ask}
use Rattle.cam.proofs.Asking.{refused_not_0}
use Rattle.march.specs.declared.name.Name.{Name}
use Rattle.march.specs.Names.{letters_of}
use Rattle.march.specs.Letters.{is_name}
use Rattle.march.specs.Tests as tests
use Rattle.march.specs.Building.{opened, order_of, operations_of}
use Rattle.words.specs.declared.token.Kind.TheVariants.{Open, LineFeed, End}
use Rattle.words.specs.Lexing.{Token, Measured, bytes_of}
use Rattle.words.specs.declared.cursor.Cursor.{Cursor}
use Rattle.words.specs.Going.{GoesOn}
use Rattle.words.specs.Readings.{on, Gathered, gathered, leaving, result_map}
use Rattle.words.specs.Forms.{Next, WordNext, NameNext, named}
use Rattle.words.specs.Remarks.{Outermost}
use Rattle.words.proofs.Rules.{One, then_one}
use Rattle.words.proofs.Lexemes.{measured_one, lexed_named}
use Rattle.words.proofs.Parts.{next_one, word_next_one, name_next_one, one_of_next_one}
use Rattle.words.proofs.Nesting.{remark_one}
use Rattle.words.proofs.Lists.{listing_one, leaves}
use Rattle.sheet_operations.specs.Questions.{ElementRoom}
use Rattle.sheet_operations.specs.Operations.{OperationAt}
use Rattle.sheet_operations.proofs.Ones.{operation_one, room_one, says_one}
use Rattle.sheets.specs.declared.line.LineWord.{LineWord}
use Rattle.sheets.specs.declared.line.LineWord.TheVariants.{Note, Element}
use Rattle.sheets.specs.Elements.{Filled, Grows, Inside, ElementAt}
use Rattle.sheets.specs.Lines.{line_spelling, line_words_differ, LineWordNext, LineBody, LineAt, Lines}
use Rattle.sheets.specs.Sheets.{TitleNext, TitleLine, SheetText}

grows_one : (text : List ℕ) (e : tests.Element) (t : Token) → One (Grows text e t)
grows_one text e t =
    then_one (OperationAt (order_of e) (length (operations_of e)) text t.from t.to) _ (operation_one (order_of e) (length (operations_of e)) text t.from t.to) (λ p. says_one _)

pub inside_one : (text : List ℕ) (e : tests.Element) (a : ℕ) → One (Inside text e a)
inside_one text e a = listing_one Filled (Grows text) text (grows_one text) e a

pub element_one : (o : Order) (es : List tests.Element) (p : ℕ) (text : List ℕ) (a : ℕ) → One (ElementAt o es p text a)
element_one o es p text a =
    then_one (ElementRoom (length es) p) _ (room_one _ _ _) (λ _.
    then_one (Inside text (opened o) a) _ (inside_one text (opened o) a) (λ g. says_one _))

pub line_word_one : (text : List ℕ) (a : ℕ) → One (LineWordNext text a)
line_word_one text a = one_of_next_one line_spelling line_words_differ text a

pub line_body_one : (text : List ℕ) (es : List tests.Element) (p : ℕ) (w : LineWord) (a : ℕ) → One (LineBody text es p w a)
line_body_one text es p Note a = then_one (Outermost text a) _ (remark_one text 7 a) (λ e. says_one _)
line_body_one text es p (Element o) a = element_one o es p text a

pub line_one : (text : List ℕ) (es : List tests.Element) (p a : ℕ) → One (LineAt text es p a)
line_one text es p a =
    then_one (LineWordNext text a) _ (line_word_one text a) (λ h.
    then_one (LineBody text es p h.value h.to) _ (line_body_one text es p h.value h.to) (λ g.
    then_one (Next LineFeed text g.to) _ (next_one LineFeed text g.to) (λ e. says_one _)))

pub lines_one : (text : List ℕ) (es : List tests.Element) (a : ℕ) → One (Lines text es a)
lines_one text es a = listing_one (λ es. 0 < length es) (λ es t. LineAt text es t.from t.to) text (λ es t. line_one text es t.from t.to) es a

pub title_one : (text : List ℕ) (p : ℕ) → One (TitleNext text p)
title_one text p =
    then_one (Next Open text p) _ (next_one Open text p) (λ a.
    then_one (WordNext (codes "test") text a) _ (word_next_one _ text a) (λ b.
    then_one (NameNext text b) _ (name_next_one text b) (λ t.
    then_one (Next LineFeed text t.to) _ (next_one LineFeed text t.to) (λ c. says_one _))))

pub sheet_one : (text : List ℕ) → One (SheetText text)
sheet_one text =
    then_one (TitleLine text) _ (then_one (Measured text) _ (measured_one text) (λ _. title_one text 0)) (λ h.
    then_one (Lines text [] h.to) _ (lines_one text [] h.to) (λ g.
    then_one (Next LineFeed text g.to) _ (next_one LineFeed text g.to) (λ e.
    then_one (Next End text e) _ (next_one End text e) (λ _. says_one _))))

-- a line that begins with note
pub noted : (text : List ℕ) (es : List tests.Element) (p : ℕ) (w : LineWord) (a : ℕ) (r : Result ℕ Fault) → w ≡ Note → Outermost text a r → LineBody text es p w a (leaving es r)
noted text es p w a r e x = subst (λ v. LineBody text es p v a (leaving es r)) (sym e) (leaves es (Outermost text a) r x)

-- and one that begins with the word of an order
pub elemental : (text : List ℕ) (es : List tests.Element) (p : ℕ) (w : LineWord) (o : Order) (a : ℕ) (r : Result (Gathered (List tests.Element)) Fault) → w ≡ Element o → ElementAt o es p text a r → LineBody text es p w a r
elemental text es p w o a r e x = subst (λ v. LineBody text es p v a r) (sym e) x

-- a line whose line feed comes next: its elements, the cursor after the line's word, and where it came to
pub record Unended (before after : Cursor) (es : List tests.Element) (p : ℕ) (w : LineWord) (fs : List tests.Element) : Type 0 where
  pub goes_on : GoesOn before after
  pub body : LineBody before.text.now es p w before.at (Ok (gathered fs after.at))

-- a word can be the name of a test
pub name_allowed : {text : List ℕ} {a : ℕ} {t : Token} → NameNext text a (Ok t) → is_name (bytes_of text t) ≡ true
name_allowed (on l (named k)) = lexed_named l k

-- and makes one
pub named_so : {w : List ℕ} (r : Result Name Fault) → is_name w ≡ true → Asks (ask (is_name w) 63 ∷ []) r → IfOk r (λ n. letters_of n ≡ w) → result_map letters_of r ≡ Ok w
named_so (Ok n) allowed asks is = ap (λ w. Ok w) is
named_so (Err f) allowed asks is = absurd (refused_not_0 _ f asks (cond-true _ 0 63 allowed))
