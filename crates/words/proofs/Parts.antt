-- The readers of one token: each reads one thing only, and where it ends. Assumes nothing.
use Rattle.std.proofs.Common.{◌≡◌, ℕ, Bool, true, false, Decides, List, Option, Some, None, MatchOption, Err, Ok, sym, ap, ◌∙◌, refl}
use Rattle.std.specs.Option.{ok_or}
use Rattle.cam.specs.declared.fault.Fault.{Fault}
use Rattle.words.specs.declared.token.Kind.{Kind}
use Rattle.words.specs.Readings.{on, off, gathered, come_to}
use Rattle.words.specs.Lexing.{Token, Lexed, bytes_of}
use Rattle.words.specs.declared.token.Token.{Token as Read}
use Rattle.words.specs.Tokens.{token_to, SaysWord}
use Rattle.words.specs.Choosing.{WantsOneOf, known, unknown, OneOfNext}
use Rattle.words.specs.Forms.{not_wanted, Spells, Wants, wanted, unwanted, WantsWord, spelt, misspelt, WantsName, named, nameless, WantsEither, first, second, neither, Next, WordNext, NameNext, EitherNext}
use Rattle.words.proofs.Rules.{One, then_one}
use Rattle.words.proofs.Lexemes.{clash, lexed_one}

wants_one : (k : Kind) (t : Token) → One (Wants k t)
wants_one k t _ _ (wanted p) (wanted q) = refl
wants_one k t _ _ (wanted p) (unwanted q) = absurd (q p)
wants_one k t _ _ (unwanted p) (wanted q) = absurd (p q)
wants_one k t _ _ (unwanted p) (unwanted q) = refl

word_one : (w text : List ℕ) (t : Token) → One (WantsWord w text t)
word_one w text t _ _ (spelt p) (spelt q) = refl
word_one w text t _ _ (spelt p) (misspelt q) = absurd (q p)
word_one w text t _ _ (misspelt p) (spelt q) = absurd (p q)
word_one w text t _ _ (misspelt p) (misspelt q) = refl

name_one : (t : Token) → One (WantsName t)
name_one t _ _ (named p) (named q) = refl
name_one t _ _ (named p) (nameless q) = absurd (q p)
name_one t _ _ (nameless p) (named q) = absurd (p q)
name_one t _ _ (nameless p) (nameless q) = refl

either_one : (v w text : List ℕ) (t : Token) → One (WantsEither v w text t)
either_one v w text t _ _ (first p) (first q) = refl
either_one v w text t _ _ (first p) (second n q) = absurd (n p)
either_one v w text t _ _ (first p) (neither n m) = absurd (n p)
either_one v w text t _ _ (second n p) (first q) = absurd (n q)
either_one v w text t _ _ (second n p) (second m q) = refl
either_one v w text t _ _ (second n p) (neither m o) = absurd (o p)
either_one v w text t _ _ (neither n m) (first q) = absurd (n q)
either_one v w text t _ _ (neither n m) (second o q) = absurd (m q)
either_one v w text t _ _ (neither n m) (neither o p) = refl

pub next_one : (k : Kind) (text : List ℕ) (a : ℕ) → One (Next k text a)
next_one k text a = then_one (Lexed text a) (Wants k) (lexed_one text a) (wants_one k)

pub word_next_one : (w text : List ℕ) (a : ℕ) → One (WordNext w text a)
word_next_one w text a = then_one (Lexed text a) (WantsWord w text) (lexed_one text a) (word_one w text)

pub name_next_one : (text : List ℕ) (a : ℕ) → One (NameNext text a)
name_next_one text a = then_one (Lexed text a) WantsName (lexed_one text a) name_one

pub either_next_one : (v w text : List ℕ) (a : ℕ) → One (EitherNext v w text a)
either_next_one v w text a = then_one (Lexed text a) (WantsEither v w text) (lexed_one text a) (either_one v w text)

-- a token of the code says a word where the token of the text that it stands for does
pub says : {text w : List ℕ} {e : ℕ} {t : Read} {b : Bool} → Decides b (SaysWord t w) → t.bytes.now ≡ bytes_of text (token_to e t) → b ≡ true → Spells text (token_to e t) w
says d s e = let h = d.0 e in record { kind = h.kind; is = sym s ∙ h.is }

pub says_not : {text w : List ℕ} {e : ℕ} {t : Read} {b : Bool} → Decides b (SaysWord t w) → t.bytes.now ≡ bytes_of text (token_to e t) → b ≡ false → Spells text (token_to e t) w → ⊥
says_not d s e h = clash _ (d.1 (record { kind = h.kind; is = s ∙ h.is })) e

-- one of several words, of which no two are one word
one_of_one : {X : Type 0} (spelling : X → List ℕ) → ((x y : X) → spelling x ≡ spelling y → x ≡ y) → (text : List ℕ) (t : Token) → One (WantsOneOf spelling text t)
one_of_one spelling differ text t _ _ (known x p) (known y q) = ap (λ z. Ok (gathered z t.to)) (differ x y (sym p.is ∙ q.is))
one_of_one spelling differ text t _ _ (known x p) (unknown q) = absurd (q x p)
one_of_one spelling differ text t _ _ (unknown p) (known y q) = absurd (p y q)
one_of_one spelling differ text t _ _ (unknown p) (unknown q) = refl

pub one_of_next_one : {X : Type 0} (spelling : X → List ℕ) → ((x y : X) → spelling x ≡ spelling y → x ≡ y) → (text : List ℕ) (a : ℕ) → One (OneOfNext spelling text a)
one_of_next_one spelling differ text a = then_one (Lexed text a) (WantsOneOf spelling text) (lexed_one text a) (one_of_one spelling differ text)

-- a word and the value that it writes, or none
pub chosen : {X : Type 0} (spelling : X → List ℕ) (text : List ℕ) (a : ℕ) (u : Token) (w : List ℕ) (o : Option X) → w ≡ bytes_of text u → MatchOption o ((x : X) → w ≡ spelling x → ⊥) (λ x. w ≡ spelling x) → NameNext text a (Ok u) → OneOfNext spelling text a (come_to u.to (ok_or o (not_wanted u.from)))
chosen spelling text a u w (Some x) s m (on l (named k)) = on l (known x (record { kind = k; is = sym s ∙ m }))
chosen spelling text a u w None s m (on l (named k)) = on l (unknown (λ x h. m x (s ∙ h.is)))

-- where no word comes, no value does
pub no_word : {X : Type 0} (spelling : X → List ℕ) (text : List ℕ) (a : ℕ) (f : Fault) → NameNext text a (Err f) → OneOfNext spelling text a (Err f)
no_word spelling text a f (off l) = off l
no_word spelling text a _ (on l (nameless n)) = on l (unknown (λ x h. n h.kind))
