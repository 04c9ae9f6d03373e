-- A remark is read in one way. Assumes nothing.
use Rattle.std.proofs.Common.{◌≡◌, ℕ, ◌-◌, ◌<◌, List, Ok, Err, codes, Result, sym, refl, ap, ◌∙◌, subst, arith}
use Rattle.cam.specs.declared.fault.Fault.{Fault}
use Rattle.words.specs.declared.token.Kind.TheVariants.{Open, Close, Word}
use Rattle.words.specs.Lexing.{Token}
use Rattle.words.specs.Lexing.{Lexed}
use Rattle.words.specs.Readings.{Then, on, off}
use Rattle.words.specs.Forms.{not_wanted, WordNext}
use Rattle.words.specs.Remarks.{Remark, shut, word, nest, lexed, other, too_deep, no_note, inner, remark_too_deep}
use Rattle.words.proofs.Rules.{One, goes_on, stops_at, same_ok, same_err, ok_err}
use Rattle.words.proofs.Lexemes.{lexed_one}
use Rattle.words.proofs.Parts.{word_next_one}

-- what a remark is from its next token on, by the token's kind
abbrev Opened : List ℕ → ℕ → ℕ → Result ℕ Fault → Type 0
Opened text n i = Then (Remark text (n - 1) i) (Remark text n)

record Goes (text : List ℕ) (n : ℕ) (t : Token) (r : Result ℕ Fault) : Type 0 where
  at_close : t.kind ≡ Close → r ≡ Ok t.to
  at_word : t.kind ≡ Word → Remark text n t.to r
  at_deep : t.kind ≡ Open → n ≡ 0 → r ≡ Err (remark_too_deep t.from)
  at_open : t.kind ≡ Open → 0 < n → Then (WordNext (codes "note") text t.to) (Opened text n) r
  at_other : (t.kind ≡ Close → ⊥) → (t.kind ≡ Word → ⊥) → (t.kind ≡ Open → ⊥) → r ≡ Err (not_wanted t.from)

close_word : Close ≡ Word → ⊥
close_word e = let n : ◌≡◌ {A = ℕ} 0 1 = cc in omega arith

close_open : Close ≡ Open → ⊥
close_open e = let n : ◌≡◌ {A = ℕ} 0 1 = cc in omega arith

word_open : Word ≡ Open → ⊥
word_open e = let n : ◌≡◌ {A = ℕ} 0 1 = cc in omega arith

opened : {text : List ℕ} {n : ℕ} {t : Token} {r : Result ℕ Fault} → t.kind ≡ Open → (n ≡ 0 → r ≡ Err (remark_too_deep t.from)) → (0 < n → Then (WordNext (codes "note") text t.to) (Opened text n) r) → Goes text n t r
opened {text} {n} {t} k deep in-it = record {
  at_close = λ c. absurd (close_open (sym c ∙ k));
  at_word = λ w. absurd (word_open (sym w ∙ k));
  at_deep = λ _. deep;
  at_open = λ _. in-it;
  at_other = λ c w o. absurd (o k);
}

view : {text : List ℕ} {n a : ℕ} {r : Result ℕ Fault} → Remark text n a r → Then (Lexed text a) (Goes text n) r
view (shut x k) = on x (record { at_close = λ _. refl; at_word = λ w. absurd (close_word (sym k ∙ w)); at_deep = λ o. absurd (close_open (sym k ∙ o)); at_open = λ o. absurd (close_open (sym k ∙ o)); at_other = λ c w o. absurd (c k) })
view (word x k rest) = on x (record { at_close = λ c. absurd (close_word (sym c ∙ k)); at_word = λ _. rest; at_deep = λ o. absurd (word_open (sym k ∙ o)); at_open = λ o. absurd (word_open (sym k ∙ o)); at_other = λ c w o. absurd (w k) })
view (nest x k some w inside rest) = on x (opened k (λ z. absurd (omega arith)) (λ _. on w (on inside rest)))
view (lexed x) = off x
view (other x c w o) = on x (record { at_close = λ k. absurd (c k); at_word = λ k. absurd (w k); at_deep = λ k. absurd (o k); at_open = λ k. absurd (o k); at_other = λ _ _ _. refl })
view (too_deep x k z) = on x (opened k (λ _. refl) (λ some. absurd (omega arith)))
view (no_note x k some w) = on x (opened k (λ z. absurd (omega arith)) (λ _. off w))
view (inner x k some w i) = on x (opened k (λ z. absurd (omega arith)) (λ _. on w (off i)))

-- the reading at the token x of any reading y
at : {text : List ℕ} {n a : ℕ} {t : Token} {s : Result ℕ Fault} → Lexed text a (Ok t) → Remark text n a s → Goes text n t s
at x y = goes_on (lexed_one _ _) x (view y)

within : {text : List ℕ} {n a i : ℕ} {t : Token} {s : Result ℕ Fault} → Lexed text a (Ok t) → t.kind ≡ Open → 0 < n → WordNext (codes "note") text t.to (Ok i) → Remark text n a s → Then (Remark text (n - 1) i) (Remark text n) s
within x k some w y = goes_on (word_next_one _ _ _) w ((at x y).at_open k some)

-- both parts of an inner remark and its rest are read in one way
joined : {X Y : Type 0} {P : Result X Fault → Type 0} {Q : X → Result Y Fault → Type 0} {e : X} {r s : Result Y Fault} → ((t : Result X Fault) → P t → Ok e ≡ t) → ((t : Result Y Fault) → Q e t → r ≡ t) → Then P Q s → r ≡ s
joined {Q} {e} {s} one each (on {x} p q) = each s (subst (λ z. Q z s) (sym (same_ok e x (one (Ok x) p))) q)
joined {e} one each (off {f} p) = absurd (ok_err e f (one (Err f) p))

cut : {X Y : Type 0} {P : Result X Fault → Type 0} {Q : X → Result Y Fault → Type 0} {f : Fault} {s : Result Y Fault} → ((t : Result X Fault) → P t → Err f ≡ t) → Then P Q s → Err f ≡ s
cut {f} one (on {x} p q) = absurd (ok_err x f (sym (one (Ok x) p)))
cut {f} one (off {f = g} p) = ap (λ h. Err h) (same_err f g (one (Err g) p))

pub remark_one : (text : List ℕ) (n a : ℕ) → One (Remark text n a)
remark_one text n a _ s (shut x k) y = sym ((at x y).at_close k)
remark_one text n a r s (word {t} x k rest) y = remark_one text n t.to r s rest ((at x y).at_word k)
remark_one text n a r s (nest {i} {e} x k some w inside rest) y =
    joined (λ t p. remark_one text (n - 1) i (Ok e) t inside p) (λ t q. remark_one text n e r t rest q) (within x k some w y)
remark_one text n a _ s (lexed x) y = sym (stops_at (lexed_one _ _) x (view y))
remark_one text n a _ s (other x c w o) y = sym ((at x y).at_other c w o)
remark_one text n a _ s (too_deep x k z) y = sym ((at x y).at_deep k z)
remark_one text n a _ s (no_note x k some w) y = sym (stops_at (word_next_one _ _ _) w ((at x y).at_open k some))
remark_one text n a _ s (inner {i} {f} x k some w fault) y = cut (λ t p. remark_one text (n - 1) i (Err f) t fault p) (within x k some w y)
