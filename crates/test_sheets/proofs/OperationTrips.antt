-- An operation as it is written reads back.
use Rattle.std.proofs.Common.{◌≡◌, ℕ, ◌+◌, ◌<◌, Bool, true, false, List, [], ◌∷◌, ◌++◌, length, get_or, drop, Ok, codes, Result, sym, refl, ap, ◌∙◌, append_assoc, arith}
use Rattle.std.proofs.lemmas.List.{drop-drop, drop_at}
use Rattle.cam.specs.declared.fault.Fault.{Fault}
use Rattle.march.specs.Letters.{is_letter_or_digit}
use Rattle.march.specs.declared.element.TestOperation.{TestOperation}
use Rattle.march.specs.declared.element.TestOperation.TheVariants.{Write, Read, Compare, Erase}
use Rattle.march.specs.declared.operations.Order.{Order}
use Rattle.march.specs.declared.operations.Order.TheVariants.{Columns}
use Rattle.march.specs.Building.{is_compare}
use Rattle.words.specs.declared.token.Kind.TheVariants.{Open}
use Rattle.words.specs.Lexing.{Lexed, token}
use Rattle.words.specs.Readings.{Gathered, gathered, on}
use Rattle.words.specs.Forms.{BitNext, EitherNext}
use Rattle.words.proofs.Places.{Stands, next, past, lex_space, lex_open, then_space, lex_word, spelt_there, close_there, first_there, second_there, zero_there, one_there}
use Rattle.sheet_operations.specs.declared.letter.Letter.{Letter}
use Rattle.sheet_operations.specs.declared.letter.Letter.TheVariants as letter
use Rattle.sheet_operations.specs.Letters.{spelling, LetterNext, known}
use Rattle.sheet_operations.specs.Questions.{room, allowed}
use Rattle.sheet_operations.specs.Operations.{Closing, OperationAt}
use Rattle.sheet_writer.specs.Sheets.{compare_piece, operation_piece}

-- what stands after a piece
pub after : (w rest : List ℕ) {text : List ℕ} {a : ℕ} → Stands text a (w ++ rest) → Stands text (a + length w) rest
after w rest {text} {a} s = record { is = sym (drop-drop (length w) a text) ∙ ap (drop (length w)) s.is ∙ drop_at w rest (length w) refl }

-- the same bytes in other brackets
pub regroup : (x y z : List ℕ) {text : List ℕ} {a : ℕ} → Stands text a ((x ++ y) ++ z) → Stands text a (x ++ (y ++ z))
regroup x y z s = record { is = s.is ∙ append_assoc x y z }

letter_there : (l : Letter) (b c : ℕ) → spelling l ≡ b ∷ [] → is_letter_or_digit b ≡ true → is_letter_or_digit c ≡ false
    → {text rest : List ℕ} {a : ℕ} → Stands text a (b ∷ c ∷ rest) → LetterNext text a (Ok (record { letter = l; from = a; to = a + 1 }))
letter_there l b c is yes-b no-c {text} {rest} {a} x =
    on (lex_word (b ∷ []) c rest x (rw yes-b) no-c (omega arith) (omega arith)) (known l (rw is (spelt_there (b ∷ []) c rest x)))

bit_0 : (c : ℕ) → is_letter_or_digit c ≡ false → {text rest : List ℕ} {a : ℕ} → Stands text a (32 ∷ 48 ∷ c ∷ rest) → BitNext text a (Ok (gathered false (a + 1 + 1)))
bit_0 c no-c {rest} x = then_space x (zero_there c rest no-c (next x))

bit_1 : (c : ℕ) → is_letter_or_digit c ≡ false → {text rest : List ℕ} {a : ℕ} → Stands text a (32 ∷ 49 ∷ c ∷ rest) → BitNext text a (Ok (gathered true (a + 1 + 1)))
bit_1 c no-c {rest} x = then_space x (one_there c rest no-c (next x))

none_there : {text rest : List ℕ} {a : ℕ} → Stands text a (32 ∷ (codes "none" ++ (41 ∷ rest))) → EitherNext (codes "none") (codes "hit") text a (Ok (gathered false (a + 1 + 4)))
none_there {rest} x = then_space x (first_there (codes "none") 41 rest (next x) (codes "hit") refl refl (omega arith) (omega arith))

words_differ : codes "none" ≡ codes "hit" → ⊥
words_differ e = let h : ◌≡◌ {A = ℕ} 110 104 = ap (λ w. get_or w 0 0) e in omega arith

hit_there : {text rest : List ℕ} {a : ℕ} → Stands text a (32 ∷ (codes "hit" ++ (41 ∷ rest))) → EitherNext (codes "none") (codes "hit") text a (Ok (gathered true (a + 1 + 3)))
hit_there {rest} x = then_space x (second_there (codes "hit") 41 rest (next x) (codes "none") words_differ refl refl (omega arith) (omega arith))

place : (o : TestOperation) (p q : ℕ) → p ≡ q → ◌≡◌ {A = Result (Gathered TestOperation) Fault} (Ok (gathered o p)) (Ok (gathered o q))
place o p q e = ap (λ (i : ℕ). Ok (gathered o i)) e

closing_there : (o : TestOperation) (p : ℕ) {text rest : List ℕ} {a : ℕ} → Stands text a (41 ∷ rest) → p ≡ a + 1 → Closing o text a (Ok (gathered o p))
closing_there o p x e = on (close_there x) (place o p _ e)

-- the bracket of an operation, after its space
pub bracket_there : (o : TestOperation) (rest : List ℕ) {text : List ℕ} {a : ℕ} → Stands text a (operation_piece o ++ rest) → Lexed text a (Ok (token Open (a + 1) (a + 1 + 1)))
bracket_there (Write false) rest x = lex_space x (lex_open (next x))
bracket_there (Write true) rest x = lex_space x (lex_open (next x))
bracket_there (Read false) rest x = lex_space x (lex_open (next x))
bracket_there (Read true) rest x = lex_space x (lex_open (next x))
bracket_there (Compare c) rest x = go c.bit c.hit x
  where
    go : (b h : Bool) {text : List ℕ} {a : ℕ} → Stands text a (compare_piece b h ++ rest) → Lexed text a (Ok (token Open (a + 1) (a + 1 + 1)))
    go false false x = lex_space x (lex_open (next x))
    go false true x = lex_space x (lex_open (next x))
    go true false x = lex_space x (lex_open (next x))
    go true true x = lex_space x (lex_open (next x))
bracket_there Erase rest x = lex_space x (lex_open (next x))

never : {A : Type 0} → false ≡ true → A
never e = absurd (let z : ◌≡◌ {A = ℕ} 0 1 = cc in omega arith)

-- the operation that it opens
pub operation_trip : (o : TestOperation) (order : Order) (count : ℕ) (rest : List ℕ) {text : List ℕ} {a : ℕ}
    → Stands text a (operation_piece o ++ rest) → count < 8 → (order ≡ Columns → is_compare o ≡ true)
    → OperationAt order count text (a + 1) (a + 1 + 1) (Ok (gathered o (a + length (operation_piece o))))
operation_trip (Write false) order count rest x few may =
    let h = next (next x) in
    on (room few) (on (letter_there letter.Write 119 32 refl refl refl h) (on (allowed (λ e. never (may e)))
    (on (bit_0 41 refl (next h)) (closing_there (Write false) _ (next (next (next h))) (omega arith)))))
operation_trip (Write true) order count rest x few may =
    let h = next (next x) in
    on (room few) (on (letter_there letter.Write 119 32 refl refl refl h) (on (allowed (λ e. never (may e)))
    (on (bit_1 41 refl (next h)) (closing_there (Write true) _ (next (next (next h))) (omega arith)))))
operation_trip (Read false) order count rest x few may =
    let h = next (next x) in
    on (room few) (on (letter_there letter.Read 114 32 refl refl refl h) (on (allowed (λ e. never (may e)))
    (on (bit_0 41 refl (next h)) (closing_there (Read false) _ (next (next (next h))) (omega arith)))))
operation_trip (Read true) order count rest x few may =
    let h = next (next x) in
    on (room few) (on (letter_there letter.Read 114 32 refl refl refl h) (on (allowed (λ e. never (may e)))
    (on (bit_1 41 refl (next h)) (closing_there (Read true) _ (next (next (next h))) (omega arith)))))
operation_trip (Compare c) order count rest x few may = go c.bit c.hit x
  where
    go : (b h : Bool) {text : List ℕ} {a : ℕ} → Stands text a (compare_piece b h ++ rest)
        → OperationAt order count text (a + 1) (a + 1 + 1) (Ok (gathered (Compare (record { bit = b; hit = h })) (a + length (compare_piece b h))))
    go false false x =
        let h = next (next x) in
        let o = next (next (next h)) in
        on (room few) (on (letter_there letter.Compare 99 32 refl refl refl h) (on (allowed (λ e. refl))
        (on (bit_0 32 refl (next h)) (on (none_there o) (closing_there _ _ (past (codes "none") 41 _ (next o)) (omega arith))))))
    go false true x =
        let h = next (next x) in
        let o = next (next (next h)) in
        on (room few) (on (letter_there letter.Compare 99 32 refl refl refl h) (on (allowed (λ e. refl))
        (on (bit_0 32 refl (next h)) (on (hit_there o) (closing_there _ _ (past (codes "hit") 41 _ (next o)) (omega arith))))))
    go true false x =
        let h = next (next x) in
        let o = next (next (next h)) in
        on (room few) (on (letter_there letter.Compare 99 32 refl refl refl h) (on (allowed (λ e. refl))
        (on (bit_1 32 refl (next h)) (on (none_there o) (closing_there _ _ (past (codes "none") 41 _ (next o)) (omega arith))))))
    go true true x =
        let h = next (next x) in
        let o = next (next (next h)) in
        on (room few) (on (letter_there letter.Compare 99 32 refl refl refl h) (on (allowed (λ e. refl))
        (on (bit_1 32 refl (next h)) (on (hit_there o) (closing_there _ _ (past (codes "hit") 41 _ (next o)) (omega arith))))))
operation_trip Erase order count rest x few may =
    let h = next (next x) in
    on (room few) (on (letter_there letter.Erase 101 41 refl refl refl h) (on (allowed (λ e. never (may e)))
    (closing_there Erase _ (next h) (omega arith))))
