-- The sheet of every whole test reads as that test.
use Rattle.std.proofs.Common.{◌≡◌, ℕ, ◌+◌, ◌<◌, ◌≤◌, Bool, true, false, ◌&&◌, leb, List, [], ◌∷◌, ◌++◌, length, Ok, codes, sym, refl, ap, ◌∙◌, subst, append_assoc, append-nil, arith, length-append}
use Rattle.std.specs.List.{flat_map}
use Rattle.std.proofs.lemmas.List.{length_push}
use Rattle.std.proofs.lemmas.Bool.{and_parts, leb-true}
use Rattle.march.specs.Every.{every}
use Rattle.march.specs.Letters.{is_letter_or_digit, is_name}
use Rattle.march.specs.declared.element.TestOperation.{TestOperation}
use Rattle.march.specs.declared.element.TestOperation.TheVariants.{Write, Read, Compare, Erase}
use Rattle.march.specs.declared.operations.Order.{Order}
use Rattle.march.specs.declared.operations.Order.TheVariants.{Up, Down, Columns}
use Rattle.march.specs.Tests.{Element}
use Rattle.march.specs.Building.{opened, order_of, operations_of, allows, longer, is_filled}
use Rattle.words.specs.declared.token.Kind.TheVariants.{Open, Word, End}
use Rattle.words.specs.Lexing.{short, Lexed, token, bytes_of}
use Rattle.words.specs.Readings.{on}
use Rattle.words.specs.Forms.{Next}
use Rattle.words.specs.Listings.{gathered, shut, more}
use Rattle.words.proofs.Rules.{pinned}
use Rattle.words.proofs.Places.{Stands, next, past, lex_open, lex_close, then_space, lex_word, spelt_there, word_there, name_there, open_there, feed_there, end_there}
use Rattle.sheet_operations.specs.Questions.{room}
use Rattle.sheets.specs.declared.line.LineWord.TheVariants.{Element as AnElement}
use Rattle.sheets.specs.Elements.{Inside}
use Rattle.words.specs.Choosing.{known}
use Rattle.sheets.specs.Lines.{LineWordNext, LineAt, Lines}
use Rattle.sheets.specs.Sheets.{TitleLine}
use Rattle.sheets.proofs.Ones.{sheet_one}
use Rattle.sheet_writer.specs.Sheets.{heading, compare_piece, operation_piece, ending, element_line, sheet}
use Rattle.test_sheets.specs.RoundTrip.{ReadsBack}
use Rattle.test_sheets.proofs.Bytes.{line_length, lines_short, sheet_length}
use Rattle.test_sheets.proofs.Elements.{grown, grown_whole, allows_longer, length_longer, columns_compare, every_allowed}
use Rattle.test_sheets.proofs.OperationTrips.{after, regroup, bracket_there, operation_trip}

-- operations up to the element's closing bracket
inside_trip : (os : List TestOperation) (e : Element) (rest : List ℕ) (text : List ℕ) (a : ℕ)
    → Stands text a (flat_map operation_piece os ++ (41 ∷ rest))
    → every (allows e) os ≡ true → length (operations_of e) + length os ≤ 8 → 0 < length (operations_of e) + length os
    → Inside text e a (Ok (gathered (grown e os) (a + length (flat_map operation_piece os) + 1)))
inside_trip [] e rest text a s all few some =
    let p : a + 1 ≡ a + 0 + 1 = omega arith in
    subst (λ (k : ℕ). Inside text e a (Ok (gathered e k))) p (shut (lex_close s) refl (omega arith))
inside_trip (o ∷ os) e rest text a s all few some =
    let here = regroup (operation_piece o) (flat_map operation_piece os) (41 ∷ rest) s in
    let both = and_parts (allows e o) (every (allows e) os) all in
    let long : length (operations_of (longer e o)) ≡ length (operations_of e) + 1 = length_longer e o both.0 in
    let b : ℕ = a + length (operation_piece o) in
    let p : b + length (flat_map operation_piece os) + 1 ≡ a + length (flat_map operation_piece (o ∷ os)) + 1 =
    omega (arith, length-append (operation_piece o) (flat_map operation_piece os)) in
    subst (λ (k : ℕ). Inside text e a (Ok (gathered (grown (longer e o) os) k))) p
    (more (bracket_there o (flat_map operation_piece os ++ (41 ∷ rest)) here) refl
    (on (operation_trip o (order_of e) (length (operations_of e)) (flat_map operation_piece os ++ (41 ∷ rest)) here (omega arith) (columns_compare e o both.0)) refl)
    (inside_trip os (longer e o) rest text b (after (operation_piece o) (flat_map operation_piece os ++ (41 ∷ rest)) here)
    (allows_longer e o os both.1) (omega arith) (omega arith)))

-- the word of a line, after its bracket
word_trip : (o : Order) (c : ℕ) (rest : List ℕ) (text : List ℕ) (a : ℕ) → is_letter_or_digit c ≡ false
    → Stands text a (heading o ++ (c ∷ rest))
    → Lexed text a (Ok (token Open a (a + 1))) × LineWordNext text (a + 1) (Ok (gathered (AnElement o) (a + length (heading o))))
word_trip Up c rest text a off s =
    let p : a + 1 + 2 ≡ a + 3 = omega arith in (
      lex_open s,
      subst (λ (k : ℕ). LineWordNext text (a + 1) (Ok (gathered (AnElement Up) k))) p
          (on (lex_word (codes "up") c rest (next s) refl off (omega arith) (omega arith)) (known (AnElement Up) (spelt_there (codes "up") c rest (next s)))),
    )
word_trip Down c rest text a off s =
    let p : a + 1 + 4 ≡ a + 5 = omega arith in (
      lex_open s,
      subst (λ (k : ℕ). LineWordNext text (a + 1) (Ok (gathered (AnElement Down) k))) p
          (on (lex_word (codes "down") c rest (next s) refl off (omega arith) (omega arith)) (known (AnElement Down) (spelt_there (codes "down") c rest (next s)))),
    )
word_trip Columns c rest text a off s =
    let p : a + 1 + 7 ≡ a + 8 = omega arith in (
      lex_open s,
      subst (λ (k : ℕ). LineWordNext text (a + 1) (Ok (gathered (AnElement Columns) k))) p
          (on (lex_word (codes "columns") c rest (next s) refl off (omega arith) (omega arith)) (known (AnElement Columns) (spelt_there (codes "columns") c rest (next s)))),
    )

-- a filled element has a first operation, and a space stands before it
first_space : (os : List TestOperation) (rest : List ℕ) → 0 < length os → (xs : List ℕ) × (flat_map operation_piece os ++ rest ≡ 32 ∷ xs)
first_space [] rest h = absurd (omega arith)
first_space (Write false ∷ os) rest h = (_, refl)
first_space (Write true ∷ os) rest h = (_, refl)
first_space (Read false ∷ os) rest h = (_, refl)
first_space (Read true ∷ os) rest h = (_, refl)
first_space (Compare c ∷ os) rest h = go c.bit c.hit
  where
    go : (b h : Bool) → (xs : List ℕ) × ((compare_piece b h ++ flat_map operation_piece os) ++ rest ≡ 32 ∷ xs)
    go false false = (_, refl)
    go false true = (_, refl)
    go true false = (_, refl)
    go true true = (_, refl)
first_space (Erase ∷ os) rest h = (_, refl)

-- the line of an element, from its bracket on
line_trip : (e : Element) (es : List Element) (rest : List ℕ) (text : List ℕ) (a : ℕ)
    → Stands text a (element_line e ++ rest) → is_filled e ≡ true → length es < 16
    → Lexed text a (Ok (token Open a (a + 1))) × LineAt text es a (a + 1) (Ok (gathered (es ++ (e ∷ [])) (a + length (element_line e))))
line_trip e es rest text a s filled few =
    let h = heading (order_of e) in
    let os = operations_of e in
    let ps = flat_map operation_piece os in
    let n : ℕ = length os in
    let counts = and_parts (leb 1 n) (leb n 8) filled in
    let some : 0 < n = (let l = leb-true 1 n counts.0 in omega arith) in
    let most : n ≤ 8 = leb-true n 8 counts.1 in
    let tail : List ℕ = 41 ∷ 10 ∷ rest in
    let s1 : Stands text a (h ++ (ps ++ tail)) = record { is = s.is ∙ append_assoc h (ps ++ ending) rest ∙ ap (λ l. h ++ l) (append_assoc ps ending rest) } in
    let space = first_space os tail some in
    let s2 : Stands text a (h ++ (32 ∷ space.0)) = record { is = s1.is ∙ ap (λ l. h ++ l) space.1 } in
    let word = word_trip (order_of e) 32 space.0 text a refl s2 in
    let b : ℕ = a + length h in
    let s3 : Stands text b (ps ++ tail) = after h (ps ++ tail) s1 in
    let empty : length (operations_of (opened (order_of e))) ≡ 0 = none (order_of e) in
    let body = inside_trip os (opened (order_of e)) (10 ∷ rest) text b s3 (every_allowed e) (omega arith) (omega arith) in
    let s4 : Stands text (b + length ps + 1) (10 ∷ rest) = next (after ps tail s3) in
    let end : b + length ps + 1 + 1 ≡ a + length (element_line e) = omega (arith, line_length e) in (
      word.0,
      on word.1 (on (on (room few) (on body refl)) (on (feed_there s4) (sym (λ j. Ok (gathered (es ++ (grown_whole e j ∷ [])) (end j)))))),
    )
  where
    none : (o : Order) → length (operations_of (opened o)) ≡ 0
    none Up = refl
    none Down = refl
    none Columns = refl

-- lines up to the sheet's closing bracket
lines_trip : (es done : List Element) (rest : List ℕ) (text : List ℕ) (a : ℕ)
    → Stands text a (flat_map element_line es ++ (41 ∷ rest))
    → every is_filled es ≡ true → length done + length es ≤ 16 → 0 < length done + length es
    → Lines text done a (Ok (gathered (done ++ es) (a + length (flat_map element_line es) + 1)))
lines_trip [] done rest text a s all few some =
    let p : a + 1 ≡ a + 0 + 1 = omega arith in
    let q : done ≡ done ++ [] = sym (append-nil done) in
    let ended : Lines text done a (Ok (gathered done (a + 1))) = shut (lex_close s) refl (omega arith) in
    subst (λ r. Lines text done a r) (λ j. Ok (gathered (q j) (p j))) ended
lines_trip (e ∷ es) done rest text a s all few some =
    let lines = flat_map element_line es in
    let here = regroup (element_line e) lines (41 ∷ rest) s in
    let both = and_parts (is_filled e) (every is_filled es) all in
    let line = line_trip e done (lines ++ (41 ∷ rest)) text a here both.0 (omega arith) in
    let b : ℕ = a + length (element_line e) in
    let count = length_push done e in
    let others = lines_trip es (done ++ (e ∷ [])) rest text b (after (element_line e) (lines ++ (41 ∷ rest)) here) both.1 (omega arith) (omega arith) in
    let p : b + length lines + 1 ≡ a + length (flat_map element_line (e ∷ es)) + 1 = omega (arith, length-append (element_line e) lines) in
    let q : (done ++ (e ∷ [])) ++ es ≡ done ++ (e ∷ es) = append_assoc done (e ∷ []) es in
    let went : Lines text done a (Ok (gathered ((done ++ (e ∷ [])) ++ es) (b + length lines + 1))) = more line.0 refl line.1 others in
    subst (λ r. Lines text done a r) (λ j. Ok (gathered (q j) (p j))) went

-- the first line
title_trip : (name rest : List ℕ) (text : List ℕ)
    → Stands text 0 (codes "(test " ++ (name ++ (10 ∷ rest))) → is_name name ≡ true → length text ≤ 4096
    → TitleLine text (Ok (gathered (bytes_of text (token Word 6 (6 + length name))) (6 + length name + 1))) × (bytes_of text (token Word 6 (6 + length name)) ≡ name)
title_trip name rest text s named long =
    let n : ℕ = length name in
    let outer = and_parts (leb 1 n) (leb n 16 && every is_letter_or_digit name) named in
    let inner = and_parts (leb n 16) (every is_letter_or_digit name) outer.1 in
    let some : 0 < n = (let l = leb-true 1 n outer.0 in omega arith) in
    let few : n ≤ 16 = leb-true n 16 inner.0 in
    let s5 : Stands text 5 (32 ∷ (name ++ (10 ∷ rest))) = past (codes "test") 32 (name ++ (10 ∷ rest)) (next s) in
    let s6 = next s5 in (
      on (short long) (on (open_there s) (on (word_there (codes "test") 32 (name ++ (10 ∷ rest)) (next s) refl refl (omega arith) (omega arith))
          (on (then_space s5 (name_there name 10 rest s6 inner.1 refl some few)) (on (feed_there (past name 10 rest s6)) refl)))),
      (spelt_there name 10 rest s6).is,
    )

pub reads_back : ReadsBack
reads_back name es named whole =
    let text = sheet name es in
    let lines = flat_map element_line es in
    let n : ℕ = length name in
    let m : ℕ = length es in
    let letters = and_parts (leb n 16) (every is_letter_or_digit name) (and_parts (leb 1 n) (leb n 16 && every is_letter_or_digit name) named).1 in
    let outer = and_parts (leb 1 m) (leb m 16 && every is_filled es) whole in
    let inner = and_parts (leb m 16) (every is_filled es) outer.1 in
    let some : 0 < m = (let l = leb-true 1 m outer.0 in omega arith) in
    let few : m ≤ 16 = leb-true m 16 inner.0 in
    let brief : n ≤ 16 = leb-true n 16 letters.0 in
    let long : length text ≤ 4096 = omega (arith, sheet_length name es, lines_short es inner.1) in
    let s0 : Stands text 0 (codes "(test " ++ (name ++ (10 ∷ (lines ++ ending)))) =
    record { is = ap (λ l. codes "(test " ++ l) (append_assoc name (codes "\n") (lines ++ ending)) } in
    let title = title_trip name (lines ++ ending) text s0 named long in
    let s1 : Stands text (6 + n) (10 ∷ (lines ++ ending)) = after name (10 ∷ (lines ++ ending)) (after (codes "(test ") (name ++ (10 ∷ (lines ++ ending))) s0) in
    let b : ℕ = 6 + n + 1 in
    let s2 : Stands text b (lines ++ (41 ∷ 10 ∷ [])) = next s1 in
    let body = lines_trip es [] (10 ∷ []) text b s2 inner.1 (omega arith) (omega arith) in
    let s3 : Stands text (b + length lines + 1) (10 ∷ []) = next (after lines (41 ∷ 10 ∷ []) s2) in
    let end : b + length lines + 1 + 1 ≡ length text = omega (arith, sheet_length name es) in
    let last : Next End text (b + length lines + 1 + 1) (Ok (length text)) = subst (λ (k : ℕ). Next End text k (Ok (length text))) (sym end) (end_there text) in
    pinned (sheet_one text) (on title.0 (on body (on (feed_there s3) (on last (sym (λ j. Ok (record { name = title.1 j; elements = es })))))))
