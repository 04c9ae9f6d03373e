-- A sheet written piece by piece is the sheet of its elements.
use Rattle.std.proofs.Common.{◌≡◌, ℕ, ◌+◌, ◌<◌, ◌≤◌, Bool, true, false, cond, ltb, List, [], ◌∷◌, ◌++◌, length, take, drop, sym, refl, ap, ◌∙◌, subst, ap₂, append_assoc, append-nil, arith, length-append, length-drop}
use Rattle.std.specs.List.{flat_map}
use Rattle.std.proofs.lemmas.List.{length_push, map_push}
use Rattle.std.proofs.lemmas.Bool.{leb-true, ltb-true, le-leb, and_parts, and_from}
use Rattle.cam.specs.Buffers.{over}
use Rattle.cam.proofs.Buffers.{over_over}
use Rattle.march.specs.declared.element.TestOperation.{TestOperation}
use Rattle.march.specs.declared.element.TestOperation.TheVariants.{Write, Read, Compare, Erase}
use Rattle.march.specs.declared.operations.Order.{Order}
use Rattle.march.specs.declared.operations.Order.TheVariants.{Up, Down, Columns}
use Rattle.march.specs.Every.{every}
use Rattle.march.specs.Letters.{is_name}
use Rattle.march.specs.Tests.{Element, up, down, columns}
use Rattle.march.specs.Building.{opened, order_of, operations_of, allows, longer, is_filled, is_whole}
use Rattle.sheet_writer.specs.declared.states.BetweenElements.{BetweenElements}
use Rattle.sheet_writer.specs.declared.states.InsideElement.{InsideElement}
use Rattle.sheet_writer.specs.Sheets.{beginning, heading, operation_piece, ending, element_line, sheet}
use Rattle.sheet_writer.specs.Writing.{fits}
use Rattle.test_sheets.specs.Pieces.{Standing, between_elements, in_element, Written, begun, opens, writes, closes, PiecesReadBack}
use Rattle.std.proofs.lemmas.Grind.{flat_map-append}
use Rattle.test_sheets.proofs.Elements.{length_longer}
use Rattle.test_sheets.proofs.Trips.{reads_back}

-- each question of a granted call was answered yes
two_yes : (p q : Bool) (m n : ℕ) → 0 < m → 0 < n → cond p (cond q 0 n) m ≡ 0 → (p ≡ true) × (q ≡ true)
two_yes true true m n hm hn e = (refl, refl)
two_yes true false m n hm hn e = absurd (omega arith)
two_yes false q m n hm hn e = absurd (omega arith)

three_yes : (p q r : Bool) (k m n : ℕ) → 0 < k → 0 < m → 0 < n → cond p (cond q (cond r 0 n) m) k ≡ 0 → (p ≡ true) × (q ≡ true) × (r ≡ true)
three_yes true true true k m n hk hm hn e = (refl, refl, refl)
three_yes true true false k m n hk hm hn e = absurd (omega arith)
three_yes true false r k m n hk hm hn e = absurd (omega arith)
three_yes false q r k m n hk hm hn e = absurd (omega arith)

-- the text x stands at the front of what was the buffer old, and ends at a place
record Front (old : List ℕ) (x : List ℕ) (at : ℕ) (new : List ℕ) : Type 0 where
  place : at ≡ length x
  text : new ≡ over old 0 x
  room : length x ≤ length old

length_front : (old x : List ℕ) → length x ≤ length old → length (over old 0 x) ≡ length old
length_front old x l =
    let z : 0 + length x ≡ length x = omega arith in
    omega (arith, length-append (take 0 old) (x ++ drop (0 + length x) old), length-append x (drop (0 + length x) old), length-drop (0 + length x) old)

-- one more piece that fits
more : (old x p : List ℕ) (at : ℕ) (new : List ℕ) → Front old x at new → fits at p new ≡ true → Front old (x ++ p) (at + length p) (over new at p)
more old x p at new f fit =
    let inside : at + length p ≤ length new = leb-true (at + length p) (length new) fit in
    let long : length new ≡ length old = ap length f.text ∙ length_front old x f.room in
    let place = f.place in
    let all = length-append x p in
    record {
      place = omega arith;
      text = (λ i. over (f.text i) (zero_at f.place i) p) ∙ over_over old x p 0 (omega arith);
      room = omega arith;
    }
  where
    zero_at : {n m : ℕ} → n ≡ m → n ≡ 0 + m
    zero_at e = omega arith

-- the same text, grouped in another way
regrouped : (old x y : List ℕ) (at : ℕ) (new : List ℕ) → x ≡ y → Front old x at new → Front old y at new
regrouped old x y at new e f = subst (λ z. Front old z at new) e f

order_opened : (o : Order) → order_of (opened o) ≡ o
order_opened Up = refl
order_opened Down = refl
order_opened Columns = refl

none_opened : (o : Order) → operations_of (opened o) ≡ []
none_opened Up = refl
none_opened Down = refl
none_opened Columns = refl

order_longer : (e : Element) (o : TestOperation) → order_of (longer e o) ≡ order_of e
order_longer (up os) o = refl
order_longer (down os) o = refl
order_longer (columns cs) (Write b) = refl
order_longer (columns cs) (Read b) = refl
order_longer (columns cs) (Compare c) = refl
order_longer (columns cs) Erase = refl

same_allows : (e : Element) (o : TestOperation) → allows (opened (order_of e)) o ≡ allows e o
same_allows (up os) o = refl
same_allows (down os) o = refl
same_allows (columns cs) o = refl

never : {A : Type 0} → false ≡ true → A
never e = absurd (let z : ◌≡◌ {A = ℕ} 0 1 = cc in omega arith)

operations_longer : (e : Element) (o : TestOperation) → allows e o ≡ true → operations_of (longer e o) ≡ operations_of e ++ (o ∷ [])
operations_longer (up os) o h = refl
operations_longer (down os) o h = refl
operations_longer (columns cs) (Write b) h = never h
operations_longer (columns cs) (Read b) h = never h
operations_longer (columns cs) (Compare c) h = map_push Compare cs c
operations_longer (columns cs) Erase h = never h

every_push : {X : Type 0} (f : X → Bool) (xs : List X) (x : X) → every f xs ≡ true → f x ≡ true → every f (xs ++ (x ∷ [])) ≡ true
every_push f [] x e h = and_from (f x) true h refl
every_push f (y ∷ ys) x e h = let p = and_parts (f y) (every f ys) e in and_from (f y) _ p.0 (every_push f ys x p.1 h)

-- the lines so far, and an element that is open
abbrev lines : List ℕ → List Element → List ℕ
lines name es = beginning name ++ flat_map element_line es

abbrev open_line : Element → List ℕ
open_line e = heading (order_of e) ++ flat_map operation_piece (operations_of e)

record Between (name old : List ℕ) (es : List Element) (s : BetweenElements) (b : List ℕ) : Type 0 where
  front : Front old (lines name es) s.at b
  named : is_name name ≡ true
  count : s.elements ≡ length es
  few : length es ≤ 16
  filled : every is_filled es ≡ true

record Inside (name old : List ℕ) (es : List Element) (e : Element) (s : InsideElement) (b : List ℕ) : Type 0 where
  front : Front old (lines name es ++ open_line e) s.at b
  named : is_name name ≡ true
  count : s.elements ≡ length es + 1
  few : length es + 1 ≤ 16
  filled : every is_filled es ≡ true
  order : s.order ≡ order_of e
  operations : s.operations ≡ length (operations_of e)
  few_operations : length (operations_of e) ≤ 8

abbrev Stood : List ℕ → List ℕ → List Element → Standing → List ℕ → Type 0
Stood name old es (between_elements s) b = Between name old es s b
Stood name old es (in_element e s) b = Inside name old es e s b

joined_push : (es : List Element) (e : Element) → flat_map element_line (es ++ (e ∷ [])) ≡ flat_map element_line es ++ element_line e
joined_push es e = flat_map-append element_line es (e ∷ []) ∙ ap (λ l. flat_map element_line es ++ l) (append-nil (element_line e))

closed_lines : (name : List ℕ) (es : List Element) (e : Element) → (lines name es ++ open_line e) ++ ending ≡ lines name (es ++ (e ∷ []))
closed_lines name es e =
    append_assoc (lines name es) (open_line e) ending
    ∙ append_assoc (beginning name) (flat_map element_line es) (open_line e ++ ending)
    ∙ ap (λ l. beginning name ++ (flat_map element_line es ++ l)) (append_assoc (heading (order_of e)) (flat_map operation_piece (operations_of e)) ending)
    ∙ ap (λ l. beginning name ++ l) (sym (joined_push es e))

longer_line : (name : List ℕ) (es : List Element) (e : Element) (o : TestOperation) → allows e o ≡ true
    → (lines name es ++ open_line e) ++ operation_piece o ≡ lines name es ++ open_line (longer e o)
longer_line name es e o h =
    append_assoc (lines name es) (open_line e) (operation_piece o)
    ∙ ap (λ l. lines name es ++ l)
    (append_assoc (heading (order_of e)) (flat_map operation_piece (operations_of e)) (operation_piece o)
    ∙ ap₂ (λ x y. heading x ++ y) (sym (order_longer e o))
    (sym (ap (flat_map operation_piece) (operations_longer e o h) ∙ flat_map-append operation_piece (operations_of e) (o ∷ [])
    ∙ ap (λ l. flat_map operation_piece (operations_of e) ++ l) (append-nil (operation_piece o)))))

opened_line : (name : List ℕ) (es : List Element) (o : Order) → lines name es ++ heading o ≡ lines name es ++ open_line (opened o)
opened_line name es o =
    ap (λ l. lines name es ++ l)
    (sym (ap₂ (λ x y. heading x ++ flat_map operation_piece y) (order_opened o) (none_opened o) ∙ append-nil (heading o)))

stood : {name old b : List ℕ} {es : List Element} {s : Standing} → Written name old es s b → Stood name old es s b
stood {name} {old} (begun q) =
    let yes_both = two_yes (is_name name) (fits 0 (beginning name) old) 63 61 (omega arith) (omega arith) q in
    let room : 0 + length (beginning name) ≤ length old = leb-true (0 + length (beginning name)) (length old) yes_both.1 in
    record {
      front = regrouped old (beginning name) (lines name []) _ _ (sym (append-nil (beginning name))) (record { place = refl; text = refl; room = omega arith });
      named = yes_both.0;
      count = refl;
      few = omega arith;
      filled = refl;
    }
stood {name} {old} (opens {es} {s} {b} o w q) =
    let st = stood w in
    let yes_both = two_yes (ltb s.elements 16) (fits s.at (heading o) b) 31 61 (omega arith) (omega arith) q in
    let below = ltb-true s.elements 16 yes_both.0 in
    let none : length (operations_of (opened o)) ≡ 0 = ap length (none_opened o) in
    let count = st.count in
    record {
      front = regrouped old _ _ _ _ (opened_line name es o) (more old (lines name es) (heading o) s.at b st.front yes_both.1);
      named = st.named;
      count = omega arith;
      few = omega arith;
      filled = st.filled;
      order = sym (order_opened o);
      operations = sym none;
      few_operations = omega arith;
    }
stood {name} {old} (writes {es} {e} {s} {b} o w q) =
    let st = stood w in
    let all = three_yes (ltb s.operations 8) (allows (opened s.order) o) (fits s.at (operation_piece o) b) 32 33 61 (omega arith) (omega arith) (omega arith) q in
    let below = ltb-true s.operations 8 all.0 in
    let may : allows e o ≡ true = sym (ap (λ x. allows (opened x) o) st.order ∙ same_allows e o) ∙ all.1 in
    let longer-by = length_longer e o may in
    let operations = st.operations in
    record {
      front = regrouped old _ _ _ _ (longer_line name es e o may) (more old (lines name es ++ open_line e) (operation_piece o) s.at b st.front all.2);
      named = st.named;
      count = st.count;
      few = st.few;
      filled = st.filled;
      order = st.order ∙ sym (order_longer e o);
      operations = omega arith;
      few_operations = omega arith;
    }
stood {name} {old} (closes {es} {e} {s} {b} w q) =
    let st = stood w in
    let yes_both = two_yes (fits s.at ending b) (ltb 0 s.operations) 61 62 (omega arith) (omega arith) q in
    let some = ltb-true 0 s.operations yes_both.1 in
    let operations = st.operations in
    let one_more : length (es ++ (e ∷ [])) ≡ length es + 1 = length_push es e in
    let full : is_filled e ≡ true = and_from _ _ (le-leb 1 (length (operations_of e)) (omega arith)) (le-leb (length (operations_of e)) 8 st.few_operations) in
    record {
      front = regrouped old _ _ _ _ (closed_lines name es e) (more old (lines name es ++ open_line e) ending s.at b st.front yes_both.0);
      named = st.named;
      count = st.count ∙ sym one_more;
      few = omega (arith, st.few);
      filled = every_push is_filled es e st.filled full;
    }

pub pieces_read_back : PiecesReadBack
pieces_read_back name old b es s w q =
    let st = stood w in
    let yes_both = two_yes (fits s.at ending b) (ltb 0 s.elements) 61 62 (omega arith) (omega arith) q in
    let some = ltb-true 0 s.elements yes_both.1 in
    let count = st.count in
    let whole : is_whole es ≡ true = and_from _ _ (le-leb 1 (length es) (omega arith)) (and_from _ _ (le-leb (length es) 16 st.few) st.filled) in
    let f = regrouped old _ (sheet name es) _ _ (append_assoc (beginning name) (flat_map element_line es) ending) (more old (lines name es) ending s.at b st.front yes_both.0) in
    record { text = f.text; size = f.place; reads = reads_back name es st.named whole }
