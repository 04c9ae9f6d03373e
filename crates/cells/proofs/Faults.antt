-- The wrong set of a transistor cell, by going through all cases.
use Rattle.std.proofs.Common.{◌≡◌, Bool, true, false, not, ◌&&◌, sym, refl, ap, ◌∙◌, None, Some}
use mathlib.Core.Bool.{beq}
use Rattle.std.proofs.lemmas.Bool.{true≢false, and_parts, and_from, not-true, or_parts}
use Rattle.std.specs.Option.{is_none}
use Rattle.std.specs.Cmp.{booleans_Decides}
use Rattle.cam.specs.Defects.{in_set, some_wrong}
use Rattle.cells.specs.declared.transistor.TransistorFault.TheVariants.{Open, On}
use Rattle.cells.specs.declared.transistor.TransistorCell.{TransistorCell}
use Rattle.cells.specs.Transistors.{Transistor, mismatches, wrong_by, EmptyExactlyWhenGood}

same_true : (x : Bool) → beq x true ≡ x
same_true true = refl
same_true false = refl

other_false : (x : Bool) → x ≡ not (beq x false)
other_false true = refl
other_false false = refl

-- the wrong set, from the cell's answer to each pair
pub wrong_pairs_lem : (c : TransistorCell) (p q r s : Bool)
    → p ≡ not (mismatches c false false) → q ≡ not (mismatches c false true) → r ≡ not (mismatches c true true) → s ≡ not (mismatches c true false)
    → (h b : Bool) → in_set (record { has00 = not p; has01 = q; has11 = not r; has10 = s }) h b ≡ wrong_by c h b
wrong_pairs_lem c p q r s e f g i false false = ap not (e ∙ sym (same_true _))
wrong_pairs_lem c p q r s e f g i false true = f ∙ other_false _
wrong_pairs_lem c p q r s e f g i true true = ap not (g ∙ sym (same_true _))
wrong_pairs_lem c p q r s e f g i true false = i ∙ other_false _

-- a test of every transistor
abbrev each : (Transistor → Bool) → Bool
each f = f None && (f (Some Open) && f (Some On))

each_one : (f : Transistor → Bool) → each f ≡ true → (t : Transistor) → f t ≡ true
each_one f e None = (and_parts (f None) _ e).0
each_one f e (Some Open) = (and_parts (f (Some Open)) _ (and_parts (f None) _ e).1).0
each_one f e (Some On) = (and_parts (f (Some Open)) _ (and_parts (f None) _ e).1).1

abbrev cell : Transistor → Transistor → Transistor → Transistor → TransistorCell
cell p q r s =
    record { held = false; latch = None; leg_a = record { storage = p; search = q }; leg_b = record { storage = r; search = s } }

none_lem : (t : Transistor) → is_none t ≡ true → t ≡ None
none_lem None e = refl
none_lem (Some f) e = absurd (true≢false (sym e))

-- no pair is wrong exactly in the one of the 81 cells whose transistors are all good
abbrev told : Transistor → Transistor → Transistor → Transistor → Bool
told p q r s = beq (not (some_wrong (wrong_by (cell p q r s)))) (is_none p && (is_none q && (is_none r && is_none s)))

all_told : each (λ p. each (λ q. each (λ r. each (told p q r)))) ≡ true
all_told = refl

tells : (c : TransistorCell) → not (some_wrong (wrong_by c)) ≡ (is_none c.leg_a.storage && (is_none c.leg_a.search && (is_none c.leg_b.storage && is_none c.leg_b.search)))
tells c =
    (booleans_Decides _ _).0
    (each_one (told c.leg_a.storage c.leg_a.search c.leg_b.storage)
    (each_one (λ r. each (told c.leg_a.storage c.leg_a.search r))
    (each_one (λ q. each (λ r. each (told c.leg_a.storage q r)))
    (each_one (λ p. each (λ q. each (λ r. each (told p q r)))) all_told c.leg_a.storage) c.leg_a.search) c.leg_b.storage) c.leg_b.search)

none_wrong : (f : Bool → Bool → Bool) → ((h b : Bool) → f h b ≡ false) → some_wrong f ≡ false
none_wrong f e = simp e

each_right : (f : Bool → Bool → Bool) → some_wrong f ≡ false → (h b : Bool) → f h b ≡ false
each_right f e h b =
    let p = or_parts (f false false) _ e in
    let q = or_parts (f false true) _ p.1 in
    let r = or_parts (f true true) _ q.1 in
    go p.0 q.0 r.0 r.1 h b
  where
    go : f false false ≡ false → f false true ≡ false → f true true ≡ false → f true false ≡ false → (h b : Bool) → f h b ≡ false
    go p q r s false false = p
    go p q r s false true = q
    go p q r s true true = r
    go p q r s true false = s

pub empty_exactly_when_good : EmptyExactlyWhenGood
empty_exactly_when_good c = (
  λ e.
      let p = and_parts (is_none c.leg_a.storage) _ (sym (tells c) ∙ ap not (none_wrong (wrong_by c) e)) in
      let q = and_parts (is_none c.leg_a.search) _ p.1 in
      let r = and_parts (is_none c.leg_b.storage) _ q.1 in
      record {
        storage_a = none_lem _ p.0;
        search_a = none_lem _ q.0;
        storage_b = none_lem _ r.0;
        search_b = none_lem _ r.1;
      },
  λ g.
      each_right (wrong_by c)
      (not-true _
      (tells c
      ∙ and_from _ _ (ap is_none g.storage_a) (and_from _ _ (ap is_none g.search_a) (and_from _ _ (ap is_none g.storage_b) (ap is_none g.search_b))))),
)
