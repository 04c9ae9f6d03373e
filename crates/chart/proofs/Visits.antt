-- A word's visit: the answers that it gives, and the operations that it does.
use Rattle.std.proofs.Common.{◌≡◌, ℕ, ◌<◌, Bool, true, false, List, [], ◌∷◌, sym, ap, ◌∙◌, subst, ap₂, append_assoc}
use Rattle.cam.specs.declared.operation.Operation.{Operation}
use Rattle.cam.specs.declared.operation.Operation.TheVariants.{Read, Compare, Erase}
use Rattle.cam.specs.Model.{Build, State, written, erased, counted, read_word, hit, bit}
use Rattle.cam.specs.Patterns.{equal_bits, all_but}
use Rattle.cam.proofs.Operating.{Did, did_then}
use Rattle.march.specs.Tests.{word}
use Rattle.chart.specs.Chart.{on_each_column, Hits, writing, word_operations, lowered, raised, Answered}

-- the same bits and marks, whatever the tallies
pub record Alike (S T : State) : Type 0 where
  pub bits : S.held ≡ T.held
  pub marks : S.mark ≡ T.mark

alike_same : (S T : State) → S ≡ T → Alike S T
alike_same S T e = record { bits = ap (λ S. S.held) e; marks = ap (λ S. S.mark) e }

alike_then : (S T U : State) → Alike S T → Alike T U → Alike S U
alike_then S T U p q = record { bits = p.bits ∙ q.bits; marks = p.marks ∙ q.marks }

alike_written : (B : Build) (a p m : ℕ) (S T : State) → Alike S T → Alike (written B a p m S) (written B a p m T)
alike_written B a p m S T e =
    record {
      bits = ap (λ h. (written B a p m (record { held = h; mark = S.mark; tally = 0 })).held) e.bits;
      marks = ap (λ k. (written B a p m (record { held = S.held; mark = k; tally = 0 })).mark) e.marks;
    }

alike_hit : (B : Build) (p m : ℕ) (S T : State) → Alike S T → hit B p m S ≡ hit B p m T
alike_hit B p m S T e = ap₂ (λ h k. hit B p m (record { held = h; mark = k; tally = 0 })) e.bits e.marks

alike_read : (B : Build) (a : ℕ) (S T : State) → Alike S T → read_word B a S ≡ read_word B a T
alike_read B a S T e = ap (λ h. read_word B a (record { held = h; mark = S.mark; tally = 0 })) e.bits

hits_alike : (B : Build) (b : Bool) (S : State) (r : ℕ) (E : Build) (T : State) → Hits B b S r E T → Alike T S
hits_alike B b S r E T h = record { bits = h.bits; marks = h.marks }

hits_did : (B : Build) (b : Bool) (S : State) (r : ℕ) (E : Build) (T : State) → Hits B b S r E T → Did B (on_each_column B.width b) S E T
hits_did B b S r E T h = record { stays = h.stays; ends = h.ends }

hits_at : (B E F : Build) (b : Bool) (S L T : State) (r : ℕ) → E ≡ B → Alike S L → Hits E b S r F T
    → (j : ℕ) → j < B.width → bit r j ≡ hit B (equal_bits B.width b) (all_but B.width j) L
hits_at B E F b S L T r e alike h j l =
    let le : j < E.width = subst (λ (B : Build). j < B.width) (sym e) l in
    h.each j le ∙ ap (λ (B : Build). hit B (equal_bits B.width b) (all_but B.width j) S) e
    ∙ alike_hit B (equal_bits B.width b) (all_but B.width j) S L alike

module _ (B0 B1 B2 B3 B4 B5 B6 B7 B8 B9 B10 B11 : Build) (S0 S1 S2 S3 S4 S5 S6 S7 S8 S9 S10 S11 : State) (a p q z0 z1 o1 o0 : ℕ)
    (p-is : p ≡ equal_bits B0.width true) (q-is : q ≡ equal_bits B0.width true)
    (h1 : S1 ≡ written B0 a p 0 S0) (e1 : B1 ≡ B0)
    (h2 : S2 ≡ written B1 a 0 0 S1) (e2 : B2 ≡ B1)
    (h3 : S3 ≡ counted S2) (e3 : B3 ≡ B2)
    (h4 : S4 ≡ counted S3) (e4 : B4 ≡ B3)
    (h5 : Hits B4 false S4 z0 B5 S5)
    (h6 : Hits B5 true S5 z1 B6 S6)
    (h7 : S7 ≡ written B6 a q 0 S6) (e7 : B7 ≡ B6)
    (h8 : S8 ≡ counted S7) (e8 : B8 ≡ B7)
    (h9 : Hits B8 true S8 o1 B9 S9)
    (h10 : Hits B9 false S9 o0 B10 S10)
    (h11 : S11 ≡ erased B10 a S10) (e11 : B11 ≡ B10) where
  b2 : B2 ≡ B0
  b2 = e2 ∙ e1

  b4 : B4 ≡ B0
  b4 = e4 ∙ e3 ∙ b2

  b6 : B6 ≡ B0
  b6 = h6.stays ∙ h5.stays ∙ b4

  b8 : B8 ≡ B0
  b8 = e8 ∙ e7 ∙ b6

  b10 : B10 ≡ B0
  b10 = h10.stays ∙ h9.stays ∙ b8

  L : State
  L = lowered B0 a S0

  R : State
  R = raised B0 a S0

  s2 : S2 ≡ L
  unfolding L
  s2 = h2 ∙ ap (λ B. written B a 0 0 S1) e1 ∙ ap (written B0 a 0 0) (h1 ∙ ap (λ (p : ℕ). written B0 a p 0 S0) p-is)

  a4 : Alike S4 L
  a4 = alike_then S4 S2 L (alike_then S4 S3 S2 (record { bits = ap (λ S. S.held) h4; marks = ap (λ S. S.mark) h4 }) (record { bits = ap (λ S. S.held) h3; marks = ap (λ S. S.mark) h3 })) (alike_same S2 L s2)

  a5 : Alike S5 L
  a5 = alike_then S5 S4 L (hits_alike B4 false S4 z0 B5 S5 h5) a4

  a6 : Alike S6 L
  a6 = alike_then S6 S5 L (hits_alike B5 true S5 z1 B6 S6 h6) a5

  a7 : Alike S7 R
  unfolding L R
  a7 = alike_then S7 (written B0 a (equal_bits B0.width true) 0 S6) R
      (alike_same S7 _ (h7 ∙ ap₂ (λ (B : Build) (p : ℕ). written B a p 0 S6) b6 q-is))
      (alike_written B0 a (equal_bits B0.width true) 0 S6 L a6)

  a8 : Alike S8 R
  a8 = alike_then S8 S7 R (record { bits = ap (λ S. S.held) h8; marks = ap (λ S. S.mark) h8 }) a7

  a9 : Alike S9 R
  a9 = alike_then S9 S8 R (hits_alike B8 true S8 o1 B9 S9 h9) a8

  visit_did : Did B0 (word_operations B0.width a) S0 B11 S11
  unfolding L
  visit_did =
      let first : List Operation = writing B0.width a true ∷ writing B0.width a false ∷ Read (word a) ∷ Compare 0 (equal_bits B0.width true) ∷ [] in
      let d4 : Did B0 first S0 B4 S4 = record { stays = b4; ends = h4 ∙ ap counted (h3 ∙ ap counted s2) } in
      let d5 = did_then B0 B4 B5 first (λ B. on_each_column B.width false) S0 S4 S5 d4 (hits_did B4 false S4 z0 B5 S5 h5) in
      let d6 = did_then B0 B5 B6 _ (λ B. on_each_column B.width true) S0 S5 S6 d5 (hits_did B5 true S5 z1 B6 S6 h6) in
      let d68 : Did B6 (writing B6.width a true ∷ Read (word a) ∷ []) S6 B8 S8 =
      record { stays = e8 ∙ e7; ends = h8 ∙ ap counted (h7 ∙ ap (λ (p : ℕ). written B6 a p 0 S6) (q-is ∙ ap (λ (B : Build). equal_bits B.width true) (sym b6))) } in
      let d8 = did_then B0 B6 B8 _ (λ B. writing B.width a true ∷ Read (word a) ∷ []) S0 S6 S8 d6 d68 in
      let d9 = did_then B0 B8 B9 _ (λ B. on_each_column B.width true) S0 S8 S9 d8 (hits_did B8 true S8 o1 B9 S9 h9) in
      let d10 = did_then B0 B9 B10 _ (λ B. on_each_column B.width false) S0 S9 S10 d9 (hits_did B9 false S9 o0 B10 S10 h10) in
      let d11 = did_then B0 B10 B11 _ (λ B. Erase (word a) ∷ []) S0 S10 S11 d10 (record { stays = e11; ends = h11 }) in
      subst (λ os. Did B0 os S0 B11 S11) (simp append_assoc) d11

  -- what the word answers, and what is done at it
  pub visit_told : (read0 read1 p' : ℕ) (seen : Bool)
      → read0 ≡ read_word B2 a S2 → p' ≡ equal_bits B0.width true → seen ≡ hit B3 0 p' S3 → read1 ≡ read_word B7 a S7
      → Answered B0 a S0 (record { zeros = read0; seen = seen; zero0 = z0; zero1 = z1; ones = read1; one1 = o1; one0 = o0 })
      × Did B0 (word_operations B0.width a) S0 B11 S11
  unfolding L R
  visit_told read0 read1 p' seen zs p'-is sn os = (
    record {
      zeros = zs ∙ ap₂ (λ (B : Build) S. read_word B a S) b2 s2;
      seen = sn ∙ ap₂ (λ (B : Build) (p : ℕ). hit B 0 p S3) (e3 ∙ b2) p'-is
          ∙ alike_hit B0 0 (equal_bits B0.width true) S3 L (alike_then S3 S2 L (record { bits = ap (λ S. S.held) h3; marks = ap (λ S. S.mark) h3 }) (alike_same S2 L s2));
      zero0 = hits_at B0 B4 B5 false S4 L S5 z0 b4 a4 h5;
      zero1 = hits_at B0 B5 B6 true S5 L S6 z1 (h5.stays ∙ b4) a5 h6;
      ones = os ∙ ap (λ (B : Build). read_word B a S7) (e7 ∙ b6) ∙ alike_read B0 a S7 R a7;
      one1 = hits_at B0 B8 B9 true S8 R S9 o1 b8 a8 h9;
      one0 = hits_at B0 B9 B10 false S9 R S10 o0 (h9.stays ∙ b8) a9 h10;
    },
    visit_did,
  )
