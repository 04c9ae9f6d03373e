-- The register's bits, one by one.
use Rattle.std.proofs.Common.{◌≡◌, ℕ, ◌-◌, ◌^◌, ◌<◌, Bool, true, false, cond, not, ◌&&◌, ◌||◌, eqb, ltb, sym, ap, ◌∙◌, arith}
use lib.Bits.{bit_and, bit_or, bit_xor}
use Rattle.std.proofs.lemmas.Bool.{eq-eqb, eqb-true, eqb-false, ne_eqb, lt-ltb, ltb-true, and_from}
use Rattle.cam.specs.Bits.{bit}
use Rattle.cam.specs.Model.{written_bit, agrees, mark_after_write}
use Rattle.cam.specs.declared.mark.Mark.{Mark}
use Rattle.cam.specs.Mark.{is_set, is_stuck}
use Rattle.cam.specs.declared.defect.Storage.TheVariants.{Good}
use Rattle.cam.proofs.Below.{split}
use Rattle.cam.proofs.BitLaws.{bits}

-- bit j of word k: only word 0 and columns 0 to 7 count
abbrev pub held : ℕ → ℕ → ℕ → Bool
held n k j = (eqb k 0 && ltb j 8) && bit n j

pub counts : (n a j : ℕ) → a ≡ 0 → j < 8 → bit n j ≡ held n a j
counts n a j e l = ap (λ t. t && bit n j) (sym (and_from (eqb a 0) (ltb j 8) (eq-eqb a 0 e) (lt-ltb j 8 l)))

pub agreeing : (n p m j : ℕ) → m < 2 ^ 64 → j < 8
    → not (bit (bit_and (bit_xor n p) (18446744073709551615 - m)) j) ≡ (bit m j || agrees (λ h b. false) (held n 0 j) (bit p j))
agreeing n p m j fits l =
    let j64 : j < 64 = omega arith in
    let b = lt-ltb j 8 l in
    simp (bits, b) (grind arith)

pub writing : (n p m a k j : ℕ) → m < 2 ^ 64 → a ≡ 0
    → held (bit_or (bit_and n m) (bit_and p (18446744073709551615 - m))) k j ≡ cond (eqb k a && ltb k 1) (written_bit 8 (λ i. Good) p m (held n k) j) (held n k j)
writing n p m a k j fits z =
    split (eqb k 0)
    (λ e.
    let k0 : k ≡ 0 = eqb-true k 0 e in
    let same : eqb k a ≡ true = eq-eqb k a (omega arith) in
    let first : ltb k 1 ≡ true = lt-ltb k 1 (omega arith) in
    split (ltb j 8)
    (λ i. let j64 : j < 64 = omega (arith, ltb-true j 8 i) in simp (bits, e, same, first, i) (grind arith))
    (λ i. simp (e, same, first, i)))
    (λ e.
    let ne : k ≡ 0 → ⊥ = eqb-false k 0 e in
    let other : eqb k a ≡ false = ne_eqb k a (λ q. ne (q ∙ z)) in
    simp (e, other))

pub marking : (old new : Mark) (a k : ℕ) → a ≡ 0 → is_set new ≡ mark_after_write (is_stuck old) (is_set old)
    → (eqb k 0 && is_set new) ≡ cond (eqb k a && ltb k 1) (mark_after_write (eqb k 0 && is_stuck old) (eqb k 0 && is_set old)) (eqb k 0 && is_set old)
marking old new a k z marked =
    split (eqb k 0)
    (λ e.
    let k0 : k ≡ 0 = eqb-true k 0 e in
    let same : eqb k a ≡ true = eq-eqb k a (omega arith) in
    let first : ltb k 1 ≡ true = lt-ltb k 1 (omega arith) in
    simp (e, same, first, marked))
    (λ e.
    let ne : k ≡ 0 → ⊥ = eqb-false k 0 e in
    let other : eqb k a ≡ false = ne_eqb k a (λ q. ne (q ∙ z)) in
    simp (e, other))
