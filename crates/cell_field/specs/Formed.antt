-- Every cell field is well formed: its cells are steady, and a stuck mark is not set.
use Rattle.std.specs.Prelude.{◌≡◌, ℕ, zero, suc, ◌+◌, ◌*◌, ◌≤◌, Bool, true, false, cond, ◌&&◌, List, [], ◌∷◌, map, length, nat_le, nat_lt, refl}
use Rattle.std.proofs.Common.{sym, ap, arith}
use Rattle.std.proofs.lemmas.Bool.{true≢false, leb-true, and_parts}
use Rattle.cam.specs.Defects.{is_good}
use Rattle.cam.specs.Model.{WellFormed}
use Rattle.cells.specs.Meaning.{CellMeaning, SteadyCell}
use Rattle.cell_field.specs.declared.field.CellField.{CellField}
use Rattle.cam.specs.declared.mark.Mark.{Mark}
use Rattle.cam.specs.declared.mark.Mark.TheVariants.{Clear, Set, Stuck}
use Rattle.cam.specs.Mark.{is_set, is_stuck}
use Rattle.cell_field.specs.Row.{blank_cell, at}
use Rattle.cell_field.specs.Field.{fits, used, cell_at, mark_at, field_build, field_state}

blank_steady : SteadyCell blank_cell
blank_steady = record { low = λ e. refl; high = λ e. absurd (true≢false (ap is_good e)) }

either_steady : (b : Bool) (c d : CellMeaning) → SteadyCell c → SteadyCell d → SteadyCell (cond b c d)
either_steady true c d p q = p
either_steady false c d p q = q

stuck_clear : (m : Mark) → is_stuck m ≡ true → is_set m ≡ false
stuck_clear Clear e = refl
stuck_clear Set e = absurd (true≢false (sym e))
stuck_clear Stuck e = refl

few : (b : Bool) (N : ℕ) → (b ≡ true → N ≤ 256) → cond b N 0 ≤ 256
few true N h = h refl
few false N h = omega arith

some : (b : Bool) (W : ℕ) → (b ≡ true → 1 ≤ W) → 1 ≤ cond b W 1
some true W h = h refl
some false W h = omega arith

narrow : (b : Bool) (W : ℕ) → (b ≡ true → W ≤ 64) → cond b W 1 ≤ 64
narrow true W h = h refl
narrow false W h = omega arith

module _ {X : Type 0} (f : X → CellMeaning) (steady : (x : X) → SteadyCell (f x)) where
  each_steady : (xs : List X) (i : ℕ) → SteadyCell (at (map f xs) i)
  each_steady [] i = blank_steady
  each_steady (x ∷ xs) zero = steady x
  each_steady (x ∷ xs) (suc i) = each_steady xs i

  pub field_formed : (d : CellField X) → WellFormed (field_build f d) (field_state f d)
  field_formed d =
      let N : ℕ = d.size.words in
      let W : ℕ = d.size.width in
      let l : ℕ = length d.cells.now in
      let n : ℕ = (used d).words in
      let w : ℕ = (used d).width in
      let cell : (k j : ℕ) → SteadyCell (cell_at n w (map f d.cells.now) k j) = λ k j. either_steady (nat_lt k n && nat_lt j w) _ _ (each_steady d.cells.now (k * w + j)) blank_steady in
      record {
        few_words = few (fits N W l) N (λ e. leb-true N 256 (and_parts (nat_le N 256) _ e).0);
        some_bits = some (fits N W l) W (λ e. leb-true 1 W (and_parts (nat_le 1 W) _ (and_parts (nat_le 1 W && nat_le W 64) _ (and_parts (nat_le N 256) _ e).1).0).0);
        few_bits = narrow (fits N W l) W (λ e. leb-true W 64 (and_parts (nat_le 1 W) _ (and_parts (nat_le 1 W && nat_le W 64) _ (and_parts (nat_le N 256) _ e).1).0).1);
        tally_within = omega arith;
        steady = record {
          low = λ k j hk hj e. (cell k j).low e;
          high = λ k j hk hj e. (cell k j).high e;
          clear = λ k hk e. stuck_clear (mark_at n d.marks k) e;
        };
      }
