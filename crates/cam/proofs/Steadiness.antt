-- No operation moves an sa0 cell, an sa1 cell or a stuck mark.
use Rattle.std.proofs.Common.{◌≡◌, ℕ, Bool, true, false, cond, not, ◌&&◌, ltb, [], ◌∷◌, refl, ap, ◌∙◌}
use Rattle.std.proofs.lemmas.Bool.{cond-true}
use Rattle.cam.specs.declared.defect.Storage.{Storage}
use Rattle.cam.specs.declared.operation.Operation.{Operation}
use Rattle.cam.specs.declared.operation.Operation.TheVariants.{Write, Read, Compare, Erase}
use Rattle.cam.specs.Model.{Build, State, put, mark_after_write, here, bit, Steady}
use Rattle.cam.specs.Operations.{operated, SteadinessStays}

-- a cell with a storage that puts v whatever is written, and that holds v
bit_stays : (t u : Bool) (s : Storage) (h b v : Bool) → put s h b ≡ v → h ≡ v → cond t (cond u (put s h b) h) h ≡ v
bit_stays true true s h b v e f = e
bit_stays true false s h b v e f = f
bit_stays false u s h b v e f = f

mark_stays : (t s m : Bool) → s ≡ true → m ≡ false → cond t (mark_after_write s m) m ≡ false
mark_stays true s m e f = cond-true s m true e ∙ f
mark_stays false s m e f = f

wipe_stays : (t m : Bool) → m ≡ false → cond t false m ≡ false
wipe_stays true m f = refl
wipe_stays false m f = f

pub steady_operated : (B : Build) (o : Operation) (S : State) → Steady B S → Steady B (operated B o S)
steady_operated B (Write a p m) S st =
    let open-column : ℕ → Bool = λ j. ltb j B.width && not (bit m j) in
    record {
      low = λ k j hk hj e. bit_stays (here B a.number k) (open-column j) (B.storage k j) (S.held k j) (bit p j) false (ap (λ s. put s (S.held k j) (bit p j)) e) (st.low k j hk hj e);
      high = λ k j hk hj e. bit_stays (here B a.number k) (open-column j) (B.storage k j) (S.held k j) (bit p j) true (ap (λ s. put s (S.held k j) (bit p j)) e) (st.high k j hk hj e);
      clear = λ k hk e. mark_stays (here B a.number k) (B.stuck k) (S.mark k) e (st.clear k hk e);
    }
steady_operated B (Read a) S st = record { low = st.low; high = st.high; clear = st.clear }
steady_operated B (Compare p m) S st = record { low = st.low; high = st.high; clear = st.clear }
steady_operated B (Erase a) S st =
    record { low = st.low; high = st.high; clear = λ k hk e. wipe_stays (here B a.number k) (S.mark k) (st.clear k hk e) }

pub steadiness_stays : SteadinessStays
steadiness_stays B [] S st = st
steadiness_stays B (o ∷ os) S st = steadiness_stays B os (operated B o S) (steady_operated B o S st)
