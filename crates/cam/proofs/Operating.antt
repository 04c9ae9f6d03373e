-- Lists of operations: one more at the end, and the tally.
use Rattle.std.proofs.Common.{◌≡◌, ℕ, ◌+◌, ◌<◌, ◌≤◌, min, List, [], ◌∷◌, ◌++◌, length, get_or, take, sym, refl, ap, ◌∙◌, ap₂, add-one, arith}
use Rattle.std.proofs.lemmas.List.{take_more}
use Rattle.cam.specs.declared.operation.Operation.{Operation}
use Rattle.cam.specs.declared.operation.Operation.TheVariants.{Write, Read, Compare, Erase}
use Rattle.cam.specs.Machine.{upward}
use Rattle.cam.proofs.Machine.{after-++}
use Rattle.cam.specs.Model.{Build, State, tally_cap, one_more}
use Rattle.cam.specs.Operations.{operated, after_all}

after_push : (B : Build) (os : List Operation) (o : Operation) (S : State)
    → after_all B (os ++ o ∷ []) S ≡ operated B o (after_all B os S)
after_push B [] o S = refl
after_push B (p ∷ os) o S = after_push B os o (operated B p S)

-- one turn of a loop over a list of operations
pub after_turn : (os : List Operation) (i : ℕ) (d : Operation) (B E : Build) (S T U : State)
    → i < length os → E ≡ B → T ≡ after_all B (take i os) S → U ≡ operated E (get_or os i d) T
    → U ≡ after_all B (take (i + 1) os) S
after_turn os i d B E S T U h e q u =
    u ∙ ap₂ (λ E T. operated E (get_or os i d) T) e q
    ∙ sym (ap (λ xs. after_all B xs S) (take_more os i d h) ∙ after_push B (take i os) (get_or os i d) S)

pub after_joined : (B : Build) (xs ys : List Operation) (S : State) → after_all B (xs ++ ys) S ≡ after_all B ys (after_all B xs S)
after_joined B = after-++ (operated B) (λ o S. 0)

-- one turn more of a loop that does the operations f i at its turn i
pub after_up : (f : ℕ → List Operation) (i : ℕ) (zs : List Operation) (B E : Build) (S T U : State)
    → zs ≡ f i → E ≡ B → T ≡ after_all B (upward i f) S → U ≡ after_all E zs T → U ≡ after_all B (upward (i + 1) f) S
after_up f i zs B E S T U z e q u =
    u ∙ ap₂ (λ E zs. after_all E zs T) e z ∙ ap (after_all B (f i)) q ∙ sym (after_joined B (upward i f) (f i) S)
    ∙ ap (λ (n : ℕ). after_all B (upward n f) S) (sym (add-one i))

-- What was done: the operations os on an array with the build B and the state S, which has the build E and the state T
-- now.
pub record Did (B : Build) (os : List Operation) (S : State) (E : Build) (T : State) : Type 0 where
  pub stays : E ≡ B
  pub ends : T ≡ after_all B os S

-- what is done next may depend on the build
pub did_then : (B E F : Build) (xs : List Operation) (ys : Build → List Operation) (S T U : State)
    → Did B xs S E T → Did E (ys E) T F U → Did B (xs ++ ys B) S F U
did_then B E F xs ys S T U p q =
    record {
      stays = q.stays ∙ p.stays;
      ends = q.ends ∙ ap₂ (λ E T. after_all E (ys E) T) p.stays p.ends ∙ sym (after_joined B xs (ys B) S);
    }

pub tally_more : (B : Build) (o : Operation) (S : State) → (operated B o S).tally ≡ one_more S.tally
tally_more B (Write a p m) S = refl
tally_more B (Read a) S = refl
tally_more B (Compare p m) S = refl
tally_more B (Erase a) S = refl

pub tally_rises : (B : Build) (os : List Operation) (S : State)
    → S.tally ≤ tally_cap → (after_all B os S).tally ≡ min (S.tally + length os) tally_cap
tally_rises B [] S h = omega arith
tally_rises B (o ∷ os) S h =
    let e = tally_more B o S in
    omega (arith, tally_rises B os (operated B o S) (omega arith))
