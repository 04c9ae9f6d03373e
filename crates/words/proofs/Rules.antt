-- Rules that read one thing only, and how they are put together. Assumes nothing.
use Rattle.std.proofs.Common.{◌≡◌, ℕ, IfOk, Ok, Err, Result, refl, ap, subst, arith}
use Rattle.std.specs.Result.{IsErrAnd}
use Rattle.std.proofs.lemmas.Result.{err_from_is_err_and}
use Rattle.cam.specs.declared.fault.Fault.{Fault}
use Rattle.words.specs.Readings.{Reading, Then, on, off}

-- the rule P reads no two things
abbrev pub One : {X : Type 0} → (Result X Fault → Type 0) → Type 0
One {X} P = (r s : Result X Fault) → P r → P s → r ≡ s

pub pinned : {X : Type 0} {P : Result X Fault → Type 0} {r : Result X Fault} → One P → P r → Reading P r
pinned {r} one p = record { reads = p; only = λ s q. one s r q p }

pub same_ok : {X : Type 0} (x y : X) → ◌≡◌ {A = Result X Fault} (Ok x) (Ok y) → x ≡ y
same_ok x y e = cc

pub same_err : {X : Type 0} (f g : Fault) → ◌≡◌ {A = Result X Fault} (Err f) (Err g) → f ≡ g
same_err f g e = cc

pub ok_err : {X : Type 0} (x : X) (f : Fault) → ◌≡◌ {A = Result X Fault} (Ok x) (Err f) → ⊥
ok_err x f e = let z : ◌≡◌ {A = ℕ} 0 1 = cc in omega arith

pub then_one : {X Y : Type 0} (P : Result X Fault → Type 0) (Q : X → Result Y Fault → Type 0) → One P → ((x : X) → One (Q x)) → One (Then P Q)
then_one P Q one each r s (on {x} p q) (on {x = y} p' q') = each y r s (subst (λ z. Q z r) (same_ok x y (one (Ok x) (Ok y) p p')) q) q'
then_one P Q one each r _ (on {x} p q) (off {f} p') = absurd (ok_err x f (one (Ok x) (Err f) p p'))
then_one P Q one each _ s (off {f} p) (on {x} p' q') = absurd (ok_err x f (one (Ok x) (Err f) p' p))
then_one P Q one each _ _ (off {f} p) (off {f = g} p') = ap (λ h. Err h) (same_err f g (one (Err f) (Err g) p p'))

-- where P is known to read x, what follows is what Q reads from x
pub goes_on : {X Y : Type 0} {P : Result X Fault → Type 0} {Q : X → Result Y Fault → Type 0} {x : X} {r : Result Y Fault} → One P → P (Ok x) → Then P Q r → Q x r
goes_on {Q} {x} {r} one p (on {x = y} p' q) = subst (λ z. Q z r) (same_ok y x (one (Ok y) (Ok x) p' p)) q
goes_on {x} one p (off {f} p') = absurd (ok_err x f (one (Ok x) (Err f) p p'))

-- and where it is known to give a fault, that is the fault
pub stops_at : {X Y : Type 0} {P : Result X Fault → Type 0} {Q : X → Result Y Fault → Type 0} {f : Fault} {r : Result Y Fault} → One P → P (Err f) → Then P Q r → r ≡ Err f
stops_at {f} one p (on {x} p' q) = absurd (ok_err x f (one (Ok x) (Err f) p' p))
stops_at {f} one p (off {f = g} p') = ap (λ h. Err h) (same_err g f (one (Err g) (Err f) p' p))

-- what holds of all that Q reads holds of all that P and then Q read
pub then_made : {X Y : Type 0} {P : Result X Fault → Type 0} {Q : X → Result Y Fault → Type 0} {r : Result Y Fault} (Z : Y → Type 0) → ((x : X) (s : Result Y Fault) → P (Ok x) → Q x s → IfOk s Z) → Then P Q r → IfOk r Z
then_made Z f (on p q) = f _ _ p q
then_made Z f (off p) = tt

-- what `?` hands on is the fault that it met
pub same_fault : {X : Type 0} {f : Fault} (r : Result X Fault) → IsErrAnd r (λ e. e ≡ f) → r ≡ Err f
same_fault r h = let p = err_from_is_err_and r h in rw (p.1, p.2) refl
