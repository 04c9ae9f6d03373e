-- How many steps the schedule of a test has.
use Rattle.std.proofs.Common.{◌≡◌, ℕ, zero, suc, ◌+◌, ◌*◌, ◌≤◌, List, [], ◌∷◌, length, refl, mul-zero, mul-suc, arith, length-append}
use lib.ListN.{length-map}
use Rattle.march.specs.declared.element.Element.{Element as ElementRecord}
use Rattle.march.specs.declared.element.Element.TheVariants.{Up, Down, Columns}
use Rattle.cam.specs.Machine.{upward}
use Rattle.march.specs.Tests.{Element, up, down, columns, visits, visit, steps_of, schedule, meant}
use Rattle.march.proofs.Lists.{listed_few}

pub upward_length : {X : Type 0} (c n : ℕ) (f : ℕ → List X) → ((k : ℕ) → length (f k) ≡ c) → length (upward n f) ≡ c * n
upward_length c zero f h = omega (arith, mul-zero c)
upward_length c (suc n) f h =
    omega (arith, length-append (upward n f) (f n), upward_length c n f h, h n, mul-suc c n)

-- how many steps a visit has
abbrev pub per_visit : Element → ℕ
per_visit (up os) = length os
per_visit (down os) = length os
per_visit (columns cs) = length cs

abbrev pub cost : List Element → ℕ → ℕ → ℕ
cost [] N W = 0
cost (e ∷ es) N W = per_visit e * visits N W e + cost es N W

pub visit_length : (e : Element) (N W v : ℕ) → length (visit N W e v) ≡ per_visit e
visit_length (up os) N W v = length-map os _
visit_length (down os) N W v = length-map os _
visit_length (columns cs) N W v = length-map cs _

pub schedule_length : (es : List Element) (N W : ℕ) → length (schedule N W es) ≡ cost es N W
schedule_length [] N W = refl
schedule_length (e ∷ es) N W =
    omega (arith, length-append (steps_of N W e) (schedule N W es), upward_length (per_visit e) (visits N W e) (visit N W e) (visit_length e N W), schedule_length es N W)

-- an element of the code has at most eight operations
pub per_visit_few : (r : ElementRecord) → per_visit (meant r) ≤ 8
per_visit_few (Up os) = omega (arith, listed_few os)
per_visit_few (Down os) = omega (arith, listed_few os)
per_visit_few (Columns cs) = omega (arith, listed_few cs)
