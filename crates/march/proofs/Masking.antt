-- No other word can stand in for the one that is addressed.
use Rattle.std.proofs.Common.{◌≡◌, ℕ, ◌<◌, Bool, true, false, eqb, ap, ◌∙◌}
use Rattle.std.proofs.lemmas.Bool.{both_ways, eqb-true, eqb-false, and_parts, and_left, and_right}
use Rattle.cam.specs.Model.{any_below, all_below}
use Rattle.cam.proofs.Below.{split, any_none, each_below}
use Rattle.march.specs.Masking.{NoStandIn, answers_all}

-- some number below n passes and no other than a can, so a does
pub only_one : (n a : ℕ) (f : ℕ → Bool) → any_below n f ≡ true → ((k : ℕ) → k < n → (k ≡ a → ⊥) → f k ≡ false) → f a ≡ true
only_one n a f some others =
    split (f a) (λ t. t)
    (λ t. absurd (both_ways (any_below n f)
    (any_none n f (λ k l. split (eqb k a) (λ e. ap f (eqb-true k a e) ∙ t) (λ e. others k l (eqb-false k a e)))) some))

-- a column that does not match
pub all_fails : (n : ℕ) (f : ℕ → Bool) (k : ℕ) → k < n → f k ≡ false → all_below n f ≡ false
all_fails n f k l e = split (all_below n f) (λ t. absurd (both_ways (f k) e (each_below n f t k l))) (λ t. t)

pub no_stand_in : (V : Type 0) → NoStandIn V
no_stand_in V N W a j v mark held answer inside other refuses some =
    let alone : answers_all W (mark a) (held a) (answer a) ≡ true =
    only_one N a (λ k. answers_all W (mark k) (held k) (answer k)) some
    (λ k l ne. split (mark k)
    (λ t. and_right (mark k) _ (all_fails W (λ i. answer k i (held k i)) j inside (ap (answer k j) (other k l ne) ∙ refuses k l t)))
    (λ t. and_left (mark k) _ t)) in
    let both = and_parts (mark a) (all_below W (λ i. answer a i (held a i))) alone in
    (both.0, λ i l. each_below W (λ i. answer a i (held a i)) both.1 i l)
