-- The laws of tenths of a percent.
use Rattle.std.proofs.Common.{◌≡◌, ℕ, ◌*◌, ◌<◌, ◌≤◌, ap, ◌∙◌, subst, div-mul-le_self, arith}
use native.Mathlib.Nat.{zero-div, lt-div-mul-add, mul-div_cancel_left, div-le_of_le-mul}
use Rattle.campaigns.specs.Tenths.{tenths, TenthsLaws}

-- all of them are 1000 tenths
pub tenths_all : (t : ℕ) → 0 < t → tenths t t ≡ 1000
tenths_all t l = mul-div_cancel_left 1000 l

-- no share is above 1000
pub tenths_most : (d t : ℕ) → 0 < t → d ≤ t → tenths d t ≤ 1000
tenths_most d t l h = div-le_of_le-mul t {m = d * 1000} {n = 1000} (omega arith)

pub tenths_laws : TenthsLaws
tenths_laws =
    record {
      within = λ d t l. div-mul-le_self (d * 1000) t;
      largest = λ d t l. omega (arith, lt-div-mul-add {a = d * 1000} {b = t} l);
      all = λ d t l h. (
        λ e. (let below : 1000 * t ≤ d * 1000 = subst (λ (q : ℕ). q * t ≤ d * 1000) e (div-mul-le_self (d * 1000) t) in omega arith),
        λ e. ap (λ (n : ℕ). tenths n t) e ∙ tenths_all t l,
      );
      none = λ t l. zero-div t;
    }
