-- Shares in tenths of a percent. The rule for rounding stands here alone.
use Rattle.std.specs.Prelude.{◌≡◌, ℕ, ◌+◌, ◌*◌, ◌/◌, ◌<◌, ◌≤◌, ◌↔◌}

-- the share of d in t, rounded down
abbrev pub tenths : ℕ → ℕ → ℕ
tenths d t = d * 1000 / t

-- No larger number of tenths is within the share; 1000 stand exactly for all, and 0 stands for none.
pub record TenthsLaws : Type 0 where
  pub within : (d t : ℕ) → 0 < t → tenths d t * t ≤ d * 1000
  pub largest : (d t : ℕ) → 0 < t → d * 1000 < (tenths d t + 1) * t
  pub all : (d t : ℕ) → 0 < t → d ≤ t → (tenths d t ≡ 1000) ↔ (d ≡ t)
  pub none : (t : ℕ) → 0 < t → tenths 0 t ≡ 0
