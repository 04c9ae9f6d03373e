-- The patterns and masks that tests use.
use Rattle.std.specs.Prelude.{ℕ, ◌-◌, ◌^◌, Bool, cond, nat_lt}

-- W equal bits
abbrev pub equal_bits : ℕ → Bool → ℕ
equal_bits W b = cond b (2 ^ W - 1) 0

-- every column of W blocked but column j
abbrev pub all_but : ℕ → ℕ → ℕ
all_but W j = 2 ^ W - 1 - cond (nat_lt j W) (2 ^ j) 0
