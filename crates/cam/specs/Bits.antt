-- The bits of a number.
use Rattle.std.specs.Prelude.{ℕ, ◌/◌, ◌%◌, ◌^◌, Bool, ◌==◌}

-- whether bit j of n, of weight 2^j, is 1
unfoldable pub bit : ℕ → ℕ → Bool
bit n j = n / 2 ^ j % 2 == 1
