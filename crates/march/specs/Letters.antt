-- What a name may be.
use Rattle.std.specs.Prelude.{ℕ, Bool, ◌&&◌, ◌||◌, List, length, nat_le}
use Rattle.march.specs.Every.{every}

-- the bytes a to z and 0 to 9
abbrev pub is_letter_or_digit : ℕ → Bool
is_letter_or_digit b = (nat_le 97 b && nat_le b 122) || (nat_le 48 b && nat_le b 57)

-- 1 to 16 small letters and digits
abbrev pub is_name : List ℕ → Bool
is_name xs = nat_le 1 (length xs) && (nat_le (length xs) 16 && every is_letter_or_digit xs)
