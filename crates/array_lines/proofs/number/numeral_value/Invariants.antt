use Rattle.std.proofs.Common.{◌≡◌, take, drop}
use Rattle.std.specs.Str.Parse.{digits_value, AllDigits}
use Rattle.march.specs.Every.{every}
use Rattle.std.specs.Char.{is_ascii_digit}
use Rattle.array_lines.proofs.number.numeral_value.Given as goal

-- what is left decides, and the digits so far write the number so far
abbrev pub invariant-loop-byte : goal.invariant-loop-byte
invariant-loop-byte l =
    (every is_ascii_digit (drop l.byte-index l.word) ≡ every is_ascii_digit l.word)
    × AllDigits 10 (take l.byte-index l.word)
    × (l.value ≡ digits_value 10 (take l.byte-index l.word))
