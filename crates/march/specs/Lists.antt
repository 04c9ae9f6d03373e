-- Short lists.
use Rattle.std.specs.Prelude.{ℕ, min, List, take}
use Rattle.march.specs.declared.few.Few.{Few}

-- the items that a short list has
abbrev pub listed : {T : Type 0} {N : ℕ} → Few T N → List T
listed {N = N} f = take (min f.count N) f.items

-- how many items a short list of N places has room for, whose count is a number of 8 bits
abbrev pub capacity : ℕ → ℕ
capacity N = min N 255
