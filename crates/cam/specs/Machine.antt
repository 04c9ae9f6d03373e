-- Runs of any machine: X its steps, S its states.
use Rattle.std.specs.Prelude.{ℕ, zero, suc, ◌+◌, List, [], ◌∷◌, ◌++◌}

-- the state after a list of steps
abbrev pub after_of : {X S : Type 0} → (X → S → S) → List X → S → S
after_of step [] s = s
after_of step (x ∷ xs) s = after_of step xs (step x s)

-- how many of the steps miss, each in the state that the ones before it left
abbrev pub misses_of : {X S : Type 0} → (X → S → S) → (X → S → ℕ) → List X → S → ℕ
misses_of step missed [] s = 0
misses_of step missed (x ∷ xs) s = missed x s + misses_of step missed xs (step x s)

-- f 0, f 1, .., f (n - 1), one after the other
abbrev pub upward : {X : Type 0} → ℕ → (ℕ → List X) → List X
upward zero f = []
upward (suc n) f = upward n f ++ f n
