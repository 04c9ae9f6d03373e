-- Why no other word can stand in for the one that is addressed. It speaks of any memory whose words are marked and
-- hold a symbol in each column: V is what a cell holds, 0 or 1 here, and 0, 1 or X in a ternary memory.
use Rattle.std.specs.Prelude.{◌≡◌, ℕ, ◌<◌, Bool, true, false, ◌&&◌, ◌≢◌}
use Rattle.cam.specs.Model.{any_below, all_below}

-- whether a word matches: it is marked, and each of its W columns answers what it holds as a match
abbrev pub answers_all : {V : Type 0} → ℕ → Bool → (ℕ → V) → (ℕ → V → Bool) → Bool
answers_all W mark held answer = mark && all_below W (λ j. answer j (held j))

-- Word a is compared while every other word holds the symbol v in its column j. If no marked word answers v in
-- column j as a match, then a hit can come from no word but a: its mark is set, and each of its columns matches.
abbrev pub NoStandIn : Type 0 → Type 0
NoStandIn V =
    (N W a j : ℕ) (v : V) (mark : ℕ → Bool) (held : ℕ → ℕ → V) (answer : ℕ → ℕ → V → Bool)
    → j < W
    → ((k : ℕ) → k < N → (k ≢ a) → held k j ≡ v)
    → ((k : ℕ) → k < N → mark k ≡ true → answer k j v ≡ false)
    → any_below N (λ k. answers_all W (mark k) (held k) (answer k)) ≡ true
    → (mark a ≡ true) × ((i : ℕ) → i < W → answer a i (held a i) ≡ true)
