-- Items of mapped lists, and short lists.
use Rattle.std.proofs.Common.{◌≡◌, ℕ, ◌≤◌, min, Bool, ◌&&◌, List, ◌++◌, length, take, sym, ap, ap₂, ◌∙◌, inl, inr, nat_le, arith}
use Rattle.std.proofs.lemmas.Bool.{cases_lt, le-leb}
use Rattle.std.proofs.lemmas.List.{length-take, take_at, take_all}
pub use Rattle.std.proofs.lemmas.Option.{slice_get-map as nth_map}
use Rattle.march.specs.declared.few.Few.{Few}
use Rattle.march.specs.Lists.{listed, capacity}

-- how many items a short list has
pub listed_length : {X : Type 0} {N : ℕ} (f : Few X N) → length f.items ≡ N → length (listed f) ≡ min f.count N
listed_length {N = N} f e = omega (arith, length-take (min f.count N) f.items)

pub listed_few : {X : Type 0} {N : ℕ} (f : Few X N) → length (listed f) ≤ min f.count N
listed_few {N = N} f = omega (arith, length-take (min f.count N) f.items)

-- the front of a list, where what fits of a text was copied to it
pub fitted : {X : Type 0} (N n : ℕ) (text copy rest : List X) → n ≡ min (min (length text) N) 255 → copy ≡ take n text → take (min n N) (copy ++ rest) ≡ take (capacity N) text
fitted N n text copy rest e same =
    let long = ap length same in
    take_at copy rest (min n N) (omega (arith, length-take n text)) ∙ same ∙ elim (cases_lt (min N 255) (length text)) [
      | inl more ↦ ap (λ k. take k text) (omega arith)
      | inr all ↦ take_all n text (omega arith) ∙ sym (take_all (min N 255) text all)
    ]

-- a test of two bounds and of something else, where both bounds hold
pub within_both : (n low high : ℕ) (rest : Bool) → low ≤ n → n ≤ high → (nat_le low n && (nat_le n high && rest)) ≡ rest
within_both n low high rest l h = ap₂ (λ (a b : Bool). a && (b && rest)) (le-leb low n l) (le-leb n high h)
