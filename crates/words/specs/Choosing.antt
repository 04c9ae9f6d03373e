-- One of several words is wanted.
use Rattle.std.specs.Prelude.{◌≡◌, ℕ, List, Ok, Err, Result}
use Rattle.std.proofs.Common.{sym, ap, ◌∙◌}
use Rattle.cam.specs.declared.fault.Fault.{Fault}
use Rattle.words.specs.Lexing.{Token, Lexed}
use Rattle.words.specs.Readings.{Then, Gathered, gathered}
use Rattle.words.specs.Forms.{Spells, not_wanted}

-- X has the values, each with the word that writes it
pub data WantsOneOf {X : Type 0} (spelling : X → List ℕ) (text : List ℕ) (t : Token) : Result (Gathered X) Fault → Type 0 where
  known : (x : X) → Spells text t (spelling x) → WantsOneOf spelling text t (Ok (gathered x t.to))
  unknown : ((x : X) → Spells text t (spelling x) → ⊥) → WantsOneOf spelling text t (Err (not_wanted t.from))

abbrev pub OneOfNext : {X : Type 0} → (X → List ℕ) → List ℕ → ℕ → Result (Gathered X) Fault → Type 0
OneOfNext spelling text a = Then (Lexed text a) (WantsOneOf spelling text)

-- No two values are written alike where each can be told from its word.
pub told_apart : {X : Type 0} (spelling : X → List ℕ) (back : List ℕ → X) → ((x : X) → back (spelling x) ≡ x) → (x y : X) → spelling x ≡ spelling y → x ≡ y
told_apart spelling back is x y e = sym (is x) ∙ ap back e ∙ is y
