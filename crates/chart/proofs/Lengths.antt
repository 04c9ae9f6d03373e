-- How many operations a chart takes.
use Rattle.std.proofs.Common.{◌≡◌, ℕ, ◌+◌, ◌*◌, Bool, true, false, List, [], ◌∷◌, ◌++◌, length, refl, ◌∙◌, mul_comm, add-mul, arith, length-append}
use Rattle.cam.specs.declared.operation.Operation.TheVariants.{Read, Erase}
use Rattle.cam.specs.declared.operation.Operation.{Operation}
use Rattle.cam.specs.Machine.{upward}
use Rattle.march.specs.Tests.{word}
use Rattle.march.proofs.Lengths.{upward_length}
use Rattle.chart.specs.Chart.{on_each_column, writing, word_operations, ChartLength}

columns_length : (W : ℕ) (b : Bool) → length (on_each_column W b) ≡ W
columns_length W b = upward_length 1 W _ (λ j. refl) ∙ omega arith

word_length : (W a : ℕ) → length (word_operations W a) ≡ 7 + 4 * W
word_length W a =
    let last : List Operation = on_each_column W false ++ (Erase (word a) ∷ []) in
    let ones : List Operation = on_each_column W true ++ last in
    let middle : List Operation = writing W a true ∷ Read (word a) ∷ ones in
    let zeros : List Operation = on_each_column W true ++ middle in
    omega (
      arith,
      columns_length W false,
      columns_length W true,
      length-append (on_each_column W false) (Erase (word a) ∷ []),
      length-append (on_each_column W true) last,
      length-append (on_each_column W true) middle,
      length-append (on_each_column W false) zeros,
    )

pub chart_length_lem : ChartLength
chart_length_lem N W =
    length-append (upward N (λ a. Erase (word a) ∷ [])) (upward N (word_operations W))
    ∙ omega (arith, upward_length 1 N (λ a. Erase (word a) ∷ []) (λ a. refl), upward_length (7 + 4 * W) N (word_operations W) (word_length W), mul_comm N (8 + 4 * W), add-mul 1 (7 + 4 * W) N)
