-- The grammar of an operation of a sheet, and what it means.
use Rattle.std.specs.Prelude.{◌≡◌, ℕ, List, Ok, codes, Result}
use Rattle.cam.specs.declared.fault.Fault.{Fault}
use Rattle.march.specs.declared.element.TestOperation.{TestOperation}
use Rattle.march.specs.declared.element.TestOperation.TheVariants as operation
use Rattle.march.specs.declared.operations.Order.{Order}
use Rattle.words.specs.declared.token.Kind.TheVariants.{Close}
use Rattle.words.specs.Readings.{Then, Gathered, gathered}
use Rattle.words.specs.Forms.{Next, BitNext, EitherNext}
use Rattle.sheet_operations.specs.declared.letter.Letter.{Letter}
use Rattle.sheet_operations.specs.declared.letter.Letter.TheVariants.{Write, Read, Compare, Erase}
use Rattle.sheet_operations.specs.Letters.{LetterNext}
use Rattle.sheet_operations.specs.Questions.{OperationRoom, Allowed}

-- the operation o ends with a closing bracket
abbrev pub Closing : TestOperation → List ℕ → ℕ → Result (Gathered TestOperation) Fault → Type 0
Closing o text a = Then (Next Close text a) (λ e r. r ≡ Ok (gathered o e))

-- what follows a letter: a bit; of a compare also whether a hit is expected; the closing bracket
abbrev pub Rest : List ℕ → Letter → ℕ → Result (Gathered TestOperation) Fault → Type 0
Rest text Write a = Then (BitNext text a) (λ b. Closing (operation.Write b.value) text b.to)
Rest text Read a = Then (BitNext text a) (λ b. Closing (operation.Read b.value) text b.to)
Rest text Compare a =
    Then (BitNext text a) (λ b.
    Then (EitherNext (codes "none") (codes "hit") text b.to) (λ h.
    Closing (operation.Compare (record { bit = b.value; hit = h.value })) text h.to))
Rest text Erase a = Closing operation.Erase text a

-- the operation that the bracket at p opens, from `a` on, in an element of the order o that has `count` operations so far
abbrev pub OperationAt : Order → ℕ → List ℕ → ℕ → ℕ → Result (Gathered TestOperation) Fault → Type 0
OperationAt o count text p a =
    Then (OperationRoom count p) (λ _.
    Then (LetterNext text a) (λ h.
    Then (Allowed o h.letter h.from) (λ _.
    Rest text h.letter h.to)))
