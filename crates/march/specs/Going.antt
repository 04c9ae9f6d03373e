-- What is left of an element and of a visit that are gone over.
use Rattle.std.specs.Prelude.{min, List, drop}
use Rattle.march.specs.declared.element.TestOperation.{TestOperation}
use Rattle.march.specs.declared.step.Step.{Step}
use Rattle.march.specs.declared.steps.Operations.{Operations}
use Rattle.march.specs.declared.steps.Steps.{Steps}
use Rattle.march.specs.Tests.{meant, steps_in_visit}
use Rattle.march.specs.Building.{operations_of}

-- the operations that are left
abbrev pub operations_left : Operations → List TestOperation
operations_left s = drop s.at (operations_of (meant s.element.now))

-- the steps of the visit that are left
abbrev pub steps_left : Steps → List Step
steps_left s = drop s.operation (steps_in_visit s.size.words (min s.size.width 64) (meant s.element.now) s.visit)
