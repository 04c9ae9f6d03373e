use Rattle.std.proofs.Common.{map, ap, ◌∙◌, arith}
use Rattle.std.proofs.lemmas.List.{take_all}
use Rattle.march.specs.Tests.{meant}
use Rattle.march.proofs.test.Test.with_elements.Goals as goal

pub returns-clause-these_elements : goal.returns-clause-these_elements
returns-clause-these_elements c =
    ap (map meant) (c.of.ensures.as_many_as_fit ∙ take_all 16 c.args.elements.now (omega arith))
