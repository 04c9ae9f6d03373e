-- A step: an operation with what is expected of its answer; when it misses.
use Rattle.std.specs.Prelude.{Bool, true, false, not, ◌==◌}
use Rattle.std.specs.Bool.{beq}
use Rattle.cam.specs.Model.{Build, State}
use Rattle.cam.specs.Operations.{answered}
use Rattle.cam.specs.declared.operation.Answer.{Answer}
use Rattle.cam.specs.declared.operation.Answer.TheVariants as answer
use Rattle.march.specs.declared.step.Expectation.{Expectation}
use Rattle.march.specs.declared.step.Expectation.TheVariants as expect
use Rattle.march.specs.declared.step.Step.{Step}

-- whether an answer is what was expected
abbrev pub meets : Expectation → Answer → Bool
meets expect.Nothing a = true
meets (expect.Bits n) answer.Nothing = false
meets (expect.Bits n) (answer.Bits m) = m == n
meets (expect.Bits n) (answer.Hit h) = false
meets (expect.Hit e) answer.Nothing = false
meets (expect.Hit e) (answer.Bits m) = false
meets (expect.Hit e) (answer.Hit h) = beq h e

-- whether a step misses
abbrev pub missing : Build → Step → State → Bool
missing B s S = not (meets s.expected (answered B s.operation S))
