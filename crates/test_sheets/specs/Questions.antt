-- What is asked before a whole test is written.
use Rattle.std.specs.Prelude.{ℕ, List, [], ◌∷◌}
use Rattle.cam.specs.Refusals.{Question, ask}
use Rattle.march.specs.Tests.{Element}
use Rattle.march.specs.Building.{is_whole}
use Rattle.sheet_writer.specs.Sheets.{sheet}
use Rattle.sheet_writer.specs.Writing.{fits}

-- is it whole, and does its sheet fit?
abbrev pub test_questions : List ℕ → List Element → List ℕ → List Question
test_questions name es buffer = ask (is_whole es) 62 ∷ ask (fits 0 (sheet name es) buffer) 61 ∷ []
