use Rattle.std.proofs.Common.{ap, ◌∙◌}
use Rattle.std.proofs.lemmas.Option.{MatchOption-at_some}
use Rattle.words.specs.Readings.{on, off}
use Rattle.words.proofs.Rules.{same_fault}
use Rattle.array_lines.specs.Cells.{Inside}
use Rattle.array_lines.proofs.Ones.{line_inside}
use Rattle.array_text.proofs.Ones.{adds_none}
use Rattle.array_text.proofs.Leaving.{line_leaves}
use Rattle.array_text.proofs.lines.add_line.Goals as goal

pub returns-in_err-defect-clause-reading : goal.returns-in_err-defect-clause-reading
returns-in_err-defect-clause-reading c =
    rw (same_fault _ c.from_residual.ensures.1) (λ N W ds h.
    let words = c.size_of.ensures.words_of_the_array ∙ ap (λ B. B.words) h.build in
    let bits = c.size_of.ensures.bits_of_the_array ∙ ap (λ B. B.width) h.build in
    off (rw (words, bits) at c.in_err-defect.ensures.reading.reads))

pub returns-in-Some-clause-reading : goal.returns-in-Some-clause-reading
returns-in-Some-clause-reading c = λ N W ds h.
    let words = c.size_of.ensures.words_of_the_array ∙ ap (λ B. B.words) h.build in
    let bits = c.size_of.ensures.bits_of_the_array ∙ ap (λ B. B.width) h.build in
    let l = rw (words, bits) at c.in_ok-defect.ensures.reading.reads in
    let inside = MatchOption-at_some (Unit {0}) (Inside N W) _ c.in-Some.is (line_inside _ _ _ _ _ l) in
    line_leaves _ _ _ ds _ _ _ _ _ c.plant.result l c.in-Some.is (c.plant.ensures.new_or_repeated _ _ ds h inside)

pub returns-in-None-clause-reading : goal.returns-in-None-clause-reading
returns-in-None-clause-reading c = λ N W ds h.
    let words = c.size_of.ensures.words_of_the_array ∙ ap (λ B. B.words) h.build in
    let bits = c.size_of.ensures.bits_of_the_array ∙ ap (λ B. B.width) h.build in
    let l = rw (words, bits) at c.in_ok-defect.ensures.reading.reads in
    (ds, (on l (adds_none ds _ _ _ c.in-None.is), h))
