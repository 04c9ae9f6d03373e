use Rattle.std.proofs.Common.{◌≡◌, ◌∙◌, ℕ, true, false, List, Option, Some, None, MatchOption, Ok, Err, sym, subst}
use Rattle.std.specs.Option.{ok_or}
use Rattle.cam.specs.declared.fault.Fault.{Fault}
use Rattle.words.specs.Readings.{on, off}
use Rattle.words.proofs.Rules.{pinned, same_ok, same_err, ok_err, same_fault}
use Rattle.array_lines.specs.Numbers.{is_numeral, numeral, number, no_number}
use Rattle.array_lines.proofs.Ones.{number_one}
use Rattle.array_lines.proofs.number.read_number.Goals as goal

-- what a word writes, where a number or a fault came of it
abbrev Written : List ℕ → ℕ → Type 0
Written w n = (is_numeral w ≡ true) × (n ≡ numeral w)

written : (w : List ℕ) (o : Option ℕ) (f : Fault) (n : ℕ) → ok_or o f ≡ Ok n → MatchOption o (is_numeral w ≡ false) (Written w) → Written w n
written w (Some m) f n e told = subst (Written w) (same_ok m n e) told
written w None f n e told = absurd (ok_err n f (sym e))

unwritten : (w : List ℕ) (o : Option ℕ) (f g : Fault) → ok_or o f ≡ Err g → MatchOption o (is_numeral w ≡ false) (Written w) → (is_numeral w ≡ false) × (g ≡ f)
unwritten w (Some m) f g e told = absurd (ok_err m g e)
unwritten w None f g e told = (told, sym (same_err f g e))

pub returns-in_err-word-clause-reading : goal.returns-in_err-word-clause-reading
returns-in_err-word-clause-reading c =
    rw (same_fault _ c.from_residual.ensures.1) (pinned (number_one _ _) (off c.in_err-word.ensures.reading.reads))

pub returns-in_err-value-clause-reading : goal.returns-in_err-value-clause-reading
returns-in_err-value-clause-reading c =
    let w = c.in_ok-word.ensures in
    let n = rw w.spelling at (unwritten c.in_ok-word.word.bytes.now c.numeral_value.result _ _ (sym c.ok_or.ensures.value ∙ c.in_err-value.was) c.numeral_value.ensures.value_of_digits) in
    rw (same_fault _ c.from_residual-in_err-value.ensures.1, n.1, c.not_wanted.ensures.not_wanted_there) (pinned (number_one _ _) (on w.reading.reads (no_number n.0)))

pub returns-clause-reading : goal.returns-clause-reading
returns-clause-reading c =
    let w = c.in_ok-word.ensures in
    let v = rw w.spelling at (written c.in_ok-word.word.bytes.now c.numeral_value.result _ _ (sym c.ok_or.ensures.value ∙ c.in_ok-value.was) c.numeral_value.ensures.value_of_digits) in
    rw v.1 (pinned (number_one _ _) (on w.reading.reads (number v.0)))
