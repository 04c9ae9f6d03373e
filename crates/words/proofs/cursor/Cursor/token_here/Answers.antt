use Rattle.words.proofs.Rules.{same_fault}
use Rattle.std.proofs.Common.{◌≡◌, length, Ok, sym, ◌∙◌, subst, add-zero, arith}
use Rattle.words.specs.declared.token.Kind.TheVariants.{End}
use Rattle.words.specs.Lexing.{TokenAt, token, ends, opens, closes, feeds, others}
use Rattle.words.proofs.cursor.Cursor.token_here.Goals as goal

pub returns-in_err-word_length-in-Some : goal.returns-in_err-word_length-in-Some
returns-in_err-word_length-in-Some c =
    let l = c.in-Some.ensures.lookup in
    let b = l.3.1 0 in
    rw (same_fault _ c.from_residual.ensures.1) record { token_there = others l.3.0 (λ e. omega (arith, c.in-Some.field-0-test)) (λ e. omega (arith, c.in-Some.field-0-test)) (λ e. omega (arith, c.in-Some.field-0-test)) c.in_err-word_length-in-Some.ensures.word_there }

pub returns-in-None : goal.returns-in-None
returns-in-None c =
    let l = c.in-None.ensures.lookup in
    let e : c.args.self.now.at ≡ length c.args.self.now.text.now = omega (arith, c.args.self.now.inside, l.3) in
    record { token_there = subst (λ k. TokenAt c.args.self.now.text.now c.args.self.now.at (Ok (token End c.args.self.now.at k))) (sym (add-zero _)) (ends e) }

pub returns-in-Some-eq40 : goal.returns-in-Some-eq40
returns-in-Some-eq40 c = let l = c.in-Some-eq40.ensures.lookup in record { token_there = opens l.3.0 (sym (l.3.1 0) ∙ c.in-Some-eq40.field-0-test) }

pub returns-in-Some-eq41 : goal.returns-in-Some-eq41
returns-in-Some-eq41 c = let l = c.in-Some-eq41.ensures.lookup in record { token_there = closes l.3.0 (sym (l.3.1 0) ∙ c.in-Some-eq41.field-0-test) }

pub returns-in-Some-eq10 : goal.returns-in-Some-eq10
returns-in-Some-eq10 c = let l = c.in-Some-eq10.ensures.lookup in record { token_there = feeds l.3.0 (sym (l.3.1 0) ∙ c.in-Some-eq10.field-0-test) }

pub returns-in_ok-word_length-in-Some : goal.returns-in_ok-word_length-in-Some
returns-in_ok-word_length-in-Some c =
    let l = c.in-Some.ensures.lookup in
    let b = l.3.1 0 in
    record { token_there = others l.3.0 (λ e. omega (arith, c.in-Some.field-0-test)) (λ e. omega (arith, c.in-Some.field-0-test)) (λ e. omega (arith, c.in-Some.field-0-test)) c.in_ok-word_length-in-Some.ensures.word_there }
