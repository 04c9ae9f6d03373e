use Rattle.std.proofs.Common.{arith}
use Rattle.words.proofs.Rules.{pinned, same_fault}
use Rattle.words.proofs.Lexemes.{lexed_one, lexed_lies, token_lies}
use Rattle.words.proofs.cursor.Cursor.next_token.Goals as goal

pub overflow_add-self : goal.overflow_add-self
overflow_add-self c =
    let l = token_lies _ _ _ c.in_ok-kind.ensures.token_there in
    let t = c.type_inv.self in
    omega (arith, l.inside)

pub invariant_of-self : goal.invariant_of-self
invariant_of-self c =
    let l = token_lies _ _ _ c.in_ok-kind.ensures.token_there in
    record { inside = l.inside }

pub returns-in_err-kind-clause-reading : goal.returns-in_err-kind-clause-reading
returns-in_err-kind-clause-reading c =
    let s = c.skip_spaces.ensures in
    rw (same_fault _ c.from_residual.ensures.1) (pinned (lexed_one _ _) (record { place = _; spaces = s.spaces_skipped; stands = (rw s.goes_on.text_stays at c.in_err-kind.ensures.token_there) }))

pub returns-clause-reading : goal.returns-clause-reading
returns-clause-reading c =
    let s = c.skip_spaces.ensures in
    pinned (lexed_one _ _) (record { place = _; spaces = s.spaces_skipped; stands = (rw s.goes_on.text_stays at c.in_ok-kind.ensures.token_there) })

pub returns-clause-lies : goal.returns-clause-lies
returns-clause-lies c =
    let s = c.skip_spaces.ensures in
    lexed_lies _ _ _ (record { place = _; spaces = s.spaces_skipped; stands = (rw s.goes_on.text_stays at c.in_ok-kind.ensures.token_there) })
