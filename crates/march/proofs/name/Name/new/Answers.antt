use Rattle.std.proofs.Common.{◌≡◌, ◌≤◌, true, leb, List, ℕ, length, sym, ap, ◌∙◌, arith}
use Rattle.std.proofs.lemmas.List.{take_all}
use Rattle.std.proofs.lemmas.Bool.{and_parts, leb-true}
use Rattle.march.specs.Letters.{is_name, is_letter_or_digit}
use Rattle.march.specs.Every.{every}
use Rattle.march.proofs.name.Name.new.Goals as goal

few : (xs : List ℕ) → is_name xs ≡ true → length xs ≤ 16
few xs e = leb-true (length xs) 16 (and_parts (leb (length xs) 16) (every is_letter_or_digit xs) (and_parts (leb 1 (length xs)) _ e).1).0

pub invariant_of-result : goal.invariant_of-result
invariant_of-result c =
    let text = c.args.text.now in
    let name : is_name text ≡ true = sym c.is_name.ensures.allowed_name ∙ c.if-not-is_name.false in
    let all = c.of.ensures.as_many_as_fit ∙ take_all 16 text (few text name) in
    record { sixteen_at_most = omega (arith, c.of.ensures.counted, ap length all, few text name); allowed = ap is_name all ∙ name }

pub returns-clause-that_name : goal.returns-clause-that_name
returns-clause-that_name c =
    let text = c.args.text.now in
    let name : is_name text ≡ true = sym c.is_name.ensures.allowed_name ∙ c.if-not-is_name.false in
    c.of.ensures.as_many_as_fit ∙ take_all 16 text (few text name)
