use Rattle.std.proofs.Common.{◌≡◌, ℕ, ◌+◌, ◌*◌, ◌≤◌, Bool, true, ◌&&◌, map, length, take, get_or, sym, ap, ◌∙◌, rules, arith}
use Rattle.std.specs.List.{between}
use Rattle.std.proofs.lemmas.Bool.{and_from}
use Rattle.cam.specs.declared.mark.Mark.TheVariants.{Clear}
use Rattle.cam.specs.Mark.{is_set}
use Rattle.cam.specs.Model.{any_below, hit}
use Rattle.cam.specs.declared.size.Size.{Size}
use Rattle.cam.proofs.Below.{some_below}
use Rattle.cell_field.specs.Field.{build_from, state_from}
use Rattle.cell_field.specs.Row.{row_matches}
use Rattle.cell_field.proofs.Meanings.{some_match}
use Rattle.cell_field.proofs.field.CellField.hits.Goals as goal

pub returns-then-row_matches : goal.returns-then-row_matches
returns-then-row_matches g c =
    let s = c.args.self.now in
    let f = g.C.CellKind.meaning in
    let u = c.used-size.ensures in
    let n = c.used-size.result.words in
    let w = c.used-size.result.width in
    let xs = s.cells.now in
    let p = c.args.pattern in
    let m = c.args.mask in
    let k = c.loop-word.word in
    let row = λ (k : ℕ). between (k * w) (k * w + w) xs in
    let word : ℕ → Bool = λ k. is_set (get_or (take n s.marks) k Clear) && row_matches (length (row k)) p m (map f (row k)) in
    let marks : length s.marks ≡ 256 = search rules in
    let room : n ≤ length s.marks = omega arith in
    let set : is_set (get_or (take n s.marks) k Clear) ≡ true = search rules in
    let met : row_matches (length (row k)) p m (map f (row k)) ≡ true = sym c.row_matches.ensures.each_cell_matches ∙ c.if-row_matches.true in
    record {
      some_word_matches = sym (some_below (length (take n s.marks)) word k c.loop-word-test.true (and_from _ _ set met))
          ∙ some_match n w f xs u.cell_for_each_bit s.marks s.tally room p m
          ∙ ap (λ (z : Size). hit (build_from z.words z.width (map f xs) s.marks) p m (state_from z.words z.width (map f xs) s.marks s.tally)) u.used_size;
    }

pub returns : goal.returns
returns g c =
    let s = c.args.self.now in
    let f = g.C.CellKind.meaning in
    let u = c.used-size.ensures in
    let n = c.used-size.result.words in
    let w = c.used-size.result.width in
    let xs = s.cells.now in
    let p = c.args.pattern in
    let m = c.args.mask in
    let row = λ (k : ℕ). between (k * w) (k * w + w) xs in
    let word : ℕ → Bool = λ k. is_set (get_or (take n s.marks) k Clear) && row_matches (length (row k)) p m (map f (row k)) in
    let marks : length s.marks ≡ 256 = search rules in
    let room : n ≤ length s.marks = omega arith in
    let all : length (take n s.marks) ≡ c.loop-word.word = omega (arith, c.loop-word.auto.word-end, c.loop-word-test.false) in
    record {
      some_word_matches = sym (ap (λ (l : ℕ). any_below l word) all ∙ c.loop-word.invariant)
          ∙ some_match n w f xs u.cell_for_each_bit s.marks s.tally room p m
          ∙ ap (λ (z : Size). hit (build_from z.words z.width (map f xs) s.marks) p m (state_from z.words z.width (map f xs) s.marks s.tally)) u.used_size;
    }
