use Rattle.std.proofs.Common.{◌≡◌, ℕ, ◌+◌, ◌-◌, ◌<◌, min, length, sym, refl, ◌∙◌, subst, arith, rules}
use Rattle.std.proofs.lemmas.List.{nil_from_length}
use Rattle.cam.specs.Refusals.{first_no, Refused}
use Rattle.march.specs.Building.{operation_questions}
use Rattle.march.specs.Table.{elements_of}
use Rattle.march.proofs.Table.{elements_few, elements_counted, added}
use Rattle.march.proofs.test.Test.add_operation.Goals as goal

pub returns-then-count-eq0 : goal.returns-then-count-eq0
returns-then-count-eq0 c =
    let none : length (elements_of c.args.self.now) ≡ 0 = sym c.element_count-count.ensures.how_many_elements ∙ c.if-count-eq0.true in
    record {
      asks_in_order = subst (λ es. Refused (first_no (operation_questions es c.args.operation)) c.of_call.result) (sym (nil_from_length _ none)) c.of_call.ensures.refused_without_text;
      last_element_longer = refl;
      name_stays = refl;
    }

pub bounds-self-count : goal.bounds-self-count
bounds-self-count c =
    omega (arith, c.element_count-count.ensures.how_many_elements, elements_few c.args.self.now, c.if-count-eq0.false)

pub returns : goal.returns
returns c =
    let t = c.args.self.now in
    let n : ℕ = c.element_count-count.result in
    let sixteen : length t.elements.items ≡ 16 = search rules in
    let some : n ≡ 0 → ⊥ = c.if-count-eq0.false in
    let counted : n ≡ min t.elements.count 16 = c.element_count-count.ensures.how_many_elements ∙ elements_counted t sixteen in
    let last : min t.elements.count 16 ≡ (n - 1) + 1 = omega arith in
    let inside : n - 1 < length t.elements.items = omega (arith, elements_few t) in
    let both = added t (n - 1) c.args.operation c.add.result _ _ last inside c.add.ensures.asks_in_order c.add.ensures.one_more_at_the_end in
    record { asks_in_order = both.0; last_element_longer = both.1; name_stays = refl }
