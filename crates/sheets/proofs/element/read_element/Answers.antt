use Rattle.std.proofs.Common.{Ok, refl, ap, ◌∙◌, arith}
use Rattle.march.specs.Building.{longer}
use Rattle.words.specs.Readings.{on, off, gathered}
use Rattle.words.specs.Listings.{shut, more, lexed, too_few, other, piece}
use Rattle.words.proofs.Going.{goes_further}
use Rattle.words.proofs.Rules.{pinned, same_fault}
use Rattle.sheets.proofs.Growing.{at_element, taken, longer_ending, longer_order, longer_counted, read_room}
use Rattle.sheets.proofs.Ones.{element_one}
use Rattle.sheets.proofs.element.read_element.Goals as goal
use Rattle.sheets.proofs.element.read_element.Goals.{in_default-via-in-Close+else-count-gt0, in_default-via-in_default}

pub returns-in_err-check_room-clause-reading : goal.returns-in_err-check_room-clause-reading
returns-in_err-check_room-clause-reading c =
    let m = rw c.element_count.ensures.how_many_elements at c.in_err-check_room.ensures.reading.reads in
    rw (same_fault _ c.from_residual.ensures.1) (pinned (element_one _ _ _ _ _) (off m))

pub returns-in_err-token-clause-reading : goal.returns-in_err-token-clause-reading
returns-in_err-token-clause-reading c =
    let i = c.loop-token.invariant in
    let m = rw c.element_count.ensures.how_many_elements at c.in_ok-check_room.ensures.reading.reads in
    let x = rw i.goes_on.text_stays at c.in_err-token.ensures.reading.reads in
    rw (same_fault _ c.from_residual-in_err-token.ensures.1) (pinned (element_one _ _ _ _ _) (on m (off (i.rest _ (lexed x)))))

pub returns-in-Close-clause-reading : goal.returns-in-Close-clause-reading
returns-in-Close-clause-reading c =
    let i = c.loop-token.invariant in
    let m = rw c.element_count.ensures.how_many_elements at c.in_ok-check_room.ensures.reading.reads in
    let x = rw i.goes_on.text_stays at c.in_ok-token.ensures.reading.reads in
    let n = i.counted in
    pinned (element_one _ _ _ _ _) (on m (on (i.rest _ (shut x c.in-Close.is (omega (arith, n, c.if-count-gt0.true)))) (ap (λ es. Ok (gathered es c.next_token.new.self.at)) i.ending)))

pub returns-in_err-operation-in-Open-clause-reading : goal.returns-in_err-operation-in-Open-clause-reading
returns-in_err-operation-in-Open-clause-reading c =
    let i = c.loop-token.invariant in
    let m = rw c.element_count.ensures.how_many_elements at c.in_ok-check_room.ensures.reading.reads in
    let t = c.in_ok-token.ensures in
    let x = rw i.goes_on.text_stays at t.reading.reads in
    let n = i.counted in
    let o = rw (t.goes_on.text_stays, i.goes_on.text_stays) at c.in_err-operation-in-Open.ensures.reading.reads in
    rw (same_fault _ c.from_residual-in_err-operation-in-Open.ensures.1) (pinned (element_one _ _ _ _ _) (on m (off (i.rest _ (piece x c.in-Open.is (off (at_element _ i.ordered n o)))))))

pub returns-in_err-add_operation-in-Open-clause-reading : goal.returns-in_err-add_operation-in-Open-clause-reading
returns-in_err-add_operation-in-Open-clause-reading c =
    let i = c.loop-token.invariant in
    let n = i.counted in
    absurd (taken _ i.ordered n _ _ _ i.ending c.in_ok-operation-in-Open.ensures.reading.reads c.in_err-add_operation-in-Open.ensures.asks_in_order)

pub overflow_add-count : goal.overflow_add-count
overflow_add-count c = let h = read_room _ _ _ _ _ _ c.in_ok-operation-in-Open.ensures.reading.reads in omega arith

pub loop-token-preserved : goal.loop-token-preserved
loop-token-preserved c =
    let i = c.loop-token.invariant in
    let t = c.in_ok-token.ensures in
    let x = rw i.goes_on.text_stays at t.reading.reads in
    let n = i.counted in
    let o = rw (t.goes_on.text_stays, i.goes_on.text_stays) at c.in_ok-operation-in-Open.ensures.reading.reads in
    let a = c.in_ok-add_operation-in-Open.ensures in
    record {
      goes_on = goes_further i.goes_on (goes_further t.goes_on c.in_ok-operation-in-Open.ensures.goes_on);
      name_stays = a.name_stays ∙ i.name_stays;
      element = longer i.element c.in_ok-operation-in-Open.operation;
      ending = longer_ending _ _ _ i.ending a.last_element_longer;
      ordered = longer_order _ _ ∙ i.ordered;
      counted = longer_counted _ i.ordered n _ o;
      rest = λ r z. i.rest r (more x c.in-Open.is (on (at_element _ i.ordered n o) refl) z);
    }

pub returns-in_default-clause-reading : goal.returns-in_default-clause-reading
returns-in_default-clause-reading c =
    let i = c.loop-token.invariant in
    let m = rw c.element_count.ensures.how_many_elements at c.in_ok-check_room.ensures.reading.reads in
    let t = c.in_ok-token.ensures in
    let x = rw i.goes_on.text_stays at t.reading.reads in
    let n = i.counted in
    rw c.not_wanted.ensures.not_wanted_there
    (pinned (element_one _ _ _ _ _) (on m (off (i.rest _ (elim c.in_default.branch [
      | in_default-via-in-Close+else-count-gt0 w ↦ too_few x w.in-Close.is (λ some. omega (arith, n, w.if-count-gt0.false))
      | in_default-via-in_default w ↦ other x w.in_default.not-Close w.in_default.not-Open
    ])))))
