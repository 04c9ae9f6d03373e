use Rattle.std.proofs.Common.{◌≡◌, ℕ, ◌≤◌, true, leb, Ok, Err, vec_items, vec_len, sym, refl, ap, ◌∙◌, subst, arith}
use Rattle.planes.specs.Planes.{blanked}
use Rattle.std.proofs.lemmas.Bool.{le-leb}
use Rattle.cam.specs.declared.fault.Reason.TheVariants.{BufferTooShort}
use Rattle.cam.proofs.Asking.{refused_not_0, both_yes}
use Rattle.words.specs.Readings.{Reading, gathered, on, off}
use Rattle.words.proofs.Rules.{pinned, ok_err, same_ok}
use Rattle.array_text.specs.Grammar.{ArrayCall, enough, too_little}
use Rattle.array_text.specs.Meaning.{new_state, Exactly}
use Rattle.array_text.proofs.Ones.{call_one, call_fault, first_line_sized, within}
use Rattle.array_text.proofs.Exact.{exactly}
use Rattle.array_text.proofs.Later.{later_of, later_words, blanked_same}
use Rattle.array_text.proofs.array.read_array.Goals as goal

pub returns-then-len-lt-RECORDS-clause-text_read : goal.returns-then-len-lt-RECORDS-clause-text_read
returns-then-len-lt-RECORDS-clause-text_read c =
    let f = call_fault _ c.of_call.result BufferTooShort c.of_call.ensures.reason_given c.of_call.ensures.refused_without_text in
    subst (λ f. Reading (ArrayCall (vec_len c.args.records) c.args.text.now) (Err f)) (sym f) (pinned (call_one _ _) (off (too_little (omega arith))))

pub returns-in-Err : goal.returns-in-Err
returns-in-Err c =
    let front = c.new-cursor.ensures in
    let first = rw (front.whole_text, front.at_the_front) at c.in-Err.ensures.reading in
    record {
      text_read = pinned (call_one _ _) (on (enough (omega arith)) (off first.reads));
      records_afterwards = λ _. record {
        first_line_refused = λ f x. refl;
        first_line_read = λ s x. absurd (ok_err s _ (first.only (Ok s) x));
      };
      untouched_without_memory = λ _. refl;
    }

-- the making is not refused: the size was asked, and there are records enough
pub returns-in_err-array : goal.returns-in_err-array
returns-in_err-array c =
    let front = c.new-cursor.ensures in
    let first = rw (front.whole_text, front.at_the_front) at c.in-Ok.ensures.reading in
    let s = first_line_sized _ _ first.reads in
    let sized = within c.in-Ok.size s in
    let room : leb c.in-Ok.size.words (vec_len c.args.records) ≡ true = le-leb _ _ (omega (arith, s.few_words)) in
    absurd (refused_not_0 _ _ c.in_err-array.ensures.asks_size_then_records (both_yes _ _ 41 57 sized room))

pub returns-in-Ok-add_rest : goal.returns-in-Ok-add_rest
returns-in-Ok-add_rest c =
    let front = c.new-cursor.ensures in
    let first = rw (front.whole_text, front.at_the_front) at c.in-Ok.ensures.reading in
    let made = c.in_ok-array.ensures in
    let s = first_line_sized _ _ first.reads in
    let left = rw (c.in-Ok.ensures.goes_on.text_stays, front.whole_text) at c.in-Ok-add_rest.ensures.reading in
    let x = left _ _ (record { build = made.made_flawless; state = made.made_cleared; distinct = tt; inside = tt }) in
    let h = x.1.1 in
    record {
      text_read = record {
        description = record { words = c.in-Ok.size.words; width = c.in-Ok.size.width; defects = x.0 };
        reading = pinned (call_one _ _) (on (enough (omega arith)) (on first.reads (on x.1.0 refl)));
        build = h.build;
        state = h.state ∙ ap new_state (sym h.build);
        each_defect_and_no_other = subst (Exactly x.0) (sym h.build) (exactly _ _ x.0 h.distinct);
        inside = h.inside;
      };
      records_afterwards = later_words c.in-Ok.size.words c.in_ok-array.array c.add_rest.new.array (vec_items c.args.records) c.in-Ok-add_rest.ensures.later_records_stay made.later_records_stay (omega (arith, s.few_words, c.args.records.ok.0)) (ap (λ B. B.words) made.made_flawless);
      untouched_without_memory = omega arith;
    }

pub returns-in-Err-add_rest : goal.returns-in-Err-add_rest
returns-in-Err-add_rest c =
    let front = c.new-cursor.ensures in
    let first = rw (front.whole_text, front.at_the_front) at c.in-Ok.ensures.reading in
    let made = c.in_ok-array.ensures in
    let s = first_line_sized _ _ first.reads in
    let n = c.in-Ok.size.words in
    let p = c.add_rest.new.array in
    let words : p.size.words ≡ n = c.in-Err-add_rest.ensures.later_records_stay.words ∙ ap (λ B. B.words) made.made_flawless in
    let room : n ≤ vec_len p.records = omega (arith, p.recorded) in
    let later = later_of n c.in_ok-array.array p (vec_items c.args.records) c.in-Err-add_rest.ensures.later_records_stay made.later_records_stay (omega (arith, s.few_words, c.args.records.ok.0)) (ap (λ B. B.words) made.made_flawless) in
    let given = c.given_up.ensures.words_blank_others_stay (omega (arith, s.some_words)) ∙ ap (λ (k : ℕ). blanked k (vec_items p.records)) words
    ∙ blanked_same n (vec_items p.records) (vec_items c.args.records) (omega (arith, p.records.ok.0)) (omega (arith, s.few_words, c.args.records.ok.0)) later in
    let left = rw (c.in-Ok.ensures.goes_on.text_stays, front.whole_text) at c.in-Err-add_rest.ensures.reading in
    let x = left _ _ (record { build = made.made_flawless; state = made.made_cleared; distinct = tt; inside = tt }) in
    record {
      text_read = pinned (call_one _ _) (on (enough (omega arith)) (on first.reads (off x)));
      records_afterwards = λ _. record {
        first_line_refused = λ f y. absurd (ok_err (gathered c.in-Ok.size c.read_first_line.new.cursor.at) f (sym (first.only (Err f) y)));
        first_line_read = λ z y. given ∙ ap (λ (n : ℕ). blanked n (vec_items c.args.records)) (ap (λ z. z.value.words) (sym (same_ok z (gathered c.in-Ok.size c.read_first_line.new.cursor.at) (first.only (Ok z) y))));
      };
      untouched_without_memory = λ few. absurd (omega arith);
    }
