use Rattle.std.proofs.Common.{length, Err, vec_len, sym, refl, ap, ◌∙◌, subst, arith}
use Rattle.cam.specs.declared.fault.Reason.TheVariants.{BufferTooShort}
use Rattle.std.proofs.lemmas.Result.{err_from_is_err_and}
use Rattle.words.specs.Readings.{Reading, on, off}
use Rattle.words.proofs.Rules.{pinned}
use Rattle.chart.specs.Chart.{Charted}
use Rattle.bench.specs.Judging.{judge_questions, Judges, judged_state}
use Rattle.bench.proofs.WholeRun.{granted_in, at_ok}
use Rattle.planes.specs.Planes.{build_of, state_of}
use Rattle.planes.specs.Formed.{well_formed}
use Rattle.array_text.specs.Grammar.{enough, too_little}
use Rattle.array_text.specs.Meaning.{new_state, Exactly}
use Rattle.array_text.proofs.Ones.{call_fault}
use Rattle.text_judge.specs.Judging.{JudgeCall, described}
use Rattle.text_judge.proofs.Sounds.{sound_without_lines, judging_granted, judge_one}
use Rattle.text_judge.proofs.judging.judge_text.Goals as goal

pub returns-then-chart-lt-CHART_BYTES : goal.returns-then-chart-lt-CHART_BYTES
returns-then-chart-lt-CHART_BYTES c =
    let f = call_fault _ c.of_call.result BufferTooShort c.of_call.ensures.reason_given c.of_call.ensures.refused_without_text in
    record {
      text_judged = subst (λ f. Reading (JudgeCall (vec_len c.args.records) (length c.args.chart.now) c.args.text.now) (Err f)) (sym f) (pinned (judge_one _ _ _) (off (too_little (omega arith))));
      refused_leaves_the_chart = refl;
      records_handed_back = λ bytes. absurd (omega arith);
      untouched_without_memory = (λ _. refl, λ _. refl);
    }

pub returns-in_err-array : goal.returns-in_err-array
returns-in_err-array c =
    let p = err_from_is_err_and c.from_residual.result c.from_residual.ensures.1 in
    let e = c.in_err-array.ensures in
    rw (p.1, p.2) record {
      text_judged = pinned (judge_one _ _ _) (on (enough (omega arith)) e.text_read.reads);
      refused_leaves_the_chart = refl;
      records_handed_back = λ bytes. e.records_afterwards;
      untouched_without_memory = (λ few. absurd (omega arith), e.untouched_without_memory);
    }

-- nothing of the judging is refused
pub returns : goal.returns
returns c =
    let m = c.in_ok-array.ensures.text_read in
    let p = c.in_ok-array.array in
    let d = m.description in
    let f = well_formed p in
    let e = c.judge_array.ensures in
    let granted = granted_in (λ e. e.fault) (judge_questions (build_of p) (state_of p) (length c.args.chart.now)) c.judge_array.result
    (judging_granted (build_of p) (state_of p) (length c.args.chart.now) f.few_words f.few_bits (ap (λ S. S.tally) m.state) (omega arith)) e.asks_in_order in
    let j = granted.0 in
    let told = at_ok _ _ _ _ granted.1 c.map_err.ensures.cases in
    let right = at_ok _ _ _ _ granted.1 e.judgement_is_right in
    let bytes = at_ok _ _ _ _ granted.1 e.every_byte in
    let judges : Judges (described d) (new_state (described d)) j.judgement =
    subst (λ B. Judges B (new_state B) j.judgement) m.build (subst (λ S. Judges (build_of p) S j.judgement) m.state right) in
    let none = sound_without_lines d.words d.width d.defects m.inside (subst (Exactly d.defects) m.build m.each_defect_and_no_other) in
    rw told record {
      text_judged = record {
        description = d;
        reading = pinned (judge_one _ _ _) (on (enough (omega arith)) m.reading.reads);
        judgement_is_right = judges;
        sound_exactly_without_a_defect_line = (λ e. none.0 (judges.sound.0 e), λ n. judges.sound.1 (none.1 n));
        every_byte = subst (λ B. Charted B c.args.chart.now c.judge_array.new.buffer) m.build bytes;
        build_stays = at_ok _ _ _ _ granted.1 e.build_stays ∙ m.build;
        only_these_operations = at_ok _ _ _ _ granted.1 e.only_these_operations ∙ ap (judged_state (build_of p)) m.state ∙ ap (λ B. judged_state B (new_state B)) m.build;
      };
      refused_leaves_the_chart = bytes.size;
      records_handed_back = c.in_ok-array.ensures.untouched_without_memory;
      untouched_without_memory = omega arith;
    }
