-- An array text without a defect line describes a sound array, and no other does; no array is too large for a bench.
use Rattle.std.proofs.Common.{◌≡◌, ℕ, ◌+◌, ◌*◌, ◌≤◌, false, ◌↔◌, List, [], ◌∷◌, sym, refl, ap, ◌∙◌, subst, mul-le-mul, arith}
use mathlib.Core.List.Memᴰ
use Rattle.std.proofs.lemmas.Bool.{true≢false, le-leb}
use Rattle.cam.specs.declared.defect.StorageDefect.{StorageDefect}
use Rattle.cam.specs.declared.defect.StorageDefect.TheVariants as defect
use Rattle.cam.specs.Model.{Build, State}
use Rattle.cam.specs.Defects.{Sound, storage_with, is_good}
use Rattle.cam.specs.Refusals.{first_no}
use Rattle.cam.proofs.Asking.{both_yes}
use Rattle.bench.specs.Judging.{judge_questions}
use Rattle.bench.specs.Questions.{run_length, chart_length, limit}
use Rattle.array_lines.specs.declared.cell.Defect.{Defect}
use Rattle.array_lines.specs.declared.cell.Defect.TheVariants.{Storage, Wrong, Mark}
use Rattle.array_text.specs.Meaning.{build_with, AllInside, Exactly}
use Rattle.array_text.specs.Grammar.{Memory}
use Rattle.array_text.proofs.Ones.{memory_one, call_one}
use Rattle.words.proofs.Rules.{One, then_one}
use Rattle.text_judge.specs.Judging.{JudgeCall}

not_good : (s : StorageDefect) → is_good (storage_with s) ≡ false
not_good defect.Sa0 = refl
not_good defect.Sa1 = refl
not_good defect.NoRise = refl
not_good defect.NoFall = refl

-- a sound array has no defect of the list
none : (ds : List Defect) (B : Build) → AllInside B.words B.width ds → Exactly ds B → Sound B → ds ≡ []
none [] B i e s = refl
none (Storage c t ∷ ds) B i e s =
    let bad = (e.storage c.word.number c.column.number t).1 (Memᴰ.head refl) in
    absurd (true≢false (ap is_good (sym (s.good c.word.number c.column.number i.0.0 i.0.1) ∙ bad) ∙ not_good t))
none (Wrong c p ∷ ds) B i e s =
    absurd (true≢false (sym ((e.wrong c.word.number c.column.number p.held p.comparand).1 (Memᴰ.head refl)) ∙ s.right c.word.number c.column.number i.0.0 i.0.1 p.held p.comparand))
none (Mark a ∷ ds) B i e s =
    absurd (true≢false (sym ((e.stuck a.number).1 (Memᴰ.head refl)) ∙ s.free a.number i.0))

no_line : (N W : ℕ) → Sound (build_with N W [])
no_line N W = record { good = λ k j p q. refl; right = λ k j p q h b. refl; free = λ k p. refl }

pub sound_without_lines : (N W : ℕ) (ds : List Defect) → AllInside N W ds → Exactly ds (build_with N W ds) → Sound (build_with N W ds) ↔ (ds ≡ [])
sound_without_lines N W ds i e = (none ds (build_with N W ds) i e, λ n. subst (λ ds. Sound (build_with N W ds)) (sym n) (no_line N W))

-- the questions of the judging are all answered yes
pub judging_granted : (B : Build) (S : State) (bytes : ℕ) → B.words ≤ 256 → B.width ≤ 64 → S.tally ≡ 0 → 16384 ≤ bytes → first_no (judge_questions B S bytes) ≡ 0
judging_granted B S bytes n w t room =
    let cells : B.words * B.width ≤ 256 * 64 = mul-le-mul n w in
    let columns : 8 + 4 * B.width ≤ 264 = omega arith in
    let charting : B.words * (8 + 4 * B.width) ≤ 256 * 264 = mul-le-mul n columns in
    both_yes _ _ 57 54 (le-leb (B.words * B.width) bytes (omega arith)) (le-leb (S.tally + (run_length B + chart_length B)) limit (omega arith))

pub judge_one : (records bytes : ℕ) (text : List ℕ) → One (JudgeCall records bytes text)
judge_one records bytes text = then_one (Memory 16384 bytes) _ (memory_one 16384 bytes) (λ _. call_one records text)
