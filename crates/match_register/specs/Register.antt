-- What a match register means: its size and defects, its held bits and mark, and why it is well formed.
use Rattle.std.specs.Prelude.{◌≡◌, min, Bool, true, false, ◌&&◌, ◌==◌, nat_lt, refl}
use Rattle.std.proofs.Common.{sym, ap, arith}
use Rattle.std.proofs.lemmas.Bool.{true≢false, and_parts, and_right}
use Rattle.cam.specs.Bits.{bit}
use Rattle.cam.specs.Defects.{is_good}
use Rattle.cam.specs.Model.{Build, State, WellFormed, tally_cap}
use Rattle.cam.specs.declared.mark.Mark.{Mark}
use Rattle.cam.specs.declared.mark.Mark.TheVariants.{Clear, Set, Stuck}
use Rattle.cam.specs.Mark.{is_set, is_stuck}
use Rattle.cam.specs.declared.defect.Storage.TheVariants.{Good}
use Rattle.match_register.specs.declared.register.MatchRegister.{MatchRegister}

-- one word of eight good cells; its mark may be stuck
abbrev pub made_build : Bool → Build
made_build stuck =
    record {
      words = 1;
      width = 8;
      storage = λ k j. Good;
      wrong = λ k j h b. false;
      stuck = λ k. (k == 0) && stuck;
    }

abbrev pub register_build : MatchRegister → Build
register_build r = made_build (is_stuck r.mark)

abbrev pub register_state : MatchRegister → State
register_state r =
    record {
      held = λ k j. (k == 0 && nat_lt j 8) && bit r.held j;
      mark = λ k. (k == 0) && is_set r.mark;
      tally = min r.tally tally_cap;
    }

stuck_clear : (m : Mark) → is_stuck m ≡ true → is_set m ≡ false
stuck_clear Clear e = refl
stuck_clear Set e = absurd (true≢false (sym e))
stuck_clear Stuck e = refl

pub register_formed : (r : MatchRegister) → WellFormed (register_build r) (register_state r)
register_formed r =
    record {
      few_words = omega arith;
      some_bits = omega arith;
      few_bits = omega arith;
      tally_within = omega arith;
      steady = record {
        low = λ k j hk hj e. absurd (true≢false (ap is_good e));
        high = λ k j hk hj e. absurd (true≢false (ap is_good e));
        clear = λ k hk e. and_right (k == 0) _ (stuck_clear r.mark (and_parts (k == 0) (is_stuck r.mark) e).1);
      };
    }
