-- What the planes of a word mean.
use Rattle.std.specs.Prelude.{ℕ, Bool, false, cond, not, ◌&&◌, ◌||◌, nat_lt}
use Rattle.cam.specs.Bits.{bit}
use Rattle.cam.specs.declared.defect.Storage.{Storage}
use Rattle.cam.specs.declared.defect.Storage.TheVariants.{Good, Sa0, Sa1, NoRise, NoFall}
use Rattle.planes.specs.declared.word.WordRecord.{WordRecord}

abbrev pub storage_of : WordRecord → ℕ → Storage
storage_of r j =
    cond (bit r.sa0 j) Sa0
    (cond (bit r.sa1 j) Sa1 (cond (bit r.norise j) NoRise (cond (bit r.nofall j) NoFall Good)))

abbrev pub wrong_of : WordRecord → ℕ → Bool → Bool → Bool
wrong_of r j h b =
    cond h (cond b (bit r.wrong11 j) (bit r.wrong10 j)) (cond b (bit r.wrong01 j) (bit r.wrong00 j))

-- what column j of the w columns holds: an sa0 cell 0 and an sa1 cell 1, whatever is stored
abbrev pub shown : ℕ → WordRecord → ℕ → Bool
shown w r j = nat_lt j w && ((bit r.held j || bit r.sa1 j) && not (bit r.sa0 j))

-- a stuck mark is clear, whatever is stored
abbrev pub mark_of : WordRecord → Bool
mark_of r = r.mark && not r.stuck

-- no bit, no mark, no defect
abbrev pub blank_record : WordRecord
blank_record =
    record {
      held = 0;
      mark = false;
      stuck = false;
      sa0 = 0;
      sa1 = 0;
      norise = 0;
      nofall = 0;
      wrong00 = 0;
      wrong01 = 0;
      wrong11 = 0;
      wrong10 = 0;
    }

-- the record with its defects alone
abbrev pub defects : WordRecord → WordRecord
defects r =
    record {
      held = 0;
      mark = false;
      stuck = r.stuck;
      sa0 = r.sa0;
      sa1 = r.sa1;
      norise = r.norise;
      nofall = r.nofall;
      wrong00 = r.wrong00;
      wrong01 = r.wrong01;
      wrong11 = r.wrong11;
      wrong10 = r.wrong10;
    }
