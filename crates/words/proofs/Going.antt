-- A cursor that stays, or goes on and then further on. Assumes nothing.
use Rattle.std.proofs.Common.{◌∙◌, refl, arith}
use Rattle.words.specs.declared.cursor.Cursor.{Cursor}
use Rattle.words.specs.Going.{GoesOn}

pub stays_there : (a : Cursor) → GoesOn a a
stays_there a = record { text_stays = refl; place = omega arith }

pub goes_further : {a b c : Cursor} → GoesOn a b → GoesOn b c → GoesOn a c
goes_further x y = record { text_stays = y.text_stays ∙ x.text_stays; place = omega (arith, x.place, y.place) }
