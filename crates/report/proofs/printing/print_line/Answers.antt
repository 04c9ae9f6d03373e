use Rattle.std.proofs.Common.{Ok, Err, Result, OnOk, of_calls, sym, arith}
use Rattle.std.proofs.lemmas.Grind.{common_steps}
use Rattle.report.proofs.printing.print_line.Goals as goal

on_ok : {X E : Type 0} (P Q : Type 0) (r : Result X E) → (P → Q) → OnOk r P → OnOk r Q
on_ok P Q (Ok x) f p = f p
on_ok P Q (Err e) f p = p

pub unwrap-length-requires : goal.unwrap-length-requires
unwrap-length-requires g c = c.requires.granted c.make.result c.make.new.arg2 (search of_calls)

pub returns : goal.returns
returns g c = record {
  line_appended = on_ok _ _ c.write_all.result (λ a. (c.unwrap-length.result, c.make.new.arg2, rw (sym c.unwrap-length.ensures) (search of_calls), grind (arith, a, c.make.auto, c.min.ensures, common_steps))) c.write_all.ensures.bytes;
}
