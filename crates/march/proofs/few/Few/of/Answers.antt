use Rattle.std.proofs.Common.{length, sym, ap, ◌∙◌, arith}
use Rattle.std.proofs.lemmas.List.{length-take}
use Rattle.march.specs.Lists.{capacity}
use Rattle.march.proofs.Lists.{fitted}
use Rattle.march.proofs.few.Few.of.Goals as goal

pub returns : goal.returns
returns g c =
    let xs = c.args.items.now in
    let n = c.min-count.result in
    let fit = fitted g.row.N n xs c.copy_from_slice.new.self _ (omega arith) c.copy_from_slice.ensures.after in
    record { as_many_as_fit = fit; counted = sym (ap length fit ∙ omega (arith, length-take (capacity g.row.N) xs)) }
