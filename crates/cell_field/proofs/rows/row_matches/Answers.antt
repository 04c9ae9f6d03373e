use Rattle.std.proofs.Common.{◌||◌, ◌∙◌, rules, tests}
use Rattle.std.proofs.lemmas.Iterator.{YieldsList-from_slice}
use Rattle.std.proofs.lemmas.Iterator.Consumers.{YieldsList-from_enumerate}
use Rattle.std.proofs.lemmas.Iterator.Search.{all_from_yields_List}
use Rattle.cam.specs.Bits.{bit}
use Rattle.cells.specs.Meaning.{answers_to}
use Rattle.cell_field.proofs.Chains.{all_columns}
use Rattle.cell_field.proofs.rows.row_matches.Goals as goal

pub returns : goal.returns
returns g c =
    let f = g.C.CellKind.meaning in
    let p = c.args.pattern in
    let m = c.args.mask in
    record {
      each_cell_matches =
          all_from_yields_List (λ e. bit m e.0 || answers_to (f e.1) (bit p e.0)) _ _ _ c.all.ensures.ran
          (YieldsList-from_enumerate (YieldsList-from_slice c.args.row.now cc) cc)
          (λ x b q k. search (rules, tests))
          ∙ all_columns f (λ j e. bit m j || answers_to e (bit p j)) c.args.row.now;
    }
