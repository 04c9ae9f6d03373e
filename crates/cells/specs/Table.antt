-- What a table cell means.
use Rattle.std.proofs.Common.{ap}
use Rattle.cam.specs.Defects.{in_set, settled_bit}
use Rattle.cells.specs.declared.table.TableCell.{TableCell}
use Rattle.cells.specs.Meaning.{CellMeaning, SteadyCell}

-- An sa0 cell means 0 and an sa1 cell 1, whatever bit is stored.
abbrev pub table_meaning : TableCell → CellMeaning
table_meaning c =
    record { held = settled_bit c.storage c.held; storage = c.storage; wrong = in_set c.wrong_set }

pub table_steady : (c : TableCell) → SteadyCell (table_meaning c)
table_steady c =
    record { low = λ e. ap (λ s. settled_bit s c.held) e; high = λ e. ap (λ s. settled_bit s c.held) e }
