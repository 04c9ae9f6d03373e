-- What a cell means, whatever it is built of.
use Rattle.std.specs.Prelude.{◌≡◌, Bool, true, false}
use Rattle.cam.specs.Model.{put, agrees}
use Rattle.cam.specs.declared.defect.Storage.{Storage}
use Rattle.cam.specs.declared.defect.Storage.TheVariants.{Sa0, Sa1}

pub record CellMeaning : Type 0 where
  pub held : Bool
  pub storage : Storage
  -- of a held bit and a comparand bit: whether the pair is in the wrong set
  pub wrong : Bool → Bool → Bool

-- an sa0 cell holds 0, an sa1 cell holds 1
pub record SteadyCell (m : CellMeaning) : Type 0 where
  pub low : m.storage ≡ Sa0 → m.held ≡ false
  pub high : m.storage ≡ Sa1 → m.held ≡ true

-- the cell after a write of b: its storage decides what it holds, and nothing else changes
abbrev pub taken : Bool → CellMeaning → CellMeaning
taken b m = record { held = put m.storage m.held b; storage = m.storage; wrong = m.wrong }

-- whether the cell answers the comparand bit b as a match
abbrev pub answers_to : CellMeaning → Bool → Bool
answers_to m b = agrees m.wrong m.held b
