-- A block whose atoms and places are so few that 16 bits number them.
use Rattle.std.specs.Prelude.{◌<◌, length}
use Rattle.beas_core.specs.declared.query.Block.{Block}
use Rattle.beas_core.specs.Classes.{places_of}

pub record HasFewPlaces (block : Block) : Type 0 where
  pub atoms : length block.atoms < 65536
  pub places : length (places_of block.atoms) < 65536
