-- The block of a query of one block is well-formed where the query is.
use Rattle.std.proofs.Common.{[], length, ◌<◌}
use Rattle.std.proofs.lemmas.List.Elements.{All-head}
use Rattle.beas_core.specs.declared.query.Block.{Block}
use Rattle.beas_core.specs.Shapes.{BlockIsWellFormed, QueryIsWellFormed}
use Rattle.beas_core.specs.Trees.{Single}

pub alone : (block : Block) → QueryIsWellFormed (Single block) → BlockIsWellFormed block
alone block well = All-head BlockIsWellFormed block [] well.blocks
