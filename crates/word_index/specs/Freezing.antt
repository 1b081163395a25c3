-- A frozen table as the part that it is, and what hits stand for in it.
--     part_in frozen                    the part
--     members_in frozen found           the tuples that hits stand for, in the index of their constraint
--     stands_in frozen found            hits stand for tuples of that index as it is
use Rattle.std.specs.Prelude.{List}
use Rattle.beas_core.specs.Found.{Found}
use Rattle.beas_core.specs.Types.{Row}
use Rattle.access_index.specs.Index.{members_at, stands_at}
use Rattle.update_guard.specs.Stored.{index_with_id}
use Rattle.word_index.specs.Parts.{Part}
use Rattle.word_index.specs.declared.frozen.Frozen.{Frozen}

abbrev pub part_in : Frozen → Part
part_in frozen = record { table = frozen.table; rows = frozen.rows; accesses = frozen.accesses }

abbrev pub members_in : Frozen → Found → List Row
members_in frozen found = members_at (index_with_id frozen.indexes found.access) found

abbrev pub stands_in : Frozen → Found → Type 0
stands_in frozen found = stands_at (index_with_id frozen.indexes found.access) found
