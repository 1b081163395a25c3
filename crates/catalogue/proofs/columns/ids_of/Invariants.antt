use Rattle.std.proofs.Common.{◌≡◌, take, drop}
use Rattle.std.specs.Prelude.{find}
use Rattle.catalogue.specs.Refusing.{no_such_column, column_ids}
use Rattle.catalogue.proofs.columns.ids_of.Given as goal

abbrev pub invariant-loop-name : goal.invariant-loop-name
invariant-loop-name l = record {
  ids : l.ids ≡ column_ids l.columns (take l.name-index l.names);
  known : find (no_such_column l.columns) l.names ≡ find (no_such_column l.columns) (drop l.name-index l.names);
}
