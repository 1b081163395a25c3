-- The rows of the store as those of its database.
use Rattle.std.proofs.Common.{◌≡◌, List, length, sym}
use Rattle.std.proofs.Math.Path.{fun_ext}
use Rattle.beas_core.specs.Types.{Row}
use Rattle.catalogue.specs.Schema.{Schema}
use Rattle.catalogue.specs.Database.{rows_at}
use Rattle.catalogue.specs.Stored.{database_of}
use Rattle.catalogue.proofs.StoredFacts.{rows_at_stored}
use Rattle.reference_evaluation.specs.Tables.{rows_in}

pub rows_are_stored : (schema : Schema) (rows : List (List Row)) → length rows ≡ length schema.tables → rows_in rows ≡ rows_at (database_of schema rows)
rows_are_stored schema rows e = fun_ext (λ id. sym (rows_at_stored schema rows id e))
