-- What a call does that puts rows into the indexes of their table, over whatever rows of all tables these are the indexes of.
--     IsRefusedOver ..      the result is the refusal of the first row that breaks a constraint after those before it, if there is one, or out of memory
--     TakeRows ..           the indexes are those of these rows too, after any rows of their table
--     StayIndexed ..        they are the indexes of the rows that they were of
--     HoldWith ..           the constraints, where they hold, hold with these rows too
use Rattle.std.specs.Prelude.{◌<◌, List, [], ◌++◌, length, slice_index_or, slice_set, Result}
use Rattle.beas_core.specs.declared.errors.Fail.{Fail}
use Rattle.beas_core.specs.declared.schema.Access.{Access}
use Rattle.beas_core.specs.declared.schema.TableId.{TableId}
use Rattle.beas_core.specs.Results.{IsRefusedAs}
use Rattle.beas_core.specs.Types.{Row}
use Rattle.access_index.specs.Index.{Index}
use Rattle.catalogue.specs.Refusing.{broken_bound}
use Rattle.catalogue.specs.Schema.{accesses_on}
use Rattle.catalogue.specs.Stored.{HoldOver}
use Rattle.update_guard.specs.Guarding.{IndexesOf}

abbrev pub IsRefusedOver : {A : Type 0} → List Access → TableId → List Row → Result A Fail → List Index → Type 0
IsRefusedOver accesses table rows result indexes =
    (all : List (List Row)) → table.0 < length all → IndexesOf accesses all indexes → HoldOver accesses all
    → IsRefusedAs result (broken_bound (accesses_on accesses table) (slice_index_or all table.0 []) rows)

abbrev pub TakeRows : List Access → TableId → List Row → List Index → List Index → Type 0
TakeRows accesses table rows old new =
    (all : List (List Row)) (front : List Row) → table.0 < length all → IndexesOf accesses (slice_set all table.0 front) old
    → IndexesOf accesses (slice_set all table.0 (front ++ rows)) new

abbrev pub StayIndexed : List Access → TableId → List Index → List Index → Type 0
StayIndexed accesses table old new =
    (all : List (List Row)) (front : List Row) → table.0 < length all → IndexesOf accesses (slice_set all table.0 front) old
    → IndexesOf accesses (slice_set all table.0 front) new

abbrev pub HoldWith : List Access → TableId → List Row → List Index → Type 0
HoldWith accesses table rows indexes =
    (all : List (List Row)) → table.0 < length all → IndexesOf accesses all indexes → HoldOver accesses all
    → HoldOver accesses (slice_set all table.0 (slice_index_or all table.0 [] ++ rows))
