-- A prepared query that fits goes on fitting with more constraints live.
use Rattle.std.proofs.Common.{List}
use Rattle.std.specs.Prelude.{Contains}
use Rattle.beas_core.specs.declared.schema.Access.{Access}
use Rattle.beas_core.specs.declared.plan.Prepared.{Prepared}
use Rattle.beas_core.specs.Types.{TableRows}
use Rattle.beas_core.specs.Shapes.{EachIdOnce}
use Rattle.beas_core.specs.Fits.{Fits}
use Rattle.beas_core.proofs.MoreAccesses.{keeps_more}
use Rattle.beas_core.proofs.QueryBounds.{prepared_is_live}
use Rattle.beas_core.proofs.KeptFacts.{rows_kept, stays_fit}

pub still_fits : (few many : List Access) → EachIdOnce many → ((access : Access) → Contains few access → Contains many access)
    → (rows : TableRows) (prepared : Prepared) → Fits few rows prepared → Fits many rows prepared
still_fits few many once within rows prepared fits = stays_fit few many rows rows prepared
    (keeps_more few many once within prepared.derivations (prepared_is_live few prepared fits.plan)) (rows_kept rows prepared.query) fits
