-- What is fetched for a query, and what a cursor is seen as.
--     BlockFetched                   a pair that was fetched, with the number of its block
--     probed fetched                 the probes that were made for these pairs
--     AllAgree w prepared fetched    the world has for each pair's step the constraint that was fetched, and for its key these tuples
--     reads_fetched fetched          what these probes counted
--     probes_due w prepared          the probes of the query over a world
--     share_of w prepared p          what one of them counts
--     IsWorld w prepared             the query fits the world, and the constraints of its derivations hold there
--     Seen                           what a cursor is seen as
use Rattle.std.specs.Prelude.{Bool, ℕ, List, length, map, max, sum_by, Contains, Option, refl}
use Rattle.std.specs.Coded.{Coded, code_by, coded×, coded_ℕ, coded_bool, coded_list, coded_option}
use Rattle.beas_core.specs.contracts.value.Value.{the_row as value_row}
use Rattle.beas_core.specs.contracts.schema.Access.{the_row as access_row}
use Rattle.beas_core.specs.contracts.plan.Prepared.{the_row as prepared_row}
use Rattle.beas_core.specs.declared.schema.Access.{Access}
use Rattle.beas_core.specs.declared.plan.DStep.{DStep}
use Rattle.beas_core.specs.declared.plan.Prepared.{Prepared}
use Rattle.beas_core.specs.Types.{Row}
use Rattle.beas_core.specs.Fits.{Fits, StepsHold}
use Rattle.beas_core.specs.Queries.{BlockProbe, plan_of, query_probes, query_reads, reads_at}
use Rattle.block_walk.specs.Worlds.{World, Fetched, Agrees}

pub record BlockFetched : Type 0 where
  pub block : ℕ
  pub pair : Fetched

abbrev pub probe_of : BlockFetched → BlockProbe
probe_of f = record { block = f.block; probe = f.pair.probe }

abbrev pub probed : List BlockFetched → List BlockProbe
probed fetched = map probe_of fetched

abbrev pub steps_of : Prepared → ℕ → List DStep
steps_of prepared n = (plan_of prepared.derivations n).steps

abbrev pub AllAgree : World → Prepared → List BlockFetched → Type 0
AllAgree w prepared fetched = (f : BlockFetched) → Contains fetched f → Agrees w (steps_of prepared f.block) f.pair

abbrev pub reads_fetched : List BlockFetched → ℕ
reads_fetched fetched = sum_by (λ f. max 1 (length f.pair.tuples)) fetched

abbrev pub probes_due : World → Prepared → List BlockProbe
probes_due w prepared = query_probes w.rows w.accesses prepared.guided prepared.derivations prepared.query

abbrev pub share_of : World → Prepared → BlockProbe → ℕ
share_of w prepared p = reads_at w.rows w.accesses prepared.derivations p

-- the sum of the shares
abbrev pub reads_due : World → Prepared → ℕ
reads_due w prepared = query_reads w.rows w.accesses prepared.guided prepared.derivations prepared.query

pub record IsWorld (w : World) (prepared : Prepared) : Type 0 where
  pub fits : Fits w.accesses w.rows prepared
  pub hold : (n : ℕ) → StepsHold w.rows w.accesses (steps_of prepared n)

-- `answer` is there where the cursor is whole
pub record Seen : Type 0 where
  pub prepared : Prepared
  pub fetched : List BlockFetched
  pub reads : ℕ
  pub failed : Bool
  pub answer : Option (List Row)

-- how one is stored: as the pairs of its fields
abbrev pub coded_fetched : Coded BlockFetched
coded_fetched = code_by (ℕ × ((ℕ × Row) × (Access × List Row)))
    (coded× coded_ℕ (coded× (coded× coded_ℕ (coded_list value_row.coded)) (coded× access_row.coded (coded_list (coded_list value_row.coded)))))
    (λ f. (f.block, ((f.pair.probe.step, f.pair.probe.key), (f.pair.access, f.pair.tuples))))
    (λ p. record { block = p.0; pair = record { probe = record { step = p.1.0.0; key = p.1.0.1 }; access = p.1.1.0; tuples = p.1.1.1 } }) (λ _. refl)

abbrev pub coded_seen : Coded Seen
coded_seen = code_by (Prepared × (List BlockFetched × (ℕ × (Bool × Option (List Row)))))
    (coded× prepared_row.coded (coded× (coded_list coded_fetched)
    (coded× coded_ℕ (coded× coded_bool (coded_option (coded_list (coded_list value_row.coded)))))))
    (λ h. (h.prepared, (h.fetched, (h.reads, (h.failed, h.answer)))))
    (λ p. record { prepared = p.0; fetched = p.1.0; reads = p.1.1.0; failed = p.1.1.1.0; answer = p.1.1.1.1 }) (λ _. refl)
