-- Rows and constraints as a port has them, and what was fetched of them.
--     World                 the rows of each table, and the live constraints
--     Fetched               a probe that was made: its step and key, with the constraint of the step and the tuples found
--     Agrees w steps f      the world has for the step the constraint that was fetched, and for the key these tuples
--     probe_cmp p q         how two probes are ordered: by step and then key
--     in_order fetched      what was fetched, in the order of its probes by step and key; `put_in` adds one at its place
use Rattle.std.specs.Prelude.{◌≡◌, List, [], ◌∷◌, map, Contains}
use Rattle.std.specs.List.{fold}
use Rattle.std.specs.Ordering.{nat_cmp, ordering_then}
use Rattle.std.specs.declared.cmp.Ordering.{Ordering}
use Rattle.beas_core.specs.declared.schema.Access.{Access}
use Rattle.beas_core.specs.declared.plan.DStep.{DStep}
use Rattle.beas_core.specs.Types.{Row, TableRows}
use Rattle.beas_core.specs.Groups.{group_of}
use Rattle.beas_core.specs.Order.{row_cmp}
use Rattle.beas_core.specs.Reads.{Probe, access_of_step}
use Rattle.beas_core.specs.Sets.{by_order}

pub record World : Type 0 where
  pub rows : TableRows
  pub accesses : List Access

abbrev pub world : TableRows → List Access → World
world rows accesses = record { rows = rows; accesses = accesses }

pub record Fetched : Type 0 where
  pub probe : Probe
  pub access : Access
  pub tuples : List Row

abbrev pub made : List Fetched → List Probe
made fetched = map (λ f. f.probe) fetched

pub record Agrees (w : World) (steps : List DStep) (f : Fetched) : Type 0 where
  pub access : access_of_step w.accesses steps f.probe.step ≡ f.access
  pub tuples : group_of (w.rows f.access.table) f.access f.probe.key ≡ f.tuples

abbrev pub AgreesWith : World → List DStep → List Fetched → Type 0
AgreesWith w steps fetched = (f : Fetched) → Contains fetched f → Agrees w steps f

abbrev pub probe_cmp : Probe → Probe → Ordering
probe_cmp p q = ordering_then (nat_cmp p.step q.step) (row_cmp p.key q.key)

abbrev pub put_in : Fetched → List Fetched → List Fetched
put_in f [] = f ∷ []
put_in f (g ∷ gs) = by_order (probe_cmp f.probe g.probe) (f ∷ g ∷ gs) (f ∷ g ∷ gs) (g ∷ put_in f gs)

abbrev pub in_order : List Fetched → List Fetched
in_order fetched = fold (λ fs f. put_in f fs) [] fetched
