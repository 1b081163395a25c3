use Rattle.std.proofs.Common.{◌≡◌, drop}
use Rattle.beas_core.specs.Derivations.{access_in, is_live}
use Rattle.bound_calculator.proofs.bounds.access_by_walk.Given as goal

abbrev pub invariant-loop-access : goal.invariant-loop-access
invariant-loop-access l = record {
  found : access_in l.accesses l.id ≡ access_in (drop l.access-index l.accesses) l.id;
  live : is_live l.accesses l.id ≡ is_live (drop l.access-index l.accesses) l.id;
}
