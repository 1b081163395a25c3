use Rattle.std.proofs.Common.{◌≡◌, ◌≤◌, ◌==◌, ◌++◌, length, map, take}
use Rattle.std.specs.List.{filter}
use Rattle.attribute_closure.specs.Uses.{as_use}
use Rattle.attribute_closure.proofs.Listed.{use_of_access}
use Rattle.attribute_closure.proofs.uses.put_uses.Given as goal

abbrev pub invariant-loop-access : goal.invariant-loop-access
invariant-loop-access l = record {
  uses : map as_use (take l.count l.found)
      ≡ map as_use (take l.there l.initial.found)
      ++ map (use_of_access l.atom) (filter (λ access. access.table.0 == l.table.0) (take l.access-index l.accesses));
  within : l.count ≤ length l.found;
  len : length l.found ≡ length l.initial.found;
}
