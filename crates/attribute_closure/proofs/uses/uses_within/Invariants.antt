use Rattle.std.proofs.Common.{◌≡◌, ◌≤◌, length, map, take}
use Rattle.std.specs.List.{flat_map, enumerate_from}
use Rattle.attribute_closure.specs.Uses.{as_use}
use Rattle.attribute_closure.proofs.Listed.{uses_on}
use Rattle.attribute_closure.proofs.uses.uses_within.Given as goal

abbrev pub invariant-loop-number : goal.invariant-loop-number
invariant-loop-number l = record {
  uses : map as_use (take l.count l.found) ≡ flat_map (uses_on l.accesses) (take l.number (enumerate_from 0 l.block.atoms));
  within : l.count ≤ length l.found;
  len : length l.found ≡ length l.initial.found;
}
