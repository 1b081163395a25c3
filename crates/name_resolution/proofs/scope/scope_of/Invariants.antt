use Rattle.std.proofs.Common.{take}
use Rattle.name_resolution.specs.Meanings.{sources}
use Rattle.name_resolution.specs.Scopes.{IsScope}
use Rattle.name_resolution.proofs.AliasFacts.{OnceBelow}
use Rattle.name_resolution.proofs.scope.scope_of.Given as goal

-- the atoms so far, none of whose aliases stands twice
abbrev pub invariant-loop-atom : goal.invariant-loop-atom
invariant-loop-atom l = record {
  so_far : IsScope (sources l.catalogue (take l.atom l.items)) l.scope;
  once : OnceBelow l.items l.atom;
}
