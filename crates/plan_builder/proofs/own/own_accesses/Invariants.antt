use Rattle.std.proofs.Common.{◌≡◌, take}
use Rattle.plan_builder.specs.Own.{own_accesses}
use Rattle.plan_builder.proofs.own.own_accesses.Given as goal

-- those on the tables of the first atoms
abbrev pub invariant-loop-atom : goal.invariant-loop-atom
invariant-loop-atom l = l.own ≡ own_accesses l.catalogue.accesses (take l.atom-index l.block.atoms)
