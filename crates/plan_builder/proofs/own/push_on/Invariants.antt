use Rattle.std.proofs.Common.{◌≡◌, ◌++◌, take}
use Rattle.catalogue.specs.Schema.{accesses_on}
use Rattle.plan_builder.proofs.own.push_on.Given as goal

-- the table's first constraints are there
abbrev pub invariant-loop-k : goal.invariant-loop-k
invariant-loop-k l = l.found ≡ l.initial.found ++ take l.k (accesses_on l.catalogue.accesses l.fn.table)
