use Rattle.std.proofs.Common.{◌≡◌, fold, map, take}
use Rattle.attribute_closure.specs.Uses.{as_use}
use Rattle.specialise.specs.Trials.{rule_of, with_rule}
use Rattle.specialise.proofs.rules.add_rules.Given as goal

abbrev pub invariant-loop-use_at : goal.invariant-loop-use_at
invariant-loop-use_at l = l.table ≡ fold with_rule l.fn.table (map (rule_of l.block l.candidates) (map as_use (take l.use_at-index l.found)))
