use Rattle.std.proofs.Common.{◌≡◌, take, false}
use Rattle.std.specs.List.{list_any}
use Rattle.name_resolution.specs.Refusing.{condition_has_flaw}
use Rattle.name_resolution.proofs.refusing.any_condition_has_flaw.Given as goal

abbrev pub invariant-loop-condition : goal.invariant-loop-condition
invariant-loop-condition l = list_any (condition_has_flaw l.limit) (take l.condition-index l.conditions) ≡ false
