use Rattle.std.proofs.Common.{◌≡◌, take, false}
use Rattle.std.specs.List.{list_any}
use Rattle.name_resolution.specs.Refusing.{has_flaw}
use Rattle.name_resolution.proofs.refusing.any_item_has_flaw.Given as goal

abbrev pub invariant-loop-item : goal.invariant-loop-item
invariant-loop-item l = list_any (has_flaw l.limit) (take l.item-index l.items) ≡ false
