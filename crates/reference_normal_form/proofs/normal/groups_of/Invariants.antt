use Rattle.std.proofs.Common.{◌≡◌, map, take}
use Rattle.reference_normal_form.specs.Joined.{joined_with}
use Rattle.reference_normal_form.proofs.normal.groups_of.Given as goal

abbrev pub invariant-loop-leader : goal.invariant-loop-leader
invariant-loop-leader l = l.groups ≡ map (joined_with l.equalities) (take l.leader-index l.leaders)
