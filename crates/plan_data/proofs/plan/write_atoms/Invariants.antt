use Rattle.std.proofs.Common.{◌≡◌, ◌++◌, drop, map}
use Rattle.json.specs.Tree.{items_tokens, json_tokens}
use Rattle.json.specs.Value.{items_of}
use Rattle.plan_data.specs.PlanValue.{atom_value, list_of}
use Rattle.plan_data.proofs.plan.write_atoms.Given as goal

-- the tokens so far and then those of the atoms left are the whole
abbrev pub invariant-loop-atom : goal.invariant-loop-atom
invariant-loop-atom l =
    l.out ++ items_tokens (items_of (map (atom_value l.catalogue) (drop l.atom-index l.atoms)))
    ≡ l.fn.out ++ json_tokens (list_of (map (atom_value l.catalogue) l.atoms))
