use Rattle.std.proofs.Common.{◌≡◌, ◌++◌, drop, map}
use Rattle.std.specs.List.{enumerate_from}
use Rattle.json.specs.Tree.{items_tokens, json_tokens}
use Rattle.json.specs.Value.{items_of}
use Rattle.plan_data.specs.PlanValue.{list_of, numbered_value}
use Rattle.plan_data.proofs.plan.write_blocks.Given as goal

-- the tokens so far and then those of the blocks left are the whole
abbrev pub invariant-loop-n : goal.invariant-loop-n
invariant-loop-n l =
    l.out ++ items_tokens (items_of (map (numbered_value l.catalogue l.prepared) (enumerate_from l.n (drop l.n l.prepared.normals))))
    ≡ l.fn.out ++ json_tokens (list_of (map (numbered_value l.catalogue l.prepared) (enumerate_from 0 l.prepared.normals)))
