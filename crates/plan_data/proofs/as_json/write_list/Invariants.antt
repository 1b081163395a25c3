use Rattle.std.proofs.Common.{◌≡◌, ◌++◌, drop, map}
use Rattle.json.specs.Tree.{items_tokens, json_tokens}
use Rattle.json.specs.Value.{items_of}
use Rattle.plan_data.specs.PlanValue.{list_of}
use Rattle.plan_data.proofs.as_json.write_list.Given as goal

-- the tokens so far and then those of the items left are the whole
abbrev pub invariant-loop-item : goal.invariant-loop-item
invariant-loop-item g l =
    l.out ++ items_tokens (items_of (map g.T.AsJson.json (drop l.item-index l.items)))
    ≡ l.fn.out ++ json_tokens (list_of (map g.T.AsJson.json l.items))
