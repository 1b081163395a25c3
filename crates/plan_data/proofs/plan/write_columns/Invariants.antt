use Rattle.std.proofs.Common.{◌≡◌, ◌++◌, drop, map}
use Rattle.json.specs.Tree.{items_tokens, json_tokens}
use Rattle.json.specs.Value.{items_of}
use Rattle.plan_data.specs.PlanValue.{column_value, list_of}
use Rattle.plan_data.proofs.plan.write_columns.Given as goal

-- the tokens so far and then those of the ids left are the whole
abbrev pub invariant-loop-id : goal.invariant-loop-id
invariant-loop-id l =
    l.out ++ items_tokens (items_of (map (column_value l.columns) (drop l.id-index l.ids)))
    ≡ l.fn.out ++ json_tokens (list_of (map (column_value l.columns) l.ids))
