use Rattle.std.proofs.Common.{◌≡◌, ◌++◌, drop, map}
use Rattle.json.specs.Tree.{items_tokens, json_tokens}
use Rattle.json.specs.Value.{items_of}
use Rattle.plan_data.specs.PlanValue.{step_value, list_of}
use Rattle.plan_data.proofs.plan.write_steps.Given as goal

-- the tokens so far and then those of the steps left are the whole
abbrev pub invariant-loop-step : goal.invariant-loop-step
invariant-loop-step l =
    l.out ++ items_tokens (items_of (map (step_value l.catalogue) (drop l.step-index l.steps)))
    ≡ l.fn.out ++ json_tokens (list_of (map (step_value l.catalogue) l.steps))
