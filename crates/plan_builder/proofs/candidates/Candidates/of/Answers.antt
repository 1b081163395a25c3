use Rattle.std.proofs.Common.{◌∙◌, ap, false, map, replicate}
use Rattle.attribute_closure.specs.Uses.{as_use}
use Rattle.plan_builder.proofs.CandidateFacts.{uses_inside}
use Rattle.plan_builder.proofs.candidates.Candidates.of.Goals as goal

pub take_set-requires-clause-atoms : goal.take_set-requires-clause-atoms
take_set-requires-clause-atoms c =
    uses_inside c.args.block.now c.args.accesses.now (map as_use c.in_ok-keys.keys.uses) c.in_ok-keys.ensures.uses

pub take_set-requires-clause-served : goal.take_set-requires-clause-served
take_set-requires-clause-served c =
    c.in_ok-served.ensures.items_if_clones_equal (λ y h. h) ∙ ap (λ n. replicate n false) c.len.ensures
