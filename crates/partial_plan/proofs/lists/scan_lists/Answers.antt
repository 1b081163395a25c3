use Rattle.std.proofs.Common.{◌∙◌, List, [], ap, map}
use Rattle.beas_core.specs.declared.query.Block.{Block}
use Rattle.beas_core.specs.declared.schema.Access.{Access}
use Rattle.partial_plan.proofs.ListFacts.{same_nones}
use Rattle.partial_plan.proofs.lists.scan_lists.Goals as goal

pub fill-requires-clause-empty : goal.fill-requires-clause-empty
fill-requires-clause-empty c =
    c.in_ok-lists.ensures ∙ ap (map (λ b. let none : List Access = [] in none)) c.as_slice.ensures
    ∙ same_nones (λ b. b.now) c.in_ok-blocks.blocks
    ∙ ap (map (λ (b : Block). let none : List Access = [] in none)) c.in_ok-blocks.ensures
