use Rattle.std.proofs.Common.{◌≡◌, ◌∙◌, map, Bor, ap}
use Rattle.beas_core.specs.declared.query.Block.{Block}
use Rattle.named_cases.proofs.RightQueries.{over, well_formed}
use Rattle.named_cases.proofs.shapes.is_right.Goals as goal

pub returns-in-len1-up-clause-well_formed : goal.returns-in-len1-up-clause-well_formed
returns-in-len1-up-clause-well_formed c =
    λ yes. well_formed c.args.guarded.now.catalogue c.len-in-len1-up.result c.args.query.now c.as_slice-in-len1-up.result.now
    (ap (map (λ (b : Bor Block). b.now)) c.as_slice-in-len1-up.ensures ∙ c.in_ok-found.ensures) (c.are_blocks.ensures yes)

pub returns-in-len1-up-clause-over : goal.returns-in-len1-up-clause-over
returns-in-len1-up-clause-over c =
    λ yes. over c.args.guarded.now.catalogue c.len-in-len1-up.result c.args.query.now c.as_slice-in-len1-up.result.now
    (ap (map (λ (b : Bor Block). b.now)) c.as_slice-in-len1-up.ensures ∙ c.in_ok-found.ensures) (c.are_blocks.ensures yes)
