use Rattle.std.proofs.Common.{map, ap, ◌∙◌}
use Rattle.name_resolution.specs.Binding.{delete_block}
use Rattle.name_resolution.specs.LookedUp.{atom_of}
use Rattle.name_resolution.specs.Meanings.{sources, meaning}
use Rattle.name_resolution.specs.Scopes.{told_by}
use Rattle.name_resolution.proofs.DeleteFacts.{no_kinds}
use Rattle.name_resolution.proofs.LookedUpFacts.{looked_up_is}
use Rattle.name_resolution.proofs.deleting.look_up_over.Goals as goal

pub returns-in-Ok-clause-block : goal.returns-in-Ok-clause-block
returns-in-Ok-clause-block c = λ table is.
    let block = delete_block table c.args.conditions.now in
    looked_up_is c.args.catalogue.now block (told_by c.in_ok-names.names) (λ ref. c.in_ok-names.ensures.names ref
    ∙ ap (λ items. meaning (sources c.args.catalogue.now items) ref) is)
    c.in-Ok.atoms c.new.result c.new-in-Ok.result c.in_ok-conditions.conditions
    (c.in-Ok.ensures ∙ ap (map (atom_of c.args.catalogue.now)) is) c.new.ensures
    (no_kinds c.args.catalogue.now block.from_items c.new.result c.new-in-Ok.result c.new.ensures c.new-in-Ok.ensures) c.in_ok-conditions.ensures
