use Rattle.std.proofs.Common.{length, sym, subst}
use Rattle.beas_core.specs.Results.{IsRefusedAs}
use Rattle.beas_core.specs.Shapes.{BlockIsWellFormed}
use Rattle.catalogue.specs.Database.{rows_at}
use Rattle.session.specs.Grouping.{first_block, grouping_refusal}
use Rattle.session.specs.Stores.{database_in}
use Rattle.session.proofs.BlockFacts.{keys_fit, of_first}
use Rattle.session.proofs.StoreFacts.{schema_is_catalogue}
use Rattle.session.proofs.grouping.refuse_grouping.Goals as goal

pub refuse_items-requires-clause-over : goal.refuse_items-requires-clause-over
refuse_items-requires-clause-over c = rw c.first_block.ensures c.requires.over

pub refuse_items-requires-clause-places : goal.refuse_items-requires-clause-places
refuse_items-requires-clause-places c =
    let query = c.args.prepared.now.query in
    let form = of_first BlockIsWellFormed query c.requires.plan.well_formed.query.blocks in
    rw c.first_block.ensures form.output

pub refuse_items-requires-clause-keys : goal.refuse_items-requires-clause-keys
refuse_items-requires-clause-keys c =
    rw c.first_block.ensures
    (keys_fit (rows_at (database_in c.args.store.now)) c.args.keys (length c.args.items.now) c.args.prepared.now.query c.requires.outputs)

pub returns : goal.returns
returns c =
    let query = c.args.prepared.now.query in
    let refused = rw (c.first_block.ensures, c.as_slice.ensures) at c.refuse_items.ensures in
    subst (λ s. IsRefusedAs c.refuse_items.result (grouping_refusal s (first_block query) c.args.keys c.args.items.now))
    (sym (schema_is_catalogue c.args.store.now)) refused
