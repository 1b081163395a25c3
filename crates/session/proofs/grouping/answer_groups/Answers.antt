use Rattle.std.proofs.Common.{◌≡◌, ◌+◌, List, length, All, arith, sym, subst}
use Rattle.beas_core.specs.Order.{row_cmp}
use Rattle.beas_core.specs.Sets.{IsInOrder}
use Rattle.beas_core.specs.Types.{Row}
use Rattle.catalogue.specs.Database.{rows_at}
use Rattle.session.specs.Stores.{database_in}
use Rattle.session.proofs.BlockFacts.{few_keys, rows_are_wide, rows_in_order}
use Rattle.session.proofs.grouping.answer_groups.Goals as goal

pub groups_over-rows-requires-clause-few : goal.groups_over-rows-requires-clause-few
groups_over-rows-requires-clause-few g c =
    let few = few_keys (rows_at (database_in c.args.store.now)) c.args.keys (length c.args.items.now) c.args.prepared.now.query c.requires.outputs in
    omega (arith, few)

pub groups_over-rows-requires-clause-wide : goal.groups_over-rows-requires-clause-wide
groups_over-rows-requires-clause-wide g c =
    subst (λ (rows : List Row). All (λ row. length row ≡ c.args.keys + length c.args.items.now) rows) (sym c.in_ok-answer.ensures.rows)
    (rows_are_wide (rows_at (database_in c.args.store.now)) c.args.keys (length c.args.items.now) c.args.prepared.now.query c.requires.outputs)

pub groups_over-rows-requires-clause-in_order : goal.groups_over-rows-requires-clause-in_order
groups_over-rows-requires-clause-in_order g c =
    subst (λ (rows : List Row). IsInOrder row_cmp rows) (sym c.in_ok-answer.ensures.rows)
    (rows_in_order (rows_at (database_in c.args.store.now)) c.args.keys (length c.args.items.now) c.args.prepared.now.query c.requires.outputs)
