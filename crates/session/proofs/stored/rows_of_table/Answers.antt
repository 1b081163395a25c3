use Rattle.std.proofs.Common.{◌∙◌, ap, sym, arith, get_or, [], length}
use Rattle.std.proofs.lemmas.List.{get_or_default}
use Rattle.session.proofs.StoreFacts.{as_many_tables, rows_are}
use Rattle.session.proofs.stored.rows_of_table.Goals as goal

pub bounds-as_slice-id : goal.bounds-as_slice-id
bounds-as_slice-id c = omega (arith, c.requires, as_many_tables c.args.store.now, c.args.store.now.kept.tables, ap length c.as_slice.ensures)

pub returns : goal.returns
returns c =
    let g = c.args.store.now in
    c.index-as_slice-id.is ∙ ap (λ rs. get_or rs c.args.id.0 c.index-as_slice-id.result) c.as_slice.ensures
    ∙ get_or_default g.rows c.args.id.0 c.index-as_slice-id.result [] (omega (arith, c.requires, as_many_tables g, g.kept.tables)) ∙ sym (rows_are g c.args.id)
