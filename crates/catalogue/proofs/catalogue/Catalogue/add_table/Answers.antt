use Rattle.catalogue.proofs.MayMake.{may_make_table}
use Rattle.catalogue.proofs.catalogue.Catalogue.add_table.Goals as goal

pub put_table-requires : goal.put_table-requires
put_table-requires c =
    may_make_table c.args.limits.now c.args.self.now c.args.name c.args.columns c.in_ok-refuse_table.ensures c.requires
    c.args.limits.now.tables_in_range.1 c.args.limits.now.columns_in_range.1
