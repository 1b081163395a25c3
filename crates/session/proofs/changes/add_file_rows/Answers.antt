use Rattle.std.proofs.Common.{subst}
use Rattle.session.specs.Carrying.{CarriesOut}
use Rattle.session.specs.Effects.{adding_rows}
use Rattle.session.specs.Stores.{database_in}
use Rattle.session.proofs.LoadFacts.{refused_by_load}
use Rattle.session.proofs.changes.add_file_rows.Goals as goal

pub returns-clause-carried : goal.returns-clause-carried
returns-clause-carried c =
    let db = database_in c.args.store.now in
    subst (λ refusal. CarriesOut (adding_rows refusal db c.args.table c.args.rows) db c.add_rows.result (database_in c.add_rows.new.store) 0 0)
    (refused_by_load c.args.limits.now db c.args.table c.args.rows c.requires.fit) c.add_rows.ensures.carried
