use Rattle.desk_model.proofs.PartFacts.{parts_keep}
use Rattle.desk_model.proofs.parts.law_parts.Goals as goal

pub returns : goal.returns
returns g c = λ before after old new t once_few once_many kept.
    parts_keep g.P.Part.table_of g.P.AccessPort.rows g.P.AccessPort.accesses c.args.parts.now before after old new t once_few once_many kept
