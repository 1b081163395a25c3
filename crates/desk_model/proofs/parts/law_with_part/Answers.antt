use Rattle.desk_model.proofs.PartFacts.{part_keeps}
use Rattle.desk_model.proofs.parts.law_with_part.Goals as goal

pub returns : goal.returns
returns g c = λ own other once is t.
    part_keeps g.P.Part.table_of g.P.AccessPort.rows g.P.AccessPort.accesses own other once c.args.part.now is c.args.parts.now t
