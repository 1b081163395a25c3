use Rattle.beas_core.proofs.FrontBounds.{fronts_bounded}
use Rattle.beas_laws.proofs.bounds.law_block_bound.Goals as goal

pub returns : goal.returns
returns g c = λ start fit sound.
    fronts_bounded (g.P.AccessPort.rows c.args.port.now) c.args.normal.now (g.P.AccessPort.accesses c.args.port.now) c.requires.classes c.requires.constants
    c.args.steps.now c.requires.holds start fit sound
