use Rattle.beas_core.proofs.FrontBounds.{fronts_extend}
use Rattle.beas_laws.proofs.answers.law_step.Goals as goal

pub returns : goal.returns
returns g c = λ guide fit sound.
    fronts_extend (g.P.AccessPort.rows c.args.port.now) c.args.normal.now (g.P.AccessPort.accesses c.args.port.now) c.requires.classes c.requires.constants
    c.args.steps.now guide fit sound
