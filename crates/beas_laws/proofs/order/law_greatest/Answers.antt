use Rattle.beas_core.proofs.Groups.{Holds-from_greatest, greatest-from_Holds}
use Rattle.beas_laws.proofs.order.law_greatest.Goals as goal

pub returns : goal.returns
returns c = λ rows. (λ h. greatest-from_Holds rows c.args.access.now h, λ l. Holds-from_greatest rows c.args.access.now l)
