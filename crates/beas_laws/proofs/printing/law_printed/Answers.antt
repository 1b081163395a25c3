use Rattle.beas_laws.proofs.Printed.{printed_spells, printed_spells_no_other}
use Rattle.beas_laws.proofs.printing.law_printed.Goals as goal

pub returns : goal.returns
returns c = record { spelled = printed_spells c.args.statement.now; no_other = printed_spells_no_other c.args.statement.now }
