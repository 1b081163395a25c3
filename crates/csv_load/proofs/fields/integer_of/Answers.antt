use Rattle.std.proofs.Common.{sym}
use Rattle.csv_load.proofs.FieldFacts.{no_integer, no_text}
use Rattle.csv_load.proofs.fields.integer_of.Goals as goal

pub returns-in-None : goal.returns-in-None
returns-in-None c = sym (no_integer c.args.field.now (no_text c.args.field.now c.in-None.ensures))
