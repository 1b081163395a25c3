use Rattle.csv_load.proofs.FieldFacts.{text_is, text_lacks}
use Rattle.csv_load.proofs.fields.text_in.Goals as goal

pub returns-in-Ok : goal.returns-in-Ok
returns-in-Ok c = text_is c.args.bytes.now c.in-Ok.text.now c.in-Ok.ensures.cases.0 c.in-Ok.ensures.cases.1

pub returns-in-Err : goal.returns-in-Err
returns-in-Err c = text_lacks c.args.bytes.now c.in-Err.ensures.cases.0
