use Rattle.std.proofs.Common.{◌∙◌}
use Rattle.csv.specs.Records.{fields_of}
use Rattle.csv_load.proofs.FieldFacts.{field_at-is}
use Rattle.csv_load.proofs.fields.field_at.Goals as goal

pub returns : goal.returns
returns c = c.get.ensures.value ∙ field_at-is (fields_of c.args.fields.now) c.args.place
