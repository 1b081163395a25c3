use Rattle.std.proofs.Common.{◌∙◌}
use Rattle.csv_load.proofs.FieldFacts.{integer_parsed}
use Rattle.csv_load.proofs.fields.number_of.Goals as goal

pub returns : goal.returns
returns c = c.ok.ensures.value ∙ integer_parsed c.args.text.now c.parse-number.result c.parse-number.ensures.value.0
