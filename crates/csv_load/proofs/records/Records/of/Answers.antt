use Rattle.std.proofs.Common.{ap, arith}
use Rattle.csv_load.specs.Reading.{weight}
use Rattle.csv_load.proofs.RecordFacts.{left_at_first, records_fit}
use Rattle.csv_load.proofs.records.Records.of.Goals as goal

pub returns-clause-all : goal.returns-clause-all
returns-clause-all c =
    let r = c.from_reader-reader.ensures in
    left_at_first c.from_reader-reader.result c.args.text.now r.fresh r.state r.source

pub returns-clause-few : goal.returns-clause-few
returns-clause-few c = omega (arith, records_fit c.args.text.now, ap weight (returns-clause-all c))
