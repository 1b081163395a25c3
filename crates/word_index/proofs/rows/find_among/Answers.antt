use Rattle.word_index.specs.Widths.{index_in}
use Rattle.word_index.proofs.UnknownFacts.{none_found}
use Rattle.word_index.proofs.rows.find_among.Goals as goal

pub returns-in-None-clause-group : goal.returns-in-None-clause-group
returns-in-None-clause-group g c rows is =
    none_found c.args.codes.now (index_in c.args.index.now) c.requires.in_order rows c.args.key.now is c.in-None.ensures
