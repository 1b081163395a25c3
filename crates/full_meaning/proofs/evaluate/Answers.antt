use Rattle.std.proofs.Common.{ap, ◌∙◌}
use Rattle.beas_core.specs.Full.{full_of}
use Rattle.reference_evaluation.specs.Tables.{rows_in}
use Rattle.full_meaning.proofs.StoredRows.{rows_are_stored}
use Rattle.full_meaning.proofs.evaluate.Goals as goal

pub returns-clause-answer : goal.returns-clause-answer
returns-clause-answer g c =
    c.in_ok-answer.ensures
    ∙ ap (λ ts. full_of (rows_in ts) c.args.query.now) (c.as_slice-2.ensures ∙ c.in_ok-tables.ensures.tables ∙ c.as_slice.ensures)
    ∙ ap (λ rows. full_of rows c.args.query.now) (rows_are_stored c.args.guarded.now.catalogue c.args.guarded.now.rows c.args.guarded.now.kept.tables)
