use Rattle.std.proofs.Common.{◌∙◌}
use Rattle.session.proofs.CursorFacts.{all_counted, answer_is, at_most_counted, begun, done_by, fewer_left, fits_on, goes_on, has_answer, no_fewer_counted, probed_by, reads_are, same_rows, spent_more, spent_within, within_bound}
use Rattle.session.proofs.queries.answer_by_cursor.Goals as goal

pub probes-init : goal.probes-init
probes-init g c = begun _ _ _ _ c.in_ok-cursor.ensures

pub advance-requires-clause-fits : goal.advance-requires-clause-fits
advance-requires-clause-fits g c = fits_on _ _ _ _ _ c.probes.invariant c.requires

pub advance-requires-clause-agrees : goal.advance-requires-clause-agrees
advance-requires-clause-agrees g c = λ going. c.probes.invariant.agrees

pub probes-preserved : goal.probes-preserved
probes-preserved g c =
    goes_on _ _ _ _ _ c.probes.invariant _ _ c.advance.ensures.prepared (probed_by _ _ _ _ _ _ c.in-Ok-Probed.ensures.turn c.in-Ok-Probed.field-0-is)

pub probes-smaller : goal.probes-smaller
probes-smaller g c =
    fewer_left _ _ _ _ _ c.probes.invariant _ _ c.advance.ensures.prepared (probed_by _ _ _ _ _ _ c.in-Ok-Probed.ensures.turn c.in-Ok-Probed.field-0-is)

pub finish-requires : goal.finish-requires
finish-requires g c =
    has_answer _ _ _ _ _ c.probes.invariant _ _ c.advance.ensures.prepared (done_by _ _ _ _ _ _ c.in-Ok-Done.ensures.turn c.in-Ok-Done.field-0-is)

pub returns-in-Ok-Done-clause-rows : goal.returns-in-Ok-Done-clause-rows
returns-in-Ok-Done-clause-rows g c =
    same_rows _ _ _ c.finish.ensures.rows
    (answer_is _ _ _ _ _ c.probes.invariant _ _ c.advance.ensures.prepared (done_by _ _ _ _ _ _ c.in-Ok-Done.ensures.turn c.in-Ok-Done.field-0-is))

pub returns-in-Ok-Done-clause-reads : goal.returns-in-Ok-Done-clause-reads
returns-in-Ok-Done-clause-reads g c =
    c.finish.ensures.reads
    ∙ reads_are _ _ _ _ _ c.probes.invariant _ _ c.advance.ensures.prepared (done_by _ _ _ _ _ _ c.in-Ok-Done.ensures.turn c.in-Ok-Done.field-0-is)

pub returns-in-Ok-Done-clause-cost : goal.returns-in-Ok-Done-clause-cost
returns-in-Ok-Done-clause-cost g c =
    all_counted _ _ _ _ _ c.probes.invariant _ _ c.advance.ensures.prepared (done_by _ _ _ _ _ _ c.in-Ok-Done.ensures.turn c.in-Ok-Done.field-0-is)

pub returns-in-Ok-Done-clause-at_most : goal.returns-in-Ok-Done-clause-at_most
returns-in-Ok-Done-clause-at_most g c =
    at_most_counted _ _ _ _ _ c.probes.invariant _ _ c.advance.ensures.prepared (done_by _ _ _ _ _ _ c.in-Ok-Done.ensures.turn c.in-Ok-Done.field-0-is)

pub returns-in-Ok-Done-clause-no_fewer : goal.returns-in-Ok-Done-clause-no_fewer
returns-in-Ok-Done-clause-no_fewer g c =
    no_fewer_counted _ _ _ _ _ c.probes.invariant _ _ c.advance.ensures.prepared (done_by _ _ _ _ _ _ c.in-Ok-Done.ensures.turn c.in-Ok-Done.field-0-is)

pub returns-in-Ok-Done-clause-within : goal.returns-in-Ok-Done-clause-within
returns-in-Ok-Done-clause-within g c =
    within_bound _ _ _ _ _ c.probes.invariant _ _ c.finish.ensures.reads c.in-Ok-Done.ensures.bound

pub returns-in-Err-clause-at_most : goal.returns-in-Err-clause-at_most
returns-in-Err-clause-at_most g c = spent_within _ _ _ _ _ c.probes.invariant _ c.in-Err.ensures.spent

pub returns-in-Err-clause-no_fewer : goal.returns-in-Err-clause-no_fewer
returns-in-Err-clause-no_fewer g c = spent_more _ _ _ _ _ c.probes.invariant _ c.in-Err.ensures.spent
