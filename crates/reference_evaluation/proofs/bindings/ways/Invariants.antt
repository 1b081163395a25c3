use Rattle.std.proofs.Common.{◌≡◌, take}
use Rattle.beas_core.specs.Valuations.{ways}
use Rattle.reference_evaluation.specs.Tables.{rows_in}
use Rattle.reference_evaluation.proofs.bindings.ways.Given as goal

abbrev pub invariant-loop-step : goal.invariant-loop-step
invariant-loop-step l = l.found ≡ ways (rows_in l.block.tables.now) l.block.normal.now l.block.accesses.now l.initial.found (take l.step-index l.steps)
