use Rattle.std.proofs.Common.{◌∙◌, subst}
use Rattle.specialise.specs.Trials.{IsClosedTable}
use Rattle.specialise.proofs.Filled.{rules_are}
use Rattle.specialise.proofs.trial.trial_of.Goals as goal

pub invariant_of-result-clause-table_is : goal.invariant_of-result-clause-table_is
invariant_of-result-clause-table_is c =
    subst (λ rules. IsClosedTable rules c.in_ok-table.table.items)
    (rules_are c.args.accesses.now c.args.block.now c.args.normal.now c.as_slice.result.now c.args.found.now c.requires.normal
    (c.as_slice.ensures ∙ c.requires.candidates) c.requires.found) c.in_ok-table.ensures.table
