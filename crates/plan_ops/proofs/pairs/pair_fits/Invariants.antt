use Rattle.std.proofs.Common.{◌≡◌, true, take}
use Rattle.plan_ops.specs.Joins.{fits_by}
use Rattle.plan_ops.proofs.pairs.pair_fits.Given as goal

abbrev pub invariant-loop-check : goal.invariant-loop-check
invariant-loop-check l = fits_by (take l.check-index l.join.checks.items) l.row l.tuple ≡ true
