use Rattle.std.proofs.Common.{◌≡◌, true, take, [], get_or}
use Rattle.plan_ops.specs.Joins.{fits_by}
use Rattle.plan_ops.proofs.matching.fits.Given as goal

abbrev pub invariant-loop-check : goal.invariant-loop-check
invariant-loop-check g l =
    fits_by (take l.check-index l.join.checks.items) l.row (get_or (g.P.AccessPort.members l.port l.hits) l.i []) ≡ true
