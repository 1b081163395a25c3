use Rattle.std.proofs.Common.{◌≡◌, take, map}
use Rattle.access_index.proofs.lending.lend_new_in_order.Given as goal

-- the rows so far were lent
abbrev pub invariant-loop-row : goal.invariant-loop-row
invariant-loop-row l = map (λ lent. lent.row.now) l.lent.items ≡ take l.row-index l.rows
