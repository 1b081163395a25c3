use Rattle.std.proofs.Common.{◌≡◌, take, map}
use Rattle.access_index.specs.Index.{IsIndexOf}
use Rattle.access_index.proofs.index.AccessIndex.add_all.Given as goal

abbrev pub invariant-loop-lent : goal.invariant-loop-lent
invariant-loop-lent l = record {
  index : IsIndexOf l.self (take l.lent-index (map (λ lent. lent.row.now) l.rows));
  access : l.self.access ≡ l.initial.self.access;
  total : l.self.total ≡ l.lent-index;
}
