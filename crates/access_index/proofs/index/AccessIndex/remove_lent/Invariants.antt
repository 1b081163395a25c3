use Rattle.std.proofs.Common.{◌≡◌, ◌++◌, List, drop, map}
use Rattle.beas_core.specs.declared.value.Value.{Value}
use Rattle.access_index.specs.Index.{IsIndexOf}
use Rattle.access_index.proofs.index.AccessIndex.remove_lent.Given as goal

abbrev pub invariant-loop-lent : goal.invariant-loop-lent
invariant-loop-lent l = record {
  access : l.self.access ≡ l.initial.self.access;
  rest : (front : List (List Value)) → IsIndexOf l.initial.self (front ++ map (λ lent. lent.row.now) l.rows)
      → IsIndexOf l.self (front ++ drop l.lent-index (map (λ lent. lent.row.now) l.rows));
}
