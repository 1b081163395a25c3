use Rattle.std.proofs.Common.{◌≡◌, ◌+◌, ◌++◌, List, take, map}
use Rattle.beas_core.specs.declared.value.Value.{Value}
use Rattle.beas_core.specs.Groups.{Holds}
use Rattle.access_index.specs.Index.{IsIndexOf}
use Rattle.access_index.proofs.index.AccessIndex.add_in_turn.Given as goal

-- the rows so far are counted, and the constraint holds with them
abbrev pub invariant-loop-i : goal.invariant-loop-i
invariant-loop-i l = record {
  access : l.self.access ≡ l.initial.self.access;
  total : l.self.total ≡ l.initial.self.total + l.i;
  index : (front : List (List Value)) → IsIndexOf l.initial.self front → IsIndexOf l.self (front ++ take l.i (map (λ lent. lent.row.now) l.rows));
  holds : (front : List (List Value)) → IsIndexOf l.initial.self front → Holds front l.initial.self.access
      → Holds (front ++ take l.i (map (λ lent. lent.row.now) l.rows)) l.initial.self.access;
}
