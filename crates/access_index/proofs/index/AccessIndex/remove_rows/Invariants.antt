use Rattle.std.proofs.Common.{◌≡◌, ◌++◌, List, drop}
use Rattle.beas_core.specs.declared.value.Value.{Value}
use Rattle.access_index.specs.Index.{IsIndexOf}
use Rattle.access_index.proofs.index.AccessIndex.remove_rows.Given as goal

abbrev pub invariant-loop-row : goal.invariant-loop-row
invariant-loop-row l = record {
  access : l.self.access ≡ l.initial.self.access;
  rest : (front : List (List Value)) → IsIndexOf l.initial.self (front ++ l.rows) → IsIndexOf l.self (front ++ drop l.row-index l.rows);
}
