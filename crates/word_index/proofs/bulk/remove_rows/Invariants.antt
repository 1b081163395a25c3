use Rattle.std.proofs.Common.{◌≡◌, ◌≤◌, ◌-◌, ◌++◌, List, take, length}
use Rattle.beas_core.specs.declared.value.Value.{Value}
use Rattle.access_index.specs.Index.{IsIndexOf}
use Rattle.code_index.specs.Reading.{read_index, IsInOrderFor}
use Rattle.word_index.specs.Widths.{index_in}
use Rattle.word_index.proofs.bulk.remove_rows.Given as goal

-- those from some place on are out
abbrev pub invariant-loop-i : goal.invariant-loop-i
invariant-loop-i l = record {
  access : (index_in l.index).access ≡ (index_in l.initial.index).access;
  total : (index_in l.index).total ≤ (index_in l.initial.index).total;
  in_order : IsInOrderFor l.codes (index_in l.index);
  rest : (front : List (List Value)) → IsIndexOf (read_index l.codes (index_in l.initial.index)) (front ++ l.rows)
      → IsIndexOf (read_index l.codes (index_in l.index)) (front ++ take (length l.rows - l.i) l.rows);
}
