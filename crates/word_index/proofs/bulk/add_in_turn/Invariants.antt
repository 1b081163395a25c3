use Rattle.std.proofs.Common.{◌≡◌, ◌+◌, ◌++◌, List, take, map}
use Rattle.beas_core.specs.declared.value.Value.{Value}
use Rattle.beas_core.specs.Groups.{Holds}
use Rattle.access_index.specs.Index.{IsIndexOf}
use Rattle.code_index.specs.Reading.{read_index, IsInOrderFor, KeepsCodes}
use Rattle.word_index.specs.Widths.{index_in}
use Rattle.word_index.proofs.bulk.add_in_turn.Given as goal

-- the rows so far are counted, and the constraint holds with them
abbrev pub invariant-loop-i : goal.invariant-loop-i
invariant-loop-i l = record {
  kept : KeepsCodes l.initial.codes l.codes;
  access : (index_in l.index).access ≡ (index_in l.initial.index).access;
  total : (index_in l.index).total ≡ (index_in l.initial.index).total + l.i;
  in_order : IsInOrderFor l.codes (index_in l.index);
  index : (front : List (List Value)) → IsIndexOf (read_index l.initial.codes (index_in l.initial.index)) front
      → IsIndexOf (read_index l.codes (index_in l.index)) (front ++ take l.i (map (λ lent. lent.row.now) l.rows));
  holds : (front : List (List Value)) → IsIndexOf (read_index l.initial.codes (index_in l.initial.index)) front
      → Holds front (index_in l.initial.index).access
      → Holds (front ++ take l.i (map (λ lent. lent.row.now) l.rows)) (index_in l.initial.index).access;
}
