use Rattle.std.proofs.Common.{◌≡◌, take, map}
use Rattle.access_index.specs.Index.{IsIndexOf}
use Rattle.code_index.specs.Reading.{read_index, IsInOrderFor, KeepsCodes}
use Rattle.word_index.specs.Widths.{index_in}
use Rattle.word_index.proofs.bulk.add_all.Given as goal

-- the rows so far are counted
abbrev pub invariant-loop-lent : goal.invariant-loop-lent
invariant-loop-lent l = record {
  kept : KeepsCodes l.initial.codes l.codes;
  access : (index_in l.index).access ≡ (index_in l.initial.index).access;
  total : (index_in l.index).total ≡ l.lent-index;
  in_order : IsInOrderFor l.codes (index_in l.index);
  index : IsIndexOf (read_index l.codes (index_in l.index)) (take l.lent-index (map (λ lent. lent.row.now) l.rows));
}
