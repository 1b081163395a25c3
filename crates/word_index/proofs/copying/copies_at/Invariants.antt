use Rattle.std.proofs.Common.{◌≡◌, List, map, take}
use Rattle.beas_core.specs.declared.value.Value.{Value}
use Rattle.update_guard.specs.Seen.{index_at}
use Rattle.word_index.specs.Kept.{meanings, AreKept}
use Rattle.word_index.proofs.copying.copies_at.Given as goal

-- the places so far are copied
abbrev pub invariant-loop-i : goal.invariant-loop-i
invariant-loop-i l = record {
  same : (codes : List Value) → meanings codes l.copies.items ≡ map (index_at (meanings codes l.indexes)) (take l.i l.places);
  kept : (codes : List Value) → AreKept codes l.indexes → AreKept codes l.copies.items;
}
