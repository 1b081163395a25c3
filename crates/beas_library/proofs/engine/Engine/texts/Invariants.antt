use Rattle.std.proofs.Common.{◌≡◌, ◌<◌, ◌+◌, ℕ, Some, length}
use Rattle.std.specs.Prelude.{IsSome, slice_get}
use Rattle.beas_library.specs.Columns.{bytes_to, item_at}
use Rattle.beas_library.specs.Told.{text_in}
use Rattle.beas_library.proofs.engine.Engine.texts.Given as goal

-- the texts so far stand there
abbrev pub invariant-loop-i : goal.invariant-loop-i
invariant-loop-i l = record {
  len : length l.ends ≡ length l.fn.ends;
  there : (j : ℕ) → j < l.i → IsSome (item_at text_in l.self.report l.column (l.first + j));
  bytes : l.all ≡ bytes_to l.self.report l.column l.first l.i;
  ended : (j : ℕ) → j < l.i → slice_get l.ends j ≡ Some (length (bytes_to l.self.report l.column l.first (j + 1)));
}
