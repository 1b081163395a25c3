use Rattle.std.proofs.Common.{◌≡◌, ◌<◌, ◌+◌, ℕ, length}
use Rattle.std.specs.Prelude.{slice_get}
use Rattle.beas_library.specs.Columns.{item_at}
use Rattle.beas_library.proofs.engine.Engine.read_column.Given as goal

-- the cells so far are read
abbrev pub invariant-loop-i : goal.invariant-loop-i
invariant-loop-i g l = record {
  len : length l.into ≡ length l.fn.into;
  read : (j : ℕ) → j < l.i → item_at g.P.Part.part l.self.report l.column (l.first + j) ≡ slice_get l.into j;
}
