use Rattle.std.proofs.Common.{◌≡◌, ◌++◌, ℕ, List, take}
use Rattle.name_resolution.specs.declared.meaning.BoundColumn.{BoundColumn}
use Rattle.name_resolution.specs.Meanings.{columns_in}
use Rattle.name_resolution.specs.Scopes.{found_in, found_at}
use Rattle.name_resolution.proofs.scope.add_columns.Given as goal

abbrev pub invariant-loop-place : goal.invariant-loop-place
invariant-loop-place l = (name : List ℕ) (before : List BoundColumn) → found_at l.initial.by_name name ≡ found_in before
    → found_at l.by_name name ≡ found_in (before ++ columns_in l.atom name (take l.place l.columns))
