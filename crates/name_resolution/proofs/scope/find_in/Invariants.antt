use Rattle.std.proofs.Common.{◌≡◌, take}
use Rattle.name_resolution.specs.Meanings.{columns_in}
use Rattle.name_resolution.specs.Scopes.{found_in}
use Rattle.name_resolution.proofs.scope.find_in.Given as goal

abbrev pub invariant-loop-place : goal.invariant-loop-place
invariant-loop-place l = l.found ≡ found_in (columns_in l.atom l.name (take l.place l.columns))
