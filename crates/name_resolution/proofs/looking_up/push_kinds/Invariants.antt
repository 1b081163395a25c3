use Rattle.std.proofs.Common.{◌≡◌, ◌++◌, map, take}
use Rattle.name_resolution.specs.Meanings.{columns_named}
use Rattle.name_resolution.proofs.looking_up.push_kinds.Given as goal

abbrev pub invariant-loop-column : goal.invariant-loop-column
invariant-loop-column l = l.kinds ≡ l.initial.kinds ++ map (λ c. c.kind) (take l.column-index (columns_named l.catalogue l.table))
