use Rattle.std.proofs.Common.{◌≡◌}
use Rattle.std.specs.List.{flat_map}
use Rattle.name_resolution.specs.Binding.{text_refusals}
use Rattle.name_resolution.specs.Refusing.{first}
use Rattle.name_resolution.proofs.FirstFacts.{first_from}
use Rattle.binder.proofs.rows.refuse_long_rows.Given as goal

abbrev pub invariant-loop-row : goal.invariant-loop-row
invariant-loop-row l = first_from (flat_map (text_refusals l.limit)) l.rows l.row-index ≡ first (flat_map (flat_map (text_refusals l.limit)) l.rows)
