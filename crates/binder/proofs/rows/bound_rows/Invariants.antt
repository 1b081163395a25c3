use Rattle.std.proofs.Common.{◌≡◌, take}
use Rattle.std.specs.List.{flat_map}
use Rattle.name_resolution.specs.Binding.{number_refusals, bound_rows}
use Rattle.name_resolution.specs.Refusing.{first}
use Rattle.name_resolution.proofs.FirstFacts.{first_from}
use Rattle.binder.proofs.rows.bound_rows.Given as goal

abbrev pub invariant-loop-row : goal.invariant-loop-row
invariant-loop-row l = record {
  so_far : l.all ≡ bound_rows (take l.row-index l.rows);
  in_range : first_from (flat_map number_refusals) l.rows l.row-index ≡ first (flat_map (flat_map number_refusals) l.rows);
}
