use Rattle.std.proofs.Common.{◌≡◌, take}
use Rattle.std.specs.List.{flat_map}
use Rattle.name_resolution.specs.Binding.{number_refusals, bound_row}
use Rattle.name_resolution.specs.Refusing.{first}
use Rattle.name_resolution.proofs.FirstFacts.{first_from}
use Rattle.binder.proofs.rows.bound_row.Given as goal

abbrev pub invariant-loop-literal : goal.invariant-loop-literal
invariant-loop-literal l = record {
  so_far : l.row ≡ bound_row (take l.literal-index l.literals);
  in_range : first_from number_refusals l.literals l.literal-index ≡ first (flat_map number_refusals l.literals);
}
