use Rattle.std.proofs.Common.{◌≡◌}
use Rattle.std.specs.List.{flat_map}
use Rattle.name_resolution.specs.Binding.{text_refusals}
use Rattle.name_resolution.specs.Refusing.{first}
use Rattle.name_resolution.proofs.FirstFacts.{first_from}
use Rattle.binder.proofs.rows.refuse_long_literals.Given as goal

abbrev pub invariant-loop-literal : goal.invariant-loop-literal
invariant-loop-literal l = first_from (text_refusals l.limit) l.literals l.literal-index ≡ first (flat_map (text_refusals l.limit) l.literals)
