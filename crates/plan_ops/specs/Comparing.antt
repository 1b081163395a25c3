-- Where the sides of a comparison stand among classes.
--     side_at normal classes operand     a column's place is that of its class; a fixed value's is 0, which nobody looks at
--     sides_at normal classes c          the places of both sides
use Rattle.std.specs.Prelude.{ℕ, List}
use Rattle.beas_core.specs.declared.plan.Normal.{Normal}
use Rattle.beas_core.specs.declared.query.Comparison.{Comparison}
use Rattle.beas_core.specs.declared.query.Operand.{Operand}
use Rattle.beas_core.specs.declared.query.Operand.TheVariants.{At, Fixed}
use Rattle.beas_core.specs.Coverage.{place_class}
use Rattle.plan_ops.specs.declared.comparing.Sides.{Sides}
use Rattle.plan_ops.specs.Places.{place_of}

abbrev pub side_at : Normal → List ℕ → Operand → ℕ
side_at normal classes (At place) = place_of classes (place_class normal place)
side_at normal classes (Fixed value) = 0

abbrev pub sides_at : Normal → List ℕ → Comparison → Sides
sides_at normal classes c = record { left = place_of classes (place_class normal c.left); right = side_at normal classes c.right }
