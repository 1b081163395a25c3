-- What operators take and give: valuations over the classes that are bound, and counts that rise.
--     set_of normal classes           these classes as a set
--     bound_set normal from           the classes that valuations bind, as a set
--     IsOver set from                 the classes are those of the set, ascending, and each row has a value for each
--     Counts result old new share     a count rose by the share at success, and by at most that after an error
use Rattle.std.specs.Prelude.{◌≡◌, ◌≤◌, ◌+◌, ℕ, List, false, length, replicate, All, Result, Ok, Err}
use Rattle.beas_core.specs.declared.plan.Normal.{Normal}
use Rattle.beas_core.specs.Types.{ClassSet}
use Rattle.beas_core.specs.Coverage.{with_classes}
use Rattle.beas_core.specs.Valuations.{classes_in}
use Rattle.plan_ops.specs.declared.valuations.Valuations.{Valuations}

abbrev pub set_of : Normal → List ℕ → ClassSet
set_of normal classes = with_classes (replicate normal.count false) classes

abbrev pub bound_set : Normal → Valuations → ClassSet
bound_set normal from = set_of normal from.classes

pub record IsOver (set : ClassSet) (from : Valuations) : Type 0 where
  pub classes_are : from.classes ≡ classes_in set
  pub widths : All (λ row. length row ≡ length from.classes) from.rows

abbrev pub Counts : {A E : Type 0} → Result A E → ℕ → ℕ → ℕ → Type 0
Counts (Ok value) old new share = new ≡ old + share
Counts (Err error) old new share = (old ≤ new) × (new ≤ old + share)
