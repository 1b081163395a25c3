-- One step from one valuation, by the use of a constraint that the step makes. The valuation is of the classes of a set.
--     key_by normal u set v              the key that it gives to the step
--     bound_with normal u set            the classes that are bound after the step
--     joined_row normal u set v t        the valuation with the values of a tuple
--     leads_to normal u set v t          the tuple gives no class another value, and the valuation with it meets the comparisons
--     next_by normal u set v tuples      the valuations after the step that tuples make of it
--     IsTupleOf u key t                  a tuple over the constraint's columns that begins with the key
--     IsStage normal stage               what is worked out for a step is as the block says
use Rattle.std.specs.Prelude.{◌≡◌, ◌<◌, ◌&&◌, ◌++◌, ℕ, pos, Bool, List, length, map, filter, zip, slice_index_or, IsTrue}
use Rattle.beas_core.specs.declared.value.Value.TheVariants.{Int}
use Rattle.beas_core.specs.declared.plan.Normal.{Normal}
use Rattle.beas_core.specs.Types.{Row, ClassSet, Bindings, Use}
use Rattle.beas_core.specs.Groups.{member_columns}
use Rattle.beas_core.specs.Coverage.{class_at, with_classes, holds_classes, key_classes, output_classes}
use Rattle.beas_core.specs.Derivations.{member_classes}
use Rattle.beas_core.specs.Valuations.{value_of, agrees, classes_in, as_bindings}
use Rattle.beas_core.specs.Extensions.{meets_bound}
use Rattle.plan_ops.specs.declared.stages.Stage.{Stage}
use Rattle.plan_ops.specs.Comparing.{sides_at}
use Rattle.plan_ops.specs.Joins.{IsJoin}
use Rattle.plan_ops.specs.Over.{set_of}
use Rattle.plan_ops.specs.Sieves.{IsSieve, is_plain}

abbrev pub key_by : Normal → Use → ClassSet → Row → Row
key_by normal u set v = map (λ c. value_of (as_bindings set v) (class_at normal u.atom c)) u.access.key

abbrev pub bound_with : Normal → Use → ClassSet → ClassSet
bound_with normal u set = with_classes set (member_classes normal u)

abbrev pub joined_bindings : Normal → Use → ClassSet → Row → Row → Bindings
joined_bindings normal u set v t = as_bindings set v ++ zip (member_classes normal u) t

abbrev pub joined_row : Normal → Use → ClassSet → Row → Row → Row
joined_row normal u set v t = map (value_of (joined_bindings normal u set v t)) (classes_in (bound_with normal u set))

abbrev pub leads_to : Normal → Use → ClassSet → Row → Row → Bool
leads_to normal u set v t = agrees (joined_bindings normal u set v t) && meets_bound normal (bound_with normal u set) (joined_row normal u set v t)

abbrev pub next_by : Normal → Use → ClassSet → Row → List Row → List Row
next_by normal u set v tuples = map (joined_row normal u set v) (filter (leads_to normal u set v) tuples)

pub record IsTupleOf (u : Use) (key tuple : Row) : Type 0 where
  pub wide : length tuple ≡ length (member_columns u.access)
  pub begins : (j : ℕ) → j < length u.access.key → slice_index_or tuple j (Int (pos 0)) ≡ slice_index_or key j (Int (pos 0))

-- ---- what is worked out once for a step

abbrev pub use_at : Stage → Use
use_at stage = record { atom = stage.atom; access = stage.access.value }

abbrev pub set_before : Normal → Stage → ClassSet
set_before normal stage = set_of normal stage.from.value

pub record IsStage (normal : Normal) (stage : Stage) : Type 0 where
  pub from_are : stage.from.value ≡ classes_in (set_before normal stage)
  pub key_held : IsTrue (holds_classes (set_before normal stage) (key_classes normal (use_at stage)))
  pub join_is : IsJoin normal (use_at stage) stage.from.value stage.join
  pub sides_are : stage.sides.items ≡ map (sides_at normal stage.join.classes) normal.comparisons
  pub settled_is : stage.settled ≡ holds_classes (set_before normal stage) (output_classes normal)
  pub sieve_is : IsSieve normal (set_before normal stage) stage.atom (member_columns stage.access.value)
      (is_plain stage.settled stage.join.checks.items) stage.sieve

-- a valuation before the step, and a tuple that its key finds
pub record IsPair (normal : Normal) (stage : Stage) (v tuple : Row) : Type 0 where
  pub wide : length v ≡ length stage.from.value
  pub found : IsTupleOf (use_at stage) (key_by normal (use_at stage) (set_before normal stage) v) tuple
