-- What it says that a block is covered for a set of classes, and that a block of a query is covered for its start.
use Rattle.std.specs.Prelude.{◌≡◌, ◌<◌, Bool, ℕ, List, length, IsTrue, Contains}
use Rattle.beas_core.specs.declared.schema.Access.{Access}
use Rattle.beas_core.specs.declared.query.Place.{Place}
use Rattle.beas_core.specs.declared.plan.Normal.{Normal}
use Rattle.beas_core.specs.Types.{ClassSet, Use}
use Rattle.beas_core.specs.Coverage.{has, place_class, uses, needed_places, serves, is_covered, covered_set}
use Rattle.beas_core.specs.Guiding.{BlockTask, task_start}

-- a use that serves an atom
pub record Server (normal : Normal) (accesses : List Access) (set : ClassSet) (atom : ℕ) : Type 0 where
  pub by : Use
  pub member : Contains (uses normal accesses) by
  pub on_atom : by.atom ≡ atom
  pub serves_it : IsTrue (serves normal set by)

pub record IsCovered (normal : Normal) (accesses : List Access) (set : ClassSet) : Type 0 where
  pub columns : (place : Place) → Contains (needed_places normal) place → IsTrue (has set (place_class normal place))
  pub atoms : (atom : ℕ) → atom < length normal.atoms → Server normal accesses set atom

abbrev pub task_is_covered : BlockTask → Bool
task_is_covered task = is_covered task.normal task.accesses (covered_set task.normal task.accesses (task_start task))
