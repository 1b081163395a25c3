-- The valuations that bindings give before the first step.
--     one_row set w      the values of the classes of a set, and nothing where a class has two values
use Rattle.std.specs.Prelude.{if◌then◌else◌, List, [], ◌∷◌, map}
use Rattle.beas_core.specs.Types.{Row, ClassSet, Bindings}
use Rattle.beas_core.specs.Valuations.{value_of, agrees, classes_in}

abbrev pub one_row : ClassSet → Bindings → List Row
one_row set w = if agrees w then map (value_of w) (classes_in set) ∷ [] else []
