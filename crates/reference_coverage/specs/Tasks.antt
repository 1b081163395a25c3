-- What the plain programs ask of a block that is to be planned.
--     BlocksHaveFewPlaces t            the places of each block are so few that 16 bits number them
--     HasFewAtoms task                 so are its atoms
--     tasks_with accesses has t        the blocks as tasks where each may use these constraints, so that their numbers don't matter
use Rattle.std.specs.Prelude.{◌<◌, Bool, true, List, [], ◌∷◌, ◌++◌, length}
use Rattle.beas_core.specs.declared.schema.Access.{Access}
use Rattle.beas_core.specs.Trees.{QueryTree, Single, Either, Minus}
use Rattle.beas_core.specs.Classes.{normal_of}
use Rattle.beas_core.specs.Guiding.{BlockTask}
use Rattle.reference_normal_form.specs.Few.{HasFewPlaces}

abbrev pub BlocksHaveFewPlaces : QueryTree → Type 0
BlocksHaveFewPlaces (Single block) = HasFewPlaces block
BlocksHaveFewPlaces (Either l r) = BlocksHaveFewPlaces l × BlocksHaveFewPlaces r
BlocksHaveFewPlaces (Minus l r) = BlocksHaveFewPlaces l × BlocksHaveFewPlaces r

pub record HasFewAtoms (task : BlockTask) : Type 0 where
  pub atoms : length task.normal.atoms < 65536
  pub needed : length task.normal.needed < 65536

abbrev pub tasks_with : List Access → Bool → QueryTree → List BlockTask
tasks_with accesses has (Single block) = record { normal = normal_of block; accesses = accesses; has_guide = has } ∷ []
tasks_with accesses has (Either l r) = tasks_with accesses has l ++ tasks_with accesses has r
tasks_with accesses has (Minus l r) = tasks_with accesses has l ++ tasks_with accesses true r
