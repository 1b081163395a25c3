-- The order of places, and classes that are numbered by it.
use Rattle.std.specs.Prelude.{◌≡◌, ◌<◌, ◌⊎◌, ℕ}
use Rattle.beas_core.specs.declared.query.Place.{Place}
use Rattle.beas_core.specs.declared.query.Block.{Block}
use Rattle.beas_core.specs.Shapes.{IsPlace}
use Rattle.beas_core.specs.Classes.{class_of}

-- by atom and then column
abbrev pub StandsBefore : Place → Place → Type 0
StandsBefore p q = (p.atom < q.atom) ⊎ ((p.atom ≡ q.atom) × (p.column.0 < q.column.0))

-- the first place of a class: all places before it are of classes with lesser numbers
pub record IsFirstOf (block : Block) (class : ℕ) (place : Place) : Type 0 where
  pub is_place : IsPlace block.atoms place
  pub of_class : class_of block place ≡ class
  pub lesser_before : (p : Place) → IsPlace block.atoms p → StandsBefore p place → class_of block p < class

pub record FirstPlace (block : Block) (class : ℕ) : Type 0 where
  pub place : Place
  pub is_first : IsFirstOf block class place
