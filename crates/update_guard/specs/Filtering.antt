-- The conditions of a block of one atom, over one row.
--     PlaceFits row place      the place names the one atom and a column of the row
--     BlockFits row block      all of a block's places do
use Rattle.std.specs.Prelude.{◌≡◌, ◌<◌, length, All}
use Rattle.beas_core.specs.declared.query.Place.{Place}
use Rattle.beas_core.specs.declared.query.Operand.{Operand}
use Rattle.beas_core.specs.declared.query.Operand.TheVariants.{At, Fixed}
use Rattle.beas_core.specs.declared.query.Block.{Block}
use Rattle.beas_core.specs.Types.{Row}

pub record PlaceFits (row : Row) (place : Place) : Type 0 where
  pub atom : place.atom ≡ 0
  pub column : place.column.0 < length row

abbrev pub OperandFits : Row → Operand → Type 0
OperandFits row (At place) = PlaceFits row place
OperandFits row (Fixed value) = Unit {0}

pub record BlockFits (row : Row) (block : Block) : Type 0 where
  pub equalities_left : All (λ e. PlaceFits row e.0) block.equalities
  pub equalities_right : All (λ e. PlaceFits row e.1) block.equalities
  pub constants : All (λ c. PlaceFits row c.0) block.constants
  pub comparisons_left : All (λ c. PlaceFits row c.left) block.comparisons
  pub comparisons_right : All (λ c. OperandFits row c.right) block.comparisons
