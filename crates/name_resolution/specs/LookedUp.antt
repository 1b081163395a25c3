-- Blocks with their names looked up, and the blocks that they make.
--     looked_up schema block        its atoms, and what its items and the sides of its conditions stand for
--     bound_block block             the block whose places are these columns
use Rattle.std.specs.Prelude.{◌≡◌, ◌<◌, All, ℕ, Bool, if◌then◌else◌, List, ◌++◌, length, map, Option, Some, None}
use Rattle.std.specs.Option.{unwrap_or, option_to_list}
use Rattle.std.specs.List.{enumerate_from, flat_map, filter_map, range_with_len}
use Rattle.beas_core.specs.declared.query.Atom.{Atom}
use Rattle.beas_core.specs.declared.query.Block.{Block}
use Rattle.beas_core.specs.declared.query.Comparison.{Comparison}
use Rattle.beas_core.specs.declared.query.Operand.TheVariants as operand
use Rattle.beas_core.specs.declared.query.Place.{Place}
use Rattle.beas_core.specs.declared.query.Sign.{Sign}
use Rattle.beas_core.specs.declared.query.Sign.TheVariants.{Equal, Differs, Less, AtMost, More, AtLeast}
use Rattle.beas_core.specs.declared.schema.ColType.{ColType}
use Rattle.beas_core.specs.declared.value.Value.{Value}
use Rattle.catalogue.specs.Schema.{Schema, table_named}
use Rattle.sql_text.specs.declared.tree.BlockTree.{BlockTree}
use Rattle.sql_text.specs.declared.tree.FromItem.{FromItem}
use Rattle.name_resolution.specs.declared.meaning.BoundColumn.{BoundColumn}
use Rattle.name_resolution.specs.declared.meaning.Condition.{Condition}
use Rattle.name_resolution.specs.declared.meaning.Condition.TheVariants.{Compare, Between}
use Rattle.name_resolution.specs.declared.meaning.Meaning.{Meaning}
use Rattle.name_resolution.specs.declared.meaning.Meaning.TheVariants.{At, Fixed}
use Rattle.name_resolution.specs.declared.meaning.LookedUp.{LookedUp}
use Rattle.name_resolution.specs.declared.meaning.Part.{Part}
use Rattle.name_resolution.specs.declared.meaning.Part.TheVariants as part
use Rattle.name_resolution.specs.Meanings.{Source, sources, columns_named, meaning, condition}

-- ---- names looked up

unfoldable pub atom_of : Schema → FromItem → Atom
atom_of schema item =
    record { table = unwrap_or (table_named schema item.table) (record { 0 = 0 }); width = length (columns_named schema item.table) }

-- the column that something stands for
abbrev pub column_of : Meaning → Option BoundColumn
column_of (At column) = Some column
column_of _ = None

-- the types of the outputs: of all columns of all atoms in order, or of the items
abbrev pub output_kinds : Bool → List Source → List Meaning → List ColType
output_kinds star sources items =
    if star then flat_map (λ s. map (λ c. c.kind) s.columns) sources else map (λ c. c.kind) (filter_map column_of items)

unfoldable pub looked_up : Schema → BlockTree → LookedUp
looked_up schema block =
    let names = sources schema block.from_items in
    record {
      atoms = map (atom_of schema) block.from_items;
      star = block.star;
      items = map (meaning names) block.items;
      kinds = output_kinds block.star names (map (meaning names) block.items);
      conditions = map (condition (meaning names)) block.conditions;
    }

-- ---- the block

abbrev pub place_of : BoundColumn → Place
place_of column = record { atom = column.atom; column = record { 0 = column.column } }

-- the sign of a comparison with its sides exchanged
abbrev pub mirrored_sign : Sign → Sign
mirrored_sign Equal = Equal
mirrored_sign Differs = Differs
mirrored_sign Less = More
mirrored_sign AtMost = AtLeast
mirrored_sign More = Less
mirrored_sign AtLeast = AtMost

abbrev pub with_column : BoundColumn → Sign → BoundColumn → Part
with_column left Equal right = part.Equality (place_of left) (place_of right)
with_column left sign right =
    part.Compared (record { left = place_of left; sign = sign; right = operand.At (place_of right) })

abbrev pub with_value : BoundColumn → Sign → Value → Part
with_value left Equal value = part.Constant (place_of left) value
with_value left sign value = part.Compared (record { left = place_of left; sign = sign; right = operand.Fixed value })

-- `=` makes an equality or a constant, another sign a comparison; a value on the left changes sides with the column
abbrev pub part_of : Meaning → Sign → Meaning → Option Part
part_of (At left) sign (At right) = Some (with_column left sign right)
part_of (At left) sign (Fixed value) = Some (with_value left sign value)
part_of (Fixed value) sign (At right) = Some (with_value right (mirrored_sign sign) value)
part_of _ _ _ = None

-- BETWEEN makes two comparisons
abbrev pub parts : Condition → List Part
parts (Compare left sign right) = option_to_list (part_of left sign right)
parts (Between value low high) =
    option_to_list (part_of value AtLeast low) ++ option_to_list (part_of value AtMost high)

abbrev pub equality_of : Part → Option (Place × Place)
equality_of (part.Equality left right) = Some (left, right)
equality_of _ = None

abbrev pub constant_of : Part → Option (Place × Value)
constant_of (part.Constant place value) = Some (place, value)
constant_of _ = None

abbrev pub comparison_of : Part → Option Comparison
comparison_of (part.Compared comparison) = Some comparison
comparison_of _ = None

abbrev pub place_at : ℕ → ℕ → Place
place_at atom column = record { atom = atom; column = record { 0 = column } }

-- all columns of all atoms in order
abbrev pub all_places : List Atom → List Place
all_places atoms = flat_map (λ a. map (place_at a.0) (range_with_len 0 a.1.width)) (enumerate_from 0 atoms)

abbrev pub outputs : LookedUp → List Place
outputs block = if block.star then all_places block.atoms else map place_of (filter_map column_of block.items)

unfoldable pub bound_block : LookedUp → Block
bound_block block =
    let all = flat_map parts block.conditions in
    record {
      atoms = block.atoms;
      equalities = filter_map equality_of all;
      constants = filter_map constant_of all;
      comparisons = filter_map comparison_of all;
      output = outputs block;
    }

-- ---- what building asks and adds

-- its atom and its column have numbers of 16 bits
abbrev pub IsSmall : Meaning → Type 0
IsSmall (At column) = (column.atom < 65536) × (column.column < 65536)
IsSmall _ = Unit {0}

abbrev pub ConditionIsSmall : Condition → Type 0
ConditionIsSmall (Compare left sign right) = IsSmall left × IsSmall right
ConditionIsSmall (Between value low high) = IsSmall value × IsSmall low × IsSmall high

pub record BlockIsSmall (block : LookedUp) : Type 0 where
  pub atoms : length block.atoms < 65536
  pub items : All IsSmall block.items
  pub conditions : All ConditionIsSmall block.conditions

-- a block with these parts more
pub record Adds (before after : Block) (all : List Part) : Type 0 where
  pub atoms : after.atoms ≡ before.atoms
  pub equalities : after.equalities ≡ before.equalities ++ filter_map equality_of all
  pub constants : after.constants ≡ before.constants ++ filter_map constant_of all
  pub comparisons : after.comparisons ≡ before.comparisons ++ filter_map comparison_of all
  pub output : after.output ≡ before.output
