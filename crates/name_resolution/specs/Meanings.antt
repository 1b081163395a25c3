-- What refs and literals stand for in a block.
--     sources schema items       for each atom of a block its alias and its columns
--     named_by sources ref       the columns that a ref may stand for
--     meaning sources ref        the one column that it stands for, or that there is none, or that there are several
--     side_meaning names side    the same of a side of a condition, which may be a literal
--     condition names cond       a condition whose sides stand for what they stand for
use Rattle.std.specs.Prelude.{ℕ, Bool, true, List, [], ◌∷◌, map, filter, Option, Some, None}
use Rattle.std.specs.Option.{option_map_or}
use Rattle.std.specs.List.{enumerate_from, flat_map}
use Rattle.std.specs.Str.{bytes_eq}
use Rattle.beas_core.specs.declared.schema.Column.{Column}
use Rattle.beas_core.specs.declared.value.Value.{Value}
use Rattle.beas_core.specs.declared.value.Value.TheVariants.{Str}
use Rattle.catalogue.specs.Schema.{Schema, table_named, columns_at}
use Rattle.sql_text.specs.declared.tree.ColumnRef.{ColumnRef}
use Rattle.sql_text.specs.declared.tree.Cond.{Cond}
use Rattle.sql_text.specs.declared.tree.Cond.TheVariants as cond
use Rattle.sql_text.specs.declared.tree.FromItem.{FromItem}
use Rattle.sql_text.specs.declared.tree.Literal.{Literal}
use Rattle.sql_text.specs.declared.tree.Literal.TheVariants.{Number, Words}
use Rattle.sql_text.specs.declared.tree.Side.{Side}
use Rattle.sql_text.specs.declared.tree.Side.TheVariants as side
use Rattle.name_resolution.specs.declared.meaning.BoundColumn.{BoundColumn}
use Rattle.name_resolution.specs.declared.meaning.Condition.{Condition}
use Rattle.name_resolution.specs.declared.meaning.Condition.TheVariants.{Compare, Between}
use Rattle.name_resolution.specs.declared.meaning.Meaning.{Meaning}
use Rattle.name_resolution.specs.declared.meaning.Meaning.TheVariants.{At, Fixed, Unknown, Ambiguous, OutOfRange}
use Rattle.name_resolution.specs.Literals.{number_value}

pub record Source : Type 0 where
  pub alias : List ℕ
  pub columns : List Column

-- the columns of the table with this name, none where there is no such table
unfoldable pub columns_named : Schema → List ℕ → List Column
columns_named schema name = option_map_or (columns_at schema) (table_named schema name) []

abbrev pub sources : Schema → List FromItem → List Source
sources schema items = map (λ item. record { alias = item.alias; columns = columns_named schema item.table }) items

abbrev pub bound_column : ℕ → ℕ × Column → BoundColumn
bound_column atom column = record { atom = atom; column = column.0; kind = column.1.kind }

-- the columns with this name of an atom with these columns
unfoldable pub columns_in : ℕ → List ℕ → List Column → List BoundColumn
columns_in atom name columns =
    map (bound_column atom) (filter (λ c. bytes_eq c.1.name name) (enumerate_from 0 columns))

-- whether a ref may stand for a column of this atom: its alias is the one written, or none is written
abbrev pub may_name : ColumnRef → Source → Bool
may_name ref source = option_map_or (bytes_eq source.alias) ref.table true

unfoldable pub named_by : List Source → ColumnRef → List BoundColumn
named_by sources ref =
    flat_map (λ a. columns_in a.0 ref.column a.1.columns) (filter (λ a. may_name ref a.1) (enumerate_from 0 sources))

-- the one column, or that there is none, or that there are several
abbrev pub the_one : ColumnRef → List BoundColumn → Meaning
the_one ref [] = Unknown ref.table ref.column
the_one ref (column ∷ []) = At column
the_one ref (column ∷ other ∷ more) = Ambiguous ref.column

unfoldable pub meaning : List Source → ColumnRef → Meaning
meaning sources ref = the_one ref (named_by sources ref)

abbrev pub or_out_of_range : Bool → List ℕ → Option Value → Meaning
or_out_of_range negative digits (Some value) = Fixed value
or_out_of_range negative digits None = OutOfRange negative digits

abbrev pub literal_meaning : Literal → Meaning
literal_meaning (Number negative digits) = or_out_of_range negative digits (number_value negative digits)
literal_meaning (Words text) = Fixed (Str text)

abbrev pub side_meaning : (ColumnRef → Meaning) → Side → Meaning
side_meaning names (side.Column ref) = names ref
side_meaning names (side.Fixed literal) = literal_meaning literal

abbrev pub condition : (ColumnRef → Meaning) → Cond → Condition
condition names (cond.Compare left sign right) = Compare (side_meaning names left) sign (side_meaning names right)
condition names (cond.Between value low high) = Between (names value) (side_meaning names low) (side_meaning names high)
