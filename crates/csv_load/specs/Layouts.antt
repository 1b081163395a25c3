-- How the code keeps a header: the columns in the file's order, and for each column of the table its place.
--     slots_of columns header              each column's place in a record and its kind
--     row_of_slots longest slots fields    the row of a record
--     has_values longest slots fields      the record has a value in each slot
--     SlotsTell longest layout             of a record of the layout's width this is so where none of its fields is bad
--     IsLayout columns header layout       the header fits, and the layout is its
use Rattle.std.specs.Prelude.{◌≡◌, Bool, not, ℕ, true, List, length, map, slice_get, Option}
use Rattle.std.proofs.Common.{Bor}
use Rattle.std.specs.List.{filter_map, list_all}
use Rattle.std.specs.Option.{is_some, option_and_then, option_map}
use Rattle.beas_core.specs.declared.value.Value.{Value}
use Rattle.beas_core.specs.declared.schema.Column.{Column}
use Rattle.csv_load.specs.declared.header.Layout.{Layout}
use Rattle.csv_load.specs.declared.header.Slot.{Slot}
use Rattle.csv_load.specs.Fields.{cell}
use Rattle.csv_load.specs.CsvRows.{Record, bad_column, in_file_order, is_header, place_of}

-- columns that are lent
abbrev pub the_columns : List (Bor Column) → List Column
the_columns columns = map (λ column. column.now) columns

abbrev pub slot_of : Record → Column → Option Slot
slot_of header column = option_map (λ place. record { position = place; kind = column.kind }) (place_of header column)

abbrev pub slots_of : List Column → Record → List Slot
slots_of columns header = filter_map (slot_of header) columns

abbrev pub value_at : ℕ → Record → Slot → Option Value
value_at longest fields slot = option_and_then (cell longest slot.kind) (slice_get fields slot.position)

abbrev pub row_of_slots : ℕ → List Slot → Record → List Value
row_of_slots longest slots fields = filter_map (value_at longest fields) slots

abbrev pub has_values : ℕ → List Slot → Record → Bool
has_values longest slots fields = list_all (λ slot. is_some (value_at longest fields slot)) slots

abbrev pub SlotsTell : ℕ → Layout → Type 0
SlotsTell longest layout =
    (fields : Record) → length fields ≡ length layout.in_file.items
    → has_values longest layout.slots.items fields ≡ not (is_some (bad_column longest (the_columns layout.in_file.items) fields))

pub record IsLayout (columns : List Column) (header : Record) (layout : Layout) : Type 0 where
  pub fits : is_header columns header ≡ true
  pub in_file : the_columns layout.in_file.items ≡ in_file_order columns header
  pub slots : layout.slots.items ≡ slots_of columns header
