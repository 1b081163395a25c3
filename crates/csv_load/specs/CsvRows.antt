-- The rows of a CSV file, over the list of its records as `csv` reads them with its default settings.
--     records_of text                           the records, one leading mark EF BB BF dropped
--     is_header columns header                  each field names one column, and each column is named by one field
--     row_in longest columns header fields      the row of a record
--     fault_in longest columns nth fields       why a record is refused, where it is: columns in the file's order
--     rows_in, fault_of                         the rows of a file, and why it is refused
use Rattle.std.specs.Prelude.{◌&&◌, ◌==◌, if◌then◌else◌, Bool, not, ℕ, List, [], ◌∷◌, length, map, filter, slice_get, Option, Some, None}
use Rattle.std.specs.List.{list_all, filter_map, find, enumerate_from, zip}
use Rattle.std.specs.Option.{is_some, option_and_then, option_map, option_map_or}
use Rattle.csv.specs.Reading.{default_config, records, strip_bom}
use Rattle.beas_core.specs.declared.value.Value.{Value}
use Rattle.beas_core.specs.declared.schema.Column.{Column}
use Rattle.beas_core.specs.declared.refusal.Refusal.{Refusal}
use Rattle.beas_core.specs.declared.refusal.Refusal.TheVariants.{BadField, HeaderMismatch, RecordWidth}
use Rattle.csv_load.specs.Fields.{names, cell}

-- a record is the list of its fields
abbrev pub Record : Type 0
Record = List (List ℕ)

unfoldable pub records_of : List ℕ → List Record
records_of text = records default_config (strip_bom text)

abbrev pub the_only : {X : Type 0} → List X → Option X
the_only [] = None
the_only (x ∷ []) = Some x
the_only (x ∷ y ∷ xs) = None

-- the one column that a header's field names
abbrev pub column_of : List Column → List ℕ → Option Column
column_of columns field = the_only (filter (names field) columns)

-- the place of the one field that names a column
abbrev pub place_of : Record → Column → Option ℕ
place_of header column = the_only (map (λ p. p.0) (filter (λ p. names p.1 column) (enumerate_from 0 header)))

abbrev pub is_header : List Column → Record → Bool
is_header columns header =
    list_all (λ field. is_some (column_of columns field)) header
    && list_all (λ column. is_some (place_of header column)) columns

-- the columns in the file's order
abbrev pub in_file_order : List Column → Record → List Column
in_file_order columns header = filter_map (column_of columns) header

-- the value of one column in a record
abbrev pub value_in : ℕ → Record → Record → Column → Option Value
value_in longest header fields column =
    option_and_then (cell longest column.kind) (option_and_then (slice_get fields) (place_of header column))

abbrev pub row_in : ℕ → List Column → Record → Record → List Value
row_in longest columns header fields = filter_map (value_in longest header fields) columns

-- the first that is there
abbrev pub first_some : {X Y : Type 0} → (X → Option Y) → List X → Option Y
first_some f [] = None
first_some f (x ∷ xs) = option_map_or Some (f x) (first_some f xs)

abbrev pub is_bad : ℕ → Column → List ℕ → Bool
is_bad longest column field = not (is_some (cell longest column.kind field))

-- the first column whose field has no value of its kind
abbrev pub bad_column : ℕ → List Column → Record → Option Column
bad_column longest columns fields =
    option_map (λ p. p.0) (find (λ p. is_bad longest p.0 p.1) (zip columns fields))

abbrev pub fault_in : ℕ → List Column → ℕ → Record → Option Refusal
fault_in longest columns nth fields =
    if length fields == length columns
    then option_map (λ column. BadField nth column.name) (bad_column longest columns fields)
    else Some (RecordWidth nth (length fields) (length columns))

-- the records after the header are numbered from 1
abbrev pub fault_under : ℕ → List Column → List Record → Option Refusal
fault_under longest columns records = first_some (λ p. fault_in longest columns p.0 p.1) (enumerate_from 1 records)

unfoldable pub rows_under : ℕ → List Column → List Record → List (List Value)
rows_under longest columns [] = []
rows_under longest columns (header ∷ records) = map (row_in longest columns header) records

unfoldable pub first_fault : ℕ → List Column → List Record → Option Refusal
first_fault longest columns [] = Some HeaderMismatch
first_fault longest columns (header ∷ records) =
    if is_header columns header then fault_under longest (in_file_order columns header) records else Some HeaderMismatch

-- the rows of a file that isn't refused, and why a file is refused
abbrev pub rows_in : ℕ → List Column → List ℕ → List (List Value)
rows_in longest columns text = rows_under longest columns (records_of text)

abbrev pub fault_of : ℕ → List Column → List ℕ → Option Refusal
fault_of longest columns text = first_fault longest columns (records_of text)
