-- The texts of reports, as bytes.
--     record_line fields                 the header or a row of an answer, as csv's default writer writes a record
--     records_text text header rows      the header and the rows, where `text` is that of an item
--     report_text k report               all lines of the report of statement k
use Rattle.std.specs.Prelude.{ℕ, List, [], ◌∷◌, ◌++◌, length, map, codes, decimal, Some, None}
use Rattle.std.specs.Fmt.{signed_decimal}
use Rattle.std.specs.List.{flat_map}
use Rattle.csv.specs.Writing.{default_writer, row_text}
use Rattle.aggregate.specs.declared.cell.Cell.{Cell}
use Rattle.aggregate.specs.declared.cell.Cell.TheVariants.{Plain, Count, Sum}
use Rattle.beas_core.specs.declared.value.Value.{Value}
use Rattle.beas_core.specs.declared.value.Value.TheVariants.{Int, Str}
use Rattle.beas_core.specs.Refusals.{number_of}
use Rattle.beas_core.specs.Texts.{concatenation}
use Rattle.report.specs.declared.reports.Report.{Report}
use Rattle.report.specs.declared.reports.Report.TheVariants.{Done, Changed, Greatest, Pairs, Explained, Answered, Grouped, Specialised, Opened, Probed, Refused}
use Rattle.report.specs.Texts.{refusal_text}

unfoldable pub record_line : List (List ℕ) → List ℕ
record_line fields = row_text default_writer fields

-- a value in a row
abbrev pub field_text : Value → List ℕ
field_text (Int number) = signed_decimal number
field_text (Str text) = text

-- a count, a sum or a value in a row of groups
abbrev pub cell_text : Cell → List ℕ
cell_text (Plain value) = field_text value
cell_text (Count count) = decimal count
cell_text (Sum sum) = signed_decimal sum

-- the header and the rows, a record each
abbrev pub records_text : {Item : Type 0} → (Item → List ℕ) → List (List ℕ) → List (List Item) → List ℕ
records_text text header rows = flat_map record_line (header ∷ map (λ row. map text row) rows)

-- the parts of one line of statement k
abbrev pub line : ℕ → List (List ℕ) → List (List ℕ)
line k parts = decimal k ∷ (codes " " ∷ (parts ++ (codes "\n" ∷ [])))

abbrev pub pair_line : ℕ → List ℕ × List ℕ × ℕ → List ℕ
pair_line k pair = concatenation (line k (codes "pair " ∷ pair.0 ∷ codes " " ∷ pair.1 ∷ codes " " ∷ decimal pair.2 ∷ []))

-- a column that wants a constant, with the number of its atom
abbrev pub place_line : ℕ → ℕ × List ℕ → List ℕ
place_line k place =
    concatenation (line k (codes "needs atom " ∷ decimal place.0 ∷ codes " column " ∷ place.1 ∷ []))

-- the announced number, and the plan lines after it
abbrev pub bound_text : ℕ → ℕ → List ℕ → List ℕ
bound_text k bound plan = concatenation (line k (codes "bound " ∷ decimal bound ∷ []) ++ (plan ∷ []))

abbrev pub counts_text : ℕ → ℕ → ℕ → List ℕ
counts_text k rows reads = concatenation (line k (codes "ok " ∷ decimal rows ∷ codes " rows " ∷ decimal reads ∷ codes " reads" ∷ []))

abbrev pub report_parts : ℕ → Report → List (List ℕ)
report_parts k Done = line k (codes "ok" ∷ [])
report_parts k (Changed rows) = line k (codes "ok " ∷ decimal rows ∷ codes " rows" ∷ [])
report_parts k (Greatest most) = line k (codes "max " ∷ decimal most ∷ [])
report_parts k (Pairs found) = flat_map (pair_line k) found ∷ line k (codes "ok " ∷ decimal (length found) ∷ codes " pairs" ∷ [])
report_parts k (Explained bound plan) = bound_text k bound plan ∷ line k (codes "ok" ∷ [])
report_parts k (Answered bound plan header rows reads) =
    bound_text k bound plan ∷ records_text field_text header rows ∷ counts_text k (length rows) reads ∷ []
report_parts k (Grouped bound plan header rows reads) =
    bound_text k bound plan ∷ records_text cell_text header rows ∷ counts_text k (length rows) reads ∷ []
report_parts k (Specialised None) = line k (codes "none" ∷ [])
report_parts k (Specialised (Some places)) =
    flat_map (place_line k) places ∷ line k (codes "ok " ∷ decimal (length places) ∷ codes " columns" ∷ [])
report_parts k (Opened session bound) =
    line k (codes "open " ∷ decimal session ∷ codes " bound " ∷ decimal bound ∷ [])
report_parts k (Probed session) = line k (codes "probed " ∷ decimal session ∷ [])
report_parts k (Refused why) = line k (codes "refused " ∷ decimal (number_of why) ∷ codes " " ∷ refusal_text why ∷ [])

unfoldable pub report_text : ℕ → Report → List ℕ
report_text k report = concatenation (report_parts k report)
