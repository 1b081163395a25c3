-- What the last report tells, part by part.
--     bound_told report                 the number that was announced
--     reads_told report                 how many tuples were read
--     plan_told report                  the lines of the plan
--     count_told report                 how many: rows that changed, members of the greatest group, pairs, rows of an answer, or columns
--     session_told report               the session
--     refusal_told report               why the statement was refused
--     names_told report                 the names of the columns of an answer, in their order
--     cell_told report row column       the cell that stands there
--     integer_in cell ..                what is in it, by its type
--     pair_told report k, place_told    a pair of columns; a column that makes the query covered
use Rattle.std.specs.Prelude.{ℕ, ℤ, List, length, Option, None, Some, option_and_then, option_map, slice_get}
use Rattle.aggregate.specs.declared.cell.Cell.{Cell}
use Rattle.aggregate.specs.declared.cell.Cell.TheVariants.{Plain, Count, Sum}
use Rattle.beas_core.specs.declared.refusal.Refusal.{Refusal}
use Rattle.beas_core.specs.declared.value.Value.TheVariants.{Int, Str}
use Rattle.report.specs.declared.reports.Report.{Report}
use Rattle.report.specs.declared.reports.Report.TheVariants.{Changed, Greatest, Pairs, Explained, Answered, Grouped, Specialised, Opened, Probed, Refused}

abbrev pub bound_told : Option Report → Option ℕ
bound_told (Some (Explained bound plan)) = Some bound
bound_told (Some (Answered bound plan header rows reads)) = Some bound
bound_told (Some (Grouped bound plan header rows reads)) = Some bound
bound_told (Some (Opened session bound)) = Some bound
bound_told _ = None

abbrev pub reads_told : Option Report → Option ℕ
reads_told (Some (Answered bound plan header rows reads)) = Some reads
reads_told (Some (Grouped bound plan header rows reads)) = Some reads
reads_told _ = None

abbrev pub plan_told : Option Report → Option (List ℕ)
plan_told (Some (Explained bound plan)) = Some plan
plan_told (Some (Answered bound plan header rows reads)) = Some plan
plan_told (Some (Grouped bound plan header rows reads)) = Some plan
plan_told _ = None

abbrev pub count_told : Option Report → Option ℕ
count_told (Some (Changed rows)) = Some rows
count_told (Some (Greatest most)) = Some most
count_told (Some (Pairs found)) = Some (length found)
count_told (Some (Answered bound plan header rows reads)) = Some (length rows)
count_told (Some (Grouped bound plan header rows reads)) = Some (length rows)
count_told (Some (Specialised (Some places))) = Some (length places)
count_told _ = None

abbrev pub session_told : Option Report → Option ℕ
session_told (Some (Opened session bound)) = Some session
session_told (Some (Probed session)) = Some session
session_told _ = None

abbrev pub refusal_told : Option Report → Option Refusal
refusal_told (Some (Refused why)) = Some why
refusal_told _ = None

abbrev pub names_told : Option Report → Option (List (List ℕ))
names_told (Some (Answered bound plan header rows reads)) = Some header
names_told (Some (Grouped bound plan header rows reads)) = Some header
names_told _ = None

abbrev pub name_told : Option Report → ℕ → Option (List ℕ)
name_told report column = option_and_then (λ names. slice_get names column) (names_told report)

abbrev pub at_in : {X : Type 0} → List (List X) → ℕ → ℕ → Option X
at_in rows row column = option_and_then (λ (cells : List _). slice_get cells column) (slice_get rows row)

abbrev pub cell_told : Option Report → ℕ → ℕ → Option Cell
cell_told (Some (Answered bound plan header rows reads)) row column = option_map Plain (at_in rows row column)
cell_told (Some (Grouped bound plan header rows reads)) row column = at_in rows row column
cell_told _ row column = None

abbrev pub integer_in : Cell → Option ℤ
integer_in (Plain (Int number)) = Some number
integer_in _ = None

abbrev pub text_in : Cell → Option (List ℕ)
text_in (Plain (Str text)) = Some text
text_in _ = None

abbrev pub count_in : Cell → Option ℕ
count_in (Count count) = Some count
count_in _ = None

abbrev pub sum_in : Cell → Option ℤ
sum_in (Sum sum) = Some sum
sum_in _ = None

abbrev pub pair_told : Option Report → ℕ → Option (List ℕ × List ℕ × ℕ)
pair_told (Some (Pairs found)) k = slice_get found k
pair_told _ k = None

abbrev pub place_told : Option Report → ℕ → Option (ℕ × List ℕ)
place_told (Some (Specialised (Some places))) k = slice_get places k
place_told _ k = None
