-- The texts of refusals, as bytes.
--     literal_text value        a value as a literal: a number in decimal, a text in quotes with its quotes doubled
--     refusal_text why          what a report says of a refusal after its number
use Rattle.std.specs.Prelude.{ℕ, true, false, List, [], ◌∷◌, map, codes, decimal, Some, None}
use Rattle.std.specs.Fmt.{signed_decimal}
use Rattle.beas_core.specs.declared.value.Value.{Value}
use Rattle.beas_core.specs.declared.value.Value.TheVariants.{Int, Str}
use Rattle.beas_core.specs.declared.refusal.Counted.{Counted}
use Rattle.beas_core.specs.declared.refusal.Counted.TheVariants.{Tables, Columns, Constraints, Atoms, Blocks, Outputs, Rows}
use Rattle.beas_core.specs.declared.refusal.Refusal.{Refusal}
use Rattle.beas_core.specs.declared.refusal.Refusal.TheVariants.{Syntax, TooDeep, TableExists, UnknownTable, UnknownColumn, Ambiguous, DuplicateName, MixedTypes, WrongType, ShapeMismatch, BadLimit, AlreadyBroken, BreaksBound, WrongWidth, NumberRange, Unreadable, BadField, RecordWidth, HeaderMismatch, NotCovered, TooLarge, OverBudget, TooMany, NeedsDistinct, FileTooLong, UnknownAccess, TextTooLong, NotGrouped, SumOfText, TooManyCandidates, BadSession, SessionBusy, SessionIdle}
use Rattle.beas_core.specs.Texts.{concatenation, with_commas}
use Rattle.sql_tokens.specs.Tokens.{in_quotes}

abbrev pub literal_text : Value → List ℕ
literal_text (Int number) = signed_decimal number
literal_text (Str text) = in_quotes text

abbrev pub counted_text : Counted → List ℕ
counted_text Tables = codes "tables"
counted_text Columns = codes "columns"
counted_text Constraints = codes "constraints"
counted_text Atoms = codes "atoms"
counted_text Blocks = codes "blocks"
counted_text Outputs = codes "outputs"
counted_text Rows = codes "rows"

-- what a report says of a refusal after its number, part by part
abbrev pub refusal_parts : Refusal → List (List ℕ)
refusal_parts Syntax = codes "syntax" ∷ []
refusal_parts TooDeep = codes "nesting deeper than 32" ∷ []
refusal_parts (TableExists name) = codes "table " ∷ name ∷ codes " exists" ∷ []
refusal_parts (UnknownTable name) = codes "unknown table " ∷ name ∷ []
refusal_parts (UnknownColumn None column) = codes "unknown column " ∷ column ∷ []
refusal_parts (UnknownColumn (Some table) column) = codes "unknown column " ∷ table ∷ codes "." ∷ column ∷ []
refusal_parts (Ambiguous column) = codes "ambiguous column " ∷ column ∷ []
refusal_parts (DuplicateName name) = codes "duplicate name " ∷ name ∷ []
refusal_parts (MixedTypes block condition) = codes "type mismatch in block " ∷ decimal block ∷ codes " condition " ∷ decimal condition ∷ []
refusal_parts (WrongType row column) = codes "type mismatch in row " ∷ decimal row ∷ codes " column " ∷ column ∷ []
refusal_parts (ShapeMismatch block) = codes "shape mismatch at block " ∷ decimal block ∷ []
refusal_parts (BadLimit digits) = codes "limit " ∷ digits ∷ codes " not between 1 and 4294967295" ∷ []
refusal_parts (AlreadyBroken needed bound) = codes "greatest group " ∷ decimal needed ∷ codes " above limit " ∷ decimal bound ∷ []
refusal_parts (BreaksBound row access key) =
    codes "row " ∷ decimal row ∷ codes " breaks " ∷ access ∷ codes " at key (" ∷ with_commas (map literal_text key) ∷ codes ")" ∷ []
refusal_parts (WrongWidth row found wanted) =
    codes "row " ∷ decimal row ∷ codes " has " ∷ decimal found ∷ codes " values, " ∷ decimal wanted ∷ codes " wanted" ∷ []
refusal_parts (NumberRange false digits) = codes "number " ∷ digits ∷ codes " out of range" ∷ []
refusal_parts (NumberRange true digits) = codes "number -" ∷ digits ∷ codes " out of range" ∷ []
refusal_parts (Unreadable file) = codes "cannot read " ∷ in_quotes file ∷ []
refusal_parts (BadField nth column) = codes "record " ∷ decimal nth ∷ codes " column " ∷ column ∷ codes " bad field" ∷ []
refusal_parts (RecordWidth nth found wanted) =
    codes "record " ∷ decimal nth ∷ codes " has " ∷ decimal found ∷ codes " fields, " ∷ decimal wanted ∷ codes " wanted" ∷ []
refusal_parts HeaderMismatch = codes "header mismatch" ∷ []
refusal_parts (NotCovered block atom None) =
    codes "not covered: block " ∷ decimal block ∷ codes " atom " ∷ decimal atom ∷ codes " has no serving constraint" ∷ []
refusal_parts (NotCovered block atom (Some column)) =
    codes "not covered: block " ∷ decimal block ∷ codes " atom " ∷ decimal atom ∷ codes " column " ∷ column ∷ []
refusal_parts TooLarge = codes "bound past 128 bits" ∷ []
refusal_parts (OverBudget bound budget) = codes "bound " ∷ decimal bound ∷ codes " above budget " ∷ decimal budget ∷ []
refusal_parts (TooMany what limit) = codes "too many " ∷ counted_text what ∷ codes ", limit " ∷ decimal limit ∷ []
refusal_parts NeedsDistinct = codes "DISTINCT wanted" ∷ []
refusal_parts (FileTooLong limit) = codes "file longer than " ∷ decimal limit ∷ codes " bytes" ∷ []
refusal_parts (UnknownAccess name) = codes "unknown constraint " ∷ name ∷ []
refusal_parts (TextTooLong limit) = codes "text longer than " ∷ decimal limit ∷ codes " bytes" ∷ []
refusal_parts (NotGrouped column) = codes "column " ∷ column ∷ codes " not grouped" ∷ []
refusal_parts (SumOfText column) = codes "sum of text column " ∷ column ∷ []
refusal_parts (TooManyCandidates found) = decimal found ∷ codes " candidate columns, limit 16" ∷ []
refusal_parts (BadSession digits) = codes "session " ∷ digits ∷ codes " not between 1 and 64" ∷ []
refusal_parts (SessionBusy session) = codes "session " ∷ decimal session ∷ codes " has an open query" ∷ []
refusal_parts (SessionIdle session) = codes "session " ∷ decimal session ∷ codes " has no open query" ∷ []

abbrev pub refusal_text : Refusal → List ℕ
refusal_text why = concatenation (refusal_parts why)
