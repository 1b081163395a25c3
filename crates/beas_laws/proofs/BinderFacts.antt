-- The refusals of the binder and of pieces that say nothing name no file as unreadable.
use Rattle.std.proofs.Common.{ℕ, nat_lt, List, [], ◌∷◌, length, map, Option, Some, None, Result, Ok, Err, refl}
use Rattle.std.specs.Prelude.{IfErr}
use Rattle.std.specs.List.{AllZip, enumerate_from, flat_map}
use Rattle.std.specs.Option.{option_map_or}
use Rattle.beas_core.specs.declared.limits.Limits.{Limits}
use Rattle.beas_core.specs.declared.refusal.Counted.TheVariants.{Blocks, Atoms, Outputs}
use Rattle.beas_core.specs.declared.refusal.Refusal.{Refusal}
use Rattle.beas_core.specs.declared.refusal.Refusal.TheVariants.{BadSession, MixedTypes, ShapeMismatch, TextTooLong, TooMany, Unreadable}
use Rattle.beas_core.specs.declared.schema.ColType.{ColType}
use Rattle.beas_core.specs.declared.value.Value.TheVariants.{Str}
use Rattle.beas_core.specs.Spelling.{number_within}
use Rattle.catalogue.specs.Refusing.{repeated_name, unknown_table}
use Rattle.catalogue.specs.Schema.{Schema}
use Rattle.sql_tokens.specs.declared.token.Token.{Token}
use Rattle.sql_text.specs.declared.tree.Cond.{Cond}
use Rattle.sql_text.specs.declared.tree.FromItem.{FromItem}
use Rattle.sql_text.specs.declared.tree.Literal.{Literal}
use Rattle.sql_text.specs.Symbols.{Symbol, symbols}
use Rattle.sql_text.specs.Trees as tree
use Rattle.name_resolution.specs.declared.kinds.Flaw.{Flaw}
use Rattle.name_resolution.specs.declared.kinds.Flaw.TheVariants.{UnknownColumn, AmbiguousColumn, NumberRange, TextTooLong as LongText}
use Rattle.name_resolution.specs.declared.kinds.Kind.{Kind}
use Rattle.name_resolution.specs.declared.kinds.Kind.TheVariants as kind
use Rattle.name_resolution.specs.declared.meaning.LookedUp.{LookedUp}
use Rattle.name_resolution.specs.declared.meaning.Meaning.{Meaning}
use Rattle.name_resolution.specs.declared.meaning.Meaning.TheVariants.{Fixed, Unknown, Ambiguous, OutOfRange}
use Rattle.name_resolution.specs.Binding.{blocks_of, delete_block, delete_kinds, delete_refusals, kinds, looked_refusals, number_refusals, places_in_all, refusals, row_refusals, shape_of, text_refusals}
use Rattle.name_resolution.specs.LookedUp.{looked_up}
use Rattle.name_resolution.specs.Meanings.{literal_meaning}
use Rattle.name_resolution.specs.Refusing.{ambiguous_column, flaws, is_mixed, meanings, number_range, places, repeated_aliases, repeated_among, table_refusals, text_too_long, unknown_column, unknown_tables}
use Rattle.name_resolution.proofs.Ranges.{Each, each_append}
use Rattle.sql_parser.specs.Outcome.{Parses, Reading as StatementReading}
use Rattle.piece_reader.specs.declared.event.Event.{Event}
use Rattle.piece_reader.specs.declared.event.Event.TheVariants.{Said, Stepped}
use Rattle.piece_reader.specs.Sayings.{IsReadAs, Reading, Says, as_plain, of_session, plain, said, said_after, session_of, step, unnumbered}
use Rattle.beas_laws.proofs.CheckFacts.{repeated_other, table_other}
use Rattle.beas_laws.proofs.ListFacts.{Other, flat_other, list_if_other, list_other}

-- ---- what refs and literals stand for

unknown_other : (m : Meaning) → Each Other (unknown_column m)
unknown_other (Unknown table column) = (refl, tt)
unknown_other _ = tt

ambiguous_other : (m : Meaning) → Each Other (ambiguous_column m)
ambiguous_other (Ambiguous column) = (refl, tt)
ambiguous_other _ = tt

number_other : (m : Meaning) → Each Other (number_range m)
number_other (OutOfRange negative digits) = (refl, tt)
number_other _ = tt

text_other : (limit : ℕ) (m : Meaning) → Each Other (text_too_long limit m)
text_other limit (Fixed (Str text)) = list_if_other (nat_lt limit (length text)) (TextTooLong limit) refl
text_other limit _ = tt

flaws_other : (flaw : Flaw) (limit : ℕ) (m : Meaning) → Each Other (flaws flaw limit m)
unfolding flaws
flaws_other UnknownColumn limit m = unknown_other m
flaws_other AmbiguousColumn limit m = ambiguous_other m
flaws_other NumberRange limit m = number_other m
flaws_other LongText limit m = text_other limit m

-- ---- queries

pub places_other : (k : Kind) (limits : Limits) (shape : List ColType) (block : ℕ × LookedUp) → Each Other (places k limits shape block)
unfolding places
places_other (kind.OfMeaning flaw) limits shape block = flat_other (flaws flaw limits.text) (flaws_other flaw limits.text) (meanings block.1)
places_other kind.Types limits shape block =
    flat_other _ (λ c. list_if_other (is_mixed c.1) (MixedTypes block.0 c.0) refl) (enumerate_from 1 block.1.conditions)
places_other kind.Shapes limits shape block = list_if_other _ (ShapeMismatch block.0) refl
places_other kind.Blocks limits shape block = list_if_other _ (TooMany Blocks limits.blocks) refl
places_other kind.Atoms limits shape block = list_if_other _ (TooMany Atoms limits.atoms) refl
places_other kind.Outputs limits shape block = list_if_other _ (TooMany Outputs limits.outputs) refl

looked_other : (limits : Limits) (blocks : List LookedUp) → Each Other (looked_refusals limits blocks)
unfolding looked_refusals
looked_other limits blocks =
    flat_other (places_in_all limits (shape_of blocks) blocks)
    (λ k. flat_other (places k limits (shape_of blocks)) (places_other k limits (shape_of blocks)) (enumerate_from 1 blocks)) kinds

named_other : (schema : Schema) (name : List ℕ) → Each Other (table_refusals schema name)
unfolding table_refusals
named_other schema name = list_other (unknown_table schema name) (table_other schema name)

aliases_other : (items : List FromItem) → Each Other (repeated_among items)
unfolding repeated_among
aliases_other items = list_other (repeated_name (map (λ item. item.alias) items)) (repeated_other (map (λ item. item.alias) items))

pub refusals_other : (limits : Limits) (schema : Schema) (t : tree.Tree) → Each Other (refusals limits schema t)
unfolding refusals
refusals_other limits schema t =
    let blocks = blocks_of t in
    let tables = flat_other (unknown_tables schema) (λ b. flat_other _ (λ item. named_other schema item.table) b.from_items) blocks in
    let aliases = flat_other repeated_aliases (λ b. aliases_other b.from_items) blocks in
    each_append Other _ _ (each_append Other _ _ tables aliases) (looked_other limits (map (looked_up schema) blocks))

-- ---- rows and deletes

pub rows_other : (limits : Limits) (rows : List (List Literal)) → Each Other (row_refusals limits rows)
unfolding row_refusals
rows_other limits rows =
    each_append Other (flat_map (flat_map number_refusals) rows) (flat_map (flat_map (text_refusals limits.text)) rows)
    (flat_other (flat_map number_refusals) (λ row. flat_other number_refusals (λ l. number_other (literal_meaning l)) row) rows)
    (flat_other (flat_map (text_refusals limits.text))
    (λ row. flat_other (text_refusals limits.text) (λ l. text_other limits.text (literal_meaning l)) row) rows)

pub delete_other : (limits : Limits) (schema : Schema) (table : List ℕ) (conditions : List Cond)
    → Each Other (delete_refusals limits schema table conditions)
unfolding delete_refusals
delete_other limits schema table conditions =
    let block = looked_up schema (delete_block table conditions) in
    each_append Other (table_refusals schema table) _ (named_other schema table)
    (flat_other (λ k. places k limits [] (1, block)) (λ k. places_other k limits [] (1, block)) delete_kinds)

-- ---- pieces that say nothing

parsed_other : (a : List Symbol) (reading : StatementReading) → Parses a reading → IfErr reading Other
parsed_other a (Ok statement) h = tt
parsed_other a (Err (Unreadable file)) h = absurd h
parsed_other a (Err _) h = refl

plain_other : (reading : StatementReading) → IfErr reading Other → IfErr (as_plain reading) Other
plain_other (Ok statement) h = tt
plain_other (Err why) h = h

known_other : (digits : List ℕ) (o : Option ℕ) → IfErr (option_map_or Ok o (Err (BadSession digits))) Other
known_other digits (Some session) = tt
known_other digits None = refl

session_other : (saying : ℕ → Event) (session : Result ℕ Refusal) → IfErr session Other → IfErr (of_session saying session) Other
session_other saying (Ok session) h = tt
session_other saying (Err why) h = h

said_other : (digits : List ℕ) (reading : StatementReading) → IfErr reading Other → IfErr (said_after digits reading) Other
said_other digits (Ok statement) h =
    session_other (λ session. Said session statement) (session_of digits) (known_other digits (number_within 1 64 digits))
said_other digits (Err why) h = h

says_other : (a : List Symbol) (reading : Reading) → Says a reading → IfErr reading Other
says_other a _ (plain reading none h) = plain_other reading (parsed_other a reading h)
says_other a _ (step {digits = digits}) = session_other Stepped (session_of digits) (known_other digits (number_within 1 64 digits))
says_other a _ (said {digits = digits} {a = rest} reading none h) = said_other digits reading (parsed_other rest reading h)
says_other a _ (unnumbered none) = refl

-- each piece's reading, where it is a refusal
pub readings_other : (pieces : List (List Token)) (readings : List Reading) → AllZip IsReadAs pieces readings → Each (λ r. IfErr r Other) readings
readings_other [] [] h = tt
readings_other [] (reading ∷ readings) h = absurd h
readings_other (piece ∷ pieces) [] h = absurd h
readings_other (piece ∷ pieces) (reading ∷ readings) h = (says_other (symbols piece) reading h.0, readings_other pieces readings h.1)
