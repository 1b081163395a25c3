-- Why a query, rows or a delete are refused: for each kind of refusal its places in reading order.
--     unknown_tables schema block       the tables of a block that there are not
--     repeated_aliases block            the first alias that stands among those before it
--     places kind limits shape block    the places of a kind in a block with its names looked up, which has a number;
--                                       shape is the types of the outputs of the first block
--     first refusals                    the first, if there is one
use Rattle.std.specs.Prelude.{ℕ, ◌||◌, if◌then◌else◌, Bool, true, false, not, nat_lt, List, [], ◌∷◌, ◌++◌, length, map, Option, Some, None}
use Rattle.std.specs.Option.{option_to_list}
use Rattle.std.specs.List.{enumerate_from, flat_map, list_any}
use Rattle.beas_core.specs.declared.limits.Limits.{Limits}
use Rattle.beas_core.specs.declared.refusal.Counted.TheVariants.{Blocks, Atoms, Outputs}
use Rattle.beas_core.specs.declared.refusal.Refusal.{Refusal}
use Rattle.beas_core.specs.declared.refusal.Refusal.TheVariants as refusal
use Rattle.beas_core.specs.declared.schema.ColType.{ColType}
use Rattle.beas_core.specs.declared.schema.ColType.TheVariants as type
use Rattle.beas_core.specs.declared.value.Value.TheVariants.{Int, Str}
use Rattle.beas_core.specs.Results.{refused_if}
use Rattle.catalogue.specs.Refusing.{repeated_name, unknown_table}
use Rattle.catalogue.specs.Schema.{Schema}
use Rattle.sql_text.specs.declared.tree.BlockTree.{BlockTree}
use Rattle.sql_text.specs.declared.tree.FromItem.{FromItem}
use Rattle.name_resolution.specs.declared.kinds.Flaw.{Flaw}
use Rattle.name_resolution.specs.declared.kinds.Flaw.TheVariants.{UnknownColumn, AmbiguousColumn, NumberRange, TextTooLong}
use Rattle.name_resolution.specs.declared.kinds.Kind.{Kind}
use Rattle.name_resolution.specs.declared.kinds.Kind.TheVariants as kind
use Rattle.name_resolution.specs.declared.meaning.Condition.{Condition}
use Rattle.name_resolution.specs.declared.meaning.Condition.TheVariants.{Compare, Between}
use Rattle.name_resolution.specs.declared.meaning.Meaning.{Meaning}
use Rattle.name_resolution.specs.declared.meaning.Meaning.TheVariants.{At, Fixed, Unknown, Ambiguous, OutOfRange}
use Rattle.name_resolution.specs.declared.meaning.LookedUp.{LookedUp}

-- the refusal as a list, where a test fails
abbrev pub refusals_if : Bool → Refusal → List Refusal
refusals_if failing why = option_to_list (refused_if failing why)

-- ---- tables and aliases

unfoldable pub table_refusals : Schema → List ℕ → List Refusal
table_refusals schema name = option_to_list (unknown_table schema name)

abbrev pub unknown_tables : Schema → BlockTree → List Refusal
unknown_tables schema block = flat_map (λ item. table_refusals schema item.table) block.from_items

-- the first alias that stands among those before it
unfoldable pub repeated_among : List FromItem → List Refusal
repeated_among items = option_to_list (repeated_name (map (λ item. item.alias) items))

abbrev pub repeated_aliases : BlockTree → List Refusal
repeated_aliases block = repeated_among block.from_items

-- ---- refs and literals

abbrev pub unknown_column : Meaning → List Refusal
unknown_column (Unknown table column) = refusal.UnknownColumn table column ∷ []
unknown_column _ = []

abbrev pub ambiguous_column : Meaning → List Refusal
ambiguous_column (Ambiguous column) = refusal.Ambiguous column ∷ []
ambiguous_column _ = []

abbrev pub number_range : Meaning → List Refusal
number_range (OutOfRange negative digits) = refusal.NumberRange negative digits ∷ []
number_range _ = []

abbrev pub text_too_long : ℕ → Meaning → List Refusal
text_too_long limit (Fixed (Str text)) = refusals_if (nat_lt limit (length text)) (refusal.TextTooLong limit)
text_too_long limit _ = []

-- what is wrong with what a ref or a literal stands for, as a flaw of this kind
unfoldable pub flaws : Flaw → ℕ → Meaning → List Refusal
flaws UnknownColumn limit meaning = unknown_column meaning
flaws AmbiguousColumn limit meaning = ambiguous_column meaning
flaws NumberRange limit meaning = number_range meaning
flaws TextTooLong limit meaning = text_too_long limit meaning

-- reading order: left and right, or the value, low and high
abbrev pub sides : Condition → List Meaning
sides (Compare left sign right) = left ∷ right ∷ []
sides (Between value low high) = value ∷ low ∷ high ∷ []

-- reading order: the items, then the conditions
abbrev pub meanings : LookedUp → List Meaning
meanings block = block.items ++ flat_map sides block.conditions

-- whether there is a flaw of any kind
abbrev pub has_flaw : ℕ → Meaning → Bool
has_flaw limit (At column) = false
has_flaw limit (Fixed (Int number)) = false
has_flaw limit (Fixed (Str text)) = nat_lt limit (length text)
has_flaw limit _ = true

abbrev pub condition_has_flaw : ℕ → Condition → Bool
condition_has_flaw limit (Compare left sign right) = has_flaw limit left || has_flaw limit right
condition_has_flaw limit (Between value low high) = has_flaw limit value || (has_flaw limit low || has_flaw limit high)

abbrev pub block_has_flaw : ℕ → LookedUp → Bool
block_has_flaw limit block = list_any (has_flaw limit) block.items || list_any (condition_has_flaw limit) block.conditions

-- ---- types

abbrev pub kind_of : Meaning → Option ColType
kind_of (At column) = Some column.kind
kind_of (Fixed (Int number)) = Some type.Integer
kind_of (Fixed (Str text)) = Some type.Words
kind_of _ = None

abbrev pub same_kind : ColType → ColType → Bool
same_kind type.Integer type.Integer = true
same_kind type.Integer type.Words = false
same_kind type.Words type.Integer = false
same_kind type.Words type.Words = true

-- two sides differ in type
abbrev pub kinds_differ : Option ColType → Option ColType → Bool
kinds_differ (Some left) (Some right) = not (same_kind left right)
kinds_differ _ _ = false

abbrev pub is_mixed : Condition → Bool
is_mixed (Compare left sign right) = kinds_differ (kind_of left) (kind_of right)
is_mixed (Between value low high) =
    if kinds_differ (kind_of value) (kind_of low) then true else kinds_differ (kind_of value) (kind_of high)

abbrev pub same_kinds : List ColType → List ColType → Bool
same_kinds [] [] = true
same_kinds [] (k ∷ ks) = false
same_kinds (j ∷ js) [] = false
same_kinds (j ∷ js) (k ∷ ks) = if same_kind j k then same_kinds js ks else false

-- ---- places

abbrev pub mixed_types : ℕ → List Condition → List Refusal
mixed_types number conditions =
    flat_map (λ c. refusals_if (is_mixed c.1) (refusal.MixedTypes number c.0)) (enumerate_from 1 conditions)

-- outputs are counted as they are written, so `*` is none
unfoldable pub places : Kind → Limits → List ColType → ℕ × LookedUp → List Refusal
places (kind.OfMeaning flaw) limits shape block = flat_map (flaws flaw limits.text) (meanings block.1)
places kind.Types limits shape block = mixed_types block.0 block.1.conditions
places kind.Shapes limits shape block =
    refusals_if (not (same_kinds shape block.1.kinds)) (refusal.ShapeMismatch block.0)
places kind.Blocks limits shape block = refusals_if (nat_lt limits.blocks block.0) (refusal.TooMany Blocks limits.blocks)
places kind.Atoms limits shape block =
    refusals_if (nat_lt limits.atoms (length block.1.atoms)) (refusal.TooMany Atoms limits.atoms)
places kind.Outputs limits shape block =
    refusals_if (nat_lt limits.outputs (length block.1.items)) (refusal.TooMany Outputs limits.outputs)

-- ---- the first

abbrev pub first : List Refusal → Option Refusal
first [] = None
first (why ∷ more) = Some why
