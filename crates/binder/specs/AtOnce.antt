-- A block of few atoms that is bound at once, where nothing in it is to be refused.
--     AddsSound limit before after conditions     a block with these conditions more, which have no flaw and don't mix types
--     ArePlacesOf places items                    the items have no flaw, and these are the places of their columns
--     IsSoundOutput limits names atoms tree places    the outputs, which have no flaw and aren't too many
--     IsSoundOver limits names atoms tree block   the block of these atoms that a tree is bound to, where nothing in it is refused
use Rattle.std.specs.Prelude.{◌≡◌, ◌≤◌, ℕ, false, List, [], length, map}
use Rattle.std.specs.List.{filter_map, flat_map, list_any}
use Rattle.beas_core.specs.declared.limits.Limits.{Limits}
use Rattle.beas_core.specs.declared.query.Atom.{Atom}
use Rattle.beas_core.specs.declared.query.Block.{Block}
use Rattle.beas_core.specs.declared.query.Place.{Place}
use Rattle.sql_text.specs.declared.tree.BlockTree.{BlockTree}
use Rattle.sql_text.specs.declared.tree.ColumnRef.{ColumnRef}
use Rattle.name_resolution.specs.declared.meaning.Condition.{Condition}
use Rattle.name_resolution.specs.declared.meaning.LookedUp.{LookedUp}
use Rattle.name_resolution.specs.declared.meaning.Meaning.{Meaning}
use Rattle.name_resolution.specs.LookedUp.{Adds, bound_block, column_of, outputs, parts, place_of}
use Rattle.name_resolution.specs.Meanings.{condition}
use Rattle.name_resolution.specs.Refusing.{condition_has_flaw, has_flaw, is_mixed}

abbrev pub ArePlacesOf : List Place → List Meaning → Type 0
ArePlacesOf places items =
    ((limit : ℕ) → list_any (has_flaw limit) items ≡ false) × (places ≡ map place_of (filter_map column_of items))

abbrev pub AddsSound : ℕ → Block → Block → List Condition → Type 0
AddsSound limit before after conditions = (list_any (condition_has_flaw limit) conditions ≡ false) × (list_any is_mixed conditions ≡ false)
    × Adds before after (flat_map parts conditions)

abbrev pub found_over : (ColumnRef → Meaning) → List Atom → BlockTree → LookedUp
found_over names atoms tree =
    record { atoms = atoms; star = tree.star; items = map names tree.items; kinds = []; conditions = map (condition names) tree.conditions }

abbrev pub IsSoundOutput : Limits → (ColumnRef → Meaning) → List Atom → BlockTree → List Place → Type 0
IsSoundOutput limits names atoms tree places =
    (list_any (has_flaw limits.text) (map names tree.items) ≡ false)
    × (length (map names tree.items) ≤ limits.outputs)
    × (places ≡ outputs (found_over names atoms tree))

abbrev pub IsSoundOver : Limits → (ColumnRef → Meaning) → List Atom → BlockTree → Block → Type 0
IsSoundOver limits names atoms tree block =
    (list_any (has_flaw limits.text) (map names tree.items) ≡ false)
    × (length (map names tree.items) ≤ limits.outputs)
    × (list_any (condition_has_flaw limits.text) (map (condition names) tree.conditions) ≡ false)
    × (list_any is_mixed (map (condition names) tree.conditions) ≡ false)
    × (block ≡ bound_block (found_over names atoms tree))
