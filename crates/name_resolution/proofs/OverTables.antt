-- A bound query is over the tables of its catalogue.
use Rattle.std.proofs.Common.{◌≡◌, ℕ, List, [], length, map, All, refl, ap, arith, sym, ◌∙◌, subst, cond, Bool, true, false, Option, Some, None, ltb}
use Rattle.std.specs.List.{position_or_len, flat_map}
use Rattle.std.specs.Option.{option_map, option_map_or, is_none, unwrap_or}
use Rattle.std.specs.Str.{bytes_eq}
use Rattle.std.proofs.lemmas.Bool.Decides.{nat_tests}
use Rattle.std.proofs.lemmas.List.{append-nil, length-map}
use Rattle.beas_core.specs.declared.schema.TableId.{TableId}
use Rattle.beas_core.specs.Trees as query
use Rattle.catalogue.specs.Queries.{AtomIsOver, BlockIsOver, QueryIsOver}
use Rattle.catalogue.specs.Schema.{Schema, table_named, columns_at}
use Rattle.sql_text.specs.declared.tree.BlockTree.{BlockTree}
use Rattle.sql_text.specs.declared.tree.Cond.{Cond}
use Rattle.sql_text.specs.declared.tree.FromItem.{FromItem}
use Rattle.sql_text.specs.Trees as tree
use Rattle.name_resolution.specs.Binding.{delete_block, blocks_of, bound_query}
use Rattle.name_resolution.specs.LookedUp.{atom_of, looked_up, bound_block}
use Rattle.name_resolution.specs.Meanings.{columns_named}
use Rattle.name_resolution.specs.Refusing.{first, table_refusals, unknown_tables}
use Rattle.name_resolution.proofs.BindFacts.{all_of, none_each}
use Rattle.name_resolution.proofs.Ranges.{each_map}
use Rattle.name_resolution.proofs.WellFormed.{blocks_made, known}

over_named : (schema : Schema) (n : ℕ) (b : Bool) → ltb n (length schema.tables) ≡ b
    → (let o : Option TableId = option_map (λ i. record { 0 = i }) (cond b (Some n) None) in is_none o ≡ false
    → AtomIsOver schema (record { table = unwrap_or o (record { 0 = 0 }); width = length (option_map_or (columns_at schema) o []) }))
over_named schema n true below there = record { table = grind (arith, nat_tests); width = refl }
over_named schema n false below there = cc

atom_over : (schema : Schema) (item : FromItem) → first (table_refusals schema item.table) ≡ None → AtomIsOver schema (atom_of schema item)
unfolding atom_of columns_named table_refusals
atom_over schema item none =
    over_named schema (position_or_len (λ t. bytes_eq t.name item.table) schema.tables) (ltb (position_or_len (λ t. bytes_eq t.name item.table) schema.tables)
    (length schema.tables)) refl (known (is_none (table_named schema item.table)) _ none)

block_over : (schema : Schema) (block : BlockTree) → first (unknown_tables schema block) ≡ None → BlockIsOver schema (bound_block (looked_up schema block))
unfolding looked_up bound_block
block_over schema block none =
    all_of (AtomIsOver schema) (map (atom_of schema) block.from_items)
    (each_map (atom_of schema) (λ (item : FromItem). first (table_refusals schema item.table) ≡ None) (AtomIsOver schema)
    (λ item known. atom_over schema item known) block.from_items (none_each (λ (item : FromItem). table_refusals schema item.table) block.from_items none))

pub query_over : (schema : Schema) (t : tree.Tree) → first (flat_map (unknown_tables schema) (blocks_of t)) ≡ None → QueryIsOver schema (bound_query schema t)
query_over schema t none =
    subst (All (BlockIsOver schema)) (sym (blocks_made (λ b. bound_block (looked_up schema b)) t))
    (all_of (BlockIsOver schema) (map (λ b. bound_block (looked_up schema b)) (blocks_of t))
    (each_map (λ b. bound_block (looked_up schema b)) (λ b. first (unknown_tables schema b) ≡ None) (BlockIsOver schema)
    (λ b known. block_over schema b known) (blocks_of t) (none_each (unknown_tables schema) (blocks_of t) none)))

pub as_many_blocks : (schema : Schema) (t : tree.Tree) → length (query.blocks_of (bound_query schema t)) ≡ length (blocks_of t)
as_many_blocks schema t =
    ap length (blocks_made (λ b. bound_block (looked_up schema b)) t) ∙ length-map (blocks_of t) (λ b. bound_block (looked_up schema b))

pub delete_over : (schema : Schema) (table : List ℕ) (conditions : List Cond) → first (table_refusals schema table) ≡ None
    → BlockIsOver schema (bound_block (looked_up schema (delete_block table conditions)))
delete_over schema table conditions none =
    block_over schema (delete_block table conditions) (ap first (append-nil (table_refusals schema table)) ∙ none)

pub delete_one : (schema : Schema) (table : List ℕ) (conditions : List Cond)
    → length (bound_block (looked_up schema (delete_block table conditions))).atoms ≡ 1
unfolding looked_up bound_block
delete_one schema table conditions = refl
