-- The block of a DELETE.
use Rattle.std.proofs.Common.{◌≡◌, ℕ, ◌<◌, ◌≤◌, ◌^◌, List, [], ◌∷◌, ◌++◌, false, length, refl, ap, arith, sym, ◌∙◌, subst}
use Rattle.std.proofs.lemmas.List.{length-map}
use Rattle.beas_core.specs.declared.schema.ColType.{ColType}
use Rattle.name_resolution.specs.declared.meaning.Meaning.{Meaning}
use Rattle.catalogue.specs.Schema.{Schema, SchemaIsSound}
use Rattle.sql_text.specs.declared.tree.Cond.{Cond}
use Rattle.sql_text.specs.declared.tree.FromItem.{FromItem}
use Rattle.name_resolution.specs.Binding.{delete_block}
use Rattle.name_resolution.specs.LookedUp.{looked_up, output_kinds, BlockIsSmall}
use Rattle.name_resolution.specs.Meanings.{sources, meaning, condition}
use Rattle.name_resolution.specs.Refusing.{repeated_among}
use Rattle.name_resolution.proofs.BindFacts.{block_small}

-- one alias doesn't stand twice
pub one_alias : (item : FromItem) → repeated_among (item ∷ []) ≡ []
unfolding repeated_among
one_alias item = refl

one_atom : (schema : Schema) (table : List ℕ) (conditions : List Cond) → length (looked_up schema (delete_block table conditions)).atoms ≤ 16
unfolding looked_up
one_atom schema table conditions = omega arith

pub delete_small : (schema : Schema) (table : List ℕ) (conditions : List Cond) → SchemaIsSound schema
    → BlockIsSmall (looked_up schema (delete_block table conditions))
delete_small schema table conditions sound = block_small schema (delete_block table conditions) sound (one_atom schema table conditions)

pub delete_few : (schema : Schema) (table : List ℕ) (conditions : List Cond) → length conditions < 2 ^ 32
    → length (looked_up schema (delete_block table conditions)).conditions < 2 ^ 32
unfolding looked_up
delete_few schema table conditions few =
    subst (λ n. n < 2 ^ 32) (sym (length-map conditions (condition (meaning (sources schema (delete_block table conditions).from_items))))) few

pub the_item : (lent items empty : List FromItem) (table first second : List ℕ) → lent ≡ items
    → items ≡ empty ++ record { table = first; alias = second } ∷ [] → empty ≡ []
    → first ≡ table → second ≡ table → lent ≡ record { table = table; alias = table } ∷ []
the_item lent items empty table first second is pushed none one two =
    let item : List ℕ → List ℕ → FromItem = λ t a. record { table = t; alias = a } in
    is ∙ pushed ∙ ap (λ xs. xs ++ item first second ∷ []) none ∙ ap (λ t. item t second ∷ []) one ∙ ap (λ a. item table a ∷ []) two

-- no items have no types
pub no_kinds : (schema : Schema) (items : List FromItem) (meanings : List Meaning) (types : List ColType) → meanings ≡ [] → types ≡ []
    → types ≡ output_kinds false (sources schema items) meanings
no_kinds schema items meanings types none no_types = no_types ∙ ap (output_kinds false (sources schema items)) (sym none)
