-- What is announced of a grouped statement's query: each of its keys and items stands for a column.
use Rattle.std.proofs.Common.{◌≡◌, ◌≤◌, ◌+◌, ◌^◌, ℕ, suc, Bool, true, false, if◌then◌else◌, List, [], ◌∷◌, ◌++◌, length, map, length-append, refl, sym, ap, ◌∙◌, subst, arith, Option, Some, None, Result, Ok, Err}
use Rattle.std.specs.List.{cons_option, filter_map, flat_map}
use Rattle.std.specs.Option.{is_some}
use Rattle.std.specs.Prelude.{nat_le, IfOk}
use Rattle.beas_core.specs.declared.errors.Fail.{Fail}
use Rattle.beas_core.specs.Results.{Gives}
use Rattle.std.proofs.lemmas.List.{length-map}
use Rattle.beas_core.specs.declared.limits.Limits.{Limits}
use Rattle.beas_core.specs.declared.plan.Prepared.{Prepared}
use Rattle.beas_core.specs.declared.refusal.Refusal.{Refusal}
use Rattle.beas_core.specs.declared.refusal.Refusal.TheVariants.{TooLarge}
use Rattle.beas_core.specs.declared.schema.ColType.{ColType}
use Rattle.beas_core.specs.Guiding.{Uncovered, block_tasks, first_uncovered}
use Rattle.beas_core.specs.Trees.{QueryTree}
use Rattle.catalogue.specs.Schema.{Schema}
use Rattle.sql_text.specs.declared.tree.BlockTree.{BlockTree}
use Rattle.sql_text.specs.declared.tree.ColumnRef.{ColumnRef}
use Rattle.sql_text.specs.declared.tree.GroupItem.{GroupItem}
use Rattle.sql_text.specs.Grouping.{IsGroupedOver, column_in, grouped_block}
use Rattle.sql_text.specs.Trees.{Tree, Block as BlockOf}
use Rattle.name_resolution.specs.declared.kinds.Flaw.TheVariants.{UnknownColumn, AmbiguousColumn}
use Rattle.name_resolution.specs.declared.kinds.Kind.TheVariants.{OfMeaning, Outputs}
use Rattle.name_resolution.specs.declared.meaning.BoundColumn.{BoundColumn}
use Rattle.name_resolution.specs.declared.meaning.LookedUp.{LookedUp}
use Rattle.name_resolution.specs.Binding.{bound_query, kinds, looked_refusals, places_in_all, refusals}
use Rattle.name_resolution.specs.LookedUp.{all_places, atom_of, bound_block, column_of, looked_up, place_of}
use Rattle.name_resolution.specs.Meanings.{Source, meaning, named_by, sources, the_one}
use Rattle.name_resolution.specs.Refusing.{ambiguous_column, first, flaws, meanings, places, repeated_aliases, sides, unknown_column, unknown_tables}
use Rattle.name_resolution.proofs.BindFacts.{none_each, none_left, not_over}
use Rattle.name_resolution.proofs.Ranges.{Each}
use Rattle.plan_builder.specs.Preparation.{announced_number, prepared_query, preparation, unless_uncovered}
use Rattle.session.specs.Announced.{and_then, announcement, unless_refused, within_budget}
use Rattle.session.specs.Grouping.{HasOutputs}
use Rattle.session.proofs.AnnouncedFacts.{prepare_within, within_same}

-- ---- refs that aren't refused

pub none_after : (xs ys : List Refusal) → first (xs ++ ys) ≡ None → first ys ≡ None
none_after [] ys none = none
none_after (x ∷ xs) ys none = cc

one_more : {X : Type 0} (o : Option X) (xs : List X) (n : ℕ) → is_some o ≡ true → length xs ≡ n → length (cons_option o xs) ≡ suc n
one_more None xs n some e = cc
one_more (Some x) xs n some e = ap suc e

a_column : (names : List Source) (ref : ColumnRef) → first (unknown_column (meaning names ref)) ≡ None → first (ambiguous_column (meaning names ref)) ≡ None
    → is_some (column_of (meaning names ref)) ≡ true
unfolding meaning
a_column names ref known single = by (named_by names ref) known single
  where
    by : (found : List BoundColumn) → first (unknown_column (the_one ref found)) ≡ None → first (ambiguous_column (the_one ref found)) ≡ None
        → is_some (column_of (the_one ref found)) ≡ true
    by [] k s = cc
    by (column ∷ []) k s = refl
    by (column ∷ other ∷ more) k s = cc

columns_counted : (names : List Source) (refs : List ColumnRef) → Each (λ m. first (unknown_column m) ≡ None) (map (meaning names) refs)
    → Each (λ m. first (ambiguous_column m) ≡ None) (map (meaning names) refs) → length (filter_map column_of (map (meaning names) refs)) ≡ length refs
columns_counted names [] known single = refl
columns_counted names (ref ∷ refs) known single =
    one_more (column_of (meaning names ref)) (filter_map column_of (map (meaning names) refs)) (length refs)
    (a_column names ref known.0 single.0) (columns_counted names refs known.1 single.1)

each_left : {X : Type 0} (P : X → Type 0) (xs ys : List X) → Each P (xs ++ ys) → Each P xs
each_left P [] ys each = tt
each_left P (x ∷ xs) ys each = (each.0, each_left P xs ys each.1)

items_known : (limits : Limits) (shape : List ColType) (block : LookedUp) → first (places (OfMeaning UnknownColumn) limits shape (1, block)) ≡ None
    → Each (λ m. first (unknown_column m) ≡ None) block.items
unfolding places flaws
items_known limits shape block none =
    each_left (λ m. first (unknown_column m) ≡ None) block.items (flat_map sides block.conditions) (none_each (flaws UnknownColumn limits.text) (meanings block) none)

items_single : (limits : Limits) (shape : List ColType) (block : LookedUp) → first (places (OfMeaning AmbiguousColumn) limits shape (1, block)) ≡ None
    → Each (λ m. first (ambiguous_column m) ≡ None) block.items
unfolding places flaws
items_single limits shape block none =
    each_left (λ m. first (ambiguous_column m) ≡ None) block.items (flat_map sides block.conditions) (none_each (flaws AmbiguousColumn limits.text) (meanings block) none)

items_few : (limits : Limits) (shape : List ColType) (block : LookedUp) → first (places Outputs limits shape (1, block)) ≡ None
    → length block.items ≤ limits.outputs
unfolding places
items_few limits shape block none = not_over limits.outputs (length block.items) _ none

-- the items of a block with its names looked up
record ItemsStand (limits : Limits) (block : LookedUp) : Type 0 where
  known : Each (λ m. first (unknown_column m) ≡ None) block.items
  single : Each (λ m. first (ambiguous_column m) ≡ None) block.items
  few : length block.items ≤ limits.outputs

items_stand : (limits : Limits) (block : LookedUp) → first (looked_refusals limits (block ∷ [])) ≡ None → ItemsStand limits block
unfolding looked_refusals
items_stand limits block none =
    let by_kind = none_each (places_in_all limits block.kinds (block ∷ [])) kinds none in
    record {
      known = items_known limits block.kinds block (none_left _ [] by_kind.0);
      single = items_single limits block.kinds block (none_left _ [] by_kind.1.0);
      few = items_few limits block.kinds block (none_left _ [] by_kind.1.1.1.1.1.1.1.1.0);
    }

looked_none : (limits : Limits) (schema : Schema) (block : BlockTree) → first (refusals limits schema (BlockOf block)) ≡ None
    → first (looked_refusals limits (looked_up schema block ∷ [])) ≡ None
unfolding refusals
looked_none limits schema block none =
    none_after (flat_map (unknown_tables schema) (block ∷ []) ++ flat_map repeated_aliases (block ∷ [])) (looked_refusals limits (looked_up schema block ∷ []))
    none

as_many_items : (limits : Limits) (schema : Schema) (block : BlockTree) → block.star ≡ false → ItemsStand limits (looked_up schema block)
    → (length (bound_block (looked_up schema block)).output ≡ length block.items) × (length block.items ≤ limits.outputs)
unfolding looked_up bound_block
as_many_items limits schema block plain stand =
    let names = sources schema block.from_items in
    let counted = length-map (filter_map column_of (map (meaning names) block.items)) place_of ∙ columns_counted names block.items stand.known stand.single in (
      ap (λ b. length (if b then all_places (map (atom_of schema) block.from_items) else map place_of (filter_map column_of (map (meaning names) block.items)))) plain ∙ counted,
      omega (arith, stand.few, length-map block.items (meaning names)),
    )

-- ---- what is announced

module _ (schema : Schema) (query : QueryTree) (p : Prepared) where
  by_size : (past : Bool) → (if past then Err TooLarge else Ok (prepared_query schema schema.accesses (block_tasks (λ n. schema.accesses) query) query)) ≡ Ok p
      → p.query ≡ query
  by_size true e = cc
  by_size false e = sym (ap query_in e)
    where
      query_in : Result Prepared Refusal → QueryTree
      query_in (Ok q) = q.query
      query_in (Err why) = query

  by_cover : (o : Option Uncovered) → unless_uncovered schema schema.accesses (block_tasks (λ n. schema.accesses) query) query o ≡ Ok p → p.query ≡ query
  by_cover (Some found) e = cc
  by_cover None e = by_size (nat_le (2 ^ 128) (announced_number schema.accesses (block_tasks (λ n. schema.accesses) query) query)) e

  -- a query as it is prepared is the query
  pub query_kept : preparation schema query ≡ Ok p → p.query ≡ query
  unfolding preparation
  query_kept e = by_cover (first_uncovered (block_tasks (λ n. schema.accesses) query)) e

module _ (limits : Limits) (budget : Option ℕ) (schema : Schema) (tree : Tree) (p : Prepared) where
  prepared_then : (query : QueryTree) (w : Result Prepared Refusal) → preparation schema query ≡ w → and_then w (within_budget budget) ≡ Ok p → p.query ≡ query
  prepared_then query (Err why) is e = cc
  prepared_then query (Ok found) is e = ap (λ (q : Prepared). q.query) (within_same budget found p e) ∙ query_kept schema query found is

  bound_then : (rs : List Refusal) → refusals limits schema tree ≡ rs → and_then (unless_refused rs (bound_query schema tree)) (prepare_within limits budget schema tree) ≡ Ok p
      → (first (refusals limits schema tree) ≡ None) × (p.query ≡ bound_query schema tree)
  bound_then [] is e = (ap first is, prepared_then (bound_query schema tree) (preparation schema (bound_query schema tree)) refl e)
  bound_then (why ∷ more) is e = cc

  -- a query that is announced is bound
  pub announced_query : announcement limits budget schema tree ≡ Ok p → (first (refusals limits schema tree) ≡ None) × (p.query ≡ bound_query schema tree)
  unfolding announcement
  announced_query e = bound_then (refusals limits schema tree) refl e

  module _ (items : List GroupItem) (keys : List ColumnRef) (over : IsGroupedOver items keys tree) where
    pub outputs_counted : announcement limits budget schema tree ≡ Ok p → limits.outputs ≤ 1024 → HasOutputs (length keys) (length items) p.query
    outputs_counted e few =
        let block : BlockTree = grouped_block items keys over.from_items over.conditions in
        let h = announced_query e in
        let none : first (refusals limits schema (BlockOf block)) ≡ None =
        subst (λ (t : Tree). first (refusals limits schema t) ≡ None) over.is_block h.0 in
        let counted = as_many_items limits schema block refl (items_stand limits (looked_up schema block) (looked_none limits schema block none)) in
        let sum : length (keys ++ map column_in items) ≡ length keys + length items =
        length-append keys (map column_in items) ∙ ap (λ n. length keys + n) (length-map items column_in) in
        record {
          block = bound_block (looked_up schema block);
          is_block = h.1 ∙ ap (bound_query schema) over.is_block;
          outputs = counted.0 ∙ sum;
          few = omega (arith, counted.1, sum, few);
        }

pub outputs_given : (limits : Limits) (budget : Option ℕ) (schema : Schema) (tree : Tree) (items : List GroupItem) (keys : List ColumnRef) → IsGroupedOver items keys tree
    → limits.outputs ≤ 1024 → (r : Result Prepared Fail) → Gives r (announcement limits budget schema tree)
    → IfOk r (λ p. HasOutputs (length keys) (length items) p.query)
outputs_given limits budget schema tree items keys over few (Ok p) e = outputs_counted limits budget schema tree p items keys over e few
outputs_given limits budget schema tree items keys over few (Err x) e = tt
