-- A bound query is well formed.
use Rattle.std.proofs.Common.{◌≡◌, ℕ, ◌+◌, ◌<◌, ◌≤◌, suc, zero, List, [], ◌∷◌, ◌++◌, length, get_or, map, All, AllPairs, refl, ap, arith, sym, ◌∙◌, subst, cond, Bool, true, false, not, Option, Some, None, ltb}
use Rattle.std.specs.List.{enumerate_from, filter_map, cons_option, flat_map, range_with_len, position_or_len}
use Rattle.std.specs.Option.{option_map, option_map_or, option_to_list, is_none}
use Rattle.std.specs.Str.{bytes_eq}
use Rattle.std.proofs.lemmas.Bool.Decides.{nat_tests}
use Rattle.std.proofs.lemmas.List.{append-nil, length-append, length-map, map-append, get_or-map}
use Rattle.std.proofs.lemmas.List.FromFn.{length-map-range_with_len}
use Rattle.beas_core.specs.declared.limits.Limits.{Limits}
use Rattle.beas_core.specs.declared.query.Atom.{Atom}
use Rattle.beas_core.specs.declared.query.Block.{Block}
use Rattle.beas_core.specs.declared.query.Comparison.{Comparison}
use Rattle.beas_core.specs.declared.query.Place.{Place}
use Rattle.beas_core.specs.declared.query.Sign.{Sign}
use Rattle.beas_core.specs.declared.query.Sign.TheVariants.{Equal, Differs, Less, AtMost, More, AtLeast}
use Rattle.beas_core.specs.declared.refusal.Refusal.{Refusal}
use Rattle.beas_core.specs.declared.schema.ColType.{ColType}
use Rattle.beas_core.specs.declared.schema.Column.{Column}
use Rattle.beas_core.specs.declared.schema.TableId.{TableId}
use Rattle.beas_core.specs.declared.value.Value.{Value}
use Rattle.beas_core.specs.Shapes.{IsPlace, width_of, ComparisonIsWellFormed, AtomIsWellFormed, BlockIsWellFormed, QueryIsWellFormed}
use Rattle.beas_core.specs.Trees as query
use Rattle.catalogue.specs.declared.tables.TableSchema.{TableSchema}
use Rattle.catalogue.specs.Schema.{Schema, SchemaIsSound, TableIsSound, table_named, columns_at, no_table}
use Rattle.sql_text.specs.declared.tree.BlockTree.{BlockTree}
use Rattle.sql_text.specs.declared.tree.Cond.{Cond}
use Rattle.sql_text.specs.declared.tree.FromItem.{FromItem}
use Rattle.sql_text.specs.Trees as tree
use Rattle.name_resolution.specs.declared.kinds.Kind.TheVariants.{Shapes}
use Rattle.name_resolution.specs.declared.meaning.BoundColumn.{BoundColumn}
use Rattle.name_resolution.specs.declared.meaning.Condition.{Condition}
use Rattle.name_resolution.specs.declared.meaning.Condition.TheVariants.{Compare, Between}
use Rattle.name_resolution.specs.declared.meaning.LookedUp.{LookedUp}
use Rattle.name_resolution.specs.declared.meaning.Meaning.{Meaning}
use Rattle.name_resolution.specs.declared.meaning.Meaning.TheVariants.{At, Fixed, Unknown, Ambiguous, OutOfRange}
use Rattle.name_resolution.specs.declared.meaning.Part.{Part}
use Rattle.name_resolution.specs.declared.meaning.Part.TheVariants as part
use Rattle.name_resolution.specs.Binding.{delete_block, blocks_of, with_blocks, bound_query, kinds, places_in_all, shape_of, looked_refusals}
use Rattle.name_resolution.specs.LookedUp.{atom_of, column_of, looked_up, output_kinds, place_of, mirrored_sign, with_column, with_value, part_of, parts, equality_of, constant_of, comparison_of, place_at, all_places, outputs, bound_block}
use Rattle.name_resolution.specs.Meanings.{Source, sources, columns_named, meaning, condition}
use Rattle.name_resolution.specs.Refusing.{first, refusals_if, table_refusals, unknown_tables, same_kind, same_kinds, places}
use Rattle.name_resolution.proofs.BindFacts.{all_of, each_of_all, none_each, each_unnumbered, few_atoms}
use Rattle.name_resolution.proofs.Ranges.{Each, all_of_each, each_weaker, each_append, each_map, each_mapped, each_flat_map, each_numbered, MeaningFits, ConditionFits, ref_fits, condition_fits, tables_sound, columns_few}

-- ---- the parts of conditions

abbrev pub PartFits : List Atom → Part → Type 0
PartFits atoms (part.Equality left right) = IsPlace atoms left × IsPlace atoms right
PartFits atoms (part.Constant place value) = IsPlace atoms place
PartFits atoms (part.Compared comparison) = ComparisonIsWellFormed atoms comparison

column_part : (atoms : List Atom) (left : BoundColumn) (sign : Sign) (right : BoundColumn) → IsPlace atoms (place_of left) → IsPlace atoms (place_of right)
    → PartFits atoms (with_column left sign right)
column_part atoms left Equal right one two = (one, two)
column_part atoms left Differs right one two = record { left = one; right = two; sign = λ e. cc }
column_part atoms left Less right one two = record { left = one; right = two; sign = λ e. cc }
column_part atoms left AtMost right one two = record { left = one; right = two; sign = λ e. cc }
column_part atoms left More right one two = record { left = one; right = two; sign = λ e. cc }
column_part atoms left AtLeast right one two = record { left = one; right = two; sign = λ e. cc }

value_part : (atoms : List Atom) (left : BoundColumn) (sign : Sign) (value : Value) → IsPlace atoms (place_of left)
    → PartFits atoms (with_value left sign value)
value_part atoms left Equal value one = one
value_part atoms left Differs value one = record { left = one; right = tt; sign = λ e. cc }
value_part atoms left Less value one = record { left = one; right = tt; sign = λ e. cc }
value_part atoms left AtMost value one = record { left = one; right = tt; sign = λ e. cc }
value_part atoms left More value one = record { left = one; right = tt; sign = λ e. cc }
value_part atoms left AtLeast value one = record { left = one; right = tt; sign = λ e. cc }

compared_fits : (atoms : List Atom) (left : Meaning) (sign : Sign) (right : Meaning) → MeaningFits atoms left → MeaningFits atoms right
    → Each (PartFits atoms) (option_to_list (part_of left sign right))
compared_fits atoms (At left) sign (At right) one two = (column_part atoms left sign right one two, tt)
compared_fits atoms (At left) sign (Fixed value) one two = (value_part atoms left sign value one, tt)
compared_fits atoms (At left) sign (Unknown t c) one two = tt
compared_fits atoms (At left) sign (Ambiguous c) one two = tt
compared_fits atoms (At left) sign (OutOfRange n d) one two = tt
compared_fits atoms (Fixed value) sign (At right) one two = (value_part atoms right (mirrored_sign sign) value two, tt)
compared_fits atoms (Fixed value) sign (Fixed other) one two = tt
compared_fits atoms (Fixed value) sign (Unknown t c) one two = tt
compared_fits atoms (Fixed value) sign (Ambiguous c) one two = tt
compared_fits atoms (Fixed value) sign (OutOfRange n d) one two = tt
compared_fits atoms (Unknown t c) sign right one two = tt
compared_fits atoms (Ambiguous c) sign right one two = tt
compared_fits atoms (OutOfRange n d) sign right one two = tt

parts_fit : (atoms : List Atom) (c : Condition) → ConditionFits atoms c → Each (PartFits atoms) (parts c)
parts_fit atoms (Compare left sign right) fits = compared_fits atoms left sign right fits.0 fits.1
parts_fit atoms (Between value low high) fits =
    each_append (PartFits atoms) (option_to_list (part_of value AtLeast low)) (option_to_list (part_of value AtMost high))
    (compared_fits atoms value AtLeast low fits.0 fits.1) (compared_fits atoms value AtMost high fits.0 fits.2)

each_some : {X Y : Type 0} (f : X → Option Y) (P : X → Type 0) (Q : Y → Type 0) → ((x : X) (y : Y) → f x ≡ Some y → P x → Q y) → (xs : List X) → Each P xs
    → Each Q (filter_map f xs)
each_some {X} {Y} f P Q so [] each = tt
each_some {X} {Y} f P Q so (x ∷ xs) each = put (f x) (λ y is. so x y is each.0) (each_some f P Q so xs each.1) where
  put : (o : Option Y) → ((y : Y) → o ≡ Some y → Q y) → Each Q (filter_map f xs) → Each Q (cons_option o (filter_map f xs))
  put None is rest = rest
  put (Some y) is rest = (is y refl, rest)

some_same : {X : Type 0} (P : X → Type 0) (x y : X) → Some x ≡ Some y → P x → P y
some_same P x y is one = subst P (let e : x ≡ y = cc in e) one

equality_fits : (atoms : List Atom) (p : Part) (e : Place × Place) → equality_of p ≡ Some e → PartFits atoms p → IsPlace atoms e.0 × IsPlace atoms e.1
equality_fits atoms (part.Equality left right) e is fits = some_same (λ (e : Place × Place). IsPlace atoms e.0 × IsPlace atoms e.1) (left, right) e is fits
equality_fits atoms (part.Constant place value) e is fits = cc
equality_fits atoms (part.Compared comparison) e is fits = cc

constant_fits : (atoms : List Atom) (p : Part) (e : Place × Value) → constant_of p ≡ Some e → PartFits atoms p → IsPlace atoms e.0
constant_fits atoms (part.Equality left right) e is fits = cc
constant_fits atoms (part.Constant place value) e is fits = some_same (λ (e : Place × Value). IsPlace atoms e.0) (place, value) e is fits
constant_fits atoms (part.Compared comparison) e is fits = cc

comparison_fits : (atoms : List Atom) (p : Part) (e : Comparison) → comparison_of p ≡ Some e → PartFits atoms p → ComparisonIsWellFormed atoms e
comparison_fits atoms (part.Equality left right) e is fits = cc
comparison_fits atoms (part.Constant place value) e is fits = cc
comparison_fits atoms (part.Compared comparison) e is fits = some_same (ComparisonIsWellFormed atoms) comparison e is fits

-- ---- outputs

column_fits : (atoms : List Atom) (m : Meaning) (c : BoundColumn) → column_of m ≡ Some c → MeaningFits atoms m → IsPlace atoms (place_of c)
column_fits atoms (At column) c is fits = some_same (λ c. IsPlace atoms (place_of c)) column c is fits
column_fits atoms (Fixed value) c is fits = cc
column_fits atoms (Unknown t n) c is fits = cc
column_fits atoms (Ambiguous n) c is fits = cc
column_fits atoms (OutOfRange n d) c is fits = cc

range_below : (a n w : ℕ) → a + n ≤ w → Each (λ k. k < w) (range_with_len a n)
range_below a zero w fits = tt
range_below a (suc n) w fits = (omega arith, range_below (a + 1) n w (omega arith))

all_places_fit : (atoms : List Atom) → Each (IsPlace atoms) (all_places atoms)
all_places_fit atoms =
    each_flat_map (λ (a : ℕ × Atom). map (place_at a.0) (range_with_len 0 a.1.width)) (λ (a : ℕ × Atom). (a.0 < length atoms) ×
    (a.1.width ≤ width_of atoms a.0)) (IsPlace atoms)
    (λ a fits. each_map (place_at a.0) (λ k. k < a.1.width) (IsPlace atoms) (λ k below. record { atom = fits.0; column = omega (arith, fits.1) })
    (range_with_len 0 a.1.width)
    (range_below 0 a.1.width a.1.width (omega arith)))
    (enumerate_from 0 atoms)
    (each_numbered (λ (a : ℕ × Atom). (a.0 < length atoms) × (a.1.width ≤ width_of atoms a.0)) atoms
    (λ i d below. (below, omega (arith, get_or-map (λ (a : Atom). a.width) atoms i d 0 below))))

outputs_fit : (block : LookedUp) → Each (MeaningFits block.atoms) block.items → Each (IsPlace block.atoms) (outputs block)
outputs_fit block items = by_star block.star where
  by_star : (b : Bool) → Each (IsPlace block.atoms) (cond b (all_places block.atoms) (map place_of (filter_map column_of block.items)))
  by_star true = all_places_fit block.atoms
  by_star false =
      each_map place_of (λ c. IsPlace block.atoms (place_of c)) (IsPlace block.atoms) (λ c fits. fits) (filter_map column_of block.items)
      (each_some column_of (MeaningFits block.atoms) (λ c. IsPlace block.atoms (place_of c)) (column_fits block.atoms) block.items items)

-- ---- atoms

table_wide : (tables : List TableSchema) → Each TableIsSound tables → (i : ℕ) → i < length tables → 1 ≤ length (get_or tables i no_table).columns
table_wide [] sound i below = absurd (omega arith)
table_wide (table ∷ tables) sound zero below = sound.0.some_column
table_wide (table ∷ tables) sound (suc i) below = table_wide tables sound.1 i (omega arith)

wide_named : (schema : Schema) (n : ℕ) (b : Bool) → ltb n (length schema.tables) ≡ b → Each TableIsSound schema.tables
    → (let o : Option TableId = option_map (λ i. record { 0 = i }) (cond b (Some n) None) in is_none o ≡ false
    → 1 ≤ length (option_map_or (columns_at schema) o []))
wide_named schema n true below sound there = table_wide schema.tables sound n (grind (arith, nat_tests))
wide_named schema n false below sound there = cc

pub known : (b : Bool) (why : Refusal) → first (refusals_if b why) ≡ None → b ≡ false
known true why none = cc
known false why none = refl

columns_wide : (schema : Schema) (name : List ℕ) → SchemaIsSound schema → first (table_refusals schema name) ≡ None → 1 ≤ length (columns_named schema name)
unfolding columns_named table_refusals
columns_wide schema name sound none =
    wide_named schema (position_or_len (λ t. bytes_eq t.name name) schema.tables) (ltb (position_or_len (λ t. bytes_eq t.name name) schema.tables)
    (length schema.tables)) refl (tables_sound schema sound)
    (known (is_none (table_named schema name)) _ none)

atom_fits : (schema : Schema) (item : FromItem) → SchemaIsSound schema → first (table_refusals schema item.table) ≡ None
    → AtomIsWellFormed (atom_of schema item)
unfolding atom_of
atom_fits schema item sound none = record { wide = columns_wide schema item.table sound none; narrow = columns_few schema item.table sound }

-- ---- blocks

pub block_fits : (schema : Schema) (block : BlockTree) → SchemaIsSound schema → 1 ≤ length block.from_items → first (unknown_tables schema block) ≡ None
    → length (looked_up schema block).atoms ≤ 16 → BlockIsWellFormed (bound_block (looked_up schema block))
unfolding looked_up bound_block
block_fits schema block sound some none few =
    let atoms : List Atom = map (atom_of schema) block.from_items in
    let all : Each (PartFits atoms) (flat_map parts (map (condition (meaning (sources schema block.from_items))) block.conditions)) =
    each_flat_map parts (ConditionFits atoms) (PartFits atoms) (parts_fit atoms) (map (condition (meaning
    (sources schema block.from_items))) block.conditions)
    (each_mapped (condition (meaning (sources schema block.from_items))) (ConditionFits atoms) (condition_fits schema block.from_items) block.conditions) in
    record {
      some_atom = omega (arith, some, length-map block.from_items (atom_of schema));
      few_atoms = few;
      widths = all_of AtomIsWellFormed atoms (each_map (atom_of schema) (λ (item : FromItem). first (table_refusals schema item.table) ≡ None) AtomIsWellFormed
          (λ item known. atom_fits schema item sound known) block.from_items (none_each (λ
          (item : FromItem). table_refusals schema item.table) block.from_items none));
      equalities = all_of (λ e. IsPlace atoms e.0 × IsPlace atoms e.1) _ (each_some equality_of (PartFits atoms)
          (λ e. IsPlace atoms e.0 × IsPlace atoms e.1) (equality_fits atoms) _ all);
      constants = all_of (λ c. IsPlace atoms c.0) _ (each_some constant_of (PartFits atoms) (λ c. IsPlace atoms c.0) (constant_fits atoms) _ all);
      comparisons = all_of (ComparisonIsWellFormed atoms) _ (each_some comparison_of (PartFits atoms) (ComparisonIsWellFormed atoms)
          (comparison_fits atoms) _ all);
      output = all_of (IsPlace atoms) _ (outputs_fit (looked_up schema block)
          (each_mapped (meaning (sources schema block.from_items)) (MeaningFits atoms) (ref_fits schema block.from_items) block.items));
    }

pub delete_fits : (schema : Schema) (table : List ℕ) (conditions : List Cond) → SchemaIsSound schema → first (table_refusals schema table) ≡ None
    → BlockIsWellFormed (bound_block (looked_up schema (delete_block table conditions)))
unfolding looked_up
delete_fits schema table conditions sound none =
    block_fits schema (delete_block table conditions) sound (omega arith) (ap first (append-nil (table_refusals schema table)) ∙ none) (omega arith)

-- ---- shapes

kind_length : (b : Bool) (js ks : List ColType) → (same_kinds js ks ≡ true → length js ≡ length ks) → cond b (same_kinds js ks) false ≡ true
    → length js + 1 ≡ length ks + 1
kind_length true js ks so same = ap (λ n. n + 1) (so same)
kind_length false js ks so same = cc

same_length : (js ks : List ColType) → same_kinds js ks ≡ true → length js ≡ length ks
same_length [] [] same = refl
same_length [] (k ∷ ks) same = cc
same_length (j ∷ js) [] same = cc
same_length (j ∷ js) (k ∷ ks) same = let more : length js + 1 ≡ length ks + 1 = kind_length (same_kind j k) js ks (same_length js ks) same in omega
    (arith, more)

not_false : (b : Bool) → not b ≡ false → b ≡ true
not_false true is = refl
not_false false is = cc

as_many_kinds : (limits : Limits) (shape : List ColType) (number : ℕ) (block : LookedUp) → first (places Shapes limits shape (number, block)) ≡ None
    → length shape ≡ length block.kinds
unfolding places
as_many_kinds limits shape number block none =
    same_length shape block.kinds (not_false (same_kinds shape block.kinds) (known (not (same_kinds shape block.kinds)) _ none))

shapes_same : (limits : Limits) (blocks : List LookedUp) → first (looked_refusals limits blocks) ≡ None
    → Each (λ block. length (shape_of blocks) ≡ length block.kinds) blocks
unfolding looked_refusals
shapes_same limits blocks none =
    let by_kind = none_each (places_in_all limits (shape_of blocks) blocks) kinds none in
    each_unnumbered (λ p. first (places Shapes limits (shape_of blocks) p) ≡ None) (λ block. length (shape_of blocks) ≡ length block.kinds)
    (λ k block one. as_many_kinds limits (shape_of blocks) k block one) 1 blocks
    (none_each (places Shapes limits (shape_of blocks)) (enumerate_from 1 blocks) by_kind.1.1.1.1.1.0)

star_length : (schema : Schema) (items : List FromItem) (n : ℕ)
    → length (flat_map (λ (a : ℕ × Atom). map (place_at a.0) (range_with_len 0 a.1.width)) (enumerate_from n (map (atom_of schema) items)))
    ≡ length (flat_map (λ (s : Source). map (λ c. c.kind) s.columns) (sources schema items))
unfolding atom_of
star_length schema [] n = refl
star_length schema (item ∷ items) n =
    length-append (map (place_at n) (range_with_len 0 (length (columns_named schema item.table)))) _
    ∙ ap (λ k. k + length (flat_map (λ (a : ℕ × Atom). map (place_at a.0) (range_with_len 0 a.1.width)) (enumerate_from (n + 1) (map
    (atom_of schema) items))))
    (length-map-range_with_len (place_at n) 0 (length (columns_named schema item.table))
    ∙ sym (length-map (columns_named schema item.table) (λ (c : Column). c.kind)))
    ∙ ap (λ k. length (map (λ (c : Column). c.kind) (columns_named schema item.table)) + k) (star_length schema items (n + 1))
    ∙ sym (length-append (map (λ (c : Column). c.kind) (columns_named schema item.table)) (flat_map (λ (s : Source). map (λ c. c.kind) s.columns)
    (sources schema items)))

output_length : (star : Bool) (schema : Schema) (items : List FromItem) (meanings : List Meaning)
    → length (cond star (all_places (map (atom_of schema) items)) (map place_of (filter_map column_of meanings))) ≡ length (output_kinds star
    (sources schema items) meanings)
output_length true schema items meanings = star_length schema items 0
output_length false schema items meanings =
    length-map (filter_map column_of meanings) place_of ∙ sym (length-map (filter_map column_of meanings) (λ (c : BoundColumn). c.kind))

as_many_outputs : (schema : Schema) (block : BlockTree) → length (bound_block (looked_up schema block)).output ≡ length (looked_up schema block).kinds
unfolding looked_up bound_block
as_many_outputs schema block = output_length block.star schema block.from_items (map (meaning (sources schema block.from_items)) block.items)

-- ---- queries

each_block : (schema : Schema) (trees : List BlockTree) → SchemaIsSound schema → Each (λ b. 1 ≤ length b.from_items) trees
    → Each (λ b. first (unknown_tables schema b) ≡ None) trees
    → Each (λ block. length block.atoms ≤ 16) (map (looked_up schema) trees) → Each BlockIsWellFormed (map (λ b. bound_block (looked_up schema b)) trees)
each_block schema [] sound some none few = tt
each_block schema (tree ∷ trees) sound some none few = (block_fits schema tree sound some.0 none.0 few.0, each_block schema trees sound some.1 none.1 few.1)

each_shape : (schema : Schema) (trees : List BlockTree) (n : ℕ) → Each (λ block. n ≡ length block.kinds) (map (looked_up schema) trees)
    → Each (λ (b : Block). n ≡ length b.output) (map (λ b. bound_block (looked_up schema b)) trees)
each_shape schema [] n same = tt
each_shape schema (tree ∷ trees) n same = (same.0 ∙ sym (as_many_outputs schema tree), each_shape schema trees n same.1)

pub blocks_made : (f : BlockTree → Block) (t : tree.Tree) → query.blocks_of (with_blocks f t) ≡ map f (blocks_of t)
blocks_made f (tree.Block b) = refl
blocks_made f (tree.Union l r) = ap (λ bs. bs ++ query.blocks_of (with_blocks f r)) (blocks_made f l)
    ∙ ap (λ bs. map f (blocks_of l) ++ bs) (blocks_made f r) ∙ sym (map-append f (blocks_of l) (blocks_of r))
blocks_made f (tree.Except l r) = ap (λ bs. bs ++ query.blocks_of (with_blocks f r)) (blocks_made f l)
    ∙ ap (λ bs. map f (blocks_of l) ++ bs) (blocks_made f r) ∙ sym (map-append f (blocks_of l) (blocks_of r))

pub query_fits : (limits : Limits) (schema : Schema) (t : tree.Tree) → SchemaIsSound schema → limits.atoms ≤ 16
    → All (λ b. 1 ≤ length b.from_items) (blocks_of t)
    → first (flat_map (unknown_tables schema) (blocks_of t)) ≡ None → first (looked_refusals limits (map (looked_up schema) (blocks_of t))) ≡ None
    → QueryIsWellFormed (bound_query schema t)
query_fits limits schema t sound sixteen some none no_places =
    let trees : List BlockTree = blocks_of t in
    let found : List LookedUp = map (looked_up schema) trees in
    let made : List Block = map (λ b. bound_block (looked_up schema b)) trees in
    let few : Each (λ block. length block.atoms ≤ 16) found =
    each_weaker (λ block. length block.atoms ≤ limits.atoms) (λ block. length block.atoms ≤ 16) (λ block one. omega (arith, one)) found
    (few_atoms limits found no_places) in
    let n : ℕ = length (shape_of found) in
    let shapes : Each (λ (b : Block). n ≡ length b.output) made = each_shape schema trees n (shapes_same limits found no_places) in
    record {
      blocks = subst (All BlockIsWellFormed) (sym (blocks_made (λ b. bound_block (looked_up schema b)) t))
          (all_of BlockIsWellFormed made (each_block schema trees sound (each_of_all (λ (b : BlockTree). 1 ≤ length b.from_items) trees some) (none_each
          (unknown_tables schema) trees none) few));
      shapes = subst (AllPairs (λ (b c : Block). length b.output ≡ length c.output)) (sym (blocks_made (λ b. bound_block (looked_up schema b)) t))
          (λ i j d lower below. sym (all_of_each (λ (b : Block). n ≡ length b.output) made shapes i d (omega arith))
          ∙ all_of_each (λ (b : Block). n ≡ length b.output) made shapes j d below);
    }
