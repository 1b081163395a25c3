-- A block that is bound at once: nothing in it is to be refused, and it is the one with its names looked up.
use Rattle.std.proofs.Common.{◌≡◌, ℕ, ◌+◌, ◌<◌, ◌≤◌, ◌||◌, ◌==◌, List, [], ◌∷◌, ◌++◌, length, take, get_or, map, All, ap, sym, ◌∙◌, subst, refl, arith, cond, Bool, true, false, not, Option, Some, None, ltb}
use Rattle.std.specs.Prelude.{MatchOption}
use Rattle.std.proofs.Math.Path.{fun_ext}
use Rattle.std.specs.List.{filter_map, flat_map, list_any, enumerate_from}
use Rattle.std.specs.Option.{option_map_or, option_to_list, is_none}
use Rattle.std.proofs.lemmas.Bool.{le-ltb}
use Rattle.std.proofs.lemmas.List.{append-nil, map-append, map_more, length-map}
use Rattle.std.proofs.lemmas.List.Concat.{flat_map-append}
use Rattle.std.proofs.lemmas.List.Elements.{filter_map-append}
use Rattle.beas_core.specs.declared.limits.Limits.{Limits}
use Rattle.beas_core.specs.declared.query.Atom.{Atom}
use Rattle.beas_core.specs.declared.query.Block.{Block}
use Rattle.beas_core.specs.declared.query.Place.{Place}
use Rattle.beas_core.specs.declared.refusal.Counted.TheVariants as counted
use Rattle.beas_core.specs.declared.refusal.Refusal.{Refusal}
use Rattle.beas_core.specs.declared.refusal.Refusal.TheVariants.{MixedTypes, ShapeMismatch, TooMany}
use Rattle.beas_core.specs.declared.schema.ColType.{ColType}
use Rattle.beas_core.specs.declared.schema.ColType.TheVariants.{Integer, Words as Letters}
use Rattle.beas_core.specs.declared.schema.TableId.{TableId}
use Rattle.beas_core.specs.declared.value.Value.{Value}
use Rattle.beas_core.specs.Results.{refused_if}
use Rattle.beas_core.specs.Shapes.{QueryIsWellFormed}
use Rattle.catalogue.specs.Queries.{QueryIsOver}
use Rattle.catalogue.specs.Schema.{Schema, SchemaIsSound, table_named, columns_at}
use Rattle.sql_text.specs.declared.tree.BlockTree.{BlockTree}
use Rattle.sql_text.specs.declared.tree.ColumnRef.{ColumnRef}
use Rattle.sql_text.specs.declared.tree.Cond.{Cond}
use Rattle.sql_text.specs.declared.tree.Cond.TheVariants as written
use Rattle.sql_text.specs.declared.tree.FromItem.{FromItem}
use Rattle.sql_text.specs.declared.tree.Literal.{Literal}
use Rattle.sql_text.specs.declared.tree.Literal.TheVariants.{Number, Words}
use Rattle.sql_text.specs.declared.tree.Side.{Side}
use Rattle.sql_text.specs.declared.tree.Side.TheVariants as side
use Rattle.sql_text.specs.Trees as tree
use Rattle.name_resolution.specs.declared.kinds.Kind.{Kind}
use Rattle.name_resolution.specs.declared.kinds.Kind.TheVariants.{Types, Shapes, Blocks, Atoms, Outputs}
use Rattle.name_resolution.specs.declared.meaning.BoundColumn.{BoundColumn}
use Rattle.name_resolution.specs.declared.meaning.Condition.{Condition}
use Rattle.name_resolution.specs.declared.meaning.LookedUp.{LookedUp}
use Rattle.name_resolution.specs.declared.meaning.Meaning.{Meaning}
use Rattle.name_resolution.specs.declared.meaning.Meaning.TheVariants.{At}
use Rattle.binder.specs.AtOnce.{AddsSound, ArePlacesOf, IsSoundOutput, IsSoundOver, found_over}
use Rattle.name_resolution.specs.Binding.{blocks_of, places_in_all, shape_of, looked_refusals, refusals, bound_query}
use Rattle.name_resolution.specs.Literals.{number_value}
use Rattle.name_resolution.specs.LookedUp.{Adds, ConditionIsSmall, IsSmall, all_places, atom_of, column_of, looked_up, bound_block, outputs, parts, place_of}
use Rattle.name_resolution.specs.Meanings.{sources, columns_named, meaning, condition, side_meaning, literal_meaning, or_out_of_range}
use Rattle.name_resolution.specs.Refusing.{first, refusals_if, table_refusals, unknown_tables, repeated_among, repeated_aliases, has_flaw, condition_has_flaw, block_has_flaw, is_mixed, same_kinds, places}
use Rattle.name_resolution.proofs.BindFacts.{small, none_left, none_right}
use Rattle.name_resolution.proofs.FirstFacts.{first_none}
use Rattle.name_resolution.proofs.FlawFacts.{not_left, not_right, joined, other_refusals}
use Rattle.name_resolution.proofs.PartFacts.{adds_both, bound_is}
use Rattle.name_resolution.proofs.Ranges.{ref_fits, widths_few}
use Rattle.name_resolution.proofs.WellFormed.{query_fits}
use Rattle.name_resolution.proofs.OverTables.{query_over}

-- ---- conditions

none_more : {X : Type 0} (test : X → Bool) (xs : List X) (y : X) → list_any test xs ≡ false → test y ≡ false → list_any test (xs ++ y ∷ []) ≡ false
none_more test [] y none here = ap (λ b. b || false) here
none_more test (x ∷ xs) y none here =
    ap (λ b. b || list_any test (xs ++ y ∷ [])) (not_left (test x) (list_any test xs) none)
    ∙ none_more test xs y (not_right (test x) (list_any test xs) none) here

sound_more : (limit : ℕ) (before middle after : Block) (xs : List Condition) (y : Condition) → AddsSound limit before middle xs
    → AddsSound limit middle after (y ∷ []) → AddsSound limit before after (xs ++ y ∷ [])
sound_more limit before middle after xs y one two = (
  none_more (condition_has_flaw limit) xs y one.0 (not_left (condition_has_flaw limit y) false two.0),
  none_more is_mixed xs y one.1 (not_left (is_mixed y) false two.1),
  subst (Adds before after) (sym (flat_map-append parts xs (y ∷ [])))
      (adds_both before middle after (flat_map parts xs) (flat_map parts (y ∷ [])) one.2 two.2),
)

pub sound_to : (limit : ℕ) (before middle after : Block) (f : Cond → Condition) (conds : List Cond) (i : ℕ) (c : Cond) → i < length conds
    → c ≡ get_or conds i c → AddsSound limit before middle (map f (take i conds)) → AddsSound limit middle after (f c ∷ [])
    → AddsSound limit before after (map f (take (i + 1) conds))
sound_to limit before middle after f conds i c below is one two =
    subst (AddsSound limit before after) (ap (λ d. map f (take i conds) ++ f d ∷ []) is ∙ sym (map_more f conds i c below))
    (sound_more limit before middle after (map f (take i conds)) (f c) one two)

-- ---- outputs

pub places_sound_to : (told : ColumnRef → Meaning) (refs : List ColumnRef) (i : ℕ) (ref : ColumnRef) (column : BoundColumn) (places more : List Place)
    → i < length refs → ref ≡ get_or refs i ref → told ref ≡ At column → ArePlacesOf places (map told (take i refs)) → more ≡ places ++ place_of column ∷ []
    → ArePlacesOf more (map told (take (i + 1) refs))
places_sound_to told refs i ref column places more below is told_is so_far added =
    let before : List Meaning = map told (take i refs) in
    subst (ArePlacesOf more)
    (ap (λ m. before ++ m ∷ []) (sym told_is) ∙ ap (λ r. before ++ told r ∷ []) is ∙ sym (map_more told refs i ref below)) (
      λ limit. none_more (has_flaw limit) before (At column) (so_far.0 limit) refl,
      added ∙ ap (λ ps. ps ++ place_of column ∷ []) so_far.1
          ∙ sym (ap (map place_of) (filter_map-append column_of before (At column ∷ [])) ∙ map-append place_of (filter_map column_of before) (column ∷ [])),
    )

pub output_plain : (limits : Limits) (told : ColumnRef → Meaning) (atoms : List Atom) (t : BlockTree) (refs : List ColumnRef) (made : Option (List Place))
    → t.star ≡ false → refs ≡ t.items → length refs ≤ limits.outputs → MatchOption made (Unit {0}) (λ places. ArePlacesOf places (map told refs))
    → MatchOption made (Unit {0}) (IsSoundOutput limits told atoms t)
output_plain limits told atoms t refs None plain same few so = tt
output_plain limits told atoms t refs (Some places) plain same few so =
    let count : length (map told refs) ≡ length refs = length-map refs told in (
      subst (λ (rs : List ColumnRef). list_any (has_flaw limits.text) (map told rs) ≡ false) same (so.0 limits.text),
      subst (λ (rs : List ColumnRef). length (map told rs) ≤ limits.outputs) same (omega (arith, count, few)),
      so.1 ∙ ap (λ (rs : List ColumnRef). map place_of (filter_map column_of (map told rs))) same
          ∙ sym (ap (λ b. cond b (all_places atoms) (map place_of (filter_map column_of (map told t.items)))) plain),
    )

pub of_some : {X : Type 0} (P : X → Type 0) (o : Option X) (x : X) → o ≡ Some x → MatchOption o (Unit {0}) P → P x
of_some P o x is so = subst (λ p. MatchOption p (Unit {0}) P) is so

-- ---- numbers of 16 bits

number_small : (negative : Bool) (digits : List ℕ) (o : Option Value) → IsSmall (or_out_of_range negative digits o)
number_small negative digits None = tt
number_small negative digits (Some value) = tt

literal_small : (literal : Literal) → IsSmall (literal_meaning literal)
literal_small (Number negative digits) = number_small negative digits (number_value negative digits)
literal_small (Words text) = tt

side_small : (names : ColumnRef → Meaning) → ((ref : ColumnRef) → IsSmall (names ref)) → (s : Side) → IsSmall (side_meaning names s)
side_small names all (side.Column ref) = all ref
side_small names all (side.Fixed literal) = literal_small literal

pub condition_small : (names : ColumnRef → Meaning) → ((ref : ColumnRef) → IsSmall (names ref)) → (c : Cond) → ConditionIsSmall (condition names c)
condition_small names all (written.Compare left sign right) = (side_small names all left, side_small names all right)
condition_small names all (written.Between value low high) = (all value, side_small names all low, side_small names all high)

pub ref_small : (schema : Schema) (items : List FromItem) → SchemaIsSound schema → length items ≤ 16 → (ref : ColumnRef)
    → IsSmall (meaning (sources schema items) ref)
ref_small schema items sound few ref =
    let count : length (map (atom_of schema) items) ≡ length items = length-map items (atom_of schema) in
    small (map (atom_of schema) items) (omega (arith, count, few)) (λ i. widths_few schema items i sound) (meaning (sources schema items) ref)
    (ref_fits schema items ref)

-- ---- a block

pub bound_sound : (limits : Limits) (schema : Schema) (t : BlockTree) (names : ColumnRef → Meaning) (atoms : List Atom) (block : Block)
    → ((ref : ColumnRef) → names ref ≡ meaning (sources schema t.from_items) ref) → atoms ≡ map (atom_of schema) t.from_items
    → IsSoundOver limits names atoms t block → block ≡ bound_block (looked_up schema t)
unfolding bound_block looked_up
bound_sound limits schema t names atoms block same atoms_are sound =
    sound.4 ∙ ap (λ ns. bound_block (found_over ns atoms t)) (fun_ext same)
    ∙ ap (λ some. bound_block (found_over (meaning (sources schema t.from_items)) some t)) atoms_are

pub the_same : {X : Type 0} (x y : X) → Some x ≡ Some y → x ≡ y
the_same x y same = cc

-- ---- no refusals

-- tables that there are
wide_named : (schema : Schema) (o : Option TableId) (why : Refusal) → (length (option_map_or (columns_at schema) o []) == 0) ≡ false
    → first (option_to_list (refused_if (is_none o) why)) ≡ None
wide_named schema None why wide = cc
wide_named schema (Some id) why wide = refl

item_known : (schema : Schema) (item : FromItem) → ((atom_of schema item).width == 0) ≡ false → first (table_refusals schema item.table) ≡ None
unfolding atom_of columns_named table_refusals
item_known schema item wide = wide_named schema (table_named schema item.table) _ wide

items_known : (schema : Schema) (items : List FromItem) → list_any (λ (a : Atom). a.width == 0) (map (atom_of schema) items) ≡ false
    → first (flat_map (λ (item : FromItem). table_refusals schema item.table) items) ≡ None
items_known schema [] wide = refl
items_known schema (item ∷ items) wide =
    let here : Bool = (atom_of schema item).width == 0 in
    let later : Bool = list_any (λ (a : Atom). a.width == 0) (map (atom_of schema) items) in
    first_none (table_refusals schema item.table) _ (item_known schema item (not_left here later wide))
    ∙ items_known schema items (not_right here later wide)

none_mixed : (number n : ℕ) (cs : List Condition) → list_any is_mixed cs ≡ false
    → flat_map (λ (c : ℕ × Condition). refusals_if (is_mixed c.1) (MixedTypes number c.0)) (enumerate_from n cs) ≡ []
none_mixed number n [] none = refl
none_mixed number n (c ∷ cs) none =
    joined (refusals_if (is_mixed c) (MixedTypes number n)) _
    (ap (λ b. refusals_if b (MixedTypes number n)) (not_left (is_mixed c) (list_any is_mixed cs) none))
    (none_mixed number (n + 1) cs (not_right (is_mixed c) (list_any is_mixed cs) none))

same_as_itself : (ks : List ColType) → same_kinds ks ks ≡ true
same_as_itself [] = refl
same_as_itself (Integer ∷ ks) = same_as_itself ks
same_as_itself (Letters ∷ ks) = same_as_itself ks

not_more : (limit n : ℕ) (why : Refusal) → n ≤ limit → refusals_if (ltb limit n) why ≡ []
not_more limit n why few = ap (λ b. refusals_if b why) (le-ltb limit n few)

no_place : (limits : Limits) (found : LookedUp) (kind : Kind) → places kind limits found.kinds (1, found) ≡ []
    → places_in_all limits (shape_of (found ∷ [])) (found ∷ []) kind ≡ []
no_place limits found kind none = joined (places kind limits found.kinds (1, found)) [] none refl

none_looked : (limits : Limits) (found : LookedUp) → block_has_flaw limits.text found ≡ false → list_any is_mixed found.conditions ≡ false
    → length found.atoms ≤ limits.atoms → length found.items ≤ limits.outputs → first (looked_refusals limits (found ∷ [])) ≡ None
unfolding places
none_looked limits found fine unmixed few_atoms few_items =
    let of_kind : Kind → List Refusal = places_in_all limits (shape_of (found ∷ [])) (found ∷ []) in
    let one_block : 1 ≤ limits.blocks = limits.blocks_in_range.0 in
    sym (ap first (other_refusals limits (found ∷ []) (ap (λ b. b || false) fine)))
    ∙ ap first (joined (of_kind Types) _ (no_place limits found Types (none_mixed 1 1 found.conditions unmixed))
    (joined (of_kind Shapes) _ (no_place limits found Shapes
    (ap (λ b. refusals_if (not b) (ShapeMismatch 1)) (same_as_itself found.kinds)))
    (joined (of_kind Blocks) _ (no_place limits found Blocks (not_more limits.blocks 1 (TooMany counted.Blocks limits.blocks) one_block))
    (joined (of_kind Atoms) _ (no_place limits found Atoms
    (not_more limits.atoms (length found.atoms) (TooMany counted.Atoms limits.atoms) few_atoms))
    (joined (of_kind Outputs) [] (no_place limits found Outputs
    (not_more limits.outputs (length found.items) (TooMany counted.Outputs limits.outputs) few_items)) refl)))))

three_none : (xs ys zs : List Refusal) → first xs ≡ None → first ys ≡ None → first zs ≡ None → first (xs ++ ys ++ zs) ≡ None
three_none xs ys zs one two three = first_none (xs ++ ys) zs (first_none xs ys one ∙ two) ∙ three

pub none_refused : (limits : Limits) (schema : Schema) (t : BlockTree) (names : ColumnRef → Meaning) (atoms : List Atom) (block : Block)
    → ((ref : ColumnRef) → names ref ≡ meaning (sources schema t.from_items) ref) → atoms ≡ map (atom_of schema) t.from_items
    → IsSoundOver limits names atoms t block → first (repeated_among t.from_items) ≡ None
    → list_any (λ (a : Atom). a.width == 0) atoms ≡ false → length t.from_items ≤ limits.atoms
    → first (refusals limits schema (tree.Block t)) ≡ None
unfolding refusals looked_up
none_refused limits schema t names atoms block same atoms_are sound once wide few =
    let told : ColumnRef → Meaning = meaning (sources schema t.from_items) in
    let by_name : names ≡ told = fun_ext same in
    let fine : list_any (has_flaw limits.text) (map told t.items) ≡ false =
    subst (λ ns. list_any (has_flaw limits.text) (map ns t.items) ≡ false) by_name sound.0 in
    let fine_too : list_any (condition_has_flaw limits.text) (map (condition told) t.conditions) ≡ false =
    subst (λ ns. list_any (condition_has_flaw limits.text) (map (condition ns) t.conditions) ≡ false) by_name sound.2 in
    let unmixed : list_any is_mixed (map (condition told) t.conditions) ≡ false =
    subst (λ ns. list_any is_mixed (map (condition ns) t.conditions) ≡ false) by_name sound.3 in
    let few_items : length (map told t.items) ≤ limits.outputs =
    subst (λ (ns : ColumnRef → Meaning). length (map ns t.items) ≤ limits.outputs) by_name sound.1 in
    let count : length (map (atom_of schema) t.from_items) ≡ length t.from_items = length-map t.from_items (atom_of schema) in
    let known : first (unknown_tables schema t) ≡ None =
    items_known schema t.from_items (subst (λ some. list_any (λ (a : Atom). a.width == 0) some ≡ false) atoms_are wide) in
    three_none (unknown_tables schema t ++ []) (repeated_aliases t ++ []) _ (ap first (append-nil (unknown_tables schema t)) ∙ known)
    (ap first (append-nil (repeated_aliases t)) ∙ once)
    (none_looked limits (looked_up schema t)
    (ap (λ b. b || list_any (condition_has_flaw limits.text) (map (condition told) t.conditions)) fine ∙ fine_too) unmixed
    (omega (arith, count, few)) few_items)

-- ---- a query of one block

pub sound_over : (limits : Limits) (names : ColumnRef → Meaning) (atoms : List Atom) (t : BlockTree) (empty made block : Block)
    → list_any (has_flaw limits.text) (map names t.items) ≡ false → length (map names t.items) ≤ limits.outputs
    → empty.atoms ≡ atoms → empty.equalities ≡ [] → empty.constants ≡ [] → empty.comparisons ≡ [] → empty.output ≡ outputs (found_over names atoms t)
    → AddsSound limits.text empty made (map (condition names) t.conditions) → Some made ≡ Some block → IsSoundOver limits names atoms t block
sound_over limits names atoms t empty made block fine few atoms_are no_equalities no_constants no_comparisons output adds same = (
  fine,
  few,
  adds.0,
  adds.1,
  sym (the_same made block same)
      ∙ bound_is (found_over names atoms t) empty made atoms_are no_equalities no_constants no_comparisons output adds.2,
)

-- ---- a query that isn't refused

pub unrefused_fits : (limits : Limits) (schema : Schema) (t : tree.Tree) → SchemaIsSound schema → limits.atoms ≤ 16
    → All (λ b. 1 ≤ length b.from_items) (blocks_of t) → first (refusals limits schema t) ≡ None → QueryIsWellFormed (bound_query schema t)
unfolding refusals
unrefused_fits limits schema t sound sixteen some none =
    let unknown : List Refusal = flat_map (unknown_tables schema) (blocks_of t) in
    let repeated : List Refusal = flat_map repeated_aliases (blocks_of t) in
    query_fits limits schema t sound sixteen some (none_left unknown repeated (none_left (unknown ++ repeated) _ none))
    (none_right (unknown ++ repeated) _ none)

pub unrefused_over : (limits : Limits) (schema : Schema) (t : tree.Tree) → first (refusals limits schema t) ≡ None
    → QueryIsOver schema (bound_query schema t)
unfolding refusals
unrefused_over limits schema t none =
    let unknown : List Refusal = flat_map (unknown_tables schema) (blocks_of t) in
    let repeated : List Refusal = flat_map repeated_aliases (blocks_of t) in
    query_over schema t (none_left unknown repeated (none_left (unknown ++ repeated) _ none))
