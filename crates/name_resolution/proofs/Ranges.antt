-- Names stand for columns of atoms that there are.
use Rattle.std.proofs.Common.{◌≡◌, ℕ, suc, zero, ◌+◌, ◌<◌, ◌≤◌, List, [], ◌∷◌, ◌++◌, length, get_or, map, ap, arith, sym, ◌∙◌, subst, cond, Bool, true, false, Option, Some, None}
use Rattle.std.specs.List.{enumerate_from, filter, flat_map}
use Rattle.std.specs.Str.{bytes_eq}
use Rattle.std.specs.Option.{option_map_or}
use Rattle.std.proofs.lemmas.List.{get_or-map, length-map}
use Rattle.std.proofs.lemmas.List.FromFn.{length-enumerate_from, get_or-enumerate_from}
use Rattle.beas_core.specs.declared.query.Atom.{Atom}
use Rattle.beas_core.specs.declared.schema.Column.{Column}
use Rattle.beas_core.specs.declared.schema.TableId.{TableId}
use Rattle.beas_core.specs.declared.value.Value.{Value}
use Rattle.beas_core.specs.Shapes.{IsPlace, width_of}
use Rattle.catalogue.specs.declared.tables.TableSchema.{TableSchema}
use Rattle.catalogue.specs.Schema.{Schema, SchemaIsSound, TableIsSound, table_named, columns_at, no_table}
use Rattle.sql_text.specs.declared.tree.ColumnRef.{ColumnRef}
use Rattle.sql_text.specs.declared.tree.Cond.{Cond}
use Rattle.sql_text.specs.declared.tree.Cond.TheVariants as written
use Rattle.sql_text.specs.declared.tree.FromItem.{FromItem}
use Rattle.sql_text.specs.declared.tree.Literal.{Literal}
use Rattle.sql_text.specs.declared.tree.Literal.TheVariants.{Number, Words}
use Rattle.sql_text.specs.declared.tree.Side.{Side}
use Rattle.sql_text.specs.declared.tree.Side.TheVariants as side
use Rattle.name_resolution.specs.declared.meaning.BoundColumn.{BoundColumn}
use Rattle.name_resolution.specs.declared.meaning.Condition.{Condition}
use Rattle.name_resolution.specs.declared.meaning.Condition.TheVariants.{Compare, Between}
use Rattle.name_resolution.specs.declared.meaning.Meaning.{Meaning}
use Rattle.name_resolution.specs.declared.meaning.Meaning.TheVariants.{At}
use Rattle.name_resolution.specs.Literals.{number_value}
use Rattle.name_resolution.specs.LookedUp.{atom_of, place_of}
use Rattle.name_resolution.specs.Meanings.{Source, sources, bound_column, columns_named, columns_in, may_name, named_by, meaning, the_one, or_out_of_range, literal_meaning, side_meaning, condition}

-- ---- each element

abbrev pub Each : {X : Type 0} → (X → Type 0) → List X → Type 0
Each P [] = Unit {0}
Each P (x ∷ xs) = P x × Each P xs

pub each_by_index : {X : Type 0} (P : X → Type 0) (xs : List X) → ((i : ℕ) (d : X) → i < length xs → P (get_or xs i d)) → Each P xs
each_by_index P [] at = tt
each_by_index P (x ∷ xs) at = (at 0 x (omega arith), each_by_index P xs (λ i d below. subst P (sym (later i d)) (at (i + 1) d (omega arith)))) where
  later : (i : ℕ) (d : _) → get_or xs i d ≡ get_or (x ∷ xs) (i + 1) d
  later i d = grind arith

pub all_of_each : {X : Type 0} (P : X → Type 0) (xs : List X) → Each P xs → (i : ℕ) (d : X) → i < length xs → P (get_or xs i d)
all_of_each P [] each i d below = absurd (omega arith)
all_of_each P (x ∷ xs) each zero d below = each.0
all_of_each P (x ∷ xs) each (suc i) d below = all_of_each P xs each.1 i d (omega arith)

pub each_weaker : {X : Type 0} (P Q : X → Type 0) → ((x : X) → P x → Q x) → (xs : List X) → Each P xs → Each Q xs
each_weaker P Q so [] each = tt
each_weaker P Q so (x ∷ xs) each = (so x each.0, each_weaker P Q so xs each.1)

pub each_append : {X : Type 0} (P : X → Type 0) (xs ys : List X) → Each P xs → Each P ys → Each P (xs ++ ys)
each_append P [] ys one two = two
each_append P (x ∷ xs) ys one two = (one.0, each_append P xs ys one.1 two)

pub each_map : {X Y : Type 0} (f : X → Y) (P : X → Type 0) (Q : Y → Type 0) → ((x : X) → P x → Q (f x)) → (xs : List X) → Each P xs → Each Q (map f xs)
each_map f P Q so [] each = tt
each_map f P Q so (x ∷ xs) each = (so x each.0, each_map f P Q so xs each.1)

pub each_mapped : {X Y : Type 0} (f : X → Y) (Q : Y → Type 0) → ((x : X) → Q (f x)) → (xs : List X) → Each Q (map f xs)
each_mapped f Q so [] = tt
each_mapped f Q so (x ∷ xs) = (so x, each_mapped f Q so xs)

each_if : {X : Type 0} (P : X → Type 0) (b : Bool) (x : X) (xs : List X) → P x → Each P xs → Each P (cond b (x ∷ xs) xs)
each_if P true x xs one each = (one, each)
each_if P false x xs one each = each

pub each_filter : {X : Type 0} (P : X → Type 0) (test : X → Bool) (xs : List X) → Each P xs → Each P (filter test xs)
each_filter P test [] each = tt
each_filter P test (x ∷ xs) each = each_if P (test x) x (filter test xs) each.0 (each_filter P test xs each.1)

pub each_flat_map : {X Y : Type 0} (f : X → List Y) (P : X → Type 0) (Q : Y → Type 0) → ((x : X) → P x → Each Q (f x)) → (xs : List X) → Each P xs
    → Each Q (flat_map f xs)
each_flat_map f P Q so [] each = tt
each_flat_map f P Q so (x ∷ xs) each = each_append Q (f x) (flat_map f xs) (so x each.0) (each_flat_map f P Q so xs each.1)

-- elements that are numbered
pub each_numbered : {X : Type 0} (P : ℕ × X → Type 0) (xs : List X) → ((i : ℕ) (d : X) → i < length xs → P (i, get_or xs i d)) → Each P (enumerate_from 0 xs)
each_numbered {X} P xs at = each_by_index P (enumerate_from 0 xs) (λ i d below.
    let within : i < length xs = subst (λ n. i < n) (length-enumerate_from 0 xs) below in
    let pair : ℕ → X → ℕ × X = λ n x. (n, x) in
    subst P (sym (get_or-enumerate_from 0 xs i d within ∙ ap (λ n. pair n (get_or xs i d.1)) (omega arith))) (at i d.1 within))

-- ---- columns

table_few : (tables : List TableSchema) → Each TableIsSound tables → (i : ℕ) → length (get_or tables i no_table).columns ≤ 64
table_few [] sound i = omega arith
table_few (table ∷ tables) sound zero = sound.0.few_columns
table_few (table ∷ tables) sound (suc i) = table_few tables sound.1 i

few_named : (schema : Schema) (o : Option TableId) → Each TableIsSound schema.tables → length (option_map_or (columns_at schema) o []) ≤ 64
few_named schema None sound = omega arith
few_named schema (Some id) sound = table_few schema.tables sound id.0

pub tables_sound : (schema : Schema) → SchemaIsSound schema → Each TableIsSound schema.tables
tables_sound schema sound = each_by_index TableIsSound schema.tables (λ i d below. sound.tables i d below)

pub columns_few : (schema : Schema) (name : List ℕ) → SchemaIsSound schema → length (columns_named schema name) ≤ 64
unfolding columns_named
columns_few schema name sound = few_named schema (table_named schema name) (tables_sound schema sound)

pub widths_few : (schema : Schema) (items : List FromItem) (i : ℕ) → SchemaIsSound schema → width_of (map (atom_of schema) items) i ≤ 64
unfolding atom_of
widths_few schema [] i sound = omega arith
widths_few schema (item ∷ items) zero sound = columns_few schema item.table sound
widths_few schema (item ∷ items) (suc i) sound = widths_few schema items i sound

-- a column of an atom of these is a place of it
pub columns_are_places : (atoms : List Atom) (atom : ℕ) (name : List ℕ) (columns : List Column) → atom < length atoms → length columns ≤ width_of atoms atom
    → Each (λ c. IsPlace atoms (place_of c)) (columns_in atom name columns)
unfolding columns_in
columns_are_places atoms atom name columns here wide =
    each_map (bound_column atom) (λ (c : ℕ × Column). c.0 < length columns) (λ c. IsPlace atoms (place_of c))
    (λ c below. record { atom = here; column = omega arith })
    (filter (λ (c : ℕ × Column). bytes_eq c.1.name name) (enumerate_from 0 columns))
    (each_filter (λ (c : ℕ × Column). c.0 < length columns) (λ (c : ℕ × Column). bytes_eq c.1.name name) (enumerate_from 0 columns)
    (each_numbered (λ (c : ℕ × Column). c.0 < length columns) columns (λ i d below. below)))

source_width : (schema : Schema) (items : List FromItem) (i : ℕ) (d : Source) → i < length items
    → length (get_or (sources schema items) i d).columns ≤ width_of (map (atom_of schema) items) i
unfolding atom_of
source_width schema items i d below =
    let item : FromItem = record { table = []; alias = [] } in
    let source : FromItem → Source = λ item. record { alias = item.alias; columns = columns_named schema item.table } in
    let atom : Atom = record { table = record { 0 = 0 }; width = 0 } in
    let has : length (get_or (sources schema items) i d).columns ≡ length (columns_named schema (get_or items i item).table) =
    ap (λ (s : Source). length s.columns) (get_or-map source items i item d below) in
    let is : width_of (map (atom_of schema) items) i ≡ length (columns_named schema (get_or items i item).table) =
    get_or-map (λ (a : Atom). a.width) (map (atom_of schema) items) i atom 0 (subst (λ n. i < n) (sym (length-map items (atom_of schema))) below)
    ∙ ap (λ (a : Atom). a.width) (get_or-map (atom_of schema) items i item atom below) in
    omega (arith, has, is)

pub names_are_places : (schema : Schema) (items : List FromItem) (ref : ColumnRef)
    → Each (λ c. IsPlace (map (atom_of schema) items) (place_of c)) (named_by (sources schema items) ref)
unfolding named_by
names_are_places schema items ref =
    let atoms : List Atom = map (atom_of schema) items in
    let count : length atoms ≡ length items = length-map items (atom_of schema) in
    let as_many : length (sources schema items) ≡ length items = length-map items _ in
    each_flat_map (λ (a : ℕ × Source). columns_in a.0 ref.column a.1.columns) (λ (a : ℕ × Source). (a.0 < length atoms) ×
    (length a.1.columns ≤ width_of atoms a.0)) (λ c. IsPlace atoms (place_of c))
    (λ a fits. columns_are_places atoms a.0 ref.column a.1.columns fits.0 fits.1)
    (filter (λ (a : ℕ × Source). may_name ref a.1) (enumerate_from 0 (sources schema items)))
    (each_filter (λ (a : ℕ × Source). (a.0 < length atoms) × (length a.1.columns ≤ width_of atoms a.0)) (λ (a : ℕ × Source). may_name ref a.1)
    (enumerate_from 0 (sources schema items))
    (each_numbered (λ (a : ℕ × Source). (a.0 < length atoms) × (length a.1.columns ≤ width_of atoms a.0)) (sources schema items)
    (λ i d below. (omega arith, source_width schema items i d (omega arith)))))

-- ---- meanings

abbrev pub MeaningFits : List Atom → Meaning → Type 0
MeaningFits atoms (At column) = IsPlace atoms (place_of column)
MeaningFits atoms _ = Unit {0}

abbrev pub ConditionFits : List Atom → Condition → Type 0
ConditionFits atoms (Compare left sign right) = MeaningFits atoms left × MeaningFits atoms right
ConditionFits atoms (Between value low high) = MeaningFits atoms value × MeaningFits atoms low × MeaningFits atoms high

the_one_fits : (atoms : List Atom) (ref : ColumnRef) (columns : List BoundColumn) → Each (λ c. IsPlace atoms (place_of c)) columns
    → MeaningFits atoms (the_one ref columns)
the_one_fits atoms ref [] each = tt
the_one_fits atoms ref (c ∷ []) each = each.0
the_one_fits atoms ref (c ∷ d ∷ more) each = tt

pub ref_fits : (schema : Schema) (items : List FromItem) (ref : ColumnRef) → MeaningFits (map (atom_of schema) items) (meaning (sources schema items) ref)
unfolding meaning
ref_fits schema items ref = the_one_fits (map (atom_of schema) items) ref (named_by (sources schema items) ref) (names_are_places schema items ref)

number_fits : (atoms : List Atom) (negative : Bool) (digits : List ℕ) (o : Option Value) → MeaningFits atoms (or_out_of_range negative digits o)
number_fits atoms negative digits None = tt
number_fits atoms negative digits (Some value) = tt

literal_fits : (atoms : List Atom) (literal : Literal) → MeaningFits atoms (literal_meaning literal)
literal_fits atoms (Number negative digits) = number_fits atoms negative digits (number_value negative digits)
literal_fits atoms (Words text) = tt

side_fits : (schema : Schema) (items : List FromItem) (s : Side) → MeaningFits (map (atom_of schema) items) (side_meaning (meaning (sources schema items)) s)
side_fits schema items (side.Column ref) = ref_fits schema items ref
side_fits schema items (side.Fixed literal) = literal_fits (map (atom_of schema) items) literal

pub condition_fits : (schema : Schema) (items : List FromItem) (c : Cond) → ConditionFits (map (atom_of schema) items) (condition (meaning
    (sources schema items)) c)
condition_fits schema items (written.Compare left sign right) = (side_fits schema items left, side_fits schema items right)
condition_fits schema items (written.Between value low high) = (ref_fits schema items value, side_fits schema items low, side_fits schema items high)
