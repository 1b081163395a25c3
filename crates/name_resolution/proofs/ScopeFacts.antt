-- What the maps of a scope have is what its atoms have.
use Rattle.std.proofs.Common.{◌≡◌, ℕ, ◌+◌, ◌<◌, ◌||◌, append_assoc, List, [], ◌∷◌, ◌++◌, length, take, get_or, refl, ap, arith, sym, ◌∙◌, cond, Bool, true, false, map, Option, Some, None}
use Rattle.std.specs.Borrow.{Bor}
use Rattle.std.specs.Option.{option_map_or, is_some}
use Rattle.std.specs.List.{enumerate_from, flat_map, filter, list_any}
use Rattle.std.specs.Map.{update}
use Rattle.std.specs.Str.{bytes_eq}
use Rattle.std.proofs.lemmas.List.{append-nil, take_more, length-take-le, map-append}
use Rattle.std.proofs.lemmas.List.Concat.{flat_map-append}
use Rattle.std.proofs.lemmas.List.Elements.{filter-append}
use Rattle.std.proofs.lemmas.List.Folds.{list_any-append}
use Rattle.std.proofs.lemmas.Slice.Eq.{bytes_eq-Decides}
use Rattle.beas_core.specs.declared.schema.Column.{Column}
use Rattle.sql_text.specs.declared.tree.ColumnRef.{ColumnRef}
use Rattle.name_resolution.specs.declared.found.AtomColumns.{AtomColumns}
use Rattle.name_resolution.specs.declared.found.Found.{Found}
use Rattle.name_resolution.specs.declared.meaning.BoundColumn.{BoundColumn}
use Rattle.name_resolution.specs.declared.scope.Scope.{Scope}
use Rattle.name_resolution.specs.Meanings.{Source, bound_column, columns_in, named_by, meaning, the_one}
use Rattle.name_resolution.specs.Scopes.{found_in, one_more, found_at, found_among, meaning_by, names_of, columns_called, IsScope}
use Rattle.name_resolution.proofs.Numbered.{enumerate_append, filter_all}

-- ---- one column more

-- the column, where it has the name
abbrev pub if_named : ℕ → List ℕ → ℕ → Column → List BoundColumn
if_named atom name place column = cond (bytes_eq column.name name) (bound_column atom (place, column) ∷ []) []

named_one : (atom place : ℕ) (column : Column) (b : Bool) → map (bound_column atom) (cond b ((place, column) ∷ []) []) ≡ cond b (bound_column atom
    (place, column) ∷ []) []
named_one atom place column true = refl
named_one atom place column false = refl

columns_in_more : (atom : ℕ) (name : List ℕ) (columns : List Column) (column : Column)
    → columns_in atom name (columns ++ column ∷ []) ≡ columns_in atom name columns ++ if_named atom name (length columns) column
unfolding columns_in
columns_in_more atom name columns column =
    let has : ℕ × Column → Bool = λ c. bytes_eq c.1.name name in
    ap (λ cs. map (bound_column atom) (filter has cs)) (enumerate_append 0 columns (column ∷ []))
    ∙ ap (map (bound_column atom)) (filter-append has (enumerate_from 0 columns) ((0 + length columns, column) ∷ []))
    ∙ map-append (bound_column atom) (filter has (enumerate_from 0 columns)) (filter has ((0 + length columns, column) ∷ []))
    ∙ ap (λ zs. map (bound_column atom) (filter has (enumerate_from 0 columns)) ++ zs) (named_one atom (0 + length columns) column
    (bytes_eq column.name name))
    ∙ ap (λ n. map (bound_column atom) (filter has (enumerate_from 0 columns)) ++ if_named atom name n column) (omega arith)

found_in_more : (columns : List BoundColumn) (column : BoundColumn) → found_in (columns ++ column ∷ []) ≡ Some (one_more (found_in columns) column)
found_in_more [] column = refl
found_in_more (c ∷ []) column = refl
found_in_more (c ∷ d ∷ more) column = refl

-- the columns up to the next
columns_to : (atom : ℕ) (name : List ℕ) (columns : List Column) (i : ℕ) (column : Column) → i < length columns → column ≡ get_or columns i column
    → columns_in atom name (take (i + 1) columns) ≡ columns_in atom name (take i columns) ++ if_named atom name i column
columns_to atom name columns i column below is =
    ap (columns_in atom name) (take_more columns i column below ∙ ap (λ c. take i columns ++ c ∷ []) (sym is))
    ∙ columns_in_more atom name (take i columns) column
    ∙ ap (λ n. columns_in atom name (take i columns) ++ if_named atom name n column) (length-take-le i columns (omega arith))

pub columns_to_named : (atom : ℕ) (name : List ℕ) (columns : List Column) (i : ℕ) (column : Column) → i < length columns → column ≡ get_or columns i column
    → bytes_eq column.name name ≡ true → columns_in atom name (take (i + 1) columns) ≡ columns_in atom name (take i columns) ++ bound_column atom
    (i, column) ∷ []
columns_to_named atom name columns i column below is named =
    columns_to atom name columns i column below is ∙ ap (λ b. columns_in atom name (take i columns) ++ cond b (bound_column atom (i, column) ∷ []) []) named

pub columns_to_other : (atom : ℕ) (name : List ℕ) (columns : List Column) (i : ℕ) (column : Column) → i < length columns → column ≡ get_or columns i column
    → bytes_eq column.name name ≡ false → columns_in atom name (take (i + 1) columns) ≡ columns_in atom name (take i columns)
columns_to_other atom name columns i column below is other =
    columns_to atom name columns i column below is ∙ ap (λ b. columns_in atom name (take i columns) ++ cond b (bound_column atom (i, column) ∷ []) []) other
    ∙ append-nil (columns_in atom name (take i columns))

pub found_more : (found : Option Found) (before : List BoundColumn) (column : BoundColumn) → found ≡ found_in before
    → Some (one_more found column) ≡ found_in (before ++ column ∷ [])
found_more found before column is = ap (λ f. Some (one_more f column)) is ∙ sym (found_in_more before column)

-- the map that has a column more
pub map_more : (old new : List ℕ → Option Found) (atom : ℕ) (columns : List Column) (i : ℕ) (column : Column) (name : List ℕ) (before : List BoundColumn)
    → i < length columns → column ≡ get_or columns i column → old name ≡ found_in (before ++ columns_in atom name (take i columns))
    → new name ≡ cond (bytes_eq column.name name) (Some (one_more (old column.name) (bound_column atom (i, column)))) (old name)
    → new name ≡ found_in (before ++ columns_in atom name (take (i + 1) columns))
map_more old new atom columns i column name before below is had has = by_test (bytes_eq column.name name) refl where
  so_far : List BoundColumn
  so_far = before ++ columns_in atom name (take i columns)

  by_test : (b : Bool) → bytes_eq column.name name ≡ b → new name ≡ found_in (before ++ columns_in atom name (take (i + 1) columns))
  by_test true same =
      has ∙ ap (λ b. cond b (Some (one_more (old column.name) (bound_column atom (i, column)))) (old name)) same
      ∙ ap (λ n. Some (one_more (old n) (bound_column atom (i, column)))) ((bytes_eq-Decides column.name name).0 same)
      ∙ found_more (old name) (before ++ columns_in atom name (take i columns)) (bound_column atom (i, column)) had
      ∙ ap found_in (append_assoc before (columns_in atom name (take i columns)) (bound_column atom (i, column) ∷ [])
      ∙ ap (λ cs. before ++ cs) (sym (columns_to_named atom name columns i column below is same)))
  by_test false differs =
      has ∙ ap (λ b. cond b (Some (one_more (old column.name) (bound_column atom (i, column)))) (old name)) differs ∙ had
      ∙ ap (λ cs. found_in (before ++ cs)) (sym (columns_to_other atom name columns i column below is differs))

-- ---- one atom more

called_more : (atoms : List Source) (source : Source) (atom : ℕ) (name : List ℕ) → length atoms ≡ atom
    → columns_called name (enumerate_from 0 (atoms ++ source ∷ [])) ≡ columns_called name (enumerate_from 0 atoms) ++ columns_in atom name source.columns
called_more atoms source atom name is =
    let each : ℕ × Source → List BoundColumn = λ a. columns_in a.0 name a.1.columns in
    ap (flat_map each) (enumerate_append 0 atoms (source ∷ [])) ∙ flat_map-append each (enumerate_from 0 atoms) ((0 + length atoms, source) ∷ [])
    ∙ ap (λ cs. flat_map each (enumerate_from 0 atoms) ++ cs) (append-nil (columns_in (0 + length atoms) name source.columns))
    ∙ ap (λ n. flat_map each (enumerate_from 0 atoms) ++ columns_in n name source.columns) (omega arith)

pub called_if : (atom : ℕ) (source : Source) (name : List ℕ) (b : Bool) → columns_called name (cond b ((atom, source) ∷ []) []) ≡ cond b
    (columns_in atom name source.columns) []
called_if atom source name true = append-nil (columns_in atom name source.columns)
called_if atom source name false = refl

aliased_more : (atoms : List Source) (source : Source) (atom : ℕ) (alias name : List ℕ) → length atoms ≡ atom
    → columns_called name (filter (λ a. bytes_eq a.1.alias alias) (enumerate_from 0 (atoms ++ source ∷ [])))
    ≡ columns_called name (filter (λ a. bytes_eq a.1.alias alias) (enumerate_from 0 atoms)) ++ cond (bytes_eq source.alias alias)
    (columns_in atom name source.columns) []
aliased_more atoms source atom alias name is =
    let each : ℕ × Source → List BoundColumn = λ a. columns_in a.0 name a.1.columns in
    let has : ℕ × Source → Bool = λ a. bytes_eq a.1.alias alias in
    ap (λ ps. flat_map each (filter has ps)) (enumerate_append 0 atoms (source ∷ []))
    ∙ ap (flat_map each) (filter-append has (enumerate_from 0 atoms) ((0 + length atoms, source) ∷ []))
    ∙ flat_map-append each (filter has (enumerate_from 0 atoms)) (filter has ((0 + length atoms, source) ∷ []))
    ∙ ap (λ cs. flat_map each (filter has (enumerate_from 0 atoms)) ++ cs) (called_if (0 + length atoms) source name (bytes_eq source.alias alias))
    ∙ ap (λ n. flat_map each (filter has (enumerate_from 0 atoms)) ++ cond (bytes_eq source.alias alias) (columns_in n name source.columns) []) (omega arith)

none_of : {X : Type 0} (o : Option X) → is_some o ≡ false → o ≡ None
none_of None is = refl
none_of (Some x) is = cc

or_true : (b : Bool) → true ≡ (b || true)
or_true true = refl
or_true false = refl

or_false : (b : Bool) → b ≡ (b || false)
or_false true = refl
or_false false = refl

pub scope_more : (old new : Scope) (atoms : List Source) (atom : ℕ) (alias : Bor (List ℕ)) (columns : Bor (List Column))
    → ((name : List ℕ) → found_at new.atoms name ≡ update bytes_eq (found_at old.atoms) alias.now (Some (record { atom = atom; columns = columns })) name)
    → ((name : List ℕ) (before : List BoundColumn) → found_at old.columns name ≡ found_in before
    → found_at new.columns name ≡ found_in (before ++ columns_in atom name columns.now))
    → length atoms ≡ atom → IsScope atoms old → list_any (λ s. bytes_eq s.alias alias.now) atoms ≡ false
    → IsScope (atoms ++ record { alias = alias.now; columns = columns.now } ∷ []) new
scope_more old new atoms atom alias columns noted added count was fresh = record {
  plain = λ name. added name (columns_called name (enumerate_from 0 atoms)) (was.plain name) ∙ ap found_in (sym (called_more atoms source atom name count));
  with_alias = λ other name. aliased other name (bytes_eq alias.now other) refl;
  aliases = λ other. known other (bytes_eq alias.now other) refl;
}
  where
    source : Source
    source = record { alias = alias.now; columns = columns.now }

    here : AtomColumns
    here = record { atom = atom; columns = columns }

    absent : (other : List ℕ) → alias.now ≡ other → found_at old.atoms other ≡ None
    absent other same = none_of (found_at old.atoms other) (was.aliases other ∙ ap (λ n. list_any (λ s. bytes_eq s.alias n) atoms) (sym same) ∙ fresh)

    aliased : (other name : List ℕ) (b : Bool) → bytes_eq alias.now other ≡ b → option_map_or (λ a. columns_in a.atom name a.columns.now)
        (found_at new.atoms other) []
        ≡ columns_called name (filter (λ a. bytes_eq a.1.alias other) (enumerate_from 0 (atoms ++ record { alias = alias.now; columns = columns.now } ∷ [])))
    aliased other name true same =
        ap (λ (o : Option AtomColumns). option_map_or (λ a. columns_in a.atom name a.columns.now) o [])
        (noted other ∙ ap (λ b. cond b (Some (record { atom = atom; columns = columns })) (found_at old.atoms other)) same)
        ∙ ap (λ cs. cs ++ columns_in atom name columns.now)
        (ap (λ (o : Option AtomColumns). option_map_or (λ a. columns_in a.atom name a.columns.now) o []) (sym (absent other
        ((bytes_eq-Decides alias.now other).0 same))) ∙ was.with_alias other name)
        ∙ ap (λ b. columns_called name (filter (λ a. bytes_eq a.1.alias other) (enumerate_from 0 atoms)) ++ cond b (columns_in atom name columns.now) [])
        (sym same)
        ∙ sym (aliased_more atoms (record { alias = alias.now; columns = columns.now }) atom other name count)
    aliased other name false differs =
        ap (λ (o : Option AtomColumns). option_map_or (λ a. columns_in a.atom name a.columns.now) o [])
        (noted other ∙ ap (λ b. cond b (Some (record { atom = atom; columns = columns })) (found_at old.atoms other)) differs)
        ∙ was.with_alias other name ∙ sym (append-nil _)
        ∙ ap (λ b. columns_called name (filter (λ a. bytes_eq a.1.alias other) (enumerate_from 0 atoms)) ++ cond b (columns_in atom name columns.now) [])
        (sym differs)
        ∙ sym (aliased_more atoms (record { alias = alias.now; columns = columns.now }) atom other name count)

    known : (other : List ℕ) (b : Bool) → bytes_eq alias.now other ≡ b → is_some (found_at new.atoms other)
        ≡ list_any (λ s. bytes_eq s.alias other) (atoms ++ record { alias = alias.now; columns = columns.now } ∷ [])
    known other true same =
        ap is_some (noted other ∙ ap (λ b. cond b (Some (record { atom = atom; columns = columns })) (found_at old.atoms other)) same)
        ∙ or_true (list_any (λ s. bytes_eq s.alias other) atoms)
        ∙ ap (λ b. list_any (λ s. bytes_eq s.alias other) atoms || (b || false)) (sym same)
        ∙ sym (list_any-append (λ s. bytes_eq s.alias other) atoms (record { alias = alias.now; columns = columns.now } ∷ []))
    known other false differs =
        ap is_some (noted other ∙ ap (λ b. cond b (Some (record { atom = atom; columns = columns })) (found_at old.atoms other)) differs)
        ∙ was.aliases other ∙ or_false (list_any (λ s. bytes_eq s.alias other) atoms)
        ∙ ap (λ b. list_any (λ s. bytes_eq s.alias other) atoms || (b || false)) (sym differs)
        ∙ sym (list_any-append (λ s. bytes_eq s.alias other) atoms (record { alias = alias.now; columns = columns.now } ∷ []))

-- ---- what a ref stands for

pub meaning_is : (ref : ColumnRef) (columns : List BoundColumn) → meaning_by ref (found_in columns) ≡ the_one ref columns
meaning_is ref [] = refl
meaning_is ref (c ∷ []) = refl
meaning_is ref (c ∷ d ∷ more) = refl

found_or : (name : List ℕ) (o : Option AtomColumns) → option_map_or (λ a. found_in (columns_in a.atom name a.columns.now)) o None
    ≡ found_in (option_map_or (λ a. columns_in a.atom name a.columns.now) o [])
found_or name None = refl
found_or name (Some a) = refl

found_is : (scope : Scope) (atoms : List Source) (name : List ℕ) (alias : Option (List ℕ)) → IsScope atoms scope
    → found_among (found_at scope.columns) (found_at scope.atoms) alias name
    ≡ found_in (columns_called name (filter (λ (a : ℕ × Source). option_map_or (bytes_eq a.1.alias) alias true) (enumerate_from 0 atoms)))
found_is scope atoms name None is = is.plain name ∙ ap (λ ps. found_in (columns_called name ps)) (sym (filter_all (enumerate_from 0 atoms)))
found_is scope atoms name (Some alias) is = found_or name (found_at scope.atoms alias) ∙ ap found_in (is.with_alias alias name)

-- the maps give what the atoms do
pub names_are : (scope : Scope) (atoms : List Source) → IsScope atoms scope → (ref : ColumnRef) → names_of scope ref ≡ meaning atoms ref
unfolding meaning named_by
names_are scope atoms is ref = ap (meaning_by ref) (found_is scope atoms ref.column ref.table is) ∙ meaning_is ref _
