-- The names of a block as its atoms, or two maps of them, give them.
--     found_in columns         whether there is one column, or several, if there is any
--     found_by scope ref       what the maps find of a ref
--     names_of scope ref       what it stands for by them
--     told_by names ref        what a ref stands for by the atoms, where they are few, or else by the maps
--     IsScope sources scope    the maps are those of these atoms
use Rattle.std.specs.Prelude.{◌≡◌, ℕ, List, [], ◌∷◌, map, filter, Option, Some, None}
use Rattle.std.specs.Option.{option_map_or, is_some}
use Rattle.std.specs.Borrow.{Bor}
use Rattle.std.specs.BTreeMap.{BTreeMap, get_by}
use Rattle.std.specs.Cmp.Lexicographic.{slice_cmp}
use Rattle.std.specs.List.{enumerate_from, flat_map, list_any}
use Rattle.std.specs.Ordering.{nat_cmp}
use Rattle.std.specs.Str.{bytes_eq}
use Rattle.sql_text.specs.declared.tree.ColumnRef.{ColumnRef}
use Rattle.name_resolution.specs.declared.found.Found.{Found}
use Rattle.name_resolution.specs.declared.found.Found.TheVariants.{One, Several}
use Rattle.name_resolution.specs.declared.found.AtomColumns.{AtomColumns}
use Rattle.name_resolution.specs.declared.found.NamedAtom.{NamedAtom}
use Rattle.name_resolution.specs.declared.meaning.BoundColumn.{BoundColumn}
use Rattle.name_resolution.specs.declared.meaning.Meaning.{Meaning}
use Rattle.name_resolution.specs.declared.meaning.Meaning.TheVariants.{At, Unknown, Ambiguous}
use Rattle.name_resolution.specs.declared.names.Names.{Names}
use Rattle.name_resolution.specs.declared.names.Names.TheVariants.{Few, Many}
use Rattle.name_resolution.specs.declared.scope.Scope.{Scope}
use Rattle.name_resolution.specs.Meanings.{Source, columns_in, named_by}

abbrev pub found_in : List BoundColumn → Option Found
found_in [] = None
found_in (column ∷ []) = Some (One column)
found_in (column ∷ other ∷ more) = Some Several

abbrev pub one_more : Option Found → BoundColumn → Found
one_more None column = One column
one_more (Some found) column = Several

-- what a map has at a name
abbrev pub found_at : {X : Type 0} → BTreeMap (Bor (List ℕ)) X → List ℕ → Option X
found_at map name = get_by (λ key. slice_cmp nat_cmp name key.now) map

-- what a ref with or without an alias finds, where columns finds names, and atoms aliases
abbrev pub found_among : (List ℕ → Option Found) → (List ℕ → Option AtomColumns) → Option (List ℕ) → List ℕ
    → Option Found
found_among columns atoms None name = columns name
found_among columns atoms (Some alias) name =
    option_map_or (λ a. found_in (columns_in a.atom name a.columns.now)) (atoms alias) None

abbrev pub found_by : Scope → ColumnRef → Option Found
found_by scope ref =
    found_among (found_at scope.columns) (found_at scope.atoms) ref.table ref.column

abbrev pub meaning_by : ColumnRef → Option Found → Meaning
meaning_by ref None = Unknown ref.table ref.column
meaning_by ref (Some (One column)) = At column
meaning_by ref (Some Several) = Ambiguous ref.column

abbrev pub names_of : Scope → ColumnRef → Meaning
names_of scope ref = meaning_by ref (found_by scope ref)

abbrev pub columns_called : List ℕ → List (ℕ × Source) → List BoundColumn
columns_called name atoms = flat_map (λ a. columns_in a.0 name a.1.columns) atoms

pub record IsScope (sources : List Source) (scope : Scope) : Type 0 where
  pub plain : (name : List ℕ) → found_at scope.columns name ≡ found_in (columns_called name (enumerate_from 0 sources))
  pub with_alias : (alias name : List ℕ)
      → option_map_or (λ a. columns_in a.atom name a.columns.now) (found_at scope.atoms alias) []
      ≡ columns_called name (filter (λ a. bytes_eq a.1.alias alias) (enumerate_from 0 sources))
  pub aliases : (alias : List ℕ) → is_some (found_at scope.atoms alias) ≡ list_any (λ s. bytes_eq s.alias alias) sources

-- ---- a block of few atoms

abbrev pub source_of : NamedAtom → Source
source_of atom = record { alias = atom.alias.now; columns = atom.columns.now }

abbrev pub found_or_more : Option Found → Option Found → Option Found
found_or_more None more = more
found_or_more (Some before) None = Some before
found_or_more (Some before) (Some more) = Some Several

abbrev pub found_of : Names → ColumnRef → Option Found
found_of (Few atoms) ref = found_in (named_by (map source_of atoms.items) ref)
found_of (Many scope) ref = found_by scope ref

abbrev pub told_by : Names → ColumnRef → Meaning
told_by names ref = meaning_by ref (found_of names ref)
