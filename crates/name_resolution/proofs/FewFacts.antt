-- What few atoms give for a ref, and which aliases they have.
use Rattle.std.proofs.Common.{◌≡◌, ℕ, ◌+◌, ◌<◌, ◌||◌, List, [], ◌∷◌, ◌++◌, length, take, get_or, refl, ap, arith, sym, ◌∙◌, cond, Bool, true, false, map, Option}
use Rattle.std.specs.List.{enumerate_from, flat_map, filter, list_any}
use Rattle.std.specs.Str.{bytes_eq}
use Rattle.std.proofs.lemmas.List.{append-nil, map-append, map_more, length-map, length-take-le}
use Rattle.std.proofs.lemmas.List.Concat.{flat_map-append}
use Rattle.std.proofs.lemmas.List.Elements.{filter-append}
use Rattle.beas_core.specs.declared.query.Atom.{Atom}
use Rattle.catalogue.specs.Schema.{Schema}
use Rattle.sql_text.specs.declared.tree.ColumnRef.{ColumnRef}
use Rattle.sql_text.specs.declared.tree.FromItem.{FromItem}
use Rattle.name_resolution.specs.declared.found.Found.{Found}
use Rattle.name_resolution.specs.declared.found.NamedAtom.{NamedAtom}
use Rattle.name_resolution.specs.declared.meaning.BoundColumn.{BoundColumn}
use Rattle.name_resolution.specs.LookedUp.{atom_of}
use Rattle.name_resolution.specs.Meanings.{Source, columns_in, may_name, named_by, meaning}
use Rattle.name_resolution.specs.Scopes.{found_in, found_or_more, source_of, meaning_by}
use Rattle.name_resolution.proofs.Numbered.{enumerate_append}
use Rattle.name_resolution.proofs.ScopeFacts.{called_if, meaning_is}

found_joined : (xs ys : List BoundColumn) → found_in (xs ++ ys) ≡ found_or_more (found_in xs) (found_in ys)
found_joined [] ys = refl
found_joined (x ∷ []) [] = refl
found_joined (x ∷ []) (y ∷ []) = refl
found_joined (x ∷ []) (y ∷ z ∷ more) = refl
found_joined (x ∷ z ∷ more) [] = refl
found_joined (x ∷ z ∷ more) (y ∷ []) = refl
found_joined (x ∷ z ∷ more) (y ∷ w ∷ rest) = refl

named_more : (atoms : List Source) (source : Source) (ref : ColumnRef)
    → named_by (atoms ++ source ∷ []) ref ≡ named_by atoms ref ++ cond (may_name ref source) (columns_in (length atoms) ref.column source.columns) []
unfolding named_by
named_more atoms source ref =
    let each : ℕ × Source → List BoundColumn = λ a. columns_in a.0 ref.column a.1.columns in
    let has : ℕ × Source → Bool = λ a. may_name ref a.1 in
    ap (λ ps. flat_map each (filter has ps)) (enumerate_append 0 atoms (source ∷ []))
    ∙ ap (flat_map each) (filter-append has (enumerate_from 0 atoms) ((0 + length atoms, source) ∷ []))
    ∙ flat_map-append each (filter has (enumerate_from 0 atoms)) (filter has ((0 + length atoms, source) ∷ []))
    ∙ ap (λ cs. flat_map each (filter has (enumerate_from 0 atoms)) ++ cs) (called_if (0 + length atoms) source ref.column (may_name ref source))
    ∙ ap (λ n. flat_map each (filter has (enumerate_from 0 atoms)) ++ cond (may_name ref source) (columns_in n ref.column source.columns) []) (omega arith)

-- the columns up to the next atom
named_to : (atoms : List NamedAtom) (i : ℕ) (atom : NamedAtom) (ref : ColumnRef) (b : Bool) → i < length atoms → atom ≡ get_or atoms i atom
    → may_name ref (source_of atom) ≡ b
    → named_by (map source_of (take (i + 1) atoms)) ref ≡ named_by (map source_of (take i atoms)) ref
    ++ cond b (columns_in i ref.column atom.columns.now) []
named_to atoms i atom ref b below is may =
    ap (λ ss. named_by ss ref) (map_more source_of atoms i atom below ∙ ap (λ a. map source_of (take i atoms) ++ source_of a ∷ []) (sym is))
    ∙ named_more (map source_of (take i atoms)) (source_of atom) ref
    ∙ ap (λ n. named_by (map source_of (take i atoms)) ref ++ cond (may_name ref (source_of atom)) (columns_in n ref.column atom.columns.now) [])
    (length-map (take i atoms) source_of ∙ length-take-le i atoms (omega arith))
    ∙ ap (λ c. named_by (map source_of (take i atoms)) ref ++ cond c (columns_in i ref.column atom.columns.now) []) may

pub found_to_named : (atoms : List NamedAtom) (i : ℕ) (atom : NamedAtom) (ref : ColumnRef) (found more : Option Found) → i < length atoms
    → atom ≡ get_or atoms i atom → may_name ref (source_of atom) ≡ true → found ≡ found_in (named_by (map source_of (take i atoms)) ref)
    → more ≡ found_in (columns_in i ref.column atom.columns.now)
    → found_or_more found more ≡ found_in (named_by (map source_of (take (i + 1) atoms)) ref)
found_to_named atoms i atom ref found more below is may so_far here =
    ap (λ f. found_or_more f more) so_far ∙ ap (found_or_more (found_in (named_by (map source_of (take i atoms)) ref))) here
    ∙ sym (found_joined (named_by (map source_of (take i atoms)) ref) (columns_in i ref.column atom.columns.now))
    ∙ ap found_in (sym (named_to atoms i atom ref true below is may))

pub found_to_other : (atoms : List NamedAtom) (i : ℕ) (atom : NamedAtom) (ref : ColumnRef) (found : Option Found) → i < length atoms
    → atom ≡ get_or atoms i atom → may_name ref (source_of atom) ≡ false → found ≡ found_in (named_by (map source_of (take i atoms)) ref)
    → found ≡ found_in (named_by (map source_of (take (i + 1) atoms)) ref)
found_to_other atoms i atom ref found below is may so_far =
    so_far ∙ ap found_in (sym (named_to atoms i atom ref false below is may ∙ append-nil (named_by (map source_of (take i atoms)) ref)))

-- ---- aliases

pub aliases_among : (atoms : List NamedAtom) (name : List ℕ)
    → list_any (λ s. bytes_eq s.alias name) (map source_of atoms) ≡ list_any (λ a. bytes_eq a.alias.now name) atoms
aliases_among [] name = refl
aliases_among (a ∷ atoms) name = ap (λ b. bytes_eq a.alias.now name || b) (aliases_among atoms name)

-- ---- an atom more

pub source_added : (atoms more : List NamedAtom) (atom : NamedAtom) (before : List Source) → more ≡ atoms ++ atom ∷ [] → map source_of atoms ≡ before
    → map source_of more ≡ before ++ source_of atom ∷ []
source_added atoms more atom before added was =
    ap (map source_of) added ∙ map-append source_of atoms (atom ∷ []) ∙ ap (λ ss. ss ++ source_of atom ∷ []) was

pub atoms_added : (schema : Schema) (atoms more : List NamedAtom) (atom : NamedAtom) (items : List FromItem) (i : ℕ) (item : FromItem) → i < length items
    → item ≡ get_or items i item → more ≡ atoms ++ atom ∷ [] → map (λ a. a.atom) atoms ≡ map (atom_of schema) (take i items)
    → atom.atom ≡ atom_of schema item → map (λ a. a.atom) more ≡ map (atom_of schema) (take (i + 1) items)
atoms_added schema atoms more atom items i item below is added so_far here =
    let plain : NamedAtom → Atom = λ a. a.atom in
    let before : List Atom = map (atom_of schema) (take i items) in
    ap (map plain) added ∙ map-append plain atoms (atom ∷ []) ∙ ap (λ some. some ++ atom.atom ∷ []) so_far
    ∙ ap (λ a. before ++ a ∷ []) here ∙ ap (λ it. before ++ atom_of schema it ∷ []) is ∙ sym (map_more (atom_of schema) items i item below)

-- ---- what a ref stands for

pub few_names : (atoms before : List Source) (ref : ColumnRef) → atoms ≡ before → meaning_by ref (found_in (named_by atoms ref)) ≡ meaning before ref
unfolding meaning
few_names atoms before ref is = ap (λ ss. meaning_by ref (found_in (named_by ss ref))) is ∙ meaning_is ref (named_by before ref)
