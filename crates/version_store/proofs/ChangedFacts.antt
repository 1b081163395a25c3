-- The one table that a statement may change.
use Rattle.std.proofs.Common.{◌≡◌, ◌<◌, ◌==◌, ◌∙◌, ℕ, Bool, true, false, cond, List, [], ◌∷◌, length, find, get_or, Option, Some, None, refl, ap, sym, subst}
use Rattle.std.specs.Prelude.{◌≢◌, ◌&&◌, ◌||◌, option_map, AllPairs}
use Rattle.std.specs.List.{list_any}
use Rattle.std.specs.Option.{option_map_or}
use Rattle.std.proofs.Math.Nat.{ne_of_lt}
use Rattle.std.proofs.lemmas.Bool.{eqb-true}
use Rattle.std.proofs.lemmas.List.Folds.{list_any_none}
use Rattle.std.proofs.lemmas.Slice.Eq.{bytes_eq-Decides}
use Rattle.std.proofs.lemmas.List.Elements.{All-contains}
use Rattle.beas_core.specs.declared.schema.Access.{Access}
use Rattle.beas_core.specs.declared.schema.AccessId.{AccessId}
use Rattle.beas_core.specs.declared.schema.TableId.{TableId}
use Rattle.beas_core.specs.Derivations.{access_in}
use Rattle.beas_core.specs.Shapes.{EachIdOnce}
use Rattle.beas_core.proofs.Accesses.{access_in-member}
use Rattle.beas_core.proofs.Sets.{Contains-from_has, Has, Has-get_or}
use Rattle.catalogue.specs.Kept.{id_of_access_named}
use Rattle.catalogue.specs.Schema.{AccessIsSound, Schema, SchemaIsSound, access_has_name, access_with_id}
use Rattle.catalogue.proofs.ListFacts.{find_some}
use Rattle.beas_core.proofs.MemberTests.{first_of_pairs, rest_of_pairs}
use Rattle.beas_core.proofs.UseFacts.{found_by_id}
use Rattle.sql_text.specs.declared.tree.Statement.{Statement}
use Rattle.sql_text.specs.declared.tree.Statement.TheVariants.{CreateTable, CreateAccess, DropAccess, Load, Insert, Delete, DiscoverGroup, DiscoverPairs, Select, Explain, ScanOk, Grouped, Specialise}
use Rattle.desk_model.specs.Changes.{changes}
use Rattle.version_store.specs.Events.{changed_table, table_of_named}

pub once_in : (schema : Schema) → SchemaIsSound schema → EachIdOnce schema.accesses
once_in schema sound = λ i j d less below. ne_of_lt (sound.ids_rise i j d less below)

found_has : (p : Access → Bool) (accesses : List Access) (a : Access) → find p accesses ≡ Some a → Has accesses a
found_has p accesses a e =
    let h = find_some p accesses a e in
    subst (Has accesses) (h.at a) (Has-get_or accesses h.place a h.within)

-- the constraint with the id of the one that has this name
by_id : (accesses : List Access) (id : AccessId) → access_with_id accesses id ≡ access_in accesses id
unfolding access_in
by_id accesses id = refl

pub table_named_is : (accesses : List Access) (name : List ℕ) (id : AccessId) → EachIdOnce accesses → Some id.0 ≡ id_of_access_named accesses name
    → Some (access_with_id accesses id).table ≡ table_of_named accesses name
table_named_is accesses name id once is = by (find (access_has_name name) accesses) refl
  where
    by : (o : Option Access) → find (access_has_name name) accesses ≡ o → Some (access_with_id accesses id).table ≡ table_of_named accesses name
    by None e = let no : Some id.0 ≡ None = is ∙ ap (option_map (λ (a : Access). a.id.0)) e in cc
    by (Some a) e =
        let same : Some id.0 ≡ Some a.id.0 = is ∙ ap (option_map (λ (x : Access). x.id.0)) e in
        let number : id.0 ≡ a.id.0 = cc in
        let made : ℕ → AccessId = λ n. record { 0 = n } in
        let there = ap (access_with_id accesses) (ap made number) ∙ by_id accesses a.id
        ∙ found_by_id accesses once a (found_has (access_has_name name) accesses a e) in
        ap (λ (x : Access). Some x.table) there ∙ sym (ap (option_map (λ (x : Access). x.table)) e)

pub no_table_named : (accesses : List Access) (name : List ℕ) → None ≡ id_of_access_named accesses name → None ≡ table_of_named accesses name
no_table_named accesses name is = by (find (access_has_name name) accesses) refl
  where
    by : (o : Option Access) → find (access_has_name name) accesses ≡ o → None ≡ table_of_named accesses name
    by None e = sym (ap (option_map (λ (x : Access). x.table)) e)
    by (Some a) e = let no : None ≡ Some a.id.0 = is ∙ ap (option_map (λ (x : Access). x.id.0)) e in cc

pub table_there : (schema : Schema) → SchemaIsSound schema → (id : AccessId) → list_any (λ a. a.id.0 == id.0) schema.accesses ≡ true
    → (access_with_id schema.accesses id).table.0 < length schema.tables
table_there schema sound id live =
    subst (λ (a : Access). a.table.0 < length schema.tables) (sym (by_id schema.accesses id))
    (All-contains (AccessIsSound schema) schema.accesses (access_in schema.accesses id) sound.accesses
    (Contains-from_has schema.accesses (access_in schema.accesses id) (access_in-member schema.accesses id live))).table

-- ---- only that one is changed

-- no two constraints have one name
one_named : (accesses : List Access) (name : List ℕ) (t : TableId) → AllPairs (λ a b. a.name ≢ b.name) accesses
    → list_any (λ a. access_has_name name a && (a.table.0 == t.0)) accesses ≡ option_map_or (λ u. u.0 == t.0) (table_of_named accesses name) false
one_named [] name t once = refl
one_named (a ∷ accesses) name t once =
    by (access_has_name name a) refl (one_named accesses name t (rest_of_pairs (λ x y. x.name ≢ y.name) a accesses once))
  where
    other : access_has_name name a ≡ true → (x : Access) → Has accesses x → (b : Bool) → access_has_name name x ≡ b → (b && (x.table.0 == t.0)) ≡ false
    other e x m true h =
        let same : a.name ≡ x.name = (bytes_eq-Decides a.name name).0 e ∙ sym ((bytes_eq-Decides x.name name).0 h) in
        absurd (first_of_pairs (λ (x y : Access). x.name ≢ y.name) a accesses once x m same)
    other e x m false h = refl

    none_other : access_has_name name a ≡ true → list_any (λ x. access_has_name name x && (x.table.0 == t.0)) accesses ≡ false
    none_other e =
        list_any_none (λ (x : Access). access_has_name name x && (x.table.0 == t.0)) accesses
        (λ i d below. other e (get_or accesses i d) (Has-get_or accesses i d below) (access_has_name name (get_or accesses i d)) refl)

    or_none : (b c : Bool) → c ≡ false → (b || c) ≡ b
    or_none true c e = refl
    or_none false c e = e

    by : (b : Bool) → access_has_name name a ≡ b
        → list_any (λ x. access_has_name name x && (x.table.0 == t.0)) accesses ≡ option_map_or (λ u. u.0 == t.0) (table_of_named accesses name) false
        → list_any (λ x. access_has_name name x && (x.table.0 == t.0)) (a ∷ accesses)
        ≡ option_map_or (λ u. u.0 == t.0) (table_of_named (a ∷ accesses) name) false
    by true e later =
        let more = list_any (λ (x : Access). access_has_name name x && (x.table.0 == t.0)) accesses in
        ap (λ b. (b && (a.table.0 == t.0)) || more) e ∙ or_none (a.table.0 == t.0) more (none_other e)
        ∙ sym (ap (λ b. option_map_or (λ (u : TableId). u.0 == t.0)
        (option_map (λ (x : Access). x.table) (cond b (Some a) (find (access_has_name name) accesses))) false) e)
    by false e later =
        let more = list_any (λ (x : Access). access_has_name name x && (x.table.0 == t.0)) accesses in
        ap (λ b. (b && (a.table.0 == t.0)) || more) e ∙ later
        ∙ sym (ap (λ b. option_map_or (λ (u : TableId). u.0 == t.0)
        (option_map (λ (x : Access). x.table) (cond b (Some a) (find (access_has_name name) accesses))) false) e)

pub changes_one : (schema : Schema) → SchemaIsSound schema → (statement : Statement) (t : TableId)
    → changes schema statement t ≡ option_map_or (λ u. u.0 == t.0) (changed_table schema statement) false
changes_one schema sound (DropAccess name) t = one_named schema.accesses name t sound.access_names_once
changes_one schema sound (Insert table tuples) t = refl
changes_one schema sound (Load table file) t = refl
changes_one schema sound (Delete table conditions) t = refl
changes_one schema sound (CreateTable name columns) t = refl
changes_one schema sound (CreateAccess spec) t = refl
changes_one schema sound (DiscoverGroup table key fetched) t = refl
changes_one schema sound (DiscoverPairs table limit) t = refl
changes_one schema sound (Select tree) t = refl
changes_one schema sound (Explain tree) t = refl
changes_one schema sound (ScanOk tree) t = refl
changes_one schema sound (Grouped items keys inner) t = refl
changes_one schema sound (Specialise tree) t = refl

-- the table that is changed is kept for all
pub frozen_all : (schema : Schema) → SchemaIsSound schema → (statement : Statement) (P : TableId → Type 0) (table : TableId)
    → changed_table schema statement ≡ Some table → P table → (t : TableId) → changes schema statement t ≡ true → P t
frozen_all schema sound statement P table is kept t changed =
    let same : (table.0 == t.0) ≡ true =
    sym (changes_one schema sound statement t ∙ ap (λ o. option_map_or (λ (u : TableId). u.0 == t.0) o false) is) ∙ changed in
    let made : ℕ → TableId = λ n. record { 0 = n } in
    subst P (ap made (eqb-true table.0 t.0 same)) kept

pub none_changed : (schema : Schema) → SchemaIsSound schema → (statement : Statement) (t : TableId)
    → changed_table schema statement ≡ None → changes schema statement t ≡ true → ⊥
none_changed schema sound statement t is changed =
    let no : false ≡ true =
    sym (changes_one schema sound statement t ∙ ap (λ o. option_map_or (λ (u : TableId). u.0 == t.0) o false) is) ∙ changed in
    cc
