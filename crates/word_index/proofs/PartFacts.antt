-- What a frozen table keeps: copies of the constraints on it, which are found by their ids, each with a copy of its index.
use Rattle.std.proofs.Common.{◌≡◌, ◌∙◌, ◌<◌, ◌+◌, ◌==◌, ℕ, Bool, true, List, [], ◌∷◌, ◌++◌, take, length, get_or, ap, sym, subst, arith, if◌then◌else◌}
use Rattle.std.specs.Prelude.{map, filter, AllPairs}
use Rattle.std.proofs.lemmas.Bool.{eq-eqb, eqb-true}
use Rattle.std.proofs.lemmas.List.{get_or-map, length-map, map-append, take_more}
use Rattle.std.proofs.lemmas.List.Elements.{All-filter, filter_passes}
use Rattle.std.proofs.lemmas.List.Kept.{AllPairs-filter}
use Rattle.beas_core.specs.declared.schema.Access.{Access}
use Rattle.beas_core.specs.declared.schema.AccessId.{AccessId}
use Rattle.beas_core.specs.declared.schema.TableId.{TableId}
use Rattle.beas_core.specs.Derivations.{access_in}
use Rattle.beas_core.specs.Groups.{Holds}
use Rattle.beas_core.specs.Types.{Row}
use Rattle.access_index.specs.Index.{Index, IsIndexOf}
use Rattle.catalogue.specs.Database.{rows_at}
use Rattle.catalogue.specs.Kept.{ids_on}
use Rattle.catalogue.specs.Schema.{Schema, SchemaIsSound, access_with_id, accesses_on}
use Rattle.catalogue.specs.Stored.{database_of}
use Rattle.catalogue.proofs.IdFacts.{IdsRise, Located}
use Rattle.catalogue.proofs.StoredFacts.{rows_at_stored}
use Rattle.update_guard.specs.Guarding.{IsGuarded}
use Rattle.update_guard.specs.Indexing.{no_access}
use Rattle.update_guard.specs.Seen.{index_at, no_index}
use Rattle.update_guard.proofs.IndexFacts.{IsOwn, own}
use Rattle.update_guard.proofs.PortFacts.{same_access}
use Rattle.word_index.specs.Parts.{ArePlacesOn, IsPart, IsPartIndex, Part, access_at, part_of}

-- the constraint with the id of a table's constraint number k is that constraint
pub numbered : (accesses : List Access) (table : TableId) (k : ℕ) (ids : List AccessId) (id : AccessId) → IdsRise accesses
    → ids ≡ ids_on accesses table.0 → k < length ids → id ≡ get_or ids k id → access_with_id accesses id ≡ get_or (accesses_on accesses table) k no_access
numbered accesses table k ids id rise e l is =
    let mine = filter (λ (a : Access). a.table.0 == table.0) accesses in
    let h : k < length mine = omega (arith, l, ap length e, length-map mine (λ a. a.id)) in
    let o = All-filter (λ a. a.table.0 == table.0) (IsOwn accesses) accesses (own accesses rise) k no_access h in
    let same : id ≡ (get_or mine k no_access).id = is ∙ ap (λ xs. get_or xs k id) e ∙ get_or-map (λ a. a.id) mine k no_access id h in
    ap (access_with_id accesses) same ∙ o.found

pub one_more : (accesses : List Access) (table : TableId) (places : List ℕ) (k place : ℕ) (ids : List AccessId) (id : AccessId) → IdsRise accesses
    → ids ≡ ids_on accesses table.0 → k < length ids → id ≡ get_or ids k id → ((d : Access) → get_or accesses place d ≡ access_with_id accesses id)
    → map (access_at accesses) places ≡ take k (accesses_on accesses table)
    → map (access_at accesses) (places ++ place ∷ []) ≡ take (k + 1) (accesses_on accesses table)
one_more accesses table places k place ids id rise e l is found on =
    let mine = accesses_on accesses table in
    let h : k < length mine = omega (arith, l, ap length e, length-map mine (λ a. a.id)) in
    map-append (access_at accesses) places (place ∷ [])
    ∙ ap (λ xs. xs ++ access_at accesses place ∷ []) on
    ∙ ap (λ x. take k mine ++ x ∷ []) (found no_access ∙ numbered accesses table k ids id rise e l is)
    ∙ sym (take_more mine k no_access h)

pub on_part : (table : TableId) (rows : List Row) (accesses : List Access) (indexes : List Index) (id : AccessId) (place : ℕ)
    → IsPart table rows accesses indexes → Located accesses id place → (access_in accesses id).table ≡ table
on_part table rows accesses indexes id place part at =
    subst (λ (a : Access). a.table ≡ table) (at.found no_access ∙ same_access accesses id) (part.each place no_index no_access at.within).on

pub own_rows : (table : TableId) (rows : List Row) (id : TableId) → id ≡ table → (if id.0 == table.0 then rows else []) ≡ rows
own_rows table rows id same = ap (λ (b : Bool). if b then rows else []) (eq-eqb id.0 table.0 (ap (λ (t : TableId). t.0) same))

pub part_kept : (schema : Schema) (rows : List (List Row)) (indexes : List Index) (table : TableId) (places : List ℕ) (own : List Row)
    (accesses : List Access) (copies : List Index) → SchemaIsSound schema → IsGuarded schema rows indexes → ArePlacesOn schema.accesses table places
    → own ≡ get_or rows table.0 [] → accesses ≡ map (access_at schema.accesses) places → copies ≡ map (index_at indexes) places
    → IsPart table own accesses copies
part_kept schema rows indexes table places own accesses copies sound kept are own_is accesses_are copies_are = record {
  count = ap length copies_are ∙ length-map places (index_at indexes) ∙ sym (length-map places (access_at schema.accesses)) ∙ sym (ap length accesses_are);
  each = each;
  ids_rise = subst (λ (xs : List Access). AllPairs (λ a b. a.id.0 < b.id.0) xs) (sym mine)
      (AllPairs-filter (λ a b. a.id.0 < b.id.0) (λ a. a.table.0 == table.0) schema.accesses sound.ids_rise);
}
  where
    mine : accesses ≡ filter (λ a. a.table.0 == table.0) schema.accesses
    mine = accesses_are ∙ are.on

    each : (i : ℕ) (d : Index) (e : Access) → i < length accesses → IsPartIndex table own (get_or copies i d) (get_or accesses i e)
    each i d e l =
        let h : i < length places = omega (arith, l, ap length accesses_are, length-map places (access_at schema.accesses)) in
        let place = get_or places i 0 in
        let here : place < length schema.accesses = are.within i 0 h in
        let a = access_at schema.accesses place in
        let one : get_or accesses i e ≡ a = ap (λ xs. get_or xs i e) accesses_are ∙ get_or-map (access_at schema.accesses) places i 0 e h in
        let copy : get_or copies i d ≡ index_at indexes place = ap (λ xs. get_or xs i d) copies_are ∙ get_or-map (index_at indexes) places i 0 d h in
        let passed = filter_passes (λ (x : Access). x.table.0 == table.0) schema.accesses i e (omega (arith, l, ap length mine)) in
        let number : a.table.0 ≡ table.0 = eqb-true a.table.0 table.0
        (subst (λ (x : Access). (x.table.0 == table.0) ≡ true) (sym (ap (λ xs. get_or xs i e) mine) ∙ one) passed) in
        let on : a.table ≡ table = ap (λ n. let t : TableId = record { 0 = n } in t) number in
        let rows_are : get_or rows a.table.0 [] ≡ own = ap (λ n. get_or rows n []) number ∙ sym own_is in
        let kept_at = kept.indexed.each place no_index no_access here in
        subst (λ (x : Index). IsPartIndex table own x (get_or accesses i e)) (sym copy)
        (subst (λ (y : Access). IsPartIndex table own (index_at indexes place) y) (sym one) (record {
          access_is = kept_at.access_is;
          index_is = subst (λ (rs : List Row). IsIndexOf (index_at indexes place) rs) rows_are kept_at.index_is;
          on = on;
          holds = subst (λ (rs : List Row). Holds rs a) rows_are (kept.hold place no_access here);
          bound = (sound.accesses place no_access here).form.bound;
        }))

pub part_is : (schema : Schema) (rows : List (List Row)) (table : TableId) (own : List Row) (accesses : List Access) → length rows ≡ length schema.tables
    → own ≡ get_or rows table.0 [] → accesses ≡ accesses_on schema.accesses table
    → record { table = table; rows = own; accesses = accesses } ≡ part_of (database_of schema rows) table
part_is schema rows table own accesses tables own_is accesses_are =
    ap (λ rs. let part : Part = record { table = table; rows = rs; accesses = accesses } in part) (own_is ∙ sym (rows_at_stored schema rows table tables))
    ∙ ap (λ xs. let part : Part = record { table = table; rows = rows_at (database_of schema rows) table; accesses = xs } in part) accesses_are
