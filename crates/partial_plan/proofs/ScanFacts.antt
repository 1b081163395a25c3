-- Whose constraint an id is, in a port with scans; and that scans hold.
use Rattle.std.proofs.Common.{◌≡◌, ◌==◌, ◌||◌, ◌<◌, ◌≤◌, ◌+◌, ◌∙◌, ℕ, Bool, true, false, cond, List, [], ◌∷◌, ◌++◌, length, map, take, get_or, Some, None, inl, inr, refl, ap, sym, subst, arith, add-one}
use Rattle.std.specs.List.{filter}
use Rattle.std.proofs.lemmas.Bool.{eqb-true}
use Rattle.std.proofs.Math.Seq.{take-suc}
use Rattle.std.proofs.lemmas.List.{length-map, map-append}
use Rattle.std.proofs.lemmas.List.Elements.{All-contains, All-push}
use Rattle.std.proofs.lemmas.List.Sums.{sum_by_more, sum_by_more_le}
use Rattle.beas_core.specs.declared.schema.Access.{Access}
use Rattle.beas_core.specs.declared.schema.AccessId.{AccessId}
use Rattle.beas_core.specs.Types.{Row, TableRows}
use Rattle.beas_core.specs.Groups.{Holds, project, same_row}
use Rattle.beas_core.specs.Order.{row_cmp_total}
use Rattle.beas_core.specs.Telling.{row_cmp_tells}
use Rattle.beas_core.specs.Derivations.{access_in, is_live}
use Rattle.beas_core.proofs.Accesses.{access_in-append, access_in-first, access_in-rest}
use Rattle.beas_core.proofs.Sets.{Has, Contains-from_has, length-distinct-le}
use Rattle.beas_core.proofs.SetSizes.{length-filter_le}
use Rattle.access_index.specs.Index.{Index, IsIndexOf}
use Rattle.partial_plan.specs.Scans.{AreBuilt, IndexesStand, IsScanIndex, TableSizes, accesses_with, index_with, rows_of_tables, scanned_rows}

-- ---- an id that the front doesn't have is one of the back

pub access_in-skip : (xs ys : List Access) (id : AccessId) → is_live xs id ≡ false → access_in (xs ++ ys) id ≡ access_in ys id
access_in-skip [] ys id none = refl
access_in-skip (x ∷ xs) ys id none = by (x.id.0 == id.0) refl none (access_in-skip xs ys id)
  where
    by : (b : Bool) → (x.id.0 == id.0) ≡ b → (b || is_live xs id) ≡ false → (is_live xs id ≡ false → access_in (xs ++ ys) id ≡ access_in ys id)
        → access_in (x ∷ xs ++ ys) id ≡ access_in ys id
    by true e h later = cc
    by false e h later = access_in-rest x (xs ++ ys) id e ∙ later h

pub is_live-skip : (xs ys : List Access) (id : AccessId) → is_live ys id ≡ false → is_live (xs ++ ys) id ≡ is_live xs id
is_live-skip [] ys id none = none
is_live-skip (x ∷ xs) ys id none = ap (λ b. (x.id.0 == id.0) || b) (is_live-skip xs ys id none)

-- ---- whose constraint an id is

-- what is known of the index that an id finds
pub record IsIndexFound (accesses : List Access) (rows : TableRows) (indexes : List Index) (id : AccessId) (index : Index) : Type 0 where
  pub access : access_in (accesses_with accesses indexes) id ≡ index.access
  pub id_is : index.access.id ≡ id
  pub stands : IsScanIndex rows index

same_some : {A : Type 0} (x y : A) → Some x ≡ Some y → x ≡ y
same_some x y e = cc

same_id : (i j : AccessId) → (i.0 == j.0) ≡ true → i ≡ j
same_id i j e = let made : ℕ → AccessId = λ n. record { 0 = n } in ap made (eqb-true i.0 j.0 e)

abbrev FirstIs : List Index → AccessId → Index → Type 0
FirstIs indexes id index = Has indexes index × (index.access.id ≡ id) × (access_in (map (λ x. x.access) indexes) id ≡ index.access)

found_first : (indexes : List Index) (id : AccessId) (index : Index) → index_with indexes id ≡ Some index → FirstIs indexes id index
found_first [] id index found = cc
found_first (x ∷ indexes) id index found = by (x.access.id.0 == id.0) refl found (found_first indexes id index)
  where
    by : (b : Bool) → (x.access.id.0 == id.0) ≡ b → cond b (Some x) (index_with indexes id) ≡ Some index
        → (index_with indexes id ≡ Some index → FirstIs indexes id index) → FirstIs (x ∷ indexes) id index
    by true e h later =
        let same = same_some x index h in (
          inl (sym same),
          ap (λ (y : Index). y.access.id) (sym same) ∙ same_id x.access.id id e,
          access_in-first x.access (map (λ y. y.access) indexes) id e ∙ ap (λ (y : Index). y.access) same,
        )
    by false e h later =
        let r = later h in
        (inr r.0, r.1, access_in-rest x.access (map (λ y. y.access) indexes) id e ∙ r.2)

found_none : (indexes : List Index) (id : AccessId) → index_with indexes id ≡ None → is_live (map (λ x. x.access) indexes) id ≡ false
found_none [] id none = refl
found_none (x ∷ indexes) id none = by (x.access.id.0 == id.0) none (found_none indexes id)
  where
    by : (b : Bool) → cond b (Some x) (index_with indexes id) ≡ None
        → (index_with indexes id ≡ None → is_live (map (λ y. y.access) indexes) id ≡ false)
        → (b || is_live (map (λ y. y.access) indexes) id) ≡ false
    by true h later = cc
    by false h later = later h

module _ (accesses : List Access) (rows : TableRows) (indexes : List Index) (stand : IndexesStand accesses rows indexes) (id : AccessId) where
  pub index_found : (index : Index) → index_with indexes id ≡ Some index → IsIndexFound accesses rows indexes id index
  index_found index found =
      let r = found_first indexes id index found in
      let there = Contains-from_has indexes index r.0 in
      let apart = All-contains (λ x. is_live accesses x.access.id ≡ false) indexes index stand.apart there in
      record {
        access = access_in-skip accesses (map (λ x. x.access) indexes) id (subst (λ i. is_live accesses i ≡ false) r.1 apart) ∙ r.2;
        id_is = r.1;
        stands = All-contains (IsScanIndex rows) indexes index stand.each there;
      }

  -- an id of no scan is one of the port's own
  pub own_live : index_with indexes id ≡ None → is_live (accesses_with accesses indexes) id ≡ true → is_live accesses id ≡ true
  own_live none live = sym (is_live-skip accesses (map (λ x. x.access) indexes) id (found_none indexes id none)) ∙ live

  pub own_access : index_with indexes id ≡ None → is_live (accesses_with accesses indexes) id ≡ true
      → access_in (accesses_with accesses indexes) id ≡ access_in accesses id
  own_access none live = access_in-append accesses (map (λ x. x.access) indexes) id (own_live none live)

-- ---- scans hold

-- a constraint holds where its bound is at least the number of rows
pub scan_holds : (rows : List Row) (access : Access) → length rows ≤ access.bound → Holds rows access
scan_holds rows access few key =
    let kept = filter (λ row. same_row (project access.key row) key) rows in
    let a = length-distinct-le row_cmp_total row_cmp_tells (map (project (access.key ++ access.fetched)) kept) in
    let b = length-map kept (project (access.key ++ access.fetched)) in
    let d = length-filter_le (λ row. same_row (project access.key row) key) rows in
    omega (arith, a, b, d, few)

-- ---- one index after the other

module _ (scans : List Access) (i : ℕ) (scan : Access) (below : i < length scans) (at : scan ≡ get_or scans i scan) where
  one_more : take (i + 1) scans ≡ take i scans ++ scan ∷ []
  one_more = ap (λ k. take k scans) (add-one i) ∙ take-suc scans i scan below ∙ ap (λ s. take i scans ++ s ∷ []) (sym at)

  pub read_more : (sizes : TableSizes) → scanned_rows sizes (take (i + 1) scans) ≡ scanned_rows sizes (take i scans) + sizes scan.table
  read_more sizes = sum_by_more (λ (s : Access). sizes s.table) scans i scan below
      ∙ ap (λ (s : Access). scanned_rows sizes (take i scans) + sizes s.table) (sym at)

  pub read_within : (sizes : TableSizes) → scanned_rows sizes (take i scans) + sizes scan.table ≤ scanned_rows sizes scans
  read_within sizes =
      let l = sum_by_more_le (λ (s : Access). sizes s.table) scans i scan below in
      let e = ap (λ (s : Access). sizes s.table) at in
      omega (arith, l, e)

  pub built_more : (tables : List (List Row)) (indexes : List Index) (index : Index) → AreBuilt tables (take i scans) indexes
      → index.access ≡ scan → IsIndexOf index (rows_of_tables tables scan.table) → AreBuilt tables (take (i + 1) scans) (indexes ++ index ∷ [])
  built_more tables indexes index built access is = record {
    accesses = map-append (λ x. x.access) indexes (index ∷ []) ∙ ap (λ xs. xs ++ index.access ∷ []) built.accesses
        ∙ ap (λ a. take i scans ++ a ∷ []) access ∙ sym one_more;
    each = All-push (λ x. IsIndexOf x (rows_of_tables tables x.access.table)) indexes index built.each
        (subst (λ (a : Access). IsIndexOf index (rows_of_tables tables a.table)) (sym access) is);
  }
