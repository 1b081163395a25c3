-- A query that was prepared over lists of scan constraints, of which those that stand in a step are kept.
use Rattle.std.proofs.Common.{◌≡◌, ◌≢◌, ◌==◌, ◌+◌, ◌<◌, ◌≤◌, ◌^◌, ℕ, true, false, List, [], ◌∷◌, ◌++◌, length, take, get_or, inl, inr, refl, ap, sym, ◌∙◌, subst, arith, eq-eqb}
use Rattle.std.specs.List.{All, list_any, flat_map}
use Rattle.std.proofs.lemmas.Bool.{ne_eqb}
use Rattle.std.proofs.lemmas.List.{get_or_default}
use Rattle.std.proofs.lemmas.List.Elements.{All-contains, All-from_recursion}
use Rattle.std.proofs.lemmas.List.Kept.{AllPairs-filter}
use Rattle.std.proofs.lemmas.List.Sums.{sum_by-cons}
use Rattle.beas_core.specs.declared.schema.Access.{Access}
use Rattle.beas_core.specs.declared.schema.AccessId.{AccessId}
use Rattle.beas_core.specs.declared.schema.TableId.{TableId}
use Rattle.beas_core.specs.declared.plan.DStep.{DStep}
use Rattle.beas_core.specs.declared.plan.Derivation.{Derivation}
use Rattle.beas_core.specs.Types.{Row, TableRows}
use Rattle.beas_core.specs.Derivations.{access_in, is_live}
use Rattle.beas_core.specs.Fits.{Fits, KeepsConstraints}
use Rattle.beas_core.specs.Shapes.{EachIdOnce}
use Rattle.beas_core.proofs.Accesses.{access_in-member, is_live-member}
use Rattle.beas_core.proofs.Sets.{Has, Has-append_cases, Has-append_left, Has-append_right, Has-map, Has-filter, Has-from_filter, Contains-from_has, all_from}
use Rattle.catalogue.specs.Schema.{Schema, SchemaIsSound}
use Rattle.beas_core.proofs.KeptFacts.{rows_kept, stays_fit}
use Rattle.beas_core.proofs.MemberTests.{any_by, none_by}
use Rattle.beas_core.proofs.MoreAccesses.{live_id}
use Rattle.beas_core.proofs.QueryBounds.{prepared_is_live}
use Rattle.beas_core.proofs.UseFacts.{found_by_id}
use Rattle.plan_builder.specs.Preparation.{with_lists}
use Rattle.plan_builder.proofs.Extras.{pairs_right, part_once}
use Rattle.access_index.specs.Index.{Index, IsIndexOf}
use Rattle.partial_plan.specs.Scans.{AreBuilt, IndexesStand, IsScanIndex, TableSizes, rows_of_tables, scanned_rows, sizes_of, sizes_of_tables}
use Rattle.partial_plan.proofs.ScanFacts.{read_within, scan_holds}
use Rattle.partial_plan.specs.declared.plan.ScanPlan.{ScanPlan}
use Rattle.partial_plan.specs.ScanPlans.{IsNewScan, ScanPlanFits, is_used, used_scans}
use Rattle.partial_plan.proofs.ListFacts.{AreListed, live_low, with_lists_once}

-- ---- sizes of tables

pub same_scanned : (s t : TableSizes) (scans : List Access) → ((scan : Access) → Has scans scan → s scan.table ≡ t scan.table)
    → scanned_rows s scans ≡ scanned_rows t scans
same_scanned s t [] same = refl
same_scanned s t (scan ∷ scans) same =
    let a = sum_by-cons (λ (x : Access). s x.table) scan scans in
    let b = sum_by-cons (λ (x : Access). t x.table) scan scans in
    let here = same scan (inl refl) in
    let later = same_scanned s t scans (λ x m. same x (inr m)) in
    omega (arith, a, b, here, later)

pub same_read : (rows : TableRows) (tables : List (List Row)) (scans : List Access) → ((id : TableId) → rows id ≡ rows_of_tables tables id)
    → scanned_rows (sizes_of_tables tables) scans ≡ scanned_rows (sizes_of rows) scans
same_read rows tables scans same = same_scanned (sizes_of_tables tables) (sizes_of rows) scans (λ scan m. sym (ap length (same scan.table)))

-- ---- the scans that are kept

module _ (live : List Access) (lists : List (List Access)) (once : EachIdOnce (with_lists live lists)) (plans : List Derivation) where
  abbrev all_scans : List Access
  all_scans = flat_map (λ scans. scans) lists

  abbrev kept : List Access
  kept = used_scans lists plans

  pub kept_once : EachIdOnce (live ++ kept)
  kept_once = part_once live all_scans kept once
      (AllPairs-filter (λ a b. a.id.0 ≢ b.id.0) (is_used plans) all_scans (pairs_right live all_scans once))
      (λ access m. (Has-from_filter (is_used plans) all_scans access m).0)

  step_kept : (plan : Derivation) → Has plans plan → (s : DStep) → Has plan.steps s → is_live (with_lists live lists) s.access ≡ true
      → (is_live (live ++ kept) s.access ≡ true) × (access_in (live ++ kept) s.access ≡ access_in (with_lists live lists) s.access)
  step_kept plan there s m alive =
      let access = access_in (with_lists live lists) s.access in
      let id : access.id ≡ s.access = live_id (with_lists live lists) s.access alive in
      let has : Has (live ++ kept) access = elim (Has-append_cases live all_scans access (access_in-member (with_lists live lists) s.access alive)) [
        | inl h ↦ Has-append_left live kept access h
        | inr h ↦ Has-append_right live kept access (Has-filter (is_used plans) all_scans access h
            (any_by (λ (p : Derivation). list_any (λ t. t.access.0 == access.id.0) p.steps) plans plan there
            (any_by (λ (t : DStep). t.access.0 == access.id.0) plan.steps s m
            (eq-eqb s.access.0 access.id.0 (sym (ap (λ (i : AccessId). i.0) id))))))
      ] in (
        subst (λ i. is_live (live ++ kept) i ≡ true) id (is_live-member (live ++ kept) access has),
        ap (access_in (live ++ kept)) (sym id) ∙ found_by_id (live ++ kept) kept_once access has,
      )

  pub keeps : All (λ plan. All (λ s. is_live (with_lists live lists) s.access ≡ true) plan.steps) plans
      → KeepsConstraints (with_lists live lists) (live ++ kept) plans
  keeps alive =
      let Alive : DStep → Type 0 = λ s. is_live (with_lists live lists) s.access ≡ true in
      let Kept : DStep → Type 0 = λ s. (is_live (live ++ kept) s.access ≡ true) × (access_in (live ++ kept) s.access ≡ access_in (with_lists live lists) s.access) in
      All-from_recursion (λ (plan : Derivation). All Kept plan.steps) plans (all_from (λ (plan : Derivation). All Kept plan.steps) plans (λ plan there.
      All-from_recursion Kept plan.steps (all_from Kept plan.steps (λ s m. step_kept plan there s m
      (All-contains Alive plan.steps s
      (All-contains (λ (p : Derivation). All Alive p.steps) plans plan alive (Contains-from_has plans plan there)) (Contains-from_has plan.steps s m))))))

-- ---- a plan that fits

module _ (schema : Schema) (sound : SchemaIsSound schema) (tables : List (List Row)) (many : length tables ≡ length schema.tables) (n : ℕ)
    (lists : List (List Access)) (listed : AreListed schema (sizes_of_tables tables) n lists) (plan : ScanPlan)
    (scans : plan.scans ≡ used_scans lists plan.prepared.derivations)
    (bound : plan.bound ≡ scanned_rows (sizes_of_tables tables) plan.scans + plan.prepared.bound) (rows : TableRows)
    (same : (id : TableId) → rows id ≡ rows_of_tables tables id)
    (fits : Fits (with_lists schema.accesses lists) rows plan.prepared) where
  new_scan : (scan : Access) → Has plan.scans scan → IsNewScan schema.accesses tables scan
  new_scan scan m =
      let there = (Has-from_filter (is_used plan.prepared.derivations) (flat_map (λ xs. xs) lists) scan (subst (λ xs. Has xs scan) scans m)).0 in
      let own = listed.each scan there in
      record {
        table = omega (arith, own.table, many);
        bound = own.bound;
        id = none_by (λ a. a.id.0 == scan.id.0) schema.accesses (λ a k. ne_eqb a.id.0 scan.id.0
            (λ e. absurd (omega (arith, live_low schema sound (sizes_of_tables tables) n lists listed a k, own.low, e))));
      }

  pub plan_fits : ScanPlanFits schema.accesses rows tables plan
  plan_fits =
      let once = with_lists_once schema sound (sizes_of_tables tables) n lists listed in
      let plans = plan.prepared.derivations in
      record {
        fits = subst (λ own. Fits (schema.accesses ++ own) rows plan.prepared) (sym scans)
            (stays_fit (with_lists schema.accesses lists) (schema.accesses ++ used_scans lists plans) rows rows plan.prepared
            (keeps schema.accesses lists once plans (prepared_is_live (with_lists schema.accesses lists) plan.prepared fits.plan))
            (rows_kept rows plan.prepared.query) fits);
        scans = All-from_recursion (IsNewScan schema.accesses tables) plan.scans (all_from (IsNewScan schema.accesses tables) plan.scans new_scan);
        bound = bound ∙ ap (λ k. k + plan.prepared.bound) (same_read rows tables plan.scans same);
      }

-- ---- indexes of the scans

table_size : (tables : List (List Row)) (id : TableId) (rows : List Row) → id.0 < length tables → rows ≡ get_or tables id.0 rows
    → length rows ≡ sizes_of_tables tables id
table_size tables id rows l at = ap length (at ∙ get_or_default tables id.0 rows [] l)

-- a sum with one more scan that doesn't fit
pub passes : (tables : List (List Row)) (scans : List Access) (i : ℕ) (scan : Access) (rows : List Row) (number whole len : ℕ)
    → All (λ s. s.table.0 < length tables) scans → i < length scans → scan ≡ get_or scans i scan → rows ≡ get_or tables scan.table.0 rows
    → len ≡ length rows → whole ≡ scanned_rows (sizes_of_tables tables) (take i scans) + number → 2 ^ 128 ≤ whole + len
    → 2 ^ 128 ≤ scanned_rows (sizes_of_tables tables) scans + number
passes tables scans i scan rows number whole len live below at there size before large =
    let within = read_within scans i scan below at (sizes_of_tables tables) in
    let table : scan.table.0 < length tables = subst (λ (s : Access). s.table.0 < length tables) (sym at) (live i scan below) in
    let own = table_size tables scan.table rows table there in
    omega (arith, within, own, size, before, large)

pub indexes_stand : (accesses : List Access) (rows : TableRows) (tables : List (List Row)) (plan : ScanPlan) (indexes : List Index)
    → ScanPlanFits accesses rows tables plan → ((id : TableId) → rows id ≡ rows_of_tables tables id) → AreBuilt tables plan.scans indexes
    → IndexesStand accesses rows indexes
indexes_stand accesses rows tables plan indexes fits same built =
    let new : (index : Index) → Has indexes index → IsNewScan accesses tables index.access = λ index m.
    All-contains (IsNewScan accesses tables) plan.scans index.access fits.scans (Contains-from_has plan.scans index.access
    (subst (λ xs. Has xs index.access) built.accesses (Has-map (λ (x : Index). x.access) indexes index m))) in
    record {
      apart = All-from_recursion (λ (x : Index). is_live accesses x.access.id ≡ false) indexes
          (all_from (λ (x : Index). is_live accesses x.access.id ≡ false) indexes (λ index m. (new index m).id));
      each = All-from_recursion (IsScanIndex rows) indexes (all_from (IsScanIndex rows) indexes (λ index m.
          let size = ap length (same index.access.table) in
          let bound = (new index m).bound in
          record {
            index_is = subst (IsIndexOf index) (sym (same index.access.table))
                (All-contains (λ (x : Index). IsIndexOf x (rows_of_tables tables x.access.table)) indexes index built.each (Contains-from_has indexes index m));
            holds = scan_holds (rows index.access.table) index.access (omega (arith, size, bound));
            bound = omega (arith, bound);
          }));
    }
