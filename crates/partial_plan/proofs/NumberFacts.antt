-- What a scan plan depends on: of the tables on their lengths alone, and for a covered query on nothing but what it is prepared as.
use Rattle.std.proofs.Common.{◌≡◌, ◌+◌, ◌*◌, ◌^◌, ℕ, zero, suc, Bool, true, false, nat_le, List, [], ◌∷◌, ◌++◌, length, map, get_or, set, max, codes, Option, Some, None, inl, inr, refl, ap, sym, ◌∙◌, subst, arith}
use Rattle.std.specs.Prelude.{if◌then◌else◌, Ok, Err}
use Rattle.std.specs.List.{All, filter, flat_map}
use Rattle.std.proofs.lemmas.List.{append-nil, get_or-map}
use Rattle.beas_core.specs.declared.refusal.Refusal.TheVariants.{TooLarge}
use Rattle.beas_core.specs.declared.schema.Access.{Access}
use Rattle.beas_core.specs.declared.query.Atom.{Atom}
use Rattle.beas_core.specs.declared.query.Block.{Block}
use Rattle.beas_core.specs.Trees.{QueryTree, blocks_of}
use Rattle.beas_core.specs.Classes.{normal_of}
use Rattle.beas_core.specs.Coverage.{needed_of}
use Rattle.beas_core.specs.Guiding.{BlockTask, Uncovered, block_tasks, first_uncovered}
use Rattle.beas_core.specs.Shapes.{QueryIsWellFormed}
use Rattle.beas_core.proofs.Sets.{Has, Has-from_filter}
use Rattle.catalogue.specs.Schema.{Schema}
use Rattle.plan_builder.specs.Preparation.{atom_table, constraints_with, no_block, plans_of, preparation, prepared_query, unless_uncovered, with_lists}
use Rattle.plan_builder.proofs.Extras.{same_tasks}
use Rattle.partial_plan.specs.Scans.{TableSizes, scanned_rows}
use Rattle.partial_plan.specs.declared.plan.ScanPlan.{ScanPlan}
use Rattle.partial_plan.specs.ScanPlans.{is_used, lists_after, named_atom, or_first, plan_without_scans, scan_for, scan_lists, scan_plan_over, scan_preparation, tasks_with, unless_too_large, used_scans, with_scan, without_scans}
use Rattle.partial_plan.proofs.ListFacts.{IsLacking, has_grown, is_lacking, lists_are, none_listed}
use Rattle.partial_plan.proofs.PlanFacts.{same_scanned}

-- ---- a covered query

module _ (schema : Schema) (sizes : TableSizes) (query : QueryTree) (shape : QueryIsWellFormed query)
    (covered : first_uncovered (block_tasks (λ n. schema.accesses) query) ≡ None) where
  abbrev empty_lists : List (List Access)
  empty_lists = lists_after schema sizes query zero

  abbrev own_tasks : List BlockTask
  own_tasks = block_tasks (λ n. schema.accesses) query

  none_at : (blocks : List Block) (n : ℕ) → get_or (map (λ block. let none : List Access = [] in none) blocks) n [] ≡ []
  none_at [] zero = refl
  none_at [] (suc n) = refl
  none_at (block ∷ blocks) zero = refl
  none_at (block ∷ blocks) (suc n) = none_at blocks n

  tasks_are : tasks_with schema empty_lists query ≡ own_tasks
  tasks_are = same_tasks (constraints_with schema.accesses empty_lists) (λ n. schema.accesses)
      (λ n. ap (λ xs. schema.accesses ++ xs) (none_at (blocks_of query) n) ∙ append-nil schema.accesses) 0 false query

  lists_none : empty_lists ≡ scan_lists schema sizes query
  lists_none = lists_are schema sizes query shape 0 (ap first_uncovered tasks_are ∙ covered)

  abbrev plan_with : List Access → List BlockTask → List Access → ScanPlan
  plan_with all tasks scans = record {
    prepared = prepared_query schema all tasks query;
    scans = filter (is_used (plans_of tasks)) scans;
    bound = scanned_rows sizes (filter (is_used (plans_of tasks)) scans) + (prepared_query schema all tasks query).bound;
  }

  plan_is : scan_plan_over schema sizes query empty_lists ≡ without_scans (prepared_query schema schema.accesses own_tasks query)
  plan_is =
      let none = none_listed (blocks_of query) in
      let z : 0 + (prepared_query schema schema.accesses own_tasks query).bound ≡ (prepared_query schema schema.accesses own_tasks query).bound = omega arith in
      ap (λ all. plan_with all (tasks_with schema empty_lists query) (flat_map (λ scans. scans) empty_lists))
      (ap (λ xs. schema.accesses ++ xs) none ∙ append-nil schema.accesses)
      ∙ ap (λ tasks. plan_with schema.accesses tasks (flat_map (λ scans. scans) empty_lists)) tasks_are
      ∙ ap (plan_with schema.accesses own_tasks) none
      ∙ ap (λ (k : ℕ). record { prepared = prepared_query schema schema.accesses own_tasks query; scans = []; bound = k }) z

  -- a covered query is prepared as ever, without scans
  pub covered_alone : scan_preparation schema sizes query ≡ plan_without_scans (preparation schema query)
  unfolding scan_preparation preparation
  covered_alone =
      ap (λ lists. unless_too_large (scan_plan_over schema sizes query lists)) (sym lists_none) ∙ ap unless_too_large plan_is
      ∙ either (nat_le (2 ^ 128) (prepared_query schema schema.accesses own_tasks query).bound)
      ∙ sym (ap (λ o. plan_without_scans (unless_uncovered schema schema.accesses own_tasks query o)) covered)
    where
      either : (b : Bool) → (if b then Err TooLarge else Ok (without_scans (prepared_query schema schema.accesses own_tasks query)))
          ≡ plan_without_scans (if b then Err TooLarge else Ok (prepared_query schema schema.accesses own_tasks query))
      either true = refl
      either false = refl

-- ---- the lengths of the query's tables alone

-- both give each table of the query's atoms the same length
abbrev pub AgreeOn : TableSizes → TableSizes → QueryTree → Type 0
AgreeOn s t query = All (λ block. All (λ a. s a.table ≡ t a.table) block.atoms) (blocks_of query)

module _ (schema : Schema) (s t : TableSizes) (query : QueryTree) (shape : QueryIsWellFormed query) (agree : AgreeOn s t query) where
  same_size : (lists : List (List Access)) (found : Uncovered) → IsLacking schema s query shape lists found → (n : ℕ)
      → s (scan_for s query n found).table ≡ t (scan_for s query n found).table
  same_size lists found f n =
      let block = get_or (blocks_of query) found.block no_block in
      let none : Atom = record { table = record { 0 = 0 }; width = 0 } in
      let at : atom_table block (named_atom found.why) ≡ (get_or block.atoms (named_atom found.why) none).table =
      get_or-map (λ (a : Atom). a.table) block.atoms (named_atom found.why) none (record { 0 = 0 }) f.atom in
      ap s at ∙ agree found.block no_block f.block (named_atom found.why) none f.atom ∙ sym (ap t at)

  abbrev lists_by : TableSizes → ℕ → List (List Access)
  lists_by sizes n = lists_after schema sizes query n

  pub same_lists : (n : ℕ) → (lists_by s n ≡ lists_by t n)
      × ((scan : Access) → Has (flat_map (λ scans. scans) (lists_by s n)) scan → s scan.table ≡ t scan.table)
  same_lists zero = (refl, λ scan m. absurd (subst (λ xs. Has xs scan) (none_listed (blocks_of query)) m))
  same_lists (suc n) = by (first_uncovered (tasks_with schema (lists_by s n) query)) refl (same_lists n)
    where
      by : (o : Option Uncovered) → first_uncovered (tasks_with schema (lists_by s n) query) ≡ o
          → (lists_by s n ≡ lists_by t n) × ((scan : Access) → Has (flat_map (λ scans. scans) (lists_by s n)) scan → s scan.table ≡ t scan.table)
          → (with_scan s query n (lists_by s n) o ≡ lists_by t (suc n))
          × ((scan : Access) → Has (flat_map (λ scans. scans) (with_scan s query n (lists_by s n) o)) scan → s scan.table ≡ t scan.table)
      by None e before =
          let there : first_uncovered (tasks_with schema (lists_by t n) query) ≡ None =
          ap (λ lists. first_uncovered (tasks_with schema lists query)) (sym before.0) ∙ e in
          (before.0 ∙ sym (ap (with_scan t query n (lists_by t n)) there), before.1)
      by (Some found) e before =
          let f = is_lacking schema s query shape (lists_by s n) found e in
          let size = same_size (lists_by s n) found f n in
          let there : first_uncovered (tasks_with schema (lists_by t n) query) ≡ Some found =
          ap (λ lists. first_uncovered (tasks_with schema lists query)) (sym before.0) ∙ e in
          let block = get_or (blocks_of query) found.block no_block in
          let scan : scan_for s query n found ≡ scan_for t query n found = ap (λ (k : ℕ). record {
            id = record { 0 = 65536 + n };
            name = codes "scan";
            table = atom_table block (named_atom found.why);
            key = [];
            fetched = or_first (needed_of (normal_of block) (named_atom found.why));
            bound = max 1 k;
          }) size in (
            ap (λ lists. with_scan s query n lists (Some found)) before.0
                ∙ ap (λ (a : Access). set (lists_by t n) found.block (get_or (lists_by t n) found.block [] ++ a ∷ [])) scan
                ∙ sym (ap (with_scan t query n (lists_by t n)) there),
            λ x m. elim (has_grown (lists_by s n) found.block (scan_for s query n found) x m) [
              | inl h ↦ before.1 x h
              | inr same ↦ subst (λ (a : Access). s a.table ≡ t a.table) (sym same) size
            ],
          )

  -- the plan is the same
  pub sizes_alone : scan_preparation schema s query ≡ scan_preparation schema t query
  unfolding scan_preparation scan_lists
  sizes_alone =
      let both = same_lists (16 * length (blocks_of query)) in
      let lists = lists_by s (16 * length (blocks_of query)) in
      let tasks = tasks_with schema lists query in
      let prepared = prepared_query schema (with_lists schema.accesses lists) tasks query in
      let scans = used_scans lists (plans_of tasks) in
      let read = same_scanned s t scans (λ scan m.
      both.1 scan (Has-from_filter (is_used (plans_of tasks)) (flat_map (λ xs. xs) lists) scan m).0) in
      ap (λ (k : ℕ). unless_too_large (record { prepared = prepared; scans = scans; bound = k + prepared.bound })) read
      ∙ ap (λ xs. unless_too_large (scan_plan_over schema t query xs)) both.0
