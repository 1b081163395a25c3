-- A query that is prepared over its lists of scan constraints: all its blocks are covered, so that its number alone may be refused.
use Rattle.std.proofs.Common.{◌≡◌, ◌+◌, ◌*◌, ◌<◌, ◌^◌, ℕ, Bool, true, false, List, length, codes, nat_le, refl, ap, sym, ◌∙◌, subst, arith}
use Rattle.std.specs.Prelude.{if◌then◌else◌, IfOk, Result, Ok, Err}
use Rattle.std.specs.List.{All, flat_map}
use Rattle.std.proofs.lemmas.Bool.{leb-true, le-leb}
use Rattle.std.proofs.lemmas.List.Elements.{All-from_recursion}
use Rattle.beas_core.specs.declared.errors.Fail.{Fail}
use Rattle.beas_core.specs.declared.errors.Fail.TheVariants.{NoMemory, Refused}
use Rattle.beas_core.specs.declared.refusal.Refusal.{Refusal}
use Rattle.beas_core.specs.declared.refusal.Refusal.TheVariants.{TooLarge}
use Rattle.beas_core.specs.declared.schema.Access.{Access}
use Rattle.beas_core.specs.declared.schema.TableId.{TableId}
use Rattle.beas_core.specs.declared.plan.Prepared.{Prepared}
use Rattle.beas_core.specs.Types.{Row, TableRows}
use Rattle.beas_core.specs.Trees.{QueryTree, blocks_of}
use Rattle.beas_core.specs.Fits.{Fits}
use Rattle.beas_core.specs.Results.{Gives}
use Rattle.beas_core.specs.Shapes.{QueryIsWellFormed}
use Rattle.beas_core.specs.Spelling.{is_name, is_reserved, reserved_words}
use Rattle.beas_core.proofs.Sets.{Has-from_filter, all_from}
use Rattle.catalogue.specs.Schema.{Schema, SchemaIsSound}
use Rattle.catalogue.specs.Queries.{QueryIsOver, RowsAreWide}
use Rattle.plan_builder.specs.Preparation.{preparation_over, prepared_query, unless_uncovered, with_lists}
use Rattle.partial_plan.specs.Scans.{TableSizes, rows_of_tables, scanned_rows, sizes_of_tables}
use Rattle.partial_plan.specs.declared.plan.ScanPlan.{ScanPlan}
use Rattle.partial_plan.specs.ScanPlans.{ScanPlanFits, is_used, plan_over_lists, scan_lists, scan_preparation, tasks_with, unless_too_large, used_scans}
use Rattle.partial_plan.proofs.ListFacts.{AreListed, all_covered, are_listed}
use Rattle.partial_plan.proofs.PlanFacts.{plan_fits}

-- the scans' name is a name
pub scan_is_name : is_name (codes "scan") ≡ true
unfolding is_name is_reserved reserved_words
scan_is_name = refl

more_passes : (limit n more : ℕ) → nat_le limit n ≡ true → nat_le limit (more + n) ≡ true
more_passes limit n more h = let l = leb-true limit n h in le-leb limit (more + n) (omega arith)

module _ (schema : Schema) (sizes : TableSizes) (query : QueryTree) (shape : QueryIsWellFormed query) where
  abbrev lists : List (List Access)
  lists = scan_lists schema sizes query

  abbrev over : Prepared
  over = prepared_query schema (with_lists schema.accesses lists) (tasks_with schema lists query) query

  abbrev number_refused : Bool → Result Prepared Refusal
  number_refused large = if large then Err TooLarge else Ok over

  over_is : preparation_over schema lists query ≡ number_refused (nat_le (2 ^ 128) over.bound)
  unfolding preparation_over
  over_is = ap (unless_uncovered schema (with_lists schema.accesses lists) (tasks_with schema lists query) query) (all_covered schema sizes query shape)

  -- it is refused where the number without the scanned rows passes already
  refused_too : (why : Refusal) → preparation_over schema lists query ≡ Err why → scan_preparation schema sizes query ≡ Err why
  unfolding scan_preparation
  refused_too why h = by (nat_le (2 ^ 128) over.bound) refl (sym over_is ∙ h)
    where
      more : ℕ
      more = scanned_rows sizes (used_scans lists over.derivations)

      by : (b : Bool) → nat_le (2 ^ 128) over.bound ≡ b → number_refused b ≡ Err why
          → (if nat_le (2 ^ 128) (more + over.bound) then Err TooLarge else Ok (plan_over_lists sizes lists over)) ≡ Err why
      by true e g = ap (λ b. if b then Err TooLarge else Ok (plan_over_lists sizes lists over)) (more_passes (2 ^ 128) over.bound more e)
          ∙ (let same : TooLarge ≡ why = cc in ap Err same)
      by false e g = cc

  pub gives_refused : (own : List (List Access)) → own ≡ lists → (e : Fail) → Gives {A = Prepared} (Err e) (preparation_over schema own query)
      → Gives {A = ScanPlan} (Err e) (scan_preparation schema sizes query)
  gives_refused own same NoMemory h = tt
  gives_refused own same (Refused why) h = refused_too why (ap (λ ls. preparation_over schema ls query) (sym same) ∙ h)

  prepared_is : (prepared : Prepared) → preparation_over schema lists query ≡ Ok prepared → prepared ≡ over
  prepared_is prepared h = by (nat_le (2 ^ 128) over.bound) (sym over_is ∙ h)
    where
      by : (b : Bool) → number_refused b ≡ Ok prepared → prepared ≡ over
      by true g = cc
      by false g = let same : over ≡ prepared = cc in sym same

  pub gives_planned : (prepared : Prepared) (r : Result ScanPlan Fail) → preparation_over schema lists query ≡ Ok prepared
      → Gives r (unless_too_large (plan_over_lists sizes lists prepared)) → Gives r (scan_preparation schema sizes query)
  unfolding scan_preparation
  gives_planned prepared r h g = subst (λ p. Gives r (unless_too_large (plan_over_lists sizes lists p))) (prepared_is prepared h) g

plan_told : (plan wanted : ScanPlan) → unless_too_large wanted ≡ Ok plan → plan ≡ wanted
plan_told plan wanted h = by (nat_le (2 ^ 128) wanted.bound) h
  where
    by : (b : Bool) → (if b then Err TooLarge else Ok wanted) ≡ Ok plan → plan ≡ wanted
    by true g = cc
    by false g = let same : wanted ≡ plan = cc in sym same

module _ (schema : Schema) (sound : SchemaIsSound schema) (tables : List (List Row)) (many : length tables ≡ length schema.tables)
    (query : QueryTree) (shape : QueryIsWellFormed query) (over_tables : QueryIsOver schema query) where
  abbrev scans_of_blocks : List (List Access)
  scans_of_blocks = scan_lists schema (sizes_of_tables tables) query

  pub scans_listed : AreListed schema (sizes_of_tables tables) (16 * length (blocks_of query)) scans_of_blocks
  unfolding scan_lists
  scans_listed = are_listed schema (sizes_of_tables tables) query shape over_tables (16 * length (blocks_of query))

  pub used_on_tables : (prepared : Prepared) → All (λ scan. scan.table.0 < length tables) (used_scans scans_of_blocks prepared.derivations)
  used_on_tables prepared =
      let used = used_scans scans_of_blocks prepared.derivations in
      All-from_recursion (λ (scan : Access). scan.table.0 < length tables) used (all_from (λ (scan : Access). scan.table.0 < length tables) used (λ scan m.
      let there = (Has-from_filter (is_used prepared.derivations) (flat_map (λ scans. scans) scans_of_blocks) scan m).0 in
      omega (arith, (scans_listed.each scan there).table, many)))

  pub planned_fits : (prepared : Prepared) (plan : ScanPlan)
      → unless_too_large (plan_over_lists (sizes_of_tables tables) scans_of_blocks prepared) ≡ Ok plan
      → (rows : TableRows) → Fits (with_lists schema.accesses scans_of_blocks) rows prepared
      → ((id : TableId) → rows id ≡ rows_of_tables tables id) → ScanPlanFits schema.accesses rows tables plan
  planned_fits prepared plan told rows fits same =
      let wanted = plan_over_lists (sizes_of_tables tables) scans_of_blocks prepared in
      subst (ScanPlanFits schema.accesses rows tables) (sym (plan_told plan wanted told))
      (plan_fits schema sound tables many (16 * length (blocks_of query)) scans_of_blocks scans_listed wanted refl refl rows same fits)

  pub fits_given : (prepared : Prepared) (r : Result ScanPlan Fail)
      → Gives r (unless_too_large (plan_over_lists (sizes_of_tables tables) scans_of_blocks prepared))
      → ((rows : TableRows) → RowsAreWide schema rows → Fits (with_lists schema.accesses scans_of_blocks) rows prepared)
      → IfOk r (λ plan. (rows : TableRows) → RowsAreWide schema rows → ((id : TableId) → rows id ≡ rows_of_tables tables id)
      → ScanPlanFits schema.accesses rows tables plan)
  fits_given prepared (Ok plan) told fits = λ rows wide same. planned_fits prepared plan told rows (fits rows wide) same
  fits_given prepared (Err e) told fits = tt
