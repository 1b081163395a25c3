use Rattle.std.proofs.Common.{◌≡◌, ◌<◌, ◌*◌, ◌∙◌, All, ap, length, subst, sym}
use Rattle.std.specs.Prelude.{Ok}
use Rattle.std.proofs.lemmas.Result.{err_from_is_err_and}
use Rattle.beas_core.specs.declared.schema.Access.{Access}
use Rattle.beas_core.specs.Fits.{Fits}
use Rattle.beas_core.specs.Results.{Gives}
use Rattle.beas_core.specs.Shapes.{EachIdOnce}
use Rattle.beas_core.specs.Trees.{blocks_of}
use Rattle.beas_core.specs.Types.{TableRows}
use Rattle.catalogue.specs.Queries.{RowsAreWide}
use Rattle.plan_builder.specs.Preparation.{IsWellFormedIn, preparation_over, with_lists}
use Rattle.partial_plan.specs.Scans.{sizes_of_tables}
use Rattle.partial_plan.specs.ScanPlans.{plan_over_lists, scan_lists, unless_too_large, used_scans}
use Rattle.partial_plan.proofs.ListFacts.{lists_are_formed, with_lists_once}
use Rattle.partial_plan.proofs.PreparingFacts.{fits_given, gives_planned, gives_refused, scans_listed, used_on_tables}
use Rattle.partial_plan.proofs.preparing.scan_prepare.Goals.{After-plan_over_lists}
use Rattle.partial_plan.proofs.preparing.scan_prepare.Goals as goal

pub prepare_over-requires-clause-ids : goal.prepare_over-requires-clause-ids
prepare_over-requires-clause-ids c =
    let schema = c.args.catalogue.now in
    let tables = c.args.rows.now in
    let sizes = sizes_of_tables tables in
    let query = c.args.query in
    let shape = c.requires.well_formed in
    let sound = c.recall_soundness.ensures in
    let same : c.in_ok-lists.lists ≡ scan_lists schema sizes query =
    c.in_ok-lists.ensures ∙ ap (λ ts. scan_lists schema (sizes_of_tables ts) query) c.as_slice.ensures in
    let listed = scans_listed schema sound tables c.requires.rows query shape c.requires.over in
    subst (λ lists. EachIdOnce (with_lists schema.accesses lists)) (sym same)
    (with_lists_once schema sound sizes (16 * length (blocks_of query)) (scan_lists schema sizes query) listed)

pub prepare_over-requires-clause-extra : goal.prepare_over-requires-clause-extra
prepare_over-requires-clause-extra c =
    let schema = c.args.catalogue.now in
    let tables = c.args.rows.now in
    let sizes = sizes_of_tables tables in
    let query = c.args.query in
    let shape = c.requires.well_formed in
    let sound = c.recall_soundness.ensures in
    let same : c.in_ok-lists.lists ≡ scan_lists schema sizes query =
    c.in_ok-lists.ensures ∙ ap (λ ts. scan_lists schema (sizes_of_tables ts) query) c.as_slice.ensures in
    let listed = scans_listed schema sound tables c.requires.rows query shape c.requires.over in
    subst (All (All (IsWellFormedIn schema))) (sym same)
    (lists_are_formed schema sound sizes (16 * length (blocks_of query)) (scan_lists schema sizes query) listed)

pub returns-in_err-prepared-clause-prepared : goal.returns-in_err-prepared-clause-prepared
returns-in_err-prepared-clause-prepared c =
    let schema = c.args.catalogue.now in
    let tables = c.args.rows.now in
    let sizes = sizes_of_tables tables in
    let query = c.args.query in
    let shape = c.requires.well_formed in
    let sound = c.recall_soundness.ensures in
    let same : c.in_ok-lists.lists ≡ scan_lists schema sizes query =
    c.in_ok-lists.ensures ∙ ap (λ ts. scan_lists schema (sizes_of_tables ts) query) c.as_slice.ensures in
    let p = err_from_is_err_and c.from_residual-in_err-prepared.result c.from_residual-in_err-prepared.ensures.1 in
    rw (p.1, p.2) (gives_refused schema sizes query shape c.in_ok-lists.lists same _ c.in_err-prepared.ensures.prepared)

pub plan_over_lists-requires : goal.plan_over_lists-requires
plan_over_lists-requires c =
    let schema = c.args.catalogue.now in
    let tables = c.args.rows.now in
    let sizes = sizes_of_tables tables in
    let query = c.args.query in
    let shape = c.requires.well_formed in
    let sound = c.recall_soundness.ensures in
    let same : c.in_ok-lists.lists ≡ scan_lists schema sizes query =
    c.in_ok-lists.ensures ∙ ap (λ ts. scan_lists schema (sizes_of_tables ts) query) c.as_slice.ensures in
    let plans = c.in_ok-prepared.prepared.derivations in
    subst (λ ts. All (λ (scan : Access). scan.table.0 < length ts) (used_scans c.as_slice-3.result.now plans)) (sym c.as_slice-2.ensures)
    (subst (λ lists. All (λ (scan : Access). scan.table.0 < length tables) (used_scans lists plans)) (sym (c.as_slice-3.ensures ∙ same))
    (used_on_tables schema sound tables c.requires.rows query shape c.requires.over c.in_ok-prepared.prepared))

-- the lists and the plan over them, as the code has made both
module _ (c : After-plan_over_lists) where
  same : c.in_ok-lists.lists ≡ scan_lists c.args.catalogue.now (sizes_of_tables c.args.rows.now) c.args.query
  same = c.in_ok-lists.ensures ∙ ap (λ ts. scan_lists c.args.catalogue.now (sizes_of_tables ts) c.args.query) c.as_slice.ensures

  given : Gives c.plan_over_lists.result (unless_too_large (plan_over_lists (sizes_of_tables c.args.rows.now)
      (scan_lists c.args.catalogue.now (sizes_of_tables c.args.rows.now) c.args.query) c.in_ok-prepared.prepared))
  given =
      let prepared = c.in_ok-prepared.prepared in
      subst (λ lists. Gives c.plan_over_lists.result (unless_too_large (plan_over_lists (sizes_of_tables c.args.rows.now) lists prepared)))
      (c.as_slice-3.ensures ∙ same)
      (subst (λ ts. Gives c.plan_over_lists.result (unless_too_large (plan_over_lists (sizes_of_tables ts) c.as_slice-3.result.now prepared)))
      c.as_slice-2.ensures c.plan_over_lists.ensures)

pub returns-clause-prepared : goal.returns-clause-prepared
returns-clause-prepared c =
    let at = (goal.at.returns-clause-prepared c).After-plan_over_lists in
    let prepared = c.in_ok-prepared.prepared in
    let told = subst (λ lists. preparation_over c.args.catalogue.now lists c.args.query ≡ Ok prepared) (same at) c.in_ok-prepared.ensures.prepared in
    gives_planned c.args.catalogue.now (sizes_of_tables c.args.rows.now) c.args.query c.requires.well_formed prepared c.plan_over_lists.result told (given at)

pub returns-clause-fits : goal.returns-clause-fits
returns-clause-fits c =
    let at = (goal.at.returns-clause-fits c).After-plan_over_lists in
    let schema = c.args.catalogue.now in
    let prepared = c.in_ok-prepared.prepared in
    let fits = subst (λ lists. (rows : TableRows) → RowsAreWide schema rows → Fits (with_lists schema.accesses lists) rows prepared) (same at)
    c.in_ok-prepared.ensures.fits in
    fits_given schema c.recall_soundness.ensures c.args.rows.now c.requires.rows c.args.query c.requires.well_formed c.requires.over prepared
    c.plan_over_lists.result (given at) fits
