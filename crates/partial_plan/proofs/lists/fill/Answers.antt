use Rattle.std.proofs.Common.{◌≡◌, ◌*◌, ◌≤◌, ◌∙◌, None, ap, arith, length, sym}
use Rattle.std.proofs.lemmas.List.{length-map}
use Rattle.beas_core.specs.Guiding.{first_uncovered}
use Rattle.beas_core.specs.Trees.{blocks_of}
use Rattle.partial_plan.specs.Scans.{sizes_of_tables}
use Rattle.partial_plan.specs.ScanPlans.{lists_after, tasks_with, with_scan}
use Rattle.partial_plan.proofs.ListFacts.{length-listed, lists_are, lists_past, none_left}
use Rattle.partial_plan.proofs.lists.fill.Goals as goal

pub add_scan-requires-clause-lists : goal.add_scan-requires-clause-lists
add_scan-requires-clause-lists c =
    let listed = ap length c.loop-number.invariant
    ∙ length-listed c.args.catalogue.now (sizes_of_tables c.args.tables.now) c.args.query.now c.requires.well_formed c.loop-number.number in
    omega (arith, listed, ap length c.requires.blocks, length-map c.args.blocks.now (λ b. b.now))

pub returns-then-not-branch : goal.returns-then-not-branch
returns-then-not-branch c =
    let schema = c.args.catalogue.now in
    let sizes = sizes_of_tables c.args.tables.now in
    let query = c.args.query.now in
    let n = c.loop-number.number in
    let none : first_uncovered (tasks_with schema c.loop-number.lists query) ≡ None =
    none_left c.in_ok-add_scan.field-0 (first_uncovered (tasks_with schema c.loop-number.lists query)) c.in_ok-add_scan.ensures.more c.if-not-branch.true in
    let covered : first_uncovered (tasks_with schema (lists_after schema sizes query n) query) ≡ None =
    ap (λ lists. first_uncovered (tasks_with schema lists query)) (sym c.loop-number.invariant) ∙ none in
    c.in_ok-add_scan.ensures.lists ∙ ap (with_scan sizes query n c.loop-number.lists) none ∙ c.loop-number.invariant
    ∙ lists_are schema sizes query c.requires.well_formed n covered

pub returns : goal.returns
returns c =
    let long = length-map c.args.blocks.now (λ b. b.now) in
    let past : 16 * length (blocks_of c.args.query.now) ≤ c.loop-number.number = omega (arith, c.loop-number-test.false, ap length c.requires.blocks, long) in
    c.loop-number.invariant
    ∙ lists_past c.args.catalogue.now (sizes_of_tables c.args.tables.now) c.args.query.now c.requires.well_formed c.loop-number.number past
