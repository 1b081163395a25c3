use Rattle.std.proofs.Common.{◌≡◌, ◌∙◌, Bool, List, Some, None, map, ap, refl, subst, sym, arith}
use Rattle.std.specs.List.{All}
use Rattle.std.specs.Option.{option_map}
use Rattle.std.proofs.lemmas.Result.{err_from_is_err_and}
use Rattle.std.specs.Prelude.{Ok}
use Rattle.beas_core.specs.declared.schema.Access.{Access}
use Rattle.beas_core.specs.declared.query.Block.{Block}
use Rattle.beas_core.specs.declared.plan.Derivation.{Derivation}
use Rattle.beas_core.specs.Trees.{QueryTree}
use Rattle.beas_core.specs.Classes.{normal_of}
use Rattle.beas_core.specs.Guiding.{BlockTask, block_tasks, first_uncovered, is_guided_task, task_steps}
use Rattle.beas_core.specs.Queries.{query_bound}
use Rattle.catalogue.specs.Schema.{Schema}
use Rattle.plan_builder.specs.declared.preparation.Parts.{Parts}
use Rattle.plan_builder.specs.Parts.{Grows, blocks_at, task_at, whole}
use Rattle.plan_builder.specs.Preparation.{constraints_with, flags_of, header_of, plans_of, refusal_of, task_plan, with_lists}
use Rattle.plan_builder.proofs.Extras.{gives_over}
use Rattle.plan_builder.proofs.PreparationFacts.{all_covered, all_grow, each_once, gives_parts, over_err, over_refused, plan_fits, same_plans, told_number}
use Rattle.plan_builder.proofs.preparation.parts_with.Goals as goal

pub plan_blocks-requires-clause-ids : goal.plan_blocks-requires-clause-ids
plan_blocks-requires-clause-ids c =
    let schema = c.args.catalogue.now in
    let live = schema.accesses in
    let extra = c.args.extra.now in
    let query = c.args.query.now in
    let lent = c.args.lent.now in
    let given = block_tasks (constraints_with live extra) query in
    let made = c.requires.tasks in
    each_once live extra c.requires.ids query lent made

pub returns-in_err-plans-clause-refused : goal.returns-in_err-plans-clause-refused
returns-in_err-plans-clause-refused c =
    let schema = c.args.catalogue.now in
    let live = schema.accesses in
    let extra = c.args.extra.now in
    let query = c.args.query.now in
    let lent = c.args.lent.now in
    let given = block_tasks (constraints_with live extra) query in
    let same = c.requires.blocks in
    let made = c.requires.tasks in
    let p = err_from_is_err_and c.from_residual.result c.from_residual.ensures.1 in
    rw (p.1, p.2) (over_err schema extra query (Unit {0}) _ (blocks_at lent) (map (task_at live) lent) same (made live)
    c.in_err-plans.ensures.refused)

pub announce_over-requires-clause-grow : goal.announce_over-requires-clause-grow
announce_over-requires-clause-grow c =
    let schema = c.args.catalogue.now in
    let live = schema.accesses in
    let extra = c.args.extra.now in
    let query = c.args.query.now in
    let lent = c.args.lent.now in
    let given = block_tasks (constraints_with live extra) query in
    let same = c.requires.blocks in
    let made = c.requires.tasks in
    subst (λ (a : List Access). All (Grows (with_lists a extra)) c.in_ok-plans.plans.derivations) (sym c.accesses.ensures.accesses)
    (all_grow schema c.accesses.ensures.sound extra c.requires.ids c.requires.extra query c.requires.well_formed c.requires.over lent same made
    c.in_ok-plans.plans.derivations c.in_ok-plans.ensures.derivations)

-- the plans that were made are those of the query's tasks, which are all covered
record PlansTold (given : List BlockTask) (plans : List Derivation) (guided : List Bool) : Type 0 where
  derived : plans ≡ plans_of given
  flags : guided ≡ flags_of given
  none : first_uncovered given ≡ None

plans_told : (schema : Schema) (accesses : List Access) (given : List BlockTask) (query : QueryTree) (blocks : List Block) (tasks : List BlockTask)
    → tasks ≡ given → (plans : List Derivation) (guided : List Bool) → map (λ d. Some d.steps) plans ≡ map task_steps tasks
    → guided ≡ map is_guided_task tasks → option_map (refusal_of schema blocks) (first_uncovered tasks) ≡ None → PlansTold given plans guided
plans_told schema accesses given query blocks tasks made plans guided steps_are flags_are refused = record {
  derived = same_plans tasks plans steps_are ∙ ap (map task_plan) made;
  flags = flags_are ∙ ap (map is_guided_task) made;
  none = all_covered schema accesses given query blocks tasks made refused;
}

pub returns-in_err-bound-clause-refused : goal.returns-in_err-bound-clause-refused
returns-in_err-bound-clause-refused c =
    let schema = c.args.catalogue.now in
    let live = schema.accesses in
    let extra = c.args.extra.now in
    let query = c.args.query.now in
    let lent = c.args.lent.now in
    let given = block_tasks (constraints_with live extra) query in
    let plans = c.in_ok-plans.plans in
    let told = plans_told schema (with_lists live extra) given query (blocks_at lent) (map (task_at live) lent) (c.requires.tasks live) plans.derivations
    plans.guided c.in_ok-plans.ensures.derivations c.in_ok-plans.ensures.guided c.in_ok-plans.ensures.refused in
    let p = err_from_is_err_and c.from_residual-in_err-bound.result c.from_residual-in_err-bound.ensures.1 in
    let number = ap (λ a. query_bound (with_lists a extra) plans.guided plans.derivations query) c.accesses.ensures.accesses
    ∙ ap (λ gs. query_bound (with_lists live extra) gs plans.derivations query) told.flags
    ∙ ap (λ ds. query_bound (with_lists live extra) (flags_of given) ds query) told.derived in
    rw (p.1, p.2) (over_refused schema extra query told.none _ _ number c.in_err-bound.ensures)

pub returns-clause-prepared : goal.returns-clause-prepared
returns-clause-prepared c =
    let schema = c.args.catalogue.now in
    let live = schema.accesses in
    let extra = c.args.extra.now in
    let query = c.args.query.now in
    let lent = c.args.lent.now in
    let given = block_tasks (constraints_with live extra) query in
    let plans = c.in_ok-plans.plans in
    let told = plans_told schema (with_lists live extra) given query (blocks_at lent) (map (task_at live) lent) (c.requires.tasks live) plans.derivations
    plans.guided c.in_ok-plans.ensures.derivations c.in_ok-plans.ensures.guided c.in_ok-plans.ensures.refused in
    let parts : Parts = record { header = c.in_ok-header.header; plans = plans; bound = c.in_ok-bound.bound } in
    gives_over schema extra query (Ok (whole query parts)) (gives_parts schema (with_lists live extra) given query told.none (whole query parts) refl
    (c.in_ok-header.ensures ∙ ap (header_of schema) c.requires.blocks)
    (c.in_ok-plans.ensures.normals ∙ ap (map normal_of) c.requires.blocks) told.derived told.flags
    (told_number _ c.in_ok-bound.bound c.in_ok-bound.ensures
    ∙ ap (λ a. query_bound (with_lists a extra) plans.guided plans.derivations query) c.accesses.ensures.accesses)
    (omega arith))

pub returns-clause-plan : goal.returns-clause-plan
returns-clause-plan c =
    let schema = c.args.catalogue.now in
    let live = schema.accesses in
    let extra = c.args.extra.now in
    let query = c.args.query.now in
    let lent = c.args.lent.now in
    let given = block_tasks (constraints_with live extra) query in
    let same = c.requires.blocks in
    let made = c.requires.tasks in
    let plans = c.in_ok-plans.plans in
    plan_fits schema c.accesses.ensures.sound extra c.requires.ids c.requires.extra query c.requires.well_formed c.requires.over lent same made
    plans.derivations c.in_ok-plans.ensures.derivations
    (whole query (record { header = c.in_ok-header.header; plans = plans; bound = c.in_ok-bound.bound })) refl
    (c.in_ok-plans.ensures.normals ∙ ap (map normal_of) same) refl c.in_ok-plans.ensures.guided
    (told_number _ c.in_ok-bound.bound c.in_ok-bound.ensures
    ∙ ap (λ a. query_bound (with_lists a extra) plans.guided plans.derivations query) c.accesses.ensures.accesses)
