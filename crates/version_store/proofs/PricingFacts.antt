-- What is announced of a query, whatever the budget.
use Rattle.std.proofs.Common.{◌≡◌, ap, refl, Option, Some, None, Result, Ok, Err}
use Rattle.beas_core.specs.declared.errors.Fail.{Fail}
use Rattle.beas_core.specs.declared.limits.Limits.{Limits}
use Rattle.beas_core.specs.declared.plan.Prepared.{Prepared}
use Rattle.beas_core.specs.declared.refusal.Refusal.{Refusal}
use Rattle.beas_core.specs.Results.{Gives, IsRefusedAs}
use Rattle.beas_core.specs.Trees.{QueryTree}
use Rattle.catalogue.specs.Database.{Database, schema_of}
use Rattle.catalogue.specs.Schema.{Schema}
use Rattle.name_resolution.specs.Binding.{bound_query, refusals}
use Rattle.name_resolution.specs.Refusing.{first}
use Rattle.plan_builder.specs.Preparation.{preparation}
use Rattle.report.specs.declared.reports.Report.TheVariants.{Explained, Refused}
use Rattle.report.specs.Plans.{plan_text}
use Rattle.session.specs.Announced.{announcement}
use Rattle.session.specs.Effects.{Effect, explain_effect, with_answer}
use Rattle.session.proofs.AnnouncedFacts.{announced, announced_unprepared}
use Rattle.sql_text.specs.Trees.{Tree}

-- a query that was bound is announced as it is prepared
pub announced_prepared : (limits : Limits) (schema : Schema) (tree : Tree) (query : QueryTree)
    → IsRefusedAs (Ok query) (first (refusals limits schema tree)) → query ≡ bound_query schema tree
    → (result : Result Prepared Fail) → Gives result (preparation schema query) → Gives result (announcement limits None schema tree)
announced_prepared limits schema tree query told is (Ok prepared) h =
    announced limits None schema tree query told is prepared (Ok prepared) h refl
announced_prepared limits schema tree query told is (Err why) h = announced_unprepared limits None schema tree query told is why h

abbrev effect_of : Database → Result Prepared Refusal → Effect
effect_of db answer = with_answer answer db (λ prepared.
    record { report = Explained prepared.bound (plan_text (schema_of db) prepared); cost = 0; db = db })

pub explains : (limits : Limits) (db : Database) (tree : Tree) (prepared : Prepared) → announcement limits None (schema_of db) tree ≡ Ok prepared
    → (explain_effect limits None db tree).report ≡ Explained prepared.bound (plan_text (schema_of db) prepared)
explains limits db tree prepared e = ap (λ answer. (effect_of db answer).report) e

pub refuses : (limits : Limits) (db : Database) (tree : Tree) (why : Refusal) → announcement limits None (schema_of db) tree ≡ Err why
    → (explain_effect limits None db tree).report ≡ Refused why
refuses limits db tree why e = ap (λ answer. (effect_of db answer).report) e
