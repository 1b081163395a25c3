use Rattle.std.proofs.Common.{◌∙◌, Result, ap, subst, sym}
use Rattle.std.specs.Prelude.{IfOk}
use Rattle.beas_core.specs.declared.errors.NoMemory.{NoMemory}
use Rattle.catalogue.specs.Database.{schema_of}
use Rattle.piece_reader.specs.declared.event.Event.TheVariants.{Said}
use Rattle.desk_model.specs.Desks.{opened_effect}
use Rattle.report.specs.declared.reports.Report.{Report}
use Rattle.session.specs.Announced.{announcement}
use Rattle.session.specs.Applying.{database_of}
use Rattle.session.specs.Turns.{IsWithin}
use Rattle.session.proofs.StoreFacts.{schema_is_catalogue}
use Rattle.sql_text.specs.declared.tree.Statement.TheVariants.{Select}
use Rattle.version_store.specs.Desks.{GoesOn}
use Rattle.version_store.specs.Events.{Happens}
use Rattle.version_store.specs.Stored.{seen_in, state_in}
use Rattle.version_store.proofs.OpeningFacts.{fail_did, fail_goes, fail_within, opened_did, opened_goes}
use Rattle.version_store.proofs.opening.open.Goals as goal

pub returns-in-Ok-clause-did : goal.returns-in-Ok-clause-did
returns-in-Ok-clause-did c =
    let s = c.args.session.now in
    opened_did s c.args.number c.in-Ok.prepared c.args.queries.now.items c.put.new.queries.items c.put.result
    (announcement s.limits s.budget (schema_of (database_of s)) c.args.tree.now)
    (ap (λ schema. announcement s.limits s.budget schema c.args.tree.now) (schema_is_catalogue s.guarded) ∙ c.in-Ok.ensures.announced)
    c.put.ensures.did c.put.ensures.opens

pub returns-in-Ok-clause-goes_on : goal.returns-in-Ok-clause-goes_on
returns-in-Ok-clause-goes_on c =
    opened_goes c.args.session.now c.args.number c.in-Ok.prepared c.args.tree.now c.args.queries.now.items c.put.new.queries.items c.put.result
    c.put.ensures.did c.put.ensures.opens

pub returns-in-Err-clause-did : goal.returns-in-Err-clause-did
returns-in-Err-clause-did c =
    let s = c.args.session.now in
    let queries = c.args.queries.now.items in
    let w = announcement s.limits s.budget (schema_of (database_of s)) c.args.tree.now in
    λ n. subst (λ (r : Result Report NoMemory). IfOk r (λ given. Happens (opened_effect s.explain (state_in s queries) c.args.number w) given
    (seen_in s queries) (seen_in s queries) n n)) (sym c.report_refusal.ensures)
    (fail_did s c.args.number queries c.in-Err.fail (announcement s.limits s.budget s.guarded.catalogue c.args.tree.now) w
    (ap (λ schema. announcement s.limits s.budget schema c.args.tree.now) (schema_is_catalogue s.guarded)) c.in-Err.ensures.announced n)

pub returns-in-Err-clause-goes_on : goal.returns-in-Err-clause-goes_on
returns-in-Err-clause-goes_on c =
    let s = c.args.session.now in
    let queries = c.args.queries.now.items in
    λ n. subst (λ (r : Result Report NoMemory). IfOk r (λ given. GoesOn (Said c.args.number (Select c.args.tree.now)) given
    (seen_in s queries) (seen_in s queries) n n)) (sym c.report_refusal.ensures) (fail_goes s c.args.number queries c.in-Err.fail c.args.tree.now n)

pub returns-in-Err-clause-within : goal.returns-in-Err-clause-within
returns-in-Err-clause-within c = subst (λ (r : Result Report NoMemory). IfOk r IsWithin) (sym c.report_refusal.ensures) (fail_within c.in-Err.fail)
