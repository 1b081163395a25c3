use Rattle.std.proofs.Common.{length}
use Rattle.std.proofs.lemmas.Result.{err_from_is_err_and}
use Rattle.beas_core.specs.declared.schema.AccessId.{AccessId}
use Rattle.catalogue.specs.Database.{rows_at, schema_of, with_access}
use Rattle.catalogue.specs.Refusing.{admit_refusal, new_access, already_broken}
use Rattle.report.specs.declared.reports.Report.TheVariants.{Done}
use Rattle.session.specs.Stores.{database_in}
use Rattle.session.proofs.CarryFacts.{access_done, access_fails}
use Rattle.session.proofs.tables.create_access.Goals as goal

pub returns-in_err-create_access-clause-carried : goal.returns-in_err-create_access-clause-carried
returns-in_err-create_access-clause-carried g c =
    let p = err_from_is_err_and c.from_residual.result c.from_residual.ensures.1 in
    let db = database_in c.args.store.now in
    let limits = c.args.limits.now in
    let spec = c.args.spec.now in
    let access = new_access (schema_of db) spec in
    let out = c.in_err-create_access.ensures in
    rw (p.1, p.2)
    (access_fails AccessId (admit_refusal limits (schema_of db) spec) (already_broken (rows_at db access.table) access) (length (rows_at db access.table)) db
    (database_in c.create_access.new.self) (record { report = Done; cost = 0; db = with_access db access }) c.in_err-create_access.field-0.0 c.args.steps.now
    c.create_access.new.steps out.refused out.err out.cost out.no_fewer out.at_most)

pub returns-clause-carried : goal.returns-clause-carried
returns-clause-carried g c =
    let db = database_in c.args.store.now in
    let limits = c.args.limits.now in
    let spec = c.args.spec.now in
    let access = new_access (schema_of db) spec in
    let out = c.in_ok-create_access.ensures in
    access_done (admit_refusal limits (schema_of db) spec) (already_broken (rows_at db access.table) access) (length (rows_at db access.table)) db
    (database_in c.create_access.new.self) (record { report = Done; cost = 0; db = with_access db access }) c.args.steps.now c.create_access.new.steps
    out.refused out.ok (out.cost (λ e. cc))
