use Rattle.std.proofs.Common.{◌≡◌, true, subst, sym}
use Rattle.std.specs.List.{All}
use Rattle.std.proofs.lemmas.List.Elements.{All-contains}
use Rattle.beas_core.specs.declared.plan.Derivation.{Derivation}
use Rattle.beas_core.specs.Derivations.{is_live}
use Rattle.beas_core.proofs.Sets.{Contains-from_has}
use Rattle.catalogue.specs.Database.{rows_at}
use Rattle.beas_core.proofs.QueryBounds.{prepared_few, prepared_is_live}
use Rattle.plan_ops.specs.Held.{PlanHolds, StepHolds}
use Rattle.session.specs.Applying.{database_of}
use Rattle.version_store.proofs.opening.ask.Goals as goal

pub ask_for_all-requires : goal.ask_for_all-requires
ask_for_all-requires c =
    let db = database_of c.args.session.now in
    subst (All (λ (plan : Derivation). All (λ s. is_live db.accesses s.access ≡ true) plan.steps)) (sym c.as_slice.ensures)
    (prepared_is_live db.accesses c.args.prepared.now c.requires.plan)

pub returns : goal.returns
returns c =
    let db = database_of c.args.session.now in
    let held = subst (All (PlanHolds (rows_at db) db.accesses)) c.as_slice.ensures c.ask_for_all.ensures in
    let plans = c.args.prepared.now.derivations in
    (prepared_few (rows_at db) db.accesses c.args.prepared.now c.requires.plan (λ plan m s n.
    let h = All-contains (StepHolds (rows_at db) db.accesses) plan.steps s
    (All-contains (PlanHolds (rows_at db) db.accesses) plans plan held (Contains-from_has plans plan m)).steps n in
    (h.holds, h.bound))).1
