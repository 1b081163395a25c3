use Rattle.std.proofs.Common.{◌∙◌, ap, subst, sym}
use Rattle.session.specs.Applying.{database_of}
use Rattle.version_store.specs.Stored.{AreKept, seen_in}
use Rattle.version_store.proofs.DropFacts.{none_dropped, one_dropped}
use Rattle.version_store.proofs.GoingFacts.{kept_shorter, where_found}
use Rattle.version_store.proofs.going.drop_query.Goals as goal

pub returns-in-Some-clause-kept : goal.returns-in-Some-clause-kept
returns-in-Some-clause-kept c =
    let found = where_found c.args.queries.now.items c.as_slice.result.now c.args.number c.position_of.result _ c.as_slice.ensures.value c.position_of.ensures
    c.in-Some.is in
    subst (AreKept (database_of c.args.session.now)) (sym c.remove.ensures.items)
    (kept_shorter c.args.session.now c.args.queries.now.items c.args.number c.in-Some.place c.remove.result c.remove.result found
    c.remove.ensures.value c.requires.kept)

pub returns-in-Some-clause-dropped : goal.returns-in-Some-clause-dropped
returns-in-Some-clause-dropped c =
    let found = where_found c.args.queries.now.items c.as_slice.result.now c.args.number c.position_of.result _ c.as_slice.ensures.value c.position_of.ensures
    c.in-Some.is in
    ap (seen_in c.args.session.now) c.remove.ensures.items
    ∙ one_dropped c.args.session.now c.args.queries.now.items c.args.number c.in-Some.place c.remove.result found c.remove.ensures.value

pub returns-in_default-clause-dropped : goal.returns-in_default-clause-dropped
returns-in_default-clause-dropped c =
    let none = where_found c.args.queries.now.items c.as_slice.result.now c.args.number c.position_of.result _ c.as_slice.ensures.value c.position_of.ensures
    c.in_default.is in
    none_dropped c.args.session.now c.args.queries.now.items c.args.number none
