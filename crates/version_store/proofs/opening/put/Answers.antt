use Rattle.version_store.proofs.OpeningFacts.{opened_kept}
use Rattle.version_store.proofs.opening.put.Goals as goal

pub returns-clause-kept : goal.returns-clause-kept
returns-clause-kept c =
    opened_kept c.args.session.now c.args.number c.args.prepared c.args.queries.now.items c.push.new.self.items
    (record { query = c.in_ok-query.query; begins = c.in_ok-query.ensures; stands = c.in_ok-push.ensures.items })
    c.requires.fits c.ask.ensures c.requires.idle c.requires.kept
