use Rattle.std.proofs.Common.{◌∙◌, ap, sym, subst}
use Rattle.beas_core.specs.Results.{Gives}
use Rattle.specialise.specs.Specialised.{specialised}
use Rattle.session.proofs.PlaceFacts.{wanted_are_places}
use Rattle.session.proofs.StoreFacts.{schema_is_catalogue}
use Rattle.session.proofs.specialising.wanted_places.Goals as goal

pub returns-clause-found : goal.returns-clause-found
returns-clause-found c =
    let g = c.args.store.now in
    subst (λ accesses. Gives c.specialise.result (specialised accesses c.args.block.now))
    (c.accesses.ensures.accesses ∙ sym (ap (λ s. s.accesses) (schema_is_catalogue g))) c.specialise.ensures

pub returns-clause-places : goal.returns-clause-places
returns-clause-places c =
    wanted_are_places c.args.block.now c.requires c.accesses.result.now c.specialise.result c.specialise.ensures
