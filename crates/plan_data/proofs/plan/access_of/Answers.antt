use Rattle.std.proofs.Common.{◌≡◌, ◌∙◌, subst, sym}
use Rattle.std.specs.Prelude.{All}
use Rattle.std.proofs.lemmas.List.Elements.{All-get_or}
use Rattle.catalogue.specs.Schema.{AccessIsSound}
use Rattle.plan_data.proofs.plan.access_of.Goals as goal

pub returns-clause-sound : goal.returns-clause-sound
returns-clause-sound c =
    let schema = c.args.catalogue.now in
    let same : c.as_slice.result.now ≡ schema.accesses = c.as_slice.ensures ∙ c.accesses.ensures.accesses in
    let each : All (AccessIsSound schema) c.as_slice.result.now = rw same c.accesses.ensures.sound.accesses in
    let found = All-get_or (AccessIsSound schema) c.as_slice.result.now c.position-position.result c.index-as_slice-position.result
    (rw same c.position-position.ensures.within) each in
    subst (AccessIsSound schema) (sym c.index-as_slice-position.is) found
