use Rattle.std.proofs.Common.{◌∙◌, ap, is_some}
use Rattle.beas_core.specs.declared.schema.Access.{Access}
use Rattle.catalogue.specs.Schema.{access_has_name, has_access}
use Rattle.catalogue.proofs.ListFacts.{is_some-find, is_some-map}
use Rattle.catalogue.proofs.catalogue.Catalogue.has_access.Goals as goal

pub returns : goal.returns
returns c =
    c.is_some.ensures ∙ ap is_some (c.number.ensures ∙ c.self.invariant.accesses_by_name c.args.name.now)
    ∙ is_some-map (λ (a : Access). a.id.0) _ ∙ is_some-find (access_has_name c.args.name.now) c.self.inside.accesses
    ∙ ap (λ schema. has_access schema c.args.name.now) c.self.view_is
