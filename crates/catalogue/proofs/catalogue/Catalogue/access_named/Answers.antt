use Rattle.std.proofs.Common.{◌∙◌, ap, sym, is_some}
use Rattle.beas_core.specs.declared.schema.Access.{Access}
use Rattle.catalogue.specs.Schema.{access_has_name, has_access}
use Rattle.catalogue.specs.Kept.{id_of_access_named}
use Rattle.catalogue.proofs.Keeping.{live_where_named}
use Rattle.catalogue.proofs.ListFacts.{is_some-find, is_some-map}
use Rattle.catalogue.proofs.catalogue.Catalogue.access_named.Goals as goal

pub returns-in-Some-clause-live : goal.returns-in-Some-clause-live
returns-in-Some-clause-live c =
    live_where_named c.args.self.now.accesses c.args.name.now (record { 0 = c.in-Some.number })
    (ap (λ s. id_of_access_named s.accesses c.args.name.now) (sym c.self.view_is) ∙ sym (c.self.invariant.accesses_by_name c.args.name.now)
    ∙ sym c.number.ensures ∙ c.in-Some.is)

pub returns-in-Some-clause-named : goal.returns-in-Some-clause-named
returns-in-Some-clause-named c =
    ap is_some (sym c.in-Some.is ∙ c.number.ensures ∙ c.self.invariant.accesses_by_name c.args.name.now)
    ∙ is_some-map (λ (a : Access). a.id.0) _ ∙ is_some-find (access_has_name c.args.name.now) c.self.inside.accesses
    ∙ ap (λ schema. has_access schema c.args.name.now) c.self.view_is

pub returns-in-None-clause-named : goal.returns-in-None-clause-named
returns-in-None-clause-named c =
    ap is_some (sym c.in-None.is ∙ c.number.ensures ∙ c.self.invariant.accesses_by_name c.args.name.now)
    ∙ is_some-map (λ (a : Access). a.id.0) _ ∙ is_some-find (access_has_name c.args.name.now) c.self.inside.accesses
    ∙ ap (λ schema. has_access schema c.args.name.now) c.self.view_is
