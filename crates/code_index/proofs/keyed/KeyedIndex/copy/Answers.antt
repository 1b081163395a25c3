use Rattle.std.proofs.Common.{◌≡◌, ◌∙◌, length, sym, subst}
use Rattle.beas_core.specs.declared.schema.Access.{Access}
use Rattle.code_index.specs.Reading.{IsOrdered}
use Rattle.code_index.proofs.keyed.KeyedIndex.copy.Goals as goal

pub invariant_of-result : goal.invariant_of-result
invariant_of-result g c =
    let same : record { access = c.in_ok-access.access; total = c.self.inside.total; groups = c.in_ok-groups.groups.entries }
    ≡ record { access = c.self.inside.access; total = c.self.inside.total; groups = c.self.inside.groups.entries } =
    (λ j. record { access = c.in_ok-access.ensures j; total = c.self.inside.total; groups = c.in_ok-groups.ensures j }) in (
      subst (λ (a : Access). g.W.OwnCodes.fits (length a.key)) (sym c.in_ok-access.ensures) c.self.invariant.0,
      subst IsOrdered (sym same) c.self.invariant.1,
    )

pub returns : goal.returns
returns g c =
    (λ j. record { access = c.in_ok-access.ensures j; total = c.self.inside.total; groups = c.in_ok-groups.ensures j }) ∙ c.self.view_is
