use Rattle.std.proofs.Common.{inl, refl, subst, sym}
use Rattle.std.specs.Prelude.{IsSomeAnd}
use Rattle.beas_library.specs.Engines.{IsFresh}
use Rattle.beas_c.specs.Given.{budget_of, is_set}
use Rattle.beas_c.proofs.calls.beas_open.Goals as goal

pub returns-after-take : goal.returns-after-take
returns-after-take c =
    inl (
      refl,
      (
        c.in-Some.limits,
        c.in-Some.ensures,
        subst (λ after. IsSomeAnd after (λ held. IsFresh c.in-Some.limits (budget_of c.args.has_budget c.args.budget) (is_set c.args.explain) held.engine))
            (sym c.put.ensures) (subst (λ budget. IsFresh c.in-Some.limits budget (is_set c.args.explain) c.in-Ok.held.value.engine) c.budget_of.ensures c.in-Ok.ensures),
      ),
    )
