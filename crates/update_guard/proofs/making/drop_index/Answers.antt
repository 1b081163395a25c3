use Rattle.std.proofs.Common.{◌≡◌, ◌∙◌, ap, not, None, false}
use Rattle.beas_core.specs.declared.refusal.Refusal.TheVariants.{UnknownAccess}
use Rattle.beas_core.specs.Results.{refused_if}
use Rattle.update_guard.proofs.making.drop_index.Goals as goal

pub unreachable-requires : goal.unreachable-requires
unreachable-requires g c =
    let e : refused_if (not false) (UnknownAccess c.args.name.now) ≡ None = ap (λ b. refused_if (not b) (UnknownAccess c.args.name.now)) c.in-None.ensures.named
    ∙ c.in_ok-drop_access.ensures.refused in
    cc

pub returns-clause-index : goal.returns-clause-index
returns-clause-index g c = record {
  place = c.in-Some.place;
  within = c.in-Some.ensures.within;
  accesses_are = c.in-Some.ensures.only;
  indexes_are = c.drop_at.ensures;
}
