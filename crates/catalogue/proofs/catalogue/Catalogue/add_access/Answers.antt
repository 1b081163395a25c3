use Rattle.std.proofs.Common.{sym, subst}
use Rattle.catalogue.specs.Kept.{MayMakeAccess}
use Rattle.catalogue.proofs.MayMake.{may_make_access}
use Rattle.catalogue.proofs.catalogue.Catalogue.add_access.Goals as goal

pub put_access-requires : goal.put_access-requires
put_access-requires c =
    subst (λ a. MayMakeAccess c.args.self.now a) (sym c.in_ok-access.ensures.admitted)
    (may_make_access c.args.limits.now c.args.self.now c.args.spec.now c.in_ok-access.ensures.refused c.requires c.args.limits.now.constraints_in_range.1)
