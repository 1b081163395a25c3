use Rattle.std.proofs.Common.{inl, refl, subst, take}
use Rattle.specialise.specs.Alike.{IsStoodFor}
use Rattle.specialise.proofs.Repeated.{stood_wider}
use Rattle.specialise.proofs.alike.push_unlike.Goals as goal

pub returns-then-is_stood_for : goal.returns-then-is_stood_for
returns-then-is_stood_for c =
    let few = c.args.few.now in
    let access = c.args.access.now in
    let first = c.min-compared.result in
    inl (refl, stood_wider few first access (subst (λ xs. IsStoodFor (take first xs) access) c.as_slice.ensures (c.if-is_stood_for.ensures refl)))
