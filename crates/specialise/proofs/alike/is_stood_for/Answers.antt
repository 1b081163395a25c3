use Rattle.std.proofs.Common.{refl}
use Rattle.specialise.proofs.Repeated.{stood_by}
use Rattle.specialise.proofs.alike.is_stood_for.Goals as goal

pub returns-then-are_alike : goal.returns-then-are_alike
returns-then-are_alike c t =
    stood_by c.args.few.now c.loop-other.other-index c.other-item.result c.args.access.now c.loop-other-test.true c.other-item.is
    (c.if-are_alike.ensures refl)
