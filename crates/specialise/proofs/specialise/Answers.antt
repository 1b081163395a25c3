use Rattle.std.proofs.Common.{subst}
use Rattle.beas_core.specs.Results.{Gives}
use Rattle.specialise.specs.Alike.{StandFor}
use Rattle.specialise.proofs.Repeated.{specialised_same}
use Rattle.specialise.proofs.specialise.Goals as goal

pub returns : goal.returns
returns c =
    let few = c.in_ok-few.few in
    subst (Gives c.specialise_over-2.result) (specialised_same few c.args.accesses.now (subst (StandFor few) c.as_slice.ensures c.in_ok-few.ensures)
    c.args.block.now) c.specialise_over-2.ensures
