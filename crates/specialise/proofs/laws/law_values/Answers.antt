use Rattle.specialise.proofs.Values.{values_free}
use Rattle.specialise.proofs.laws.law_values.Goals as goal

pub returns : goal.returns
returns c = λ given. values_free c.args.accesses.now c.args.block.now given
