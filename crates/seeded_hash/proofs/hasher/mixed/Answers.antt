use Rattle.seeded_hash.specs.Mixing.{mixed}
use Rattle.seeded_hash.proofs.hasher.mixed.Goals as goal

pub returns : goal.returns
unfolding mixed
returns c = c.folded_product.ensures
