use Rattle.std.proofs.Common.{◌≡◌, take}
use Rattle.session.specs.Effects.{named_pairs}
use Rattle.session.proofs.discovery.named_pairs.Given as goal

abbrev pub invariant-loop-pair : goal.invariant-loop-pair
invariant-loop-pair l = l.found ≡ named_pairs l.columns (take l.pair-index l.pairs)
