use Rattle.std.proofs.Common.{◌≡◌, map, take}
use Rattle.std.specs.List.{zip}
use Rattle.beas_core.specs.Valuations.{value_of}
use Rattle.reference_evaluation.proofs.keys.keys_in.Given as goal

abbrev pub invariant-loop-valuation : goal.invariant-loop-valuation
invariant-loop-valuation l = l.keys ≡ map (λ valuation. map (value_of (zip l.classes valuation)) l.key_classes) (take l.valuation-index l.found)
