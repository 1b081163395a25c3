use Rattle.std.proofs.Common.{◌≡◌, map}
use Rattle.std.specs.List.{filter, range_with_len}
use Rattle.specialise.specs.Trials.{candidate_of, is_open}
use Rattle.specialise.proofs.candidates.open_candidates.Given as goal

abbrev pub invariant-loop-class : goal.invariant-loop-class
invariant-loop-class l = l.found ≡ map (candidate_of l.block) (filter (is_open l.cover l.asked) (range_with_len 0 l.class))
