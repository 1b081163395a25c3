use Rattle.std.proofs.Common.{◌≡◌, ◌&&◌, ◌||◌, ◌==◌, map}
use Rattle.beas_core.specs.Coverage.{fetched_classes, has, holds_classes, key_classes}
use Rattle.std.specs.List.{list_any, range_with_len}
use Rattle.reference_coverage.proofs.coverage.grow.Given as goal

abbrev pub invariant-loop-class : goal.invariant-loop-class
invariant-loop-class l = l.more ≡ map (λ c. has l.set c || list_any
    (λ u. holds_classes l.set (key_classes l.normal u) && list_any (λ d. d == c) (fetched_classes l.normal u)) l.found) (range_with_len 0 l.class)
