use Rattle.reference_coverage.proofs.pruning.+pruned_below.Given as goal

abbrev pub decreases-pruned_below : goal.decreases-pruned_below
decreases-pruned_below l = l.count
