use Rattle.std.proofs.Common.{ap}
use Rattle.std.specs.Option.{option_map}
use Rattle.beas_core.specs.Pruning.{derivation, pruned}
use Rattle.beas_core.proofs.SoundDerivations.{greedy_sound}
use Rattle.beas_core.proofs.PruningFacts.{pruned_sound, pruned_no_greater}
use Rattle.beas_laws.proofs.coverage.law_pruned.Goals as goal

pub returns : goal.returns
unfolding derivation
returns c =
    let block = c.args.block.now in
    let accesses = c.args.accesses.now in
    record {
      left = λ start steps h. ap (option_map (pruned block accesses start)) h;
      sound = λ start steps h. pruned_sound block accesses start steps (greedy_sound block accesses c.requires start steps h);
      no_greater = λ start steps. pruned_no_greater block accesses start steps;
    }
