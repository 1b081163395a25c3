use Rattle.std.proofs.Common.{map, sym, ◌∙◌}
use Rattle.constraint_miner.proofs.GreatestFacts.{greatest_same, mapped_same, same_from_permutation}
use Rattle.constraint_miner.proofs.RunFacts.{climbs_from, run_is_greatest}
use Rattle.constraint_miner.proofs.groups.greatest_among.Goals as goal

pub returns : goal.returns
returns g c =
    let key = c.args.key.now in
    let fetched = c.args.fetched.now in
    let values = g.T.Tuple.values in
    let sorted = c.sort_tuples.new.tuples in
    c.greatest_run.ensures
    ∙ run_is_greatest key fetched (map values sorted) (climbs_from key fetched values sorted c.sort_tuples.ensures.sorted)
    ∙ sym (greatest_same (map values c.args.tuples.now) (map values sorted) key fetched
    (mapped_same values c.args.tuples.now sorted (same_from_permutation c.args.tuples.now sorted c.sort_tuples.ensures.same)))
