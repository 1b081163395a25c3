use Rattle.std.proofs.Common.{Bor, ◌≡◌, ◌∷◌, [], List, map, ap, ◌∙◌}
use Rattle.std.proofs.lemmas.Bool.{ne_eqb}
use Rattle.beas_core.specs.declared.value.Value.{Value}
use Rattle.beas_core.specs.Groups.{greatest}
use Rattle.constraint_miner.specs.Cells.{pair_row}
use Rattle.constraint_miner.proofs.PairFacts.{pair_size, pair_within, pair_above}
use Rattle.constraint_miner.proofs.pairs.pair_of.Goals as goal

abbrev now_of : Bor (List Value) → List Value
now_of row = row.now

pub returns-then-most-limit : goal.returns-then-most-limit
returns-then-most-limit c =
    let most : c.greatest_among-most.result ≡ greatest (map now_of c.args.rows.now) (c.args.first ∷ []) (c.args.second ∷ []) =
    c.greatest_among-most.ensures
    ∙ pair_size pair_row c.as_mut_slice.result.now c.args.rows.now c.args.first c.args.second
    (ap (map pair_row) c.as_mut_slice.ensures.value ∙ c.in_ok-project_rows.ensures) in
    pair_within (map now_of c.args.rows.now) c.args.limit c.args.first c.args.second c.greatest_among-most.result most
    (ne_eqb c.args.first.0 c.args.second.0 c.if-first-second.false) c.if-most-limit.true

pub returns-else-most-limit : goal.returns-else-most-limit
returns-else-most-limit c =
    let most : c.greatest_among-most.result ≡ greatest (map now_of c.args.rows.now) (c.args.first ∷ []) (c.args.second ∷ []) =
    c.greatest_among-most.ensures
    ∙ pair_size pair_row c.as_mut_slice.result.now c.args.rows.now c.args.first c.args.second
    (ap (map pair_row) c.as_mut_slice.ensures.value ∙ c.in_ok-project_rows.ensures) in
    pair_above (map now_of c.args.rows.now) c.args.limit c.args.first c.args.second c.greatest_among-most.result most
    (ne_eqb c.args.first.0 c.args.second.0 c.if-first-second.false) c.if-most-limit.false
