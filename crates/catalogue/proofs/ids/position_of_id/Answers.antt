use Rattle.std.proofs.Common.{rules}
use Rattle.std.specs.Prelude.{nat_lt}
use Rattle.std.proofs.lemmas.List.Sorted.{IsPartitionPoint-from_clause}
use Rattle.catalogue.proofs.IdFacts.{located, located_at, parted}
use Rattle.catalogue.proofs.ids.position_of_id.Goals as goal

pub returns-clause-within : goal.returns-clause-within
returns-clause-within c =
    let point = IsPartitionPoint-from_clause (λ a. nat_lt a.id.0 c.args.id.0) _ _ c.partition_point.ensures.partitioned
    (parted c.args.accesses.now c.args.id c.requires.rise) (λ a r q k. search rules) in
    (located c.args.accesses.now c.args.id c.partition_point.result c.requires.rise c.requires.live point).within

pub returns-clause-found : goal.returns-clause-found
returns-clause-found c =
    let point = IsPartitionPoint-from_clause (λ a. nat_lt a.id.0 c.args.id.0) _ _ c.partition_point.ensures.partitioned
    (parted c.args.accesses.now c.args.id c.requires.rise) (λ a r q k. search rules) in
    (located c.args.accesses.now c.args.id c.partition_point.result c.requires.rise c.requires.live point).found

pub returns-clause-has_id : goal.returns-clause-has_id
returns-clause-has_id c =
    let point = IsPartitionPoint-from_clause (λ a. nat_lt a.id.0 c.args.id.0) _ _ c.partition_point.ensures.partitioned
    (parted c.args.accesses.now c.args.id c.requires.rise) (λ a r q k. search rules) in
    (located c.args.accesses.now c.args.id c.partition_point.result c.requires.rise c.requires.live point).has_id

pub returns-then-accesses-guess-clause-found : goal.returns-then-accesses-guess-clause-found
returns-then-accesses-guess-clause-found c =
    (located_at c.args.accesses.now c.args.id c.args.id.0 c.index-accesses-guess.result c.requires.rise c.if-guess-accesses.true
    c.if-accesses-guess.true).found

pub returns-then-accesses-guess-clause-has_id : goal.returns-then-accesses-guess-clause-has_id
returns-then-accesses-guess-clause-has_id c =
    (located_at c.args.accesses.now c.args.id c.args.id.0 c.index-accesses-guess.result c.requires.rise c.if-guess-accesses.true
    c.if-accesses-guess.true).has_id
