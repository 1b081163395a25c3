use Rattle.std.proofs.Common.{rules, ap, sym, arith, ◌∙◌}
use Rattle.std.specs.Prelude.{nat_lt}
use Rattle.std.proofs.lemmas.Bool.{ltb-false, ltb-true}
use Rattle.std.proofs.lemmas.List.Sorted.{IsPartitionPoint-from_clause}
use Rattle.beas_core.specs.declared.schema.Access.{Access}
use Rattle.catalogue.proofs.IdFacts.{parted}
use Rattle.report.proofs.LiveFacts.{found_there, no_access, none_there}
use Rattle.report.proofs.plans.live_with_id.Goals.{in_default-via-in-Some+else-access-id, in_default-via-in_default}
use Rattle.report.proofs.plans.live_with_id.Goals as goal

pub returns-in-Some : goal.returns-in-Some
returns-in-Some c =
    let point = IsPartitionPoint-from_clause (λ a. nat_lt a.id.0 c.args.id.0) _ _ c.partition_point-place.ensures.partitioned
    (parted c.args.accesses.now c.args.id c.requires) (λ a r q k. search rules) in
    let there = c.in-Some.ensures.lookup in
    sym (found_there c.args.accesses.now c.args.id c.partition_point-place.result c.requires point c.in-Some.access.now
    (ltb-true _ _ (sym there.0)) there.1 c.if-access-id.true)

pub returns-in_default : goal.returns-in_default
returns-in_default c =
    let point = IsPartitionPoint-from_clause (λ a. nat_lt a.id.0 c.args.id.0) _ _ c.partition_point-place.ensures.partitioned
    (parted c.args.accesses.now c.args.id c.requires) (λ a r q k. search rules) in
    let none = none_there c.args.accesses.now c.args.id c.partition_point-place.result c.requires point in
    sym (elim c.in_default.branch [
      | in_default-via-in-Some+else-access-id w ↦
          none w.in-Some.access.now (λ l e. w.if-access-id.false (ap (λ (a : Access). a.id.0) w.in-Some.ensures.lookup.1 ∙ e))
      | in_default-via-in_default w ↦ none (no_access c.args.id) (λ l e. omega (arith, l, ltb-false _ _ (sym w.in_default.ensures.lookup.0)))
    ])
