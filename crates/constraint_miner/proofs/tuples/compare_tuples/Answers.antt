use Rattle.std.proofs.Common.{◌≡◌, true, false, sym, ◌∙◌, ap, refl, nat_eq}
use Rattle.std.specs.declared.cmp.Ordering.{Ordering}
use Rattle.std.specs.declared.cmp.Ordering.TheVariants.{Less, Equal, Greater}
use Rattle.std.specs.Ordering.{ordering_index, ordering_then}
use Rattle.beas_core.specs.Order.{row_cmp}
use Rattle.beas_core.specs.Groups.{project}
use Rattle.constraint_miner.proofs.RunFacts.{tuples_by_parts}
use Rattle.constraint_miner.proofs.tuples.compare_tuples.Goals as goal

at_tie : (o p : Ordering) → nat_eq (ordering_index o) 1 ≡ true → ordering_then o p ≡ p
at_tie Less p e = cc
at_tie Equal p e = refl
at_tie Greater p e = cc

at_none : (o p : Ordering) → nat_eq (ordering_index o) 1 ≡ false → ordering_then o p ≡ o
at_none Less p e = refl
at_none Equal p e = cc
at_none Greater p e = refl

pub returns-then-eq : goal.returns-then-eq
returns-then-eq g c =
    let a = g.T.Tuple.values c.args.a.now in
    let b = g.T.Tuple.values c.args.b.now in
    let fetched : Ordering = row_cmp (project c.args.fetched.now a) (project c.args.fetched.now b) in
    sym (tuples_by_parts c.args.key.now c.args.fetched.now a b
    ∙ ap (λ o. ordering_then o fetched) (sym c.compare_in-order.ensures)
    ∙ at_tie c.compare_in-order.result fetched (sym c.eq.ensures ∙ c.if-eq.true)
    ∙ sym c.compare_in.ensures)

pub returns-else-eq : goal.returns-else-eq
returns-else-eq g c =
    let a = g.T.Tuple.values c.args.a.now in
    let b = g.T.Tuple.values c.args.b.now in
    let fetched : Ordering = row_cmp (project c.args.fetched.now a) (project c.args.fetched.now b) in
    sym (tuples_by_parts c.args.key.now c.args.fetched.now a b
    ∙ ap (λ o. ordering_then o fetched) (sym c.compare_in-order.ensures)
    ∙ at_none c.compare_in-order.result fetched (sym c.eq.ensures ∙ c.if-eq.false))
