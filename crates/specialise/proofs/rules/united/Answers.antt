use Rattle.std.proofs.Common.{◌<◌, ◌+◌, ◌∙◌, bit_or, ap, arith, subst, sym}
use Rattle.specialise.specs.Trials.{United, entry_at}
use Rattle.specialise.proofs.Masks.{without_less}
use Rattle.specialise.proofs.Tables.{bit_back, bit_from, few_sets, index_is, united_still, united_with}
use Rattle.specialise.proofs.rules.united.Goals as goal
use Rattle.specialise.proofs.rules.united.Goals.{then-set-position-eq1, else-set-position-eq1}

pub offset_bounds-table-set-then-set-position-eq1 : goal.offset_bounds-table-set-then-set-position-eq1
offset_bounds-table-set-then-set-position-eq1 c =
    let n = c.loop-position.position in
    let below : n < 16 = omega (arith, c.loop-position-test.true, c.requires.few) in
    let index = index_is c.args.set n below in
    let less = without_less c.args.set n (bit_from c.args.set n c.if-set-position-eq1.true) in
    let few = few_sets _ c.args.count c.requires.sets c.requires.few in
    record { fits = omega (arith, index, less, few, c.requires.set) }

pub bounds-table-set-then-set-position-eq1 : goal.bounds-table-set-then-set-position-eq1
bounds-table-set-then-set-position-eq1 c =
    let n = c.loop-position.position in
    let below : n < 16 = omega (arith, c.loop-position-test.true, c.requires.few) in
    let index = index_is c.args.set n below in
    let less = without_less c.args.set n (bit_from c.args.set n c.if-set-position-eq1.true) in
    omega (arith, index, less, c.requires.set)

pub loop-position-preserved : goal.loop-position-preserved
loop-position-preserved c =
    let table = c.args.table.now in
    let set = c.args.set in
    let n = c.loop-position.position in
    let all = c.loop-position.all in
    let below : n < 16 = omega (arith, c.loop-position-test.true, c.requires.few) in
    elim c.if-set-position-eq1.branch [
      | then-set-position-eq1 w ↦ subst (United table set (n + 1)) (sym (w.all-is ∙ ap (λ k. bit_or all (entry_at table k)) (index_is set n below)))
          (united_with table set n all c.loop-position.invariant (bit_from set n w.if-set-position-eq1.true))
      | else-set-position-eq1 w ↦ subst (United table set (n + 1)) (sym w.all-is)
          (united_still table set n all c.loop-position.invariant (λ e. w.if-set-position-eq1.false (bit_back set n e)))
    ]
