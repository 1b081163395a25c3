use Rattle.beas_core.specs.Order.{row_cmp, row_cmp_total}
use Rattle.beas_core.specs.Sets.{distinct}
use Rattle.beas_core.proofs.Sets.{Has-distinct, Has-from_distinct, Has-from_contains, Contains-from_has, IsInOrder-distinct, same_sets}
use Rattle.beas_core.proofs.ValueOrder.{row_cmp_tells}
use Rattle.beas_laws.proofs.order.law_set.Goals as goal

pub returns : goal.returns
returns c = record {
  ascending = λ rows. IsInOrder-distinct row_cmp_total row_cmp_tells rows;
  members = λ rows row. (
    λ h. Contains-from_has rows row (Has-from_distinct row_cmp_total row_cmp_tells rows row (Has-from_contains (distinct row_cmp rows) row h)),
    λ h. Contains-from_has (distinct row_cmp rows) row (Has-distinct row_cmp_total row_cmp_tells rows row (Has-from_contains rows row h)),
  );
  same = λ left right a b h. same_sets row_cmp_total row_cmp_tells left right a b (λ row. (
    λ m. Has-from_contains right row ((h row).0 (Contains-from_has left row m)),
    λ m. Has-from_contains left row ((h row).1 (Contains-from_has right row m)),
  ));
}
