use Rattle.std.proofs.Common.{[], refl, sym, subst}
use Rattle.access_index.specs.Index.{IsIndexOf}
use Rattle.code_index.specs.Reading.{IsInOrderFor, IsOrdered, read_index}
use Rattle.code_index.proofs.Ordering.{none_in_order, ordered_none}
use Rattle.code_index.proofs.keyed.KeyedIndex.with_hashing.Goals as goal

pub invariant_of-result : goal.invariant_of-result
invariant_of-result g c = (
  c.requires,
  subst (λ es. IsOrdered (record { access = c.args.access; total = 0; groups = es })) (sym c.with_hasher.ensures.empty) (ordered_none c.args.access),
)

pub returns-clause-in_order : goal.returns-clause-in_order
returns-clause-in_order g c codes distinct =
    subst (λ es. IsInOrderFor codes (record { access = c.args.access; total = 0; groups = es })) (sym c.with_hasher.ensures.empty) (none_in_order codes distinct c.args.access)

pub returns-clause-index : goal.returns-clause-index
returns-clause-index g c codes =
    subst (λ es. IsIndexOf (read_index codes (record { access = c.args.access; total = 0; groups = es })) []) (sym c.with_hasher.ensures.empty)
    (record { tallies_are = λ key. refl; total_is = refl })
