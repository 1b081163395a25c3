-- The keys of a step, from the classes of its key columns.
use Rattle.std.proofs.Common.{◌≡◌, ℕ, List, map, ap, ◌∙◌}
use Rattle.std.proofs.Math.Path.{fun_ext}
use Rattle.std.specs.List.{zip}
use Rattle.std.proofs.lemmas.Simd.{map-map}
use Rattle.beas_core.specs.declared.schema.Access.{Access}
use Rattle.beas_core.specs.declared.schema.ColumnId.{ColumnId}
use Rattle.beas_core.specs.declared.plan.DStep.{DStep}
use Rattle.beas_core.specs.declared.plan.Normal.{Normal}
use Rattle.beas_core.specs.Types.{Row, ClassSet}
use Rattle.beas_core.specs.Order.{row_cmp}
use Rattle.beas_core.specs.Sets.{distinct}
use Rattle.beas_core.specs.Coverage.{class_at}
use Rattle.beas_core.specs.Derivations.{access_in}
use Rattle.beas_core.specs.Valuations.{classes_in, value_of}
use Rattle.beas_core.specs.Reads.{keys_for}

pub keys_are : (normal : Normal) (accesses : List Access) (s : DStep) (set : ClassSet) (found keys : List Row) (key : List ColumnId)
    (classes key_classes : List ℕ) → key ≡ (access_in accesses s.access).key → key_classes ≡ map (class_at normal s.atom) key → classes ≡ classes_in set
    → keys ≡ map (λ valuation. map (value_of (zip classes valuation)) key_classes) found
    → distinct row_cmp keys ≡ keys_for normal accesses s set found
keys_are normal accesses s set found keys key classes key_classes a b c d =
    ap (distinct row_cmp) (d
    ∙ ap (λ cs. map (λ valuation. map (value_of (zip cs valuation)) key_classes) found) c
    ∙ ap (λ ks. map (λ valuation. map (value_of (zip (classes_in set) valuation)) ks) found) (b ∙ ap (map (class_at normal s.atom)) a)
    ∙ ap (λ f. map f found)
    (fun_ext (λ valuation. map-map (value_of (zip (classes_in set) valuation)) (class_at normal s.atom) (access_in accesses s.access).key)))
