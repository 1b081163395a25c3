-- Dropping steps, from the last to the first.
use Rattle.std.proofs.Common.{◌≡◌, ◌<◌, ◌-◌, ◌∙◌, ℕ, suc, List, ap, arith}
use Rattle.beas_core.specs.declared.schema.Access.{Access}
use Rattle.beas_core.specs.declared.plan.DStep.{DStep}
use Rattle.beas_core.specs.declared.plan.Normal.{Normal}
use Rattle.beas_core.specs.Types.{ClassSet}
use Rattle.beas_core.specs.Pruning.{pruned_at, pruned_below}

-- the last of the places below n is tried first
pub last_tried : (normal : Normal) (accesses : List Access) (start : ClassSet) (n : ℕ) (steps left all : List DStep) → 0 < n
    → left ≡ pruned_at normal accesses start (n - 1) steps → all ≡ pruned_below normal accesses start (n - 1) left
    → all ≡ pruned_below normal accesses start n steps
last_tried normal accesses start n steps left all some a b =
    let e : suc (n - 1) ≡ n = omega (arith, some) in
    b ∙ ap (pruned_below normal accesses start (n - 1)) a ∙ ap (λ m. pruned_below normal accesses start m steps) e
