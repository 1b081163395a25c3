use Rattle.std.proofs.Common.{sym, ◌∙◌, refl}
use Rattle.std.specs.Cmp.Lexicographic.{lists_ties}
use Rattle.beas_core.specs.Order.{value_cmp}
use Rattle.beas_core.proofs.Groups.{same_row_true}
use Rattle.access_index.proofs.index.begin_alike.Goals as goal

pub returns : goal.returns
returns c h =
    sym c.front.ensures
    ∙ same_row_true c.front.result.now c.front-2.result.now (sym (lists_ties value_cmp (λ x y. refl) c.front.result.now c.front-2.result.now) ∙ sym c.eq.ensures
    ∙ h)
    ∙ c.front-2.ensures
