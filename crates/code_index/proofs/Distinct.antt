-- Tuples in the order of their values are distinct.
use Rattle.std.proofs.Common.{get_or, ap, sym, ◌∙◌, List, arith}
use Rattle.beas_core.specs.declared.value.Value.{Value}
use Rattle.beas_core.specs.Order.{row_cmp}
use Rattle.beas_core.specs.Sets.{IsInOrder}
use Rattle.access_index.specs.declared.tally.Tally.{Tally}
use Rattle.access_index.specs.Buckets.{tuples_in}
use Rattle.access_index.proofs.Places.{in_order_at}
use Rattle.labelled_list.specs.declared.coded.Coded.{Coded}
use Rattle.labelled_list.specs.Labels.{AreDistinct}
use Rattle.code_index.specs.Reading.{read, read_group, read_tally}
use Rattle.code_index.proofs.GroupFacts.{read_at, length_group, not_before_itself}

-- no two tuples of a group have the same codes
pub group_distinct : (codes : List Value) (g : List Coded) → IsInOrder row_cmp (tuples_in (read_group codes g)) → AreDistinct g
group_distinct codes g o i j d h l e =
    let t = read_tally codes d in
    let ts = read_group codes g in
    let long = length_group codes g in
    let own = read codes (get_or g j d).codes in
    let left = ap (λ (u : Tally). u.tuple) (read_at codes g i d t (omega (arith, h, l))) ∙ ap (read codes) e in
    let right = ap (λ (u : Tally). u.tuple) (read_at codes g j d t l) in
    not_before_itself own
    (ap (λ y. row_cmp y own) (sym left) ∙ ap (row_cmp (get_or ts i t).tuple) (sym right) ∙ in_order_at own ts i j t o h (omega (arith, l, long)))
