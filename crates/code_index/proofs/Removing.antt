-- A row goes out of its group: its tuple is counted once less, or the group goes with its last row.
use Rattle.std.proofs.Common.{◌≡◌, ◌≤◌, ◌<◌, ◌∙◌, ℕ, List, [], length, get_or, ap, sym, subst, arith}
use Rattle.std.specs.Prelude.{nat_eq, Some, max}
use Rattle.std.specs.List.{IsDistinct}
use Rattle.std.specs.Map.{keys_of, lookup, set_value}
use Rattle.std.specs.Cmp.Lexicographic.{pointwise}
use Rattle.indexmap.specs.IndexMap.{swap_remove_entry}
use Rattle.beas_core.specs.declared.value.Value.{Value}
use Rattle.beas_core.specs.declared.schema.Access.{Access}
use Rattle.beas_core.specs.Order.{row_cmp}
use Rattle.beas_core.specs.Groups.{member_columns}
use Rattle.beas_core.specs.Sets.{IsInOrder}
use Rattle.blocked_list.proofs.Joined.{all_at}
use Rattle.access_index.specs.declared.tally.Tally.{Tally}
use Rattle.access_index.specs.Buckets.{tuples_in, AllCounted, IsOneMore}
use Rattle.access_index.proofs.Counting.{tuples_within, count_within, last_one}
use Rattle.labelled_list.specs.declared.coded.Coded.{Coded}
use Rattle.code_index.specs.Reading.{CodeIndex, IsInOrderFor, IsOrdered, AllCodesKnown, read, read_group, read_tally, pick}
use Rattle.code_index.proofs.Storing.{some_counted}
use Rattle.code_index.proofs.GroupFacts.{length_group, read_at}
use Rattle.code_index.proofs.Ordering.{Entry, group_holds, group_within, known_group}
use Rattle.code_index.proofs.Steps.{Left, left_in, left_whole}

abbrev pub no_tuple : Coded
no_tuple = record { codes = []; count = 0 }

module _ (access : Access) (total : ℕ) (es : List Entry) (row_codes : List ℕ) (self : CodeIndex)
    (view : record { access = access; total = total; groups = es } ≡ self) (w : IsOrdered (record { access = access; total = total; groups = es }))
    (key : List ℕ) (key_is : key ≡ pick access.key row_codes) (g : List Coded) (found : lookup (pointwise nat_eq key) es ≡ Some g)
    (at : ℕ) (there : at < length g) where
  -- there is a row
  pub some_row : 1 ≤ total
  some_row =
      let b = group_holds access w.codes total es key w.in_order g found in
      omega (arith, there, length_group w.codes g, tuples_within (read_group w.codes g) b.counted, group_within access w.codes total es key w.in_order g found)

  module _ (same : (d : Coded) → (get_or g at d).codes ≡ pick (member_columns access) row_codes) (new : List Entry) where
    pub left_counted : (less : List Coded) → new ≡ set_value (pointwise nat_eq key) es less → IsDistinct (pointwise nat_eq) (keys_of new)
        → ((codes : List Value) (d : Coded) → IsInOrder row_cmp (tuples_in (read_group codes g)) → AllCounted (read_group codes g)
        → IsOneMore (read_group codes less) (read_group codes g) (read codes (get_or g at d).codes))
        → ((codes : List Value) → AllCodesKnown codes g → AllCodesKnown codes less)
        → 1 < max (length g) (get_or g at no_tuple).count
        → (codes : List Value) → IsInOrderFor codes self → Left access total es new row_codes self codes
    left_counted less is unique down known many codes o =
        let one = λ (cs : List Value) (p : IsInOrderFor cs (record { access = access; total = total; groups = es })).
        let h = group_holds access cs total es key p g found in
        subst (λ ws. IsOneMore (read_group cs less) (read_group cs g) (read cs ws)) (same no_tuple) (down cs no_tuple h.ordered h.counted) in
        let b = group_holds access w.codes total es key w.in_order g found in
        let ts = read_group w.codes g in
        let long = length_group w.codes g in
        let count = ap (λ (t : Tally). t.count) (read_at w.codes g at no_tuple (read_tally w.codes no_tuple) there) in
        let more : 0 < length less = omega (
          arith,
          length_group w.codes less,
          some_counted (read_group w.codes less)
              (omega (
                arith,
                (one w.codes w.in_order).sum,
                long,
                tuples_within ts b.counted,
                many,
                count_within ts at (read_tally w.codes no_tuple) (omega (arith, there, long)),
                count,
              )),
        ) in
        let p = subst (IsInOrderFor codes) (sym view) o in
        left_in access total es new row_codes self view some_row key key_is g found codes o less is unique (one codes p)
        (known codes (known_group access codes total es key p g found)) more

    pub left_without : new ≡ swap_remove_entry (pointwise nat_eq key) es → IsDistinct (pointwise nat_eq) (keys_of new)
        → max (length g) (get_or g at no_tuple).count ≤ 1
        → (codes : List Value) → IsInOrderFor codes self → Left access total es new row_codes self codes
    left_without is unique few codes o =
        let p = subst (IsInOrderFor codes) (sym view) o in
        let h = group_holds access codes total es key p g found in
        let ts = read_group codes g in
        let long = length_group codes g in
        let at_is = read_at codes g at no_tuple (read_tally codes no_tuple) there in
        let count = all_at (λ (t : Tally). 1 ≤ t.count) ts at (read_tally codes no_tuple) (omega (arith, there, long)) h.counted in
        left_whole access total es new row_codes self view some_row key key_is g found codes o is unique
        (last_one ts at (read_tally codes no_tuple) (read codes (pick (member_columns access) row_codes)) h.ordered h.counted (omega (arith, there, long))
        (ap (λ (t : Tally). t.tuple) at_is ∙ ap (read codes) (same no_tuple))
        (omega (arith, count, few, ap (λ (t : Tally). t.count) at_is))
        (omega (arith, long, few, there)))
