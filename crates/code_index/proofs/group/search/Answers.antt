use Rattle.std.proofs.Common.{◌<◌, [], length, ap, sym, ◌∙◌, subst, arith}
use Rattle.std.specs.Ordering.{is_lt}
use Rattle.beas_core.specs.Order.{row_cmp}
use Rattle.beas_core.proofs.ValueOrder.{row_cmp_tells}
use Rattle.access_index.proofs.Places.{tuple_place, gap_at, place_le, stands_before}
use Rattle.access_index.specs.declared.tally.Tally.{Tally}
use Rattle.access_index.specs.Buckets.{IsGap}
use Rattle.beas_core.specs.Groups.{member_columns}
use Rattle.labelled_list.specs.declared.coded.Coded.{Coded}
use Rattle.code_index.specs.Reading.{read, read_group, read_tally, pick}
use Rattle.code_index.proofs.GroupFacts.{read_at, length_group, filter_read}
use Rattle.code_index.proofs.group.search.Goals as goal

pub partition_point-at-requires : goal.partition_point-at-requires
partition_point-at-requires c i j d le lt e =
    let codes = c.args.codes.now in
    let g = c.args.group.now in
    let x = read codes (pick (member_columns c.args.access.now) c.args.row_codes.now) in
    let len = length_group codes g in
    ap (λ (t : Tally). is_lt (row_cmp t.tuple x)) (sym (read_at codes g i d (read_tally codes d) (omega (arith, le, lt))))
    ∙ tuple_place x (read_group codes g) c.requires i j (read_tally codes d) le (omega (arith, lt, len))
    (ap (λ (t : Tally). is_lt (row_cmp t.tuple x)) (read_at codes g j d (read_tally codes d) lt) ∙ e)

pub returns-then-at-end : goal.returns-then-at-end
returns-then-at-end c =
    let codes = c.args.codes.now in
    let g = c.args.group.now in
    let x = read codes (pick (member_columns c.args.access.now) c.args.row_codes.now) in
    gap_at x (read_group codes g) c.partition_point-at.result c.requires (c.partition_point-at.ensures ∙ filter_read codes (stands_before x) g)
    (λ d l e. omega (arith, l, c.if-at-end.true, c.len-end.ensures, length_group codes g))

pub codes-requires : goal.codes-requires
codes-requires c =
    let codes = c.args.codes.now in
    let g = c.args.group.now in
    let x = read codes (pick (member_columns c.args.access.now) c.args.row_codes.now) in
    omega (arith, c.if-at-end.false, c.len-end.ensures, c.partition_point-at.ensures, filter_read codes (stands_before x) g, place_le x (read_group codes g), length_group codes g)

pub returns-in-Equal : goal.returns-in-Equal
returns-in-Equal c =
    let codes = c.args.codes.now in
    let g = c.args.group.now in
    let x = read codes (pick (member_columns c.args.access.now) c.args.row_codes.now) in
    let within : c.partition_point-at.result < length g =
    omega (arith, c.if-at-end.false, c.len-end.ensures, c.partition_point-at.ensures, filter_read codes (stands_before x) g, place_le x (read_group codes g), length_group codes g) in (
      within,
      λ d. ap (read codes) (sym (c.codes.ensures d)) ∙ row_cmp_tells (read codes c.codes.result.now) x (sym c.compare_tuple.ensures ∙ c.in-Equal.is),
    )

pub returns-in_default : goal.returns-in_default
returns-in_default c =
    let codes = c.args.codes.now in
    let g = c.args.group.now in
    let x = read codes (pick (member_columns c.args.access.now) c.args.row_codes.now) in
    let at = c.partition_point-at.result in
    let e0 : Coded = record { codes = []; count = 0 } in
    gap_at x (read_group codes g) at c.requires (c.partition_point-at.ensures ∙ filter_read codes (stands_before x) g)
    (λ d l e. c.in_default.not-Equal
    (c.compare_tuple.ensures
    ∙ ap (λ ws. row_cmp (read codes ws) x) (c.codes.ensures e0)
    ∙ ap (λ (t : Tally). row_cmp t.tuple x) (sym (read_at codes g at e0 d (omega (arith, l, length_group codes g))))
    ∙ e))

pub returns-then-ends_before : goal.returns-then-ends_before
returns-then-ends_before c =
    let codes = c.args.codes.now in
    let x = read codes (pick (member_columns c.args.access.now) c.args.row_codes.now) in
    subst (λ n. IsGap (read_group codes c.args.group.now) x n) (sym c.len-end.ensures) (c.ends_before.ensures c.if-ends_before.true)
