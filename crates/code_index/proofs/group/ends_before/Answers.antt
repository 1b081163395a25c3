use Rattle.std.proofs.Common.{◌≡◌, ◌<◌, ◌-◌, [], length, ap, sym, ◌∙◌, subst, arith}
use Rattle.beas_core.specs.Order.{row_cmp}
use Rattle.beas_core.specs.Groups.{member_columns}
use Rattle.access_index.specs.declared.tally.Tally.{Tally}
use Rattle.access_index.specs.Buckets.{IsGap}
use Rattle.labelled_list.specs.declared.coded.Coded.{Coded}
use Rattle.code_index.specs.Reading.{read, read_group, pick}
use Rattle.code_index.proofs.GroupFacts.{read_at, length_group, end_gap}
use Rattle.code_index.proofs.group.ends_before.Goals as goal

pub returns-in-Less : goal.returns-in-Less
returns-in-Less c told =
    let codes = c.args.codes.now in
    let g = c.args.group.now in
    let x = read codes (pick (member_columns c.args.access.now) c.args.row_codes.now) in
    let len = c.len-len.result in
    let long : len ≡ length g = c.len-len.ensures in
    let some : 0 < len = omega (arith, c.if-len-eq0.false) in
    let d0 : Coded = record { codes = []; count = 0 } in
    let last = c.codes.ensures d0 in
    subst (λ n. IsGap (read_group codes g) x n) (length_group codes g)
    (end_gap x (read_group codes g) c.requires (len - 1) (omega (arith, some, long, length_group codes g))
    (λ d. ap (λ (t : Tally). row_cmp t.tuple x) (read_at codes g (len - 1) d0 d (omega (arith, some, long)))
    ∙ ap (λ tuple. row_cmp (read codes tuple) x) (sym last) ∙ sym c.compare_tuple.ensures ∙ c.in-Less.is))
