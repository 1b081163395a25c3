use Rattle.std.proofs.Common.{◌≢◌, ◌+◌, [], ap, sym, ◌∙◌, subst, refl, arith}
use Rattle.std.specs.List.{AllByRecursion, insert}
use Rattle.std.proofs.lemmas.Result.{on_ok_weaker}
use Rattle.access_index.specs.declared.tally.Tally.{Tally}
use Rattle.access_index.specs.Buckets.{IsOneMore}
use Rattle.access_index.proofs.Counting.{tuples_within, count_within}
use Rattle.beas_core.specs.Groups.{member_columns}
use Rattle.labelled_list.specs.declared.coded.Coded.{Coded}
use Rattle.blocked_list.proofs.Joined.{all_set, all_at}
use Rattle.code_index.specs.Reading.{read, read_group, read_tally, pick, AllKnown, AllCodesKnown}
use Rattle.code_index.proofs.Distinct.{group_distinct}
use Rattle.code_index.proofs.GroupFacts.{read_at, length_group, group_raised, group_put, gap_lacks}
use Rattle.code_index.proofs.group.count_up.Goals as goal

pub overflow_add-count : goal.overflow_add-count
overflow_add-count c =
    let codes = c.args.codes.now in
    let g = c.args.group.now in
    let d : Coded = record { codes = []; count = 0 } in
    let l = c.in-Ok.ensures.0 in
    omega (
      arith,
      c.requires.room,
      l,
      length_group codes g,
      count_within (read_group codes g) c.in-Ok.at (read_tally codes d) (omega (arith, l, length_group codes g)),
      ap (λ (t : Tally). t.count) (read_at codes g c.in-Ok.at d (read_tally codes d) l),
      c.count-count.ensures d,
    )

pub insert-requires-clause-room : goal.insert-requires-clause-room
insert-requires-clause-room c =
    omega (arith, c.requires.room, tuples_within (read_group c.args.codes.now c.args.group.now) c.requires.counted, length_group c.args.codes.now c.args.group.now)

pub insert-requires-clause-distinct : goal.insert-requires-clause-distinct
insert-requires-clause-distinct c = group_distinct c.args.codes.now c.args.group.now c.requires.ordered

pub insert-requires-clause-absent : goal.insert-requires-clause-absent
insert-requires-clause-absent c =
    let g = c.args.group.now in
    subst (λ ws. AllByRecursion (λ (item : Coded). item.codes ≢ ws) g) (sym c.in_ok-tuple-in-Err.ensures)
    (gap_lacks c.args.codes.now (pick (member_columns c.args.access.now) c.args.row_codes.now) g c.in-Err.at c.in-Err.ensures)

pub returns-in-Ok-clause-ok : goal.returns-in-Ok-clause-ok
returns-in-Ok-clause-ok c =
    let codes = c.args.codes.now in
    let g = c.args.group.now in
    let x = read codes (pick (member_columns c.args.access.now) c.args.row_codes.now) in
    let d : Coded = record { codes = []; count = 0 } in
    subst (λ new. IsOneMore (read_group codes g) (read_group codes new) x) (sym (c.recount.ensures d))
    (group_raised codes g c.in-Ok.at d c.requires.ordered c.requires.counted c.in-Ok.ensures.0 _ x (c.in-Ok.ensures.1 d) refl
    (ap (λ n. n + 1) (c.count-count.ensures d)))

pub returns-in_ok-tuple-in-Err-clause-ok : goal.returns-in_ok-tuple-in-Err-clause-ok
returns-in_ok-tuple-in-Err-clause-ok c =
    let codes = c.args.codes.now in
    let g = c.args.group.now in
    let tuple = pick (member_columns c.args.access.now) c.args.row_codes.now in
    on_ok_weaker c.insert.result (λ e. subst (λ new. IsOneMore (read_group codes g) (read_group codes new) (read codes tuple))
    (sym (e ∙ ap (λ w. insert g c.in-Err.at (record { codes = w; count = 1 })) c.in_ok-tuple-in-Err.ensures))
    (group_put codes g c.in-Err.at tuple c.requires.ordered c.requires.counted c.in-Err.ensures)) c.insert.ensures.ok

pub returns-in-Ok-clause-known : goal.returns-in-Ok-clause-known
returns-in-Ok-clause-known c =
    let codes = c.args.codes.now in
    let g = c.args.group.now in
    let d : Coded = record { codes = []; count = 0 } in
    subst (AllCodesKnown codes) (sym (c.recount.ensures d))
    (all_set (λ (x : Coded). AllKnown codes x.codes) g c.in-Ok.at _ c.requires.known (all_at (λ (x : Coded). AllKnown codes x.codes) g c.in-Ok.at d c.in-Ok.ensures.0 c.requires.known))
