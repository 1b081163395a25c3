use Rattle.std.proofs.Common.{◌+◌, ap, sym, ◌∙◌, subst, refl, arith}
use Rattle.std.specs.List.{insert}
use Rattle.std.proofs.lemmas.Result.{on_ok_weaker}
use Rattle.beas_core.specs.Groups.{project}
use Rattle.access_index.specs.Buckets.{IsOneMore}
use Rattle.access_index.proofs.Counting.{raised, put_in, tuples_within}
use Rattle.access_index.proofs.bucket.count_up.Goals as goal

pub insert-requires-clause-room : goal.insert-requires-clause-room
insert-requires-clause-room c = omega (arith, c.requires.room, tuples_within c.args.bucket.now c.requires.counted)

pub returns-in-Ok-clause-ok : goal.returns-in-Ok-clause-ok
returns-in-Ok-clause-ok c =
    let ts = c.args.bucket.now in
    let tuple = project c.args.tuple.now.columns.now c.args.tuple.now.row.now in
    let d = c.get.result.now in
    subst (λ new. IsOneMore ts new tuple) (sym (c.recount.ensures d))
    (raised ts c.in-Ok.at _ d tuple c.requires.ordered c.requires.counted c.in-Ok.ensures.0 (c.in-Ok.ensures.1 d) refl (ap (λ t. t.count + 1) c.get.ensures))

pub returns-in_ok-tuple-in-Err-clause-ok : goal.returns-in_ok-tuple-in-Err-clause-ok
returns-in_ok-tuple-in-Err-clause-ok c =
    let ts = c.args.bucket.now in
    let tuple = project c.args.tuple.now.columns.now c.args.tuple.now.row.now in
    on_ok_weaker c.insert.result (λ e. subst (λ new. IsOneMore ts new tuple)
    (sym (e ∙ ap (λ t. insert ts c.in-Err.at (record { tuple = t; count = 1 })) c.in_ok-tuple-in-Err.ensures))
    (put_in ts c.in-Err.at tuple c.requires.ordered c.requires.counted c.in-Err.ensures)) c.insert.ensures.ok
