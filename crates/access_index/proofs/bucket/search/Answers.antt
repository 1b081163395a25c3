use Rattle.std.proofs.Common.{◌<◌, length, ap, sym, ◌∙◌, arith}
use Rattle.std.proofs.lemmas.List.{get_or_default}
use Rattle.beas_core.specs.Order.{row_cmp}
use Rattle.beas_core.proofs.ValueOrder.{row_cmp_tells}
use Rattle.access_index.proofs.Places.{tuple_place, gap_at, place_le}
use Rattle.access_index.proofs.bucket.search.Goals as goal

pub partition_point-at-requires : goal.partition_point-at-requires
partition_point-at-requires g c = tuple_place (g.W.Values.list c.args.tuple.now) c.args.bucket.now c.requires

pub returns-then-at-len : goal.returns-then-at-len
returns-then-at-len g c =
    gap_at (g.W.Values.list c.args.tuple.now) c.args.bucket.now c.partition_point-at.result c.requires c.partition_point-at.ensures
    (λ d l e. omega (arith, l, c.if-at-len.true, c.len.ensures))

pub get-requires : goal.get-requires
get-requires g c = omega (arith, c.if-at-len.false, c.len.ensures, c.partition_point-at.ensures, place_le (g.W.Values.list c.args.tuple.now) c.args.bucket.now)

pub returns-in-Equal : goal.returns-in-Equal
returns-in-Equal g c =
    let ts = c.args.bucket.now in
    let tuple = g.W.Values.list c.args.tuple.now in
    let within : c.partition_point-at.result < length ts = omega (arith, c.if-at-len.false, c.len.ensures, c.partition_point-at.ensures, place_le tuple ts) in
    let same = sym c.as_slice.ensures ∙ row_cmp_tells c.as_slice.result.now tuple (sym c.compare_values.ensures ∙ c.in-Equal.is) in
    (within, λ d. ap (λ t. t.tuple) (get_or_default ts c.partition_point-at.result d c.get.result.now within ∙ sym c.get.ensures) ∙ same)

pub returns-in_default : goal.returns-in_default
returns-in_default g c =
    let ts = c.args.bucket.now in
    let tuple = g.W.Values.list c.args.tuple.now in
    gap_at tuple ts c.partition_point-at.result c.requires c.partition_point-at.ensures
    (λ d l e. c.in_default.not-Equal
    (c.compare_values.ensures ∙ ap (λ x. row_cmp x tuple) (c.as_slice.ensures
    ∙ ap (λ t. t.tuple) (c.get.ensures ∙ get_or_default ts c.partition_point-at.result c.get.result.now d l)) ∙ e))
