use Rattle.std.proofs.Common.{◌≡◌, ◌+◌, [], true, length, get_or, ap, sym, ◌∙◌, subst, arith}
use Rattle.std.specs.Prelude.{slice_get}
use Rattle.std.specs.Map.{values_of}
use Rattle.std.proofs.lemmas.Bool.{eqb-true}
use Rattle.beas_core.specs.Groups.{value_in, member_columns}
use Rattle.blocked_list.proofs.Joined.{all_at}
use Rattle.access_index.specs.Buckets.{is_wide}
use Rattle.access_index.specs.declared.start.GroupStart.{GroupStart}
use Rattle.access_index.specs.Index.{Index, members_at, stands_at, start_at}
use Rattle.access_index.proofs.Holding.{bucket_at_place, member_at, stand_within}
use Rattle.access_index.proofs.index.AccessIndex.value.Goals as goal

pub value_of-requires-clause-width : goal.value_of-requires-clause-width
value_of-requires-clause-width c =
    let entries = c.self.inside.buckets.entries in
    let hits = c.args.hits.now in
    let ts = c.index-bucket.result.now in
    let b = c.get.result.now in
    let start : c.unpack-start.result ≡ start_at hits.place = c.unpack-start.ensures ∙ ap start_at c.place.ensures in
    let there = ap (λ (s : GroupStart). slice_get (values_of entries) s.bucket) (sym start) ∙ c.index-bucket.ensures in
    let stands = subst (λ (s : Index). stands_at s hits) (sym c.self.view_is) c.requires.stands in
    let within = stand_within (values_of entries) hits ts c.args.i there c.requires.member stands in
    let own = c.get.ensures ∙ ap (λ (s : GroupStart). get_or ts (s.from + c.args.i) b) start in
    let n = length c.self.inside.columns in
    let bucket = bucket_at_place n (length c.self.inside.access.key) entries (start_at hits.place).bucket ts c.self.invariant.1.buckets there in
    let wide = eqb-true n (length (get_or ts ((start_at hits.place).from + c.args.i) b).tuple)
    (all_at (λ t. is_wide n t.tuple ≡ true) ts ((start_at hits.place).from + c.args.i) b within bucket.1.wide) in
    omega (arith, wide, ap length c.as_slice.ensures, ap length c.as_slice-2.ensures, ap (λ t. length t.tuple) own)

pub returns : goal.returns
returns c =
    let entries = c.self.inside.buckets.entries in
    let hits = c.args.hits.now in
    let ts = c.index-bucket.result.now in
    let b = c.get.result.now in
    let start : c.unpack-start.result ≡ start_at hits.place = c.unpack-start.ensures ∙ ap start_at c.place.ensures in
    let there = ap (λ (s : GroupStart). slice_get (values_of entries) s.bucket) (sym start) ∙ c.index-bucket.ensures in
    let stands = subst (λ (s : Index). stands_at s hits) (sym c.self.view_is) c.requires.stands in
    let within = stand_within (values_of entries) hits ts c.args.i there c.requires.member stands in
    let own = c.get.ensures ∙ ap (λ (s : GroupStart). get_or ts (s.from + c.args.i) b) start in
    let access = c.self.inside.access in
    subst (λ (s : Index). c.value_of.result.now ≡ value_in (member_columns s.access) (get_or (members_at s hits) c.args.i []) c.args.column) c.self.view_is
    (c.value_of.ensures
    ∙ ap (λ cs. value_in cs c.as_slice-2.result.now c.args.column) (c.as_slice.ensures ∙ c.self.invariant.0)
    ∙ ap (λ t. value_in (member_columns access) t c.args.column)
    (c.as_slice-2.ensures ∙ ap (λ t. t.tuple) own ∙ sym (member_at (values_of entries) hits ts c.args.i b there c.requires.member within)))
