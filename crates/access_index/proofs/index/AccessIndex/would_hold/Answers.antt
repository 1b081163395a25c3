use Rattle.std.proofs.Common.{◌≡◌, [], true, length, refl, ap, sym, ◌∙◌, subst, arith}
use Rattle.std.specs.Prelude.{nat_eq, nat_lt, IsTrue, ◌↔◌}
use Rattle.std.specs.Option.{unwrap_or}
use Rattle.std.specs.Map.{lookup}
use Rattle.beas_core.specs.Groups.{member_columns}
use Rattle.access_index.specs.Hashing.{hash_of}
use Rattle.access_index.specs.Index.{tuple_of, key_of, WouldHold}
use Rattle.access_index.proofs.Changing.{picked}
use Rattle.access_index.proofs.Storing.{bucket_at, found_bucket}
use Rattle.access_index.proofs.Holding.{would_by_group, nothing_there, Told, told, group_found, seen, searched, Searched}
use Rattle.access_index.proofs.index.AccessIndex.would_hold.Goals.{After-is_ok, In-None, Then-group-self}
use Rattle.access_index.proofs.index.AccessIndex.would_hold.Goals as goal

pub group_in-group-requires : goal.group_in-group-requires
group_in-group-requires c =
    (found_bucket (length c.self.inside.columns) (length c.self.inside.access.key) c.hash_values.result c.self.inside.buckets.entries c.in-Some.bucket.now
    c.self.invariant.1.buckets (sym c.in-Some.ensures.value)).ordered

pub search-requires : goal.search-requires
search-requires c =
    (found_bucket (length c.self.inside.columns) (length c.self.inside.access.key) c.hash_values.result c.self.inside.buckets.entries c.in-Some.bucket.now
    c.self.invariant.1.buckets (sym c.in-Some.ensures.value)).ordered

-- no bucket has the key's hash
none_told : (c : In-None) → Told (nat_lt 0 c.self.inside.access.bound) c.args.self.now c.args.row.now
none_told c =
    let access = c.self.inside.access in
    let entries = c.self.inside.buckets.entries in
    let hash = c.hash_values.ensures ∙ ap hash_of (picked c.as_slice-2.result.now access.key c.as_slice.result.now c.args.row.now c.as_slice-2.ensures
    c.as_slice.ensures) in
    let none = ap (λ h. lookup (nat_eq h) entries) (sym hash) ∙ sym c.in-None.ensures.value in
    told access (length c.self.inside.columns) c.self.inside.total entries c.self.invariant.1 c.args.row.now c.args.self.now c.self.view_is
    (nat_lt 0 access.bound) (nothing_there access (length c.self.inside.columns) c.self.inside.total entries c.self.invariant.1 c.args.row.now none)

pub returns-in-None-clause-exactly : goal.returns-in-None-clause-exactly
returns-in-None-clause-exactly c = (none_told (goal.at.returns-in-None-clause-exactly c).In-None).exactly

pub returns-in-None-clause-holds : goal.returns-in-None-clause-holds
returns-in-None-clause-holds c = (none_told (goal.at.returns-in-None-clause-holds c).In-None).holds

-- the group has room
then_told : (c : Then-group-self) → Told true c.args.self.now c.args.row.now
then_told c =
    let access = c.self.inside.access in
    let row = c.args.row.now in
    let entries = c.self.inside.buckets.entries in
    let n = length c.self.inside.columns in
    let key_is = picked c.as_slice-2.result.now access.key c.as_slice.result.now row c.as_slice-2.ensures c.as_slice.ensures in
    let bucket_is : c.in-Some.bucket.now ≡ bucket_at entries (hash_of (key_of access row)) =
    ap (λ o. unwrap_or o []) c.in-Some.ensures.value ∙ ap (bucket_at entries) (c.hash_values.ensures ∙ ap hash_of key_is) in
    let len = group_found (bucket_at entries (hash_of (key_of access row))) c.in-Some.bucket.now (length access.key) c.len.result (key_of access row) _
    c.group_in-group.result.from
    c.group_in-group.result.len bucket_is c.len.ensures key_is c.group_in-group.ensures.within c.group_in-group.ensures.members in
    let would = would_by_group access n c.self.inside.total entries c.self.invariant.1 row (omega (arith, len, c.if-group-self.true)) in
    told access n c.self.inside.total entries c.self.invariant.1 row c.args.self.now c.self.view_is true (λ _. would, λ _. refl)

pub returns-then-group-self-clause-exactly : goal.returns-then-group-self-clause-exactly
returns-then-group-self-clause-exactly c = (then_told (goal.at.returns-then-group-self-clause-exactly c).Then-group-self).exactly

pub returns-then-group-self-clause-holds : goal.returns-then-group-self-clause-holds
returns-then-group-self-clause-holds c = (then_told (goal.at.returns-then-group-self-clause-holds c).Then-group-self).holds

-- the group is full, so the tuple has to stand in it
else_told : (c : After-is_ok) → Told c.is_ok.result c.args.self.now c.args.row.now
else_told c =
    let access = c.self.inside.access in
    let row = c.args.row.now in
    let entries = c.self.inside.buckets.entries in
    let n = length c.self.inside.columns in
    let full = c.if-group-self.false in
    let key_is = picked c.as_slice-2.result.now access.key c.as_slice.result.now row c.as_slice-2.ensures c.as_slice.ensures in
    let tuple_is = picked c.as_slice-4.result.now (member_columns access) c.as_slice-3.result.now row (c.as_slice-4.ensures ∙ c.self.invariant.0)
    c.as_slice-3.ensures in
    let bucket_is : c.in-Some.bucket.now ≡ bucket_at entries (hash_of (key_of access row)) =
    ap (λ o. unwrap_or o []) c.in-Some.ensures.value ∙ ap (bucket_at entries) (c.hash_values.ensures ∙ ap hash_of key_is) in
    let len = group_found (bucket_at entries (hash_of (key_of access row))) c.in-Some.bucket.now (length access.key) c.len.result (key_of access row) _
    c.group_in-group.result.from
    c.group_in-group.result.len bucket_is c.len.ensures key_is c.group_in-group.ensures.within c.group_in-group.ensures.members in
    let said = subst (λ ts. Searched access n c.self.inside.total entries c.self.invariant.1 row c.search.result ts (tuple_of access row)) bucket_is
    (subst (λ x. Searched access n c.self.inside.total entries c.self.invariant.1 row c.search.result c.in-Some.bucket.now x) tuple_is c.search.ensures) in
    let exactly = searched access n c.self.inside.total entries c.self.invariant.1 row c.search.result said (omega (arith, len, full)) in
    told access n c.self.inside.total entries c.self.invariant.1 row c.args.self.now c.self.view_is c.is_ok.result
    (subst (λ b. IsTrue b ↔ WouldHold (seen access n c.self.inside.total entries c.self.invariant.1 row) row) (sym c.is_ok.ensures.value) exactly)

pub returns-else-group-self-clause-exactly : goal.returns-else-group-self-clause-exactly
returns-else-group-self-clause-exactly c = (else_told (goal.at.returns-else-group-self-clause-exactly c).After-is_ok).exactly

pub returns-else-group-self-clause-holds : goal.returns-else-group-self-clause-holds
returns-else-group-self-clause-holds c = (else_told (goal.at.returns-else-group-self-clause-holds c).After-is_ok).holds
