use Rattle.std.proofs.Common.{◌≡◌, ◌<◌, ◌≤◌, ◌+◌, [], get_or, length, take, drop, ap, sym, ◌∙◌, subst, arith}
use Rattle.std.specs.Prelude.{nat_eq, Some}
use Rattle.std.specs.Option.{unwrap_or}
use Rattle.std.specs.List.{filter}
use Rattle.std.specs.Map.{lookup, values_of}
use Rattle.beas_core.specs.Groups.{group_of}
use Rattle.access_index.specs.Hashing.{hash_of}
use Rattle.access_index.specs.Buckets.{is_key, tuples_in}
use Rattle.access_index.specs.declared.start.GroupStart.{GroupStart}
use Rattle.access_index.specs.Index.{Index, IsIndexOf, members_at, stands_at, start_at}
use Rattle.access_index.proofs.Counting.{tuples_within}
use Rattle.access_index.proofs.Storing.{bucket_at, found_bucket, bucket_within, few_buckets}
use Rattle.access_index.proofs.Holding.{members_are, members_len, members_stand, probed, none_from}
use Rattle.access_index.proofs.index.AccessIndex.probe_as.Given as given
use Rattle.access_index.proofs.index.AccessIndex.probe_as.Goals.{After-group_in-group}
use Rattle.access_index.proofs.index.AccessIndex.probe_as.Goals as goal

pub group_in-group-requires : goal.group_in-group-requires
group_in-group-requires g c =
    (found_bucket (length c.self.inside.columns) (length c.self.inside.access.key) c.hash_values.result c.self.inside.buckets.entries c.index.result.now
    c.self.invariant.1.buckets (sym c.in-Some.ensures.value ∙ c.index.ensures)).ordered

pub overflow_cast-start : goal.overflow_cast-start
overflow_cast-start g c =
    let few = few_buckets (length c.self.inside.columns) (length c.self.inside.access.key) c.self.inside.total c.self.inside.buckets.entries
    c.self.invariant.1 in
    omega (arith, few, c.recall_few_rows.ensures, ap (λ (s : Index). s.total) c.self.view_is, c.in-Some.ensures.within)

-- the bucket that was found, and where the key's group stands in it
module _ (g : given.Over) (c : After-group_in-group g) where
  found : lookup (nat_eq c.hash_values.result) c.self.inside.buckets.entries ≡ Some c.index.result.now
  found = sym c.in-Some.ensures.value ∙ c.index.ensures

  within : c.group_in-group.result.from + c.group_in-group.result.len ≤ c.self.inside.total
  within =
      let few = bucket_within (length c.self.inside.columns) (length c.self.inside.access.key) c.hash_values.result c.self.inside.total
      c.self.inside.buckets.entries c.index.result.now c.self.invariant.1 found in
      let b = found_bucket (length c.self.inside.columns) (length c.self.inside.access.key) c.hash_values.result c.self.inside.buckets.entries
      c.index.result.now c.self.invariant.1.buckets found in
      let long = tuples_within c.index.result.now b.counted in
      let range = c.group_in-group.ensures.within in
      omega (arith, few, long, range)

  few_rows : c.self.inside.total < 4294967296
  few_rows = omega (arith, c.recall_few_rows.ensures, ap (λ (s : Index). s.total) c.self.view_is)

pub overflow_cast-start-2 : goal.overflow_cast-start-2
overflow_cast-start-2 g c =
    let at = (goal.at.overflow_cast-start-2 g c).After-group_in-group in
    omega (arith, within g at, few_rows g at)

pub overflow_cast-group : goal.overflow_cast-group
overflow_cast-group g c =
    let at = (goal.at.overflow_cast-group g c).After-group_in-group in
    omega (arith, within g at, few_rows g at)

pub returns-clause-members : goal.returns-clause-members
returns-clause-members g c rows =
    let at = (goal.at.returns-clause-members g c).After-group_in-group in
    let access = c.self.inside.access in
    let entries = c.self.inside.buckets.entries in
    let key = c.args.key.now in
    let ts = c.index.result.now in
    let here : ts ≡ bucket_at entries (hash_of key) = sym (ap (λ o. unwrap_or o []) (found g at)) ∙ ap (bucket_at entries) c.hash_values.ensures in
    let kept = c.group_in-group.ensures.members ∙ ap (λ v. filter (is_key v key) ts) c.len.ensures in
    subst (λ (s : Index). IsIndexOf s rows → members_at s c.counted-2.result ≡ group_of rows s.access key) c.self.view_is
    (λ is. members_are (values_of entries) c.in-Some.index c.group_in-group.result.from c.group_in-group.result.len ts c.counted-2.result
    c.index.ensures (ap start_at c.counted-2.ensures.place ∙ c.pack.ensures) c.counted-2.ensures.len
    ∙ ap tuples_in kept ∙ probed access (length c.self.inside.columns) c.self.inside.total entries c.self.invariant.1 rows key ts is here)

pub returns-clause-len : goal.returns-clause-len
returns-clause-len g c =
    subst (λ (s : Index). c.counted-2.result.len ≡ length (members_at s c.counted-2.result)) c.self.view_is
    (members_len (values_of c.self.inside.buckets.entries) c.in-Some.index c.group_in-group.result.from c.group_in-group.result.len c.index.result.now
    c.counted-2.result c.index.ensures (ap start_at c.counted-2.ensures.place ∙ c.pack.ensures) c.counted-2.ensures.len c.group_in-group.ensures.within)

pub returns-clause-stands : goal.returns-clause-stands
returns-clause-stands g c =
    subst (λ (s : Index). stands_at s c.counted-2.result) c.self.view_is
    (members_stand (values_of c.self.inside.buckets.entries) c.in-Some.index c.group_in-group.result.from c.group_in-group.result.len c.index.result.now
    c.counted-2.result c.index.ensures (ap start_at c.counted-2.ensures.place ∙ c.pack.ensures) c.counted-2.ensures.len c.group_in-group.ensures.within)

pub returns-in-None-clause-members : goal.returns-in-None-clause-members
returns-in-None-clause-members g c rows =
    let access = c.self.inside.access in
    let entries = c.self.inside.buckets.entries in
    let key = c.args.key.now in
    let absent = none_from (lookup (nat_eq c.hash_values.result) entries) c.in-None.ensures.found in
    let here = sym (ap (λ o. unwrap_or o []) absent) ∙ ap (bucket_at entries) c.hash_values.ensures in
    subst (λ (s : Index). IsIndexOf s rows → members_at s c.counted.result ≡ group_of rows s.access key) c.self.view_is
    (λ is. ap (λ m. take m (drop (start_at c.counted.result.place).from (tuples_in (get_or (values_of entries) (start_at c.counted.result.place).bucket []))))
    c.counted.ensures.len ∙ probed access (length c.self.inside.columns) c.self.inside.total entries c.self.invariant.1 rows key [] is here)
