use Rattle.std.proofs.Common.{◌≡◌, ◌≤◌, ◌+◌, ◌-◌, ◌++◌, ◌∷◌, List, [], cond, length, ap, sym, ◌∙◌, subst, refl, arith}
use Rattle.std.specs.Prelude.{nat_eq, Some, None, is_some}
use Rattle.std.specs.Option.{unwrap_or}
use Rattle.std.specs.Map.{lookup, values_of}
use Rattle.indexmap.specs.IndexMap.{swap_remove_entry}
use Rattle.beas_core.specs.declared.value.Value.{Value}
use Rattle.beas_core.specs.Groups.{member_columns, project}
use Rattle.blocked_list.proofs.Joined.{all_at}
use Rattle.access_index.specs.Hashing.{hash_of}
use Rattle.access_index.specs.Buckets.{AllCounted, IsBucket, IsGap, IsOneMore, IsStored}
use Rattle.access_index.specs.Index.{Index, IsIndexOf, key_of, tuple_of}
use Rattle.access_index.proofs.Changing.{IsRemoved, removed_from, removed_whole, picked, counted_there}
use Rattle.access_index.proofs.Counting.{tuples_within, count_within, last_one, gap_uncounted}
use Rattle.access_index.proofs.Holding.{absent_count}
use Rattle.access_index.proofs.Storing.{bucket_at, found_bucket, bucket_within, set_same, some_counted}
use Rattle.access_index.proofs.index.AccessIndex.remove.Goals.{After-count_down, After-swap_remove, In-Ok}
use Rattle.access_index.proofs.index.AccessIndex.remove.Goals as goal

pub search-requires : goal.search-requires
search-requires c =
    (found_bucket (length c.self.inside.columns) (length c.self.inside.access.key) c.hash_values-hash.result c.self.inside.buckets.entries c.in-Some.bucket.now
    c.self.invariant.1.buckets (sym c.in-Some.ensures.value)).ordered

-- the row's tuple is in the bucket of its key's hash, so the index counts a row
module _ (c : In-Ok) where
  found : lookup (nat_eq c.hash_values-hash.result) c.self.inside.buckets.entries ≡ Some c.in-Some.bucket.now
  found = sym c.in-Some.ensures.value

  own : IsBucket (length c.self.inside.columns) (length c.self.inside.access.key) c.hash_values-hash.result c.in-Some.bucket.now
  own = found_bucket (length c.self.inside.columns) (length c.self.inside.access.key) c.hash_values-hash.result c.self.inside.buckets.entries
      c.in-Some.bucket.now c.self.invariant.1.buckets found

  hash : c.hash_values-hash.result ≡ hash_of (key_of c.self.inside.access c.args.row.now)
  hash = c.hash_values-hash.ensures ∙ ap hash_of (picked c.as_slice-2.result.now c.self.inside.access.key c.as_slice.result.now c.args.row.now
      c.as_slice-2.ensures c.as_slice.ensures)

  same : project c.as_slice-4.result.now c.as_slice-3.result.now ≡ tuple_of c.self.inside.access c.args.row.now
  same = picked c.as_slice-4.result.now (member_columns c.self.inside.access) c.as_slice-3.result.now c.args.row.now
      (c.as_slice-4.ensures ∙ c.self.invariant.0) c.as_slice-3.ensures

  least : 1 ≤ c.self.inside.total
  least =
      let there = c.in-Ok.ensures.0 in
      let long = tuples_within c.in-Some.bucket.now own.counted in
      let most = bucket_within (length c.self.inside.columns) (length c.self.inside.access.key) c.hash_values-hash.result c.self.inside.total
      c.self.inside.buckets.entries c.in-Some.bucket.now c.self.invariant.1 found in
      omega (arith, there, long, most)

  one : c.self.inside.total ≡ (c.self.inside.total - 1) + 1
  one = omega (arith, least)

  stored : IsStored (length c.self.inside.columns) (length c.self.inside.access.key) c.self.inside.buckets.entries ((c.self.inside.total - 1) + 1)
  stored = subst (IsStored (length c.self.inside.columns) (length c.self.inside.access.key) c.self.inside.buckets.entries) one c.self.invariant.1

  -- and it is the index of these rows, with one that may go
  was_index : (front back : List (List Value)) → IsIndexOf c.args.self.now (front ++ c.args.row.now ∷ back)
      → IsIndexOf (record { access = c.self.inside.access; total = (c.self.inside.total - 1) + 1; buckets = values_of c.self.inside.buckets.entries })
      (front ++ c.args.row.now ∷ back)
  was_index front back is =
      subst (λ t. IsIndexOf (record { access = c.self.inside.access; total = t; buckets = values_of c.self.inside.buckets.entries })
      (front ++ c.args.row.now ∷ back)) one
      (subst (λ (s : Index). IsIndexOf s (front ++ c.args.row.now ∷ back)) (sym c.self.view_is) is)

pub count_down-requires-clause-ordered : goal.count_down-requires-clause-ordered
count_down-requires-clause-ordered c = (own (goal.at.count_down-requires-clause-ordered c).In-Ok).ordered

pub count_down-requires-clause-counted : goal.count_down-requires-clause-counted
count_down-requires-clause-counted c = (own (goal.at.count_down-requires-clause-counted c).In-Ok).counted

pub overflow_sub-self : goal.overflow_sub-self
overflow_sub-self c = least (goal.at.overflow_sub-self c).In-Ok

pub overflow_sub-self-2 : goal.overflow_sub-self-2
overflow_sub-self-2 c = least (goal.at.overflow_sub-self-2 c).In-Ok

-- the tuple has another row, or the bucket another tuple
removed_one : (c : After-count_down) → c.hash_values-hash.result ≡ hash_of (key_of c.self.inside.access c.args.row.now)
    → project c.as_slice-4.result.now c.as_slice-3.result.now ≡ tuple_of c.self.inside.access c.args.row.now
    → IsStored (length c.self.inside.columns) (length c.self.inside.access.key) c.self.inside.buckets.entries ((c.self.inside.total - 1) + 1)
    → AllCounted c.in-Some.bucket.now
    → IsRemoved c.self.inside.access (length c.self.inside.columns) (c.self.inside.total - 1)
    (c.get_mut.follows.lender c.count_down.new.bucket).entries c.self.inside.buckets.entries c.args.row.now
removed_one c hash same stored counted =
    let ts = c.in-Some.bucket.now in
    let found : lookup (nat_eq c.hash_values-hash.result) c.self.inside.buckets.entries ≡ Some ts = sym c.in-Some.ensures.value in
    let d = c.get.result.now in
    let there = c.in-Ok.ensures.0 in
    let long = tuples_within ts counted in
    let m = subst (IsOneMore c.count_down.new.bucket ts) (c.in-Ok.ensures.1 d ∙ same) (c.count_down.ensures d) in
    let some = some_counted c.count_down.new.bucket (omega (
      arith,
      m.sum,
      long,
      c.if-max-gt1.true,
      c.max.ensures,
      c.len.ensures,
      count_within ts c.in-Ok.at d there,
      ap (λ t. t.count) c.get.ensures,
    )) in
    let written = c.get_mut.follows.holds c.count_down.new.bucket in
    removed_from c.self.inside.access (length c.self.inside.columns) (c.self.inside.total - 1) (c.get_mut.follows.lender c.count_down.new.bucket).entries
    c.self.inside.buckets.entries c.args.row.now c.hash_values-hash.result (ap length c.self.invariant.0) hash
    c.count_down.new.bucket ts stored found written.0 written.4 (written.3 (ap is_some found)).0 m some

pub invariant_of-self-then-max-gt1 : goal.invariant_of-self-then-max-gt1
invariant_of-self-then-max-gt1 c =
    let at = goal.at.invariant_of-self-then-max-gt1 c in
    (c.self.invariant.0, (removed_one at.After-count_down (hash at.In-Ok) (same at.In-Ok) (stored at.In-Ok) (own at.In-Ok).counted).stored)

pub returns-then-max-gt1-clause-rest : goal.returns-then-max-gt1-clause-rest
returns-then-max-gt1-clause-rest c front back is =
    let at = goal.at.returns-then-max-gt1-clause-rest c in
    (removed_one at.After-count_down (hash at.In-Ok) (same at.In-Ok) (stored at.In-Ok) (own at.In-Ok).counted).index front back
    (was_index at.In-Ok front back is)

-- the bucket goes with its last row
removed_last : (c : After-swap_remove) → c.hash_values-hash.result ≡ hash_of (key_of c.self.inside.access c.args.row.now)
    → project c.as_slice-4.result.now c.as_slice-3.result.now ≡ tuple_of c.self.inside.access c.args.row.now
    → IsStored (length c.self.inside.columns) (length c.self.inside.access.key) c.self.inside.buckets.entries ((c.self.inside.total - 1) + 1)
    → IsBucket (length c.self.inside.columns) (length c.self.inside.access.key) c.hash_values-hash.result c.in-Some.bucket.now
    → IsRemoved c.self.inside.access (length c.self.inside.columns) (c.self.inside.total - 1)
    c.swap_remove.new.self.entries c.self.inside.buckets.entries c.args.row.now
removed_last c hash same stored own =
    let h = c.hash_values-hash.result in
    let old = c.self.inside.buckets.entries in
    let ts = c.in-Some.bucket.now in
    let at = c.in-Ok.at in
    let d = c.get.result.now in
    let there = c.in-Ok.ensures.0 in
    let found : lookup (nat_eq h) old ≡ Some ts = sym c.in-Some.ensures.value in
    let count = all_at (λ t. 1 ≤ t.count) ts at d there own.counted in
    let m = last_one ts at d (tuple_of c.self.inside.access c.args.row.now) own.ordered own.counted there (c.in-Ok.ensures.1 d ∙ same)
    (omega (arith, count, c.if-max-gt1.false, c.max.ensures, ap (λ t. t.count) c.get.ensures))
    (omega (arith, c.if-max-gt1.false, c.max.ensures, c.len.ensures)) in
    let kept = (c.get_mut.follows.holds ts).0 ∙ set_same h old ts found in
    let gone = c.swap_remove.ensures in
    removed_whole c.self.inside.access (length c.self.inside.columns) (c.self.inside.total - 1) c.swap_remove.new.self.entries old c.args.row.now h
    (ap length c.self.invariant.0) hash ts stored found
    (gone.entries ∙ ap (swap_remove_entry (nat_eq h)) kept) gone.unique (λ q. gone.updates.0 q ∙ ap (λ es. cond (nat_eq h q) None (lookup (nat_eq q) es)) kept)
    m

pub invariant_of-self-2 : goal.invariant_of-self-2
invariant_of-self-2 c =
    let at = goal.at.invariant_of-self-2 c in
    (c.self.invariant.0, (removed_last at.After-swap_remove (hash at.In-Ok) (same at.In-Ok) (stored at.In-Ok) (own at.In-Ok)).stored)

pub returns-clause-rest : goal.returns-clause-rest
returns-clause-rest c front back is =
    let at = goal.at.returns-clause-rest c in
    (removed_last at.After-swap_remove (hash at.In-Ok) (same at.In-Ok) (stored at.In-Ok) (own at.In-Ok)).index front back
    (was_index at.In-Ok front back is)

-- a row that isn't there leaves the index, and isn't among the rows
pub returns-in-None-clause-rest : goal.returns-in-None-clause-rest
returns-in-None-clause-rest c front back is =
    let access = c.self.inside.access in
    let n = length c.self.inside.columns in
    let total = c.self.inside.total in
    let old = c.self.inside.buckets.entries in
    let row = c.args.row.now in
    let hash = c.hash_values-hash.ensures ∙ ap hash_of (picked c.as_slice-2.result.now access.key c.as_slice.result.now row c.as_slice-2.ensures
    c.as_slice.ensures) in
    let here = ap (λ o. unwrap_or o []) c.in-None.ensures.value ∙ ap (bucket_at old) hash in
    absurd (counted_there access n total old front back row c.self.invariant.1
    (subst (λ (s : Index). IsIndexOf s (front ++ row ∷ back)) (sym c.self.view_is) is)
    (absent_count access old row [] here refl))

pub invariant_of-self-in-Err : goal.invariant_of-self-in-Err
invariant_of-self-in-Err c =
    let access = c.self.inside.access in
    let n = length c.self.inside.columns in
    let w = length access.key in
    let total = c.self.inside.total in
    let old = c.self.inside.buckets.entries in
    let h = c.hash_values-hash.result in
    let ts = c.in-Some.bucket.now in
    let found : lookup (nat_eq h) old ≡ Some ts = sym c.in-Some.ensures.value in
    let kept = (c.get_mut.follows.holds ts).0 ∙ set_same h old ts found in
    (c.self.invariant.0, subst (λ es. IsStored n w es total) (sym kept) c.self.invariant.1)

pub returns-in-Err-clause-rest : goal.returns-in-Err-clause-rest
returns-in-Err-clause-rest c front back is =
    let access = c.self.inside.access in
    let n = length c.self.inside.columns in
    let total = c.self.inside.total in
    let old = c.self.inside.buckets.entries in
    let h = c.hash_values-hash.result in
    let row = c.args.row.now in
    let hash = c.hash_values-hash.ensures ∙ ap hash_of (picked c.as_slice-2.result.now access.key c.as_slice.result.now row c.as_slice-2.ensures
    c.as_slice.ensures) in
    let ts = c.in-Some.bucket.now in
    let found : lookup (nat_eq h) old ≡ Some ts = sym c.in-Some.ensures.value in
    let same = picked c.as_slice-4.result.now (member_columns access) c.as_slice-3.result.now row (c.as_slice-4.ensures ∙ c.self.invariant.0)
    c.as_slice-3.ensures in
    let here = ap (λ o. unwrap_or o []) (sym found) ∙ ap (bucket_at old) hash in
    let gap = subst (λ x. IsGap ts x c.in-Err.field-0) same c.in-Err.ensures in
    absurd (counted_there access n total old front back row c.self.invariant.1
    (subst (λ (s : Index). IsIndexOf s (front ++ row ∷ back)) (sym c.self.view_is) is)
    (absent_count access old row ts here (gap_uncounted (tuple_of access row) ts c.in-Err.field-0 gap)))
