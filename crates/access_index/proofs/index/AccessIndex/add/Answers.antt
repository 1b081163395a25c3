use Rattle.std.proofs.Common.{◌≡◌, ◌++◌, [], cond, length, ap, sym, ◌∙◌, subst, arith}
use Rattle.std.specs.Prelude.{nat_eq, Some, None, is_some}
use Rattle.std.specs.Map.{lookup, set_value, values_of}
use Rattle.indexmap.specs.IndexMap.{insert_entry}
use Rattle.indexmap.proofs.CallerLemmas.{insert_entry-new}
use Rattle.beas_core.specs.Groups.{member_columns}
use Rattle.blocked_list.proofs.Edits.{always_on_err}
use Rattle.access_index.specs.Hashing.{hash_of}
use Rattle.access_index.specs.Buckets.{IsOneMore, IsStored}
use Rattle.access_index.specs.Index.{Index, IsIndexOf}
use Rattle.access_index.proofs.Changing.{IsAdded, added_to, added_new, picked}
use Rattle.access_index.proofs.Storing.{found_bucket, bucket_within, set_same}
use Rattle.access_index.proofs.index.AccessIndex.add.Goals.{In_ok-count_up, In_ok-insert}
use Rattle.access_index.proofs.index.AccessIndex.add.Goals as goal

pub count_up-requires-clause-ordered : goal.count_up-requires-clause-ordered
count_up-requires-clause-ordered c =
    (found_bucket (length c.self.inside.columns) (length c.self.inside.access.key) c.hash_values-hash.result c.self.inside.buckets.entries c.in-Some.bucket.now
    c.self.invariant.1.buckets (sym c.in-Some.ensures.value)).ordered

pub count_up-requires-clause-counted : goal.count_up-requires-clause-counted
count_up-requires-clause-counted c =
    (found_bucket (length c.self.inside.columns) (length c.self.inside.access.key) c.hash_values-hash.result c.self.inside.buckets.entries c.in-Some.bucket.now
    c.self.invariant.1.buckets (sym c.in-Some.ensures.value)).counted

pub count_up-requires-clause-room : goal.count_up-requires-clause-room
count_up-requires-clause-room c =
    omega (
      arith,
      c.requires,
      ap (λ (s : Index). s.total) c.self.view_is,
      bucket_within (length c.self.inside.columns) (length c.self.inside.access.key) c.hash_values-hash.result c.self.inside.total c.self.inside.buckets.entries
          c.in-Some.bucket.now
          c.self.invariant.1 (sym c.in-Some.ensures.value),
    )

pub invariant_of-self : goal.invariant_of-self
invariant_of-self c =
    let old = c.self.inside.buckets.entries in
    let h = c.hash_values-hash.result in
    let e = (c.get_mut.follows.holds c.count_up.new.bucket).0 ∙ ap (set_value (nat_eq h) old) c.in_err-count_up.ensures.err
    ∙ set_same h old c.in-Some.bucket.now (sym c.in-Some.ensures.value) in (
      c.self.invariant.0,
      subst (λ es. IsStored (length c.self.inside.columns) (length c.self.inside.access.key) es c.self.inside.total) (sym e)
          c.self.invariant.1,
    )

pub returns-in_err-count_up-clause-err : goal.returns-in_err-count_up-clause-err
returns-in_err-count_up-clause-err c =
    let old = c.self.inside.buckets.entries in
    let h = c.hash_values-hash.result in
    let e = (c.get_mut.follows.holds c.count_up.new.bucket).0 ∙ ap (set_value (nat_eq h) old) c.in_err-count_up.ensures.err
    ∙ set_same h old c.in-Some.bucket.now (sym c.in-Some.ensures.value) in
    always_on_err c.from_residual.result
    (ap (λ es. record { access = c.self.inside.access; total = c.self.inside.total; buckets = values_of es }) e ∙ c.self.view_is)

-- the bucket with one row more
added_there : (c : In_ok-count_up) → IsAdded c.self.inside.access (length c.self.inside.columns) c.self.inside.total c.self.inside.buckets.entries
    (c.get_mut.follows.lender c.count_up.new.bucket).entries c.args.row.now
added_there c =
    let access = c.self.inside.access in
    let old = c.self.inside.buckets.entries in
    let h = c.hash_values-hash.result in
    let row = c.args.row.now in
    let hash = c.hash_values-hash.ensures ∙ ap hash_of (picked c.as_slice-2.result.now access.key c.as_slice.result.now row c.as_slice-2.ensures
    c.as_slice.ensures) in
    let same = picked c.as_slice-4.result.now (member_columns access) c.as_slice-3.result.now row (c.as_slice-4.ensures ∙ c.self.invariant.0)
    c.as_slice-3.ensures in
    let w = c.get_mut.follows.holds c.count_up.new.bucket in
    let found : lookup (nat_eq h) old ≡ Some c.in-Some.bucket.now = sym c.in-Some.ensures.value in
    added_to access (length c.self.inside.columns) c.self.inside.total old (c.get_mut.follows.lender c.count_up.new.bucket).entries row h
    (ap length c.self.invariant.0) hash
    c.in-Some.bucket.now c.count_up.new.bucket c.self.invariant.1 found w.0 w.4 (w.3 (ap is_some found)).0
    (subst (IsOneMore c.in-Some.bucket.now c.count_up.new.bucket) same c.in_ok-count_up.ensures.ok)

pub invariant_of-self-in-Some : goal.invariant_of-self-in-Some
invariant_of-self-in-Some c = (c.self.invariant.0, (added_there (goal.at.invariant_of-self-in-Some c).In_ok-count_up).stored)

pub returns-in-Some-clause-ok : goal.returns-in-Some-clause-ok
returns-in-Some-clause-ok c front back is =
    (added_there (goal.at.returns-in-Some-clause-ok c).In_ok-count_up).index front back (subst (λ s. IsIndexOf s (front ++ back)) (sym c.self.view_is) is)

-- a bucket of its own
added_anew : (c : In_ok-insert) → IsAdded c.self.inside.access (length c.self.inside.columns) c.self.inside.total c.self.inside.buckets.entries
    c.insert.new.self.entries c.args.row.now
added_anew c =
    let access = c.self.inside.access in
    let old = c.self.inside.buckets.entries in
    let row = c.args.row.now in
    let hash = c.hash_values-hash.ensures ∙ ap hash_of (picked c.as_slice-2.result.now access.key c.as_slice.result.now row c.as_slice-2.ensures
    c.as_slice.ensures) in
    let same = picked c.as_slice-4.result.now (member_columns access) c.as_slice-3.result.now row (c.as_slice-4.ensures ∙ c.self.invariant.0)
    c.as_slice-3.ensures in
    let h = c.hash_values-hash.result in
    let m = c.in_ok-insert.ensures in
    let same_map = c.get_mut.follows.holds-at-none in
    let absent : lookup (nat_eq h) old ≡ None = sym c.in_default.ensures.value in
    added_new access (length c.self.inside.columns) c.self.inside.total old c.insert.new.self.entries row h (ap length c.self.invariant.0) hash
    c.in_ok-bucket.bucket c.self.invariant.1 absent (m.entries ∙ ap (λ b. insert_entry nat_eq b.entries h c.in_ok-bucket.bucket) same_map
    ∙ insert_entry-new nat_eq c.self.inside.buckets h c.in_ok-bucket.bucket absent) m.unique
    (λ q. m.updates.0 q ∙ ap (λ b. cond (nat_eq h q) (Some c.in_ok-bucket.bucket) (lookup (nat_eq q) b.entries)) same_map)
    (subst (IsOneMore [] c.in_ok-bucket.bucket) same c.in_ok-bucket.ensures)

pub invariant_of-self-2 : goal.invariant_of-self-2
invariant_of-self-2 c = (c.self.invariant.0, (added_anew (goal.at.invariant_of-self-2 c).In_ok-insert).stored)

pub returns-clause-ok : goal.returns-clause-ok
returns-clause-ok c front back is =
    (added_anew (goal.at.returns-clause-ok c).In_ok-insert).index front back (subst (λ s. IsIndexOf s (front ++ back)) (sym c.self.view_is) is)
