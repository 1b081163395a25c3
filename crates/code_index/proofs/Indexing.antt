-- An index by groups is that of some rows where its counts are theirs.
use Rattle.std.proofs.Common.{◌≡◌, ◌+◌, ℕ, Bool, true, false, cond, List, [], ◌∷◌, ◌++◌, length, take, refl, ap, sym, ◌∙◌, subst}
use Rattle.std.specs.Prelude.{Option, Some, None}
use Rattle.std.specs.Option.{unwrap_or}
use Rattle.std.specs.List.{filter, flat_map, AllByRecursion, IsDistinct}
use Rattle.std.proofs.lemmas.List.Sums.{sum_by-append, sum_by-cons}
use Rattle.std.specs.Map.{keys_of, values_of, lookup}
use Rattle.beas_core.specs.declared.value.Value.{Value}
use Rattle.beas_core.specs.declared.schema.Access.{Access}
use Rattle.beas_core.specs.Order.{row_cmp}
use Rattle.beas_core.specs.Sets.{IsInOrder}
use Rattle.beas_core.specs.Groups.{same_row, group_of}
use Rattle.beas_core.proofs.Groups.{same_row_itself}
use Rattle.access_index.specs.declared.tally.Tally.{Tally}
use Rattle.access_index.specs.Buckets.{tuples_in, count_for, count_in, is_key, AllCounted}
use Rattle.access_index.specs.Index.{Index, IsIndexOf, tallies, rows_with, index_of}
use Rattle.access_index.proofs.Counting.{count_kept, same_counts}
use Rattle.access_index.proofs.Indexing.{index_count, filter_counted, filter_in_order, group_tuples, group_in_order, counted_map}
use Rattle.code_index.specs.Reading.{IsGroup, IsStored}
use Rattle.code_index.proofs.Storing.{bucket_at, count_all, own_bucket, found_bucket}

count_append : (x : List Value) (ts us : List Tally) → count_in (ts ++ us) x ≡ count_in ts x + count_in us x
count_append x ts us = sum_by-append (count_for x) ts us

-- the count of a tuple in the groups of a key
count_flat : (w : ℕ) (key x : List Value) (entries : List (List Value × List Tally))
    → count_in (flat_map (filter (is_key w key)) (values_of entries)) x ≡ cond (same_row (take w x) key) (count_all entries x) 0
count_flat w key x [] = by (same_row (take w x) key)
  where
    by : (b : Bool) → 0 ≡ cond {A = ℕ} b 0 0
    by true = refl
    by false = refl
count_flat w key x (e ∷ es) =
    count_append x (filter (is_key w key) e.1) (flat_map (filter (is_key w key)) (values_of es))
    ∙ ap (λ m. m + count_in (flat_map (filter (is_key w key)) (values_of es)) x) (count_kept w key x e.1)
    ∙ ap (λ m. cond (same_row (take w x) key) (count_in e.1 x) 0 + m) (count_flat w key x es)
    ∙ by (same_row (take w x) key)
  where
    by : (b : Bool) → cond b (count_in e.1 x) 0 + cond b (count_all es x) 0 ≡ cond b (count_all (e ∷ es) x) 0
    by true = sym (sum_by-cons (λ (d : List Value × List Tally). count_in d.1 x) e es)
    by false = refl

module _ (access : Access) (n total : ℕ) (entries : List (List Value × List Tally)) (stored : IsStored n (length access.key) entries total) (rows : List (List Value))
  where
    abbrev pub index_seen : Index
    index_seen = record { access = access; total = total; buckets = values_of entries }

    pub own : (key : List Value) → tallies index_seen key ≡ filter (is_key (length access.key) key) (bucket_at entries key)
    own key = own_bucket n (length access.key) key entries stored.distinct stored.buckets

    pub counts_of_index : IsIndexOf index_seen rows → (x : List Value) → count_all entries x ≡ rows_with access rows x
    counts_of_index is x =
        let w = length access.key in
        let key = take w x in
        let whole : (m : ℕ) → cond (same_row key key) m 0 ≡ m = λ m. ap (λ b. cond b m 0) (same_row_itself key) in
        sym (whole (count_all entries x)) ∙ sym (count_flat w key x entries)
        ∙ ap (λ ts. count_in ts x) (is.tallies_are key)
        ∙ index_count access rows key x ∙ whole (rows_with access rows x)

    in_order_at : (h : List Value) → IsInOrder row_cmp (tuples_in (bucket_at entries h)) × AllCounted (bucket_at entries h)
    in_order_at h = by (lookup (same_row h) entries) refl
      where
        by : (o : Option (List Tally)) → lookup (same_row h) entries ≡ o → IsInOrder row_cmp (tuples_in (unwrap_or o [])) × AllCounted (unwrap_or o [])
        by None e = (tt, tt)
        by (Some ts) e = let b = found_bucket n (length access.key) h entries ts stored.buckets e in (b.ordered, b.counted)

    pub index_of_counts : ((x : List Value) → count_all entries x ≡ rows_with access rows x) → total ≡ length rows → IsIndexOf index_seen rows
    index_of_counts counts len = record { tallies_are = at; total_is = len }
      where
        at : (key : List Value) → tallies index_seen key ≡ index_of access rows key
        at key =
            let w = length access.key in
            let b = bucket_at entries key in
            own key
            ∙ same_counts (filter (is_key w key) b) (index_of access rows key) (filter_in_order (is_key w key) b (in_order_at key).0)
            (subst (IsInOrder row_cmp) (sym (group_tuples access rows key)) (group_in_order access rows key key))
            (filter_counted (is_key w key) b (in_order_at key).1) (counted_map access rows key (group_of rows access key) (λ x h. h))
            (λ x. ap (λ ts. count_in ts x) (sym (own key)) ∙ count_flat w key x entries
            ∙ ap (λ m. cond (same_row (take w x) key) m 0) (counts x) ∙ sym (index_count access rows key x))

-- how many rows have a tuple, by the group of its key
pub count_bucket : (n w : ℕ) (entries : List (List Value × List Tally)) → IsDistinct same_row (keys_of entries)
    → AllByRecursion (λ e. IsGroup n w e.0 e.1) entries → (x : List Value) → count_all entries x ≡ count_in (bucket_at entries (take w x)) x
count_bucket n w entries d a x =
    let key = take w x in
    let whole : (m : ℕ) → cond (same_row key key) m 0 ≡ m = λ m. ap (λ b. cond b m 0) (same_row_itself key) in
    sym (whole (count_all entries x)) ∙ sym (count_flat w key x entries) ∙ ap (λ ts. count_in ts x) (own_bucket n w key entries d a)
    ∙ count_kept w key x (bucket_at entries key) ∙ whole (count_in (bucket_at entries key) x)
