-- An index after a row more or less.
use Rattle.std.proofs.Common.{◌≡◌, ◌<◌, ◌+◌, ℕ, Bool, true, false, cond, List, [], ◌∷◌, ◌++◌, length, take, refl, ap, sym, ◌∙◌, arith}
use Rattle.std.specs.Prelude.{nat_eq, Option, Some, None}
use Rattle.std.specs.Option.{unwrap_or}
use Rattle.std.specs.List.{IsDistinct}
use Rattle.std.specs.Map.{keys_of, values_of, lookup, set_value}
use Rattle.std.proofs.lemmas.Bool.{eqb-true, eq-eqb}
use Rattle.std.proofs.lemmas.List.{length-append}
use Rattle.indexmap.specs.IndexMap.{swap_remove_entry}
use Rattle.beas_core.specs.declared.value.Value.{Value}
use Rattle.beas_core.specs.declared.schema.Access.{Access}
use Rattle.beas_core.specs.declared.schema.ColumnId.{ColumnId}
use Rattle.beas_core.specs.Groups.{project, same_row, member_columns}
use Rattle.beas_core.proofs.Groups.{same_row_itself, length-project}
use Rattle.access_index.specs.declared.tally.Tally.{Tally}
use Rattle.access_index.specs.Hashing.{hash_of}
use Rattle.access_index.specs.Buckets.{one_if, IsOneMore, IsStored}
use Rattle.access_index.specs.Index.{Index, IsIndexOf, tuple_of, key_of}
use Rattle.access_index.proofs.Storing.{bucket_at, count_at, count_after, stored_more, stored_less, stored_new, stored_gone}
use Rattle.access_index.proofs.Indexing.{take_tuple, with_more, counts_of_index, index_of_counts}

-- a look-up after an edit at one hash
updated : (h q : ℕ) (ts : List Tally) (o p : Option (List Tally)) → p ≡ cond (nat_eq h q) (Some ts) o → unwrap_or p [] ≡ cond (nat_eq h q) ts (unwrap_or o [])
updated h q ts o p e = ap (λ r. unwrap_or r []) e ∙ by (nat_eq h q)
  where
    by : (b : Bool) → unwrap_or (cond b (Some ts) o) [] ≡ cond b ts (unwrap_or o [])
    by true = refl
    by false = refl

dropped : (h q : ℕ) (o p : Option (List Tally)) → p ≡ cond (nat_eq h q) None o → unwrap_or p [] ≡ cond (nat_eq h q) [] (unwrap_or o [])
dropped h q o p e = ap (λ r. unwrap_or r []) e ∙ by (nat_eq h q)
  where
    by : (b : Bool) → unwrap_or (cond b None o) [] ≡ cond b [] (unwrap_or o [])
    by true = refl
    by false = refl

-- an edit read the other way
turned : (h : ℕ) (old new : List (ℕ × List Tally)) (less more : List Tally) → bucket_at old h ≡ more
    → ((q : ℕ) → bucket_at new q ≡ cond (nat_eq h q) less (bucket_at old q))
    → (q : ℕ) → bucket_at old q ≡ cond (nat_eq h q) more (bucket_at new q)
turned h old new less more was now q = by (nat_eq h q) refl
  where
    by : (b : Bool) → nat_eq h q ≡ b → bucket_at old q ≡ cond b more (bucket_at new q)
    by true e = ap (bucket_at old) (sym (eqb-true h q e)) ∙ was
    by false e = sym (now q ∙ ap (λ b. cond b less (bucket_at old q)) e)

now_here : (h : ℕ) (old new : List (ℕ × List Tally)) (less : List Tally) → ((q : ℕ) → bucket_at new q ≡ cond (nat_eq h q) less (bucket_at old q))
    → bucket_at new h ≡ less
now_here h old new less now = now h ∙ ap (λ b. cond b less (bucket_at old h)) (eq-eqb h h refl)

module _ (access : Access) (n total : ℕ) (few many : List (ℕ × List Tally)) (row : List Value) where
  abbrev pub seen_few : Index
  seen_few = record { access = access; total = total; buckets = values_of few }

  abbrev pub seen_many : Index
  seen_many = record { access = access; total = total + 1; buckets = values_of many }

  abbrev pub OneMoreRow : Type 0
  OneMoreRow = (x : List Value) → count_at (length access.key) many x ≡ count_at (length access.key) few x + one_if (same_row (tuple_of access row) x)

  index_added : IsStored n (length access.key) few total → IsStored n (length access.key) many (total + 1) → OneMoreRow
      → (front back : List (List Value)) → IsIndexOf seen_few (front ++ back) → IsIndexOf seen_many (front ++ row ∷ back)
  index_added s t more front back is =
      index_of_counts access n (total + 1) many t (front ++ row ∷ back)
      (λ x. omega (arith, more x, counts_of_index access n total few s (front ++ back) is x, with_more access front back row x))
      (omega (arith, is.total_is, length-append front back, length-append front (row ∷ back)))

  index_removed : IsStored n (length access.key) few total → IsStored n (length access.key) many (total + 1) → OneMoreRow
      → (front back : List (List Value)) → IsIndexOf seen_many (front ++ row ∷ back) → IsIndexOf seen_few (front ++ back)
  index_removed s t more front back is =
      index_of_counts access n total few s (front ++ back)
      (λ x. omega (arith, more x, counts_of_index access n (total + 1) many t (front ++ row ∷ back) is x, with_more access front back row x))
      (omega (arith, is.total_is, length-append front back, length-append front (row ∷ back)))

  pub record IsAdded : Type 0 where
    pub stored : IsStored n (length access.key) many (total + 1)
    pub index : (front back : List (List Value)) → IsIndexOf seen_few (front ++ back) → IsIndexOf seen_many (front ++ row ∷ back)

  pub record IsRemoved : Type 0 where
    pub stored : IsStored n (length access.key) few total
    pub index : (front back : List (List Value)) → IsIndexOf seen_many (front ++ row ∷ back) → IsIndexOf seen_few (front ++ back)

  module _ (h : ℕ) (wide : n ≡ length (member_columns access)) (hash : h ≡ hash_of (key_of access row)) where
    tuple_wide : n ≡ length (tuple_of access row)
    tuple_wide = wide ∙ sym (length-project (member_columns access) row)

    tuple_hash : h ≡ hash_of (take (length access.key) (tuple_of access row))
    tuple_hash = hash ∙ ap hash_of (sym (take_tuple access row))

    pub added_to : (less more : List Tally) → IsStored n (length access.key) few total → lookup (nat_eq h) few ≡ Some less
        → many ≡ set_value (nat_eq h) few more → IsDistinct nat_eq (keys_of many)
        → ((q : ℕ) → lookup (nat_eq q) many ≡ cond (nat_eq h q) (Some more) (lookup (nat_eq q) few)) → IsOneMore less more (tuple_of access row) → IsAdded
    added_to less more s found is unique now m =
        let w = length access.key in
        let t = stored_more n w h total few many less more (tuple_of access row) s found is unique tuple_wide tuple_hash m in
        record {
          stored = t;
          index = index_added s t (λ x. count_after w h few many less more (tuple_of access row) x tuple_hash m (ap (λ o. unwrap_or o []) found)
              (λ q. updated h q more (lookup (nat_eq q) few) (lookup (nat_eq q) many) (now q)));
        }

    pub added_new : (more : List Tally) → IsStored n (length access.key) few total → lookup (nat_eq h) few ≡ None → many ≡ few ++ (h, more) ∷ []
        → IsDistinct nat_eq (keys_of many)
        → ((q : ℕ) → lookup (nat_eq q) many ≡ cond (nat_eq h q) (Some more) (lookup (nat_eq q) few)) → IsOneMore [] more (tuple_of access row) → IsAdded
    added_new more s absent is unique now m =
        let w = length access.key in
        let t = stored_new n w h total few many more (tuple_of access row) s is unique tuple_wide tuple_hash m in
        record {
          stored = t;
          index = index_added s t (λ x. count_after w h few many [] more (tuple_of access row) x tuple_hash m (ap (λ o. unwrap_or o []) absent)
              (λ q. updated h q more (lookup (nat_eq q) few) (lookup (nat_eq q) many) (now q)));
        }

    pub removed_from : (less more : List Tally) → IsStored n (length access.key) many (total + 1) → lookup (nat_eq h) many ≡ Some more
        → few ≡ set_value (nat_eq h) many less → IsDistinct nat_eq (keys_of few)
        → ((q : ℕ) → lookup (nat_eq q) few ≡ cond (nat_eq h q) (Some less) (lookup (nat_eq q) many)) → IsOneMore less more (tuple_of access row)
        → 0 < length less → IsRemoved
    removed_from less more s found is unique now m some =
        let w = length access.key in
        let t = stored_less n w h total many few less more (tuple_of access row) s found is unique m some in
        let after = λ (q : ℕ). updated h q less (lookup (nat_eq q) many) (lookup (nat_eq q) few) (now q) in
        record {
          stored = t;
          index = index_removed t s (λ x. count_after w h few many less more (tuple_of access row) x tuple_hash m (now_here h many few less after)
              (turned h many few less more (ap (λ o. unwrap_or o []) found) after));
        }

    pub removed_whole : (more : List Tally) → IsStored n (length access.key) many (total + 1) → lookup (nat_eq h) many ≡ Some more
        → few ≡ swap_remove_entry (nat_eq h) many → IsDistinct nat_eq (keys_of few)
        → ((q : ℕ) → lookup (nat_eq q) few ≡ cond (nat_eq h q) None (lookup (nat_eq q) many)) → IsOneMore [] more (tuple_of access row) → IsRemoved
    removed_whole more s found is unique now m =
        let w = length access.key in
        let t = stored_gone n w h total many few more (tuple_of access row) s found is unique m in
        let after = λ (q : ℕ). dropped h q (lookup (nat_eq q) many) (lookup (nat_eq q) few) (now q) in
        record {
          stored = t;
          index = index_removed t s (λ x. count_after w h few many [] more (tuple_of access row) x tuple_hash m (now_here h many few [] after)
              (turned h many few [] more (ap (λ o. unwrap_or o []) found) after));
        }

-- a row that is among the rows is counted
pub counted_there : (access : Access) (n total : ℕ) (entries : List (ℕ × List Tally)) (front back : List (List Value)) (row : List Value)
    → IsStored n (length access.key) entries total
    → IsIndexOf (record { access = access; total = total; buckets = values_of entries }) (front ++ row ∷ back)
    → count_at (length access.key) entries (tuple_of access row) ≡ 0 → ⊥
counted_there access n total entries front back row s is none =
    omega (
      arith,
      counts_of_index access n total entries s (front ++ row ∷ back) is (tuple_of access row),
      none,
      with_more access front back row (tuple_of access row),
      ap (λ b. cond {A = ℕ} b 1 0) (same_row_itself (tuple_of access row)),
    )

-- what is picked, where it is read through slices
pub picked : (cs ds : List ColumnId) (r s : List Value) → cs ≡ ds → r ≡ s → project cs r ≡ project ds s
picked cs ds r s e f = ap (λ us. project us r) e ∙ ap (project ds) f
