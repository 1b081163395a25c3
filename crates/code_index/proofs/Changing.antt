-- An index after a row more or less.
use Rattle.std.proofs.Common.{◌≡◌, ◌<◌, ◌+◌, ℕ, cond, List, [], ◌∷◌, ◌++◌, length, take, ap, arith}
use Rattle.std.specs.Prelude.{Some}
use Rattle.std.specs.List.{IsDistinct}
use Rattle.std.specs.Map.{keys_of, values_of, lookup, set_value}
use Rattle.std.proofs.lemmas.List.{length-append}
use Rattle.std.proofs.lemmas.List.Sums.{sum_by-append, sum_by-cons}
use Rattle.indexmap.specs.IndexMap.{swap_remove_entry}
use Rattle.beas_core.specs.declared.value.Value.{Value}
use Rattle.beas_core.specs.declared.schema.Access.{Access}
use Rattle.beas_core.specs.Groups.{same_row}
use Rattle.beas_core.proofs.Groups.{same_row_itself}
use Rattle.access_index.specs.declared.tally.Tally.{Tally}
use Rattle.access_index.specs.Buckets.{count_in, one_if, IsOneMore}
use Rattle.access_index.proofs.Storing.{set_sum}
use Rattle.code_index.specs.Reading.{IsStored}
use Rattle.access_index.specs.Index.{Index, IsIndexOf, tuple_of}
use Rattle.code_index.proofs.Storing.{count_all, gone_sum, stored_more, stored_less, stored_new, stored_gone}
use Rattle.access_index.proofs.Indexing.{with_more}
use Rattle.code_index.proofs.Indexing.{counts_of_index, index_of_counts}

module _ (access : Access) (n total : ℕ) (few many : List (List Value × List Tally)) (tuple : List Value) where
  abbrev pub seen_few : Index
  seen_few = record { access = access; total = total; buckets = values_of few }

  abbrev pub seen_many : Index
  seen_many = record { access = access; total = total + 1; buckets = values_of many }

  abbrev pub CountsOneMore : Type 0
  CountsOneMore = (x : List Value) → count_all many x ≡ count_all few x + one_if (same_row tuple x)

  pub record IsAdded : Type 0 where
    pub few_stored : IsStored n (length access.key) few total
    pub many_stored : IsStored n (length access.key) many (total + 1)
    pub one_more : CountsOneMore

  -- the tuple is that of a row, wherever it stands
  pub index_added : IsAdded → (row : List Value) → tuple ≡ tuple_of access row → (front back : List (List Value)) → IsIndexOf seen_few (front ++ back)
      → IsIndexOf seen_many (front ++ row ∷ back)
  index_added a row same front back is =
      index_of_counts access n (total + 1) many a.many_stored (front ++ row ∷ back)
      (λ x. omega (
        arith,
        a.one_more x,
        counts_of_index access n total few a.few_stored (front ++ back) is x,
        with_more access front back row x,
        ap (λ t. one_if (same_row t x)) same,
      ))
      (omega (arith, is.total_is, length-append front back, length-append front (row ∷ back)))

  pub index_removed : IsAdded → (row : List Value) → tuple ≡ tuple_of access row → (front back : List (List Value))
      → IsIndexOf seen_many (front ++ row ∷ back) → IsIndexOf seen_few (front ++ back)
  index_removed a row same front back is =
      index_of_counts access n total few a.few_stored (front ++ back)
      (λ x. omega (
        arith,
        a.one_more x,
        counts_of_index access n (total + 1) many a.many_stored (front ++ row ∷ back) is x,
        with_more access front back row x,
        ap (λ t. one_if (same_row t x)) same,
      ))
      (omega (arith, is.total_is, length-append front back, length-append front (row ∷ back)))

  module _ (h : List Value) (wide : n ≡ length tuple) (keyed : h ≡ take (length access.key) tuple) where
    pub added_to : (less more : List Tally) → IsStored n (length access.key) few total → lookup (same_row h) few ≡ Some less
        → many ≡ set_value (same_row h) few more → IsDistinct same_row (keys_of many) → IsOneMore less more tuple → IsAdded
    added_to less more s found is unique m = record {
      few_stored = s;
      many_stored = stored_more n (length access.key) h total few many less more tuple s found is unique wide keyed m;
      one_more = λ x. omega (arith, ap (λ es. count_all es x) is, set_sum (λ ts. count_in ts x) (same_row h) few less more found, m.counts x);
    }

    pub added_new : (more : List Tally) → IsStored n (length access.key) few total → many ≡ few ++ (h, more) ∷ []
        → IsDistinct same_row (keys_of many) → IsOneMore [] more tuple → IsAdded
    added_new more s is unique m = record {
      few_stored = s;
      many_stored = stored_new n (length access.key) h total few many more tuple s is unique wide keyed m;
      one_more = λ x. omega (
        arith,
        ap (λ es. count_all es x) is,
        sum_by-append (λ (e : List Value × List Tally). count_in e.1 x) few ((h, more) ∷ []),
        sum_by-cons (λ (e : List Value × List Tally). count_in e.1 x) (h, more) [],
        m.counts x,
      );
    }

  pub removed_from : (h : List Value) (less more : List Tally) → IsStored n (length access.key) many (total + 1) → lookup (same_row h) many ≡ Some more
      → few ≡ set_value (same_row h) many less → IsDistinct same_row (keys_of few) → IsOneMore less more tuple → 0 < length less → IsAdded
  removed_from h less more s found is unique m some = record {
    few_stored = stored_less n (length access.key) h total many few less more tuple s found is unique m some;
    many_stored = s;
    one_more = λ x. omega (arith, ap (λ es. count_all es x) is, set_sum (λ ts. count_in ts x) (same_row h) many more less found, m.counts x);
  }

  pub removed_whole : (h : List Value) (more : List Tally) → IsStored n (length access.key) many (total + 1) → lookup (same_row h) many ≡ Some more
      → few ≡ swap_remove_entry (same_row h) many → IsDistinct same_row (keys_of few) → IsOneMore [] more tuple → IsAdded
  removed_whole h more s found is unique m = record {
    few_stored = stored_gone n (length access.key) h total many few more tuple s found is unique m;
    many_stored = s;
    one_more = λ x. omega (arith, ap (λ es. count_all es x) is, gone_sum (λ ts. count_in ts x) h many more found, m.counts x);
  }

-- a row that is among the rows is counted
pub counted_there : (access : Access) (n total : ℕ) (entries : List (List Value × List Tally)) (front back : List (List Value)) (row : List Value)
    → IsStored n (length access.key) entries total
    → IsIndexOf (record { access = access; total = total; buckets = values_of entries }) (front ++ row ∷ back)
    → count_all entries (tuple_of access row) ≡ 0 → ⊥
counted_there access n total entries front back row s is none =
    omega (
      arith,
      counts_of_index access n total entries s (front ++ row ∷ back) is (tuple_of access row),
      none,
      with_more access front back row (tuple_of access row),
      ap (λ b. cond {A = ℕ} b 1 0) (same_row_itself (tuple_of access row)),
    )
