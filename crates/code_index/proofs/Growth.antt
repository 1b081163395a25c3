-- What an interner that grows leaves: each code its value, so each index its meaning.
use Rattle.std.proofs.Common.{◌≡◌, ◌<◌, ℕ, Bool, true, false, cond, List, [], ◌∷◌, ◌++◌, length, refl, ap, sym, subst, arith}
use Rattle.std.specs.Prelude.{pos}
use Rattle.std.specs.List.{AllByRecursion, list_any}
use Rattle.std.specs.Map.{values_of}
use Rattle.std.proofs.lemmas.List.{get_or_append_left, length-append}
use Rattle.beas_core.specs.declared.value.Value.{Value}
use Rattle.beas_core.specs.declared.value.Value.TheVariants.{Int}
use Rattle.beas_core.specs.Groups.{member_columns}
use Rattle.labelled_list.specs.declared.coded.Coded.{Coded}
use Rattle.code_index.specs.Codes.{same_value, extended, value_of, AreDistinct}
use Rattle.code_index.specs.Reading.{IsStored, KeepsCodes, read, read_group, read_entries, AllKnown, AllCodesKnown}

module _ (codes tail : List Value) where
  value_stays : (w : ℕ) → w < length codes → value_of (codes ++ tail) w ≡ value_of codes w
  value_stays w l = get_or_append_left codes tail (Int (pos 0)) w l

  known_stays : (tuple : List ℕ) → AllKnown codes tuple → AllKnown (codes ++ tail) tuple
  known_stays [] k = tt
  known_stays (w ∷ tuple) k = (omega (arith, k.0, length-append codes tail), known_stays tuple k.1)

  read_stays : (tuple : List ℕ) → AllKnown codes tuple → read (codes ++ tail) tuple ≡ read codes tuple
  read_stays [] k = refl
  read_stays (w ∷ tuple) k = let first = value_stays w k.0 in let rest = read_stays tuple k.1 in λ i. first i ∷ rest i

  keys_stay : (es : List (List ℕ × List Coded)) → AllByRecursion (λ e. AllKnown codes e.0) es → AllByRecursion (λ e. AllKnown (codes ++ tail) e.0) es
  keys_stay [] k = tt
  keys_stay (e ∷ es) k = (known_stays e.0 k.0, keys_stay es k.1)

  tuples_stay : (g : List Coded) → AllCodesKnown codes g → AllCodesKnown (codes ++ tail) g
  tuples_stay [] k = tt
  tuples_stay (c ∷ g) k = (known_stays c.codes k.0, tuples_stay g k.1)

  groups_stay : (es : List (List ℕ × List Coded)) → AllByRecursion (λ e. AllCodesKnown codes e.1) es
      → AllByRecursion (λ e. AllCodesKnown (codes ++ tail) e.1) es
  groups_stay [] k = tt
  groups_stay (e ∷ es) k = (tuples_stay e.1 k.0, groups_stay es k.1)

  group_read : (g : List Coded) → AllCodesKnown codes g → read_group (codes ++ tail) g ≡ read_group codes g
  group_read [] k = refl
  group_read (c ∷ g) k =
      let first = read_stays c.codes k.0 in let rest = group_read g k.1 in λ i. record { tuple = first i; count = c.count } ∷ rest i

  entries_read : (es : List (List ℕ × List Coded)) → AllByRecursion (λ e. AllKnown codes e.0) es → AllByRecursion (λ e. AllCodesKnown codes e.1) es
      → read_entries (codes ++ tail) es ≡ read_entries codes es
  entries_read [] k g = refl
  entries_read (e ∷ es) k g =
      let key = read_stays e.0 k.0 in
      let group = group_read e.1 g.0 in
      let rest = entries_read es k.1 g.1 in λ i. (key i, group i) ∷ rest i

  kept : AreDistinct (codes ++ tail) → KeepsCodes codes (codes ++ tail)
  kept distinct = record {
    tuples = λ tuple k. (known_stays tuple k, read_stays tuple k);
    in_order = λ index o. record {
      distinct = distinct;
      keys = keys_stay index.groups o.keys;
      known = groups_stay index.groups o.known;
      stored = subst (λ es. IsStored (length (member_columns index.access)) (length index.access.key) es index.total)
          (sym (entries_read index.groups o.keys o.known)) o.stored;
    };
    same = λ index o.
        ap (λ es. record { access = index.access; total = index.total; buckets = values_of es }) (entries_read index.groups o.keys o.known);
  }

pub kept_codes : (codes : List Value) → KeepsCodes codes codes
kept_codes codes = record { tuples = λ tuple k. (k, refl); in_order = λ index o. o; same = λ index o. refl }

-- after a value is interned
pub kept_extended : (codes : List Value) (value : Value) → AreDistinct (extended codes value) → KeepsCodes codes (extended codes value)
kept_extended codes value = by (list_any (same_value value) codes)
  where
    by : (b : Bool) → AreDistinct (cond b codes (codes ++ value ∷ [])) → KeepsCodes codes (cond b codes (codes ++ value ∷ []))
    by true d = kept_codes codes
    by false d = kept codes (value ∷ []) d
