-- An index over codes, read by the values of its codes, after a row more or less.
use Rattle.std.proofs.Common.{◌≡◌, ◌<◌, ◌≤◌, ◌+◌, ◌-◌, ℕ, suc, Bool, true, false, cond, List, [], ◌∷◌, ◌++◌, length, take, get_or, refl, ap, sym, ◌∙◌, subst, arith}
use Rattle.std.specs.Prelude.{nat_eq, position, Option, Some, None}
use Rattle.std.specs.Option.{option_map, option_map_or}
use Rattle.std.specs.List.{AllByRecursion, IsDistinct, swap_remove}
use Rattle.std.specs.Map.{keys_of, lookup, set_value}
use Rattle.std.specs.Cmp.Lexicographic.{pointwise, bytes_decides}
use Rattle.std.proofs.Math.ListN.{set}
use Rattle.std.proofs.lemmas.List.{take_at, length-map}
use Rattle.indexmap.specs.IndexMap.{swap_remove_entry}
use Rattle.beas_core.specs.declared.value.Value.{Value}
use Rattle.beas_core.specs.declared.schema.Access.{Access}
use Rattle.beas_core.specs.declared.schema.ColumnId.{ColumnId}
use Rattle.beas_core.specs.Groups.{same_row, member_columns}
use Rattle.blocked_list.proofs.Joined.{all_append, all_take, all_set, all_at}
use Rattle.access_index.specs.Buckets.{IsOneMore, counts_in}
use Rattle.code_index.proofs.Storing.{found_bucket, bucket_within}
use Rattle.access_index.specs.Index.{IsIndexOf}
use Rattle.labelled_list.specs.declared.coded.Coded.{Coded}
use Rattle.code_index.specs.Codes.{value_of, AreDistinct}
use Rattle.code_index.specs.Reading.{CodeIndex, IsInOrderFor, IsOrdered, IsGroup, Spells, read, read_tally, read_index, read_group, read_entries, row_code, pick, AllKnown, AllCodesKnown}
use Rattle.code_index.proofs.Changing.{IsAdded, index_added, index_removed, added_to, added_new, removed_from, removed_whole}
use Rattle.code_index.proofs.ReadFacts.{lookup_read, set_read, swap_read, distinct_read}

abbrev pub Entry : Type 0
Entry = List ℕ × List Coded

-- what holds of all entries after an edit of one
all_set_value : (P : Entry → Type 0) (test : List ℕ → Bool) (es : List Entry) (g : List Coded) → ((e : Entry) → P e → P (e.0, g)) → AllByRecursion P es
    → AllByRecursion P (set_value test es g)
all_set_value P test [] g f a = tt
all_set_value P test (e ∷ es) g f a = by (test e.0) (all_set_value P test es g f a.1)
  where
    by : (b : Bool) → AllByRecursion P (set_value test es g) → AllByRecursion P (cond b ((e.0, g) ∷ es) (e ∷ set_value test es g))
    by true h = (f e a.0, a.1)
    by false h = (a.0, h)

all_swap_remove : (P : Entry → Type 0) (test : List ℕ → Bool) (es : List Entry) → AllByRecursion P es → AllByRecursion P (swap_remove_entry test es)
all_swap_remove P test [] a = tt
all_swap_remove P test (e ∷ es) a = by (position test (keys_of (e ∷ es)))
  where
    by : (o : Option ℕ) → AllByRecursion P (option_map_or (λ i. swap_remove (e ∷ es) i e) o (e ∷ es))
    by None = a
    by (Some i) =
        let last : length (e ∷ es) - 1 < length (e ∷ es) = omega arith in
        all_take P (length (e ∷ es) - 1) (set (e ∷ es) i (get_or (e ∷ es) (length (e ∷ es) - 1) e))
        (all_set P (e ∷ es) i (get_or (e ∷ es) (length (e ∷ es) - 1) e) a (all_at P (e ∷ es) (length (e ∷ es) - 1) e last a))

read_append : (codes : List Value) (a b : List Entry) → read_entries codes (a ++ b) ≡ read_entries codes a ++ read_entries codes b
read_append codes [] b = refl
read_append codes (e ∷ a) b = ap (λ es. (read codes e.0, read_group codes e.1) ∷ es) (read_append codes a b)

known_front : (codes : List Value) (row_codes : List ℕ) (a b : List ColumnId) → AllKnown codes (pick (a ++ b) row_codes) → AllKnown codes (pick a row_codes)
known_front codes row_codes [] b k = tt
known_front codes row_codes (c ∷ a) b k = (k.0, known_front codes row_codes a b k.1)

read_front : (codes : List Value) (row_codes : List ℕ) (a b : List ColumnId)
    → read codes (pick (a ++ b) row_codes) ≡ read codes (pick a row_codes) ++ read codes (pick b row_codes)
read_front codes row_codes [] b = refl
read_front codes row_codes (c ∷ a) b = ap (λ vs. slice_value c ∷ vs) (read_front codes row_codes a b)
  where
    slice_value : ColumnId → Value
    slice_value d = value_of codes (row_code row_codes d)

length_read : (codes : List Value) (row_codes : List ℕ) (a : List ColumnId) → length (read codes (pick a row_codes)) ≡ length a
length_read codes row_codes [] = refl
length_read codes row_codes (c ∷ a) = ap suc (length_read codes row_codes a)

pub read_key : (codes : List Value) (row_codes : List ℕ) (access : Access)
    → take (length access.key) (read codes (pick (member_columns access) row_codes)) ≡ read codes (pick access.key row_codes)
read_key codes row_codes access =
    ap (take (length access.key)) (read_front codes row_codes access.key access.fetched)
    ∙ take_at (read codes (pick access.key row_codes)) (read codes (pick access.fetched row_codes)) (length access.key) (length_read codes row_codes access.key)

pub key_known : (codes : List Value) (row_codes : List ℕ) (access : Access) → AllKnown codes (pick (member_columns access) row_codes)
    → AllKnown codes (pick access.key row_codes)
key_known codes row_codes access k = known_front codes row_codes access.key access.fetched k

module _ (access : Access) (codes : List Value) (total : ℕ) (few many : List Entry) (row_codes : List ℕ) where
  abbrev key : List ℕ
  key = pick access.key row_codes

  abbrev tuple : List ℕ
  tuple = pick (member_columns access) row_codes

  abbrev n : ℕ
  n = length (member_columns access)

  abbrev pub few_index : CodeIndex
  few_index = record { access = access; total = total; groups = few }

  abbrev pub many_index : CodeIndex
  many_index = record { access = access; total = total + 1; groups = many }

  pub record IsMore : Type 0 where
    pub few_in_order : IsInOrderFor codes few_index
    pub many_in_order : IsInOrderFor codes many_index
    pub added : (row : List Value) (front back : List (List Value)) → Spells codes (member_columns access) row_codes row
        → IsIndexOf (read_index codes few_index) (front ++ back) → IsIndexOf (read_index codes many_index) (front ++ row ∷ back)
    pub removed : (row : List Value) (front back : List (List Value)) → Spells codes (member_columns access) row_codes row
        → IsIndexOf (read_index codes many_index) (front ++ row ∷ back) → IsIndexOf (read_index codes few_index) (front ++ back)

  wide : n ≡ length (read codes tuple)
  wide = sym (length_read codes row_codes (member_columns access))

  of_values : AreDistinct codes → AllByRecursion (λ e. AllKnown codes e.0) few → AllByRecursion (λ e. AllCodesKnown codes e.1) few
      → AllByRecursion (λ e. AllKnown codes e.0) many → AllByRecursion (λ e. AllCodesKnown codes e.1) many
      → IsAdded access n total (read_entries codes few) (read_entries codes many) (read codes tuple) → IsMore
  of_values d fk fg mk mg a = record {
    few_in_order = record { distinct = d; keys = fk; known = fg; stored = a.few_stored };
    many_in_order = record { distinct = d; keys = mk; known = mg; stored = a.many_stored };
    added = λ row front back s is. index_added access n total (read_entries codes few) (read_entries codes many) (read codes tuple) a row s.same front back is;
    removed = λ row front back s is. index_removed access n total (read_entries codes few) (read_entries codes many) (read codes tuple) a row s.same front back is;
  }

  pub more_to : IsInOrderFor codes few_index → AllKnown codes tuple → (less more : List Coded) → lookup (pointwise nat_eq key) few ≡ Some less
      → many ≡ set_value (pointwise nat_eq key) few more → IsDistinct (pointwise nat_eq) (keys_of many)
      → IsOneMore (read_group codes less) (read_group codes more) (read codes tuple) → AllCodesKnown codes more → IsMore
  more_to o known less more found is unique m tuples_known =
      let k = key_known codes row_codes access known in
      let keys = subst (AllByRecursion (λ e. AllKnown codes e.0)) (sym is)
      (all_set_value (λ e. AllKnown codes e.0) (pointwise nat_eq key) few more (λ e h. h) o.keys) in
      let groups = subst (AllByRecursion (λ e. AllCodesKnown codes e.1)) (sym is)
      (all_set_value (λ e. AllCodesKnown codes e.1) (pointwise nat_eq key) few more (λ e h. tuples_known) o.known) in
      of_values o.distinct o.keys o.known keys groups
      (added_to access n total (read_entries codes few) (read_entries codes many) (read codes tuple) (read codes key) wide
      (sym (read_key codes row_codes access))
      (read_group codes less) (read_group codes more) o.stored
      (lookup_read codes o.distinct key k few o.keys ∙ ap (λ r. option_map (read_group codes) r) found)
      (ap (read_entries codes) is ∙ set_read codes o.distinct key k few more o.keys) (distinct_read codes o.distinct many keys unique) m)

  pub more_new : IsInOrderFor codes few_index → AllKnown codes tuple → (more : List Coded) → many ≡ few ++ (key, more) ∷ []
      → IsDistinct (pointwise nat_eq) (keys_of many) → IsOneMore [] (read_group codes more) (read codes tuple) → AllCodesKnown codes more → IsMore
  more_new o known more is unique m tuples_known =
      let k = key_known codes row_codes access known in
      let keys = subst (AllByRecursion (λ e. AllKnown codes e.0)) (sym is)
      (all_append (λ (e : Entry). AllKnown codes e.0) few ((key, more) ∷ []) o.keys (k, tt)) in
      let groups = subst (AllByRecursion (λ e. AllCodesKnown codes e.1)) (sym is)
      (all_append (λ (e : Entry). AllCodesKnown codes e.1) few ((key, more) ∷ []) o.known (tuples_known, tt)) in
      of_values o.distinct o.keys o.known keys groups
      (added_new access n total (read_entries codes few) (read_entries codes many) (read codes tuple) (read codes key) wide
      (sym (read_key codes row_codes access))
      (read_group codes more) o.stored
      (ap (read_entries codes) is ∙ read_append codes few ((key, more) ∷ []))
      (distinct_read codes o.distinct many keys unique) m)

  pub less_from : IsInOrderFor codes many_index → AllKnown codes key → (less more : List Coded) → lookup (pointwise nat_eq key) many ≡ Some more
      → few ≡ set_value (pointwise nat_eq key) many less → IsDistinct (pointwise nat_eq) (keys_of few)
      → IsOneMore (read_group codes less) (read_group codes more) (read codes tuple) → AllCodesKnown codes less → 0 < length less → IsMore
  less_from o k less more found is unique m tuples_known some =
      let keys = subst (AllByRecursion (λ e. AllKnown codes e.0)) (sym is)
      (all_set_value (λ e. AllKnown codes e.0) (pointwise nat_eq key) many less (λ e h. h) o.keys) in
      let groups = subst (AllByRecursion (λ e. AllCodesKnown codes e.1)) (sym is)
      (all_set_value (λ e. AllCodesKnown codes e.1) (pointwise nat_eq key) many less (λ e h. tuples_known) o.known) in
      of_values o.distinct keys groups o.keys o.known
      (removed_from access n total (read_entries codes few) (read_entries codes many) (read codes tuple) (read codes key)
      (read_group codes less) (read_group codes more) o.stored
      (lookup_read codes o.distinct key k many o.keys ∙ ap (λ r. option_map (read_group codes) r) found)
      (ap (read_entries codes) is ∙ set_read codes o.distinct key k many less o.keys) (distinct_read codes o.distinct few keys unique) m
      (omega (arith, some, length-map less (read_tally codes))))

  pub less_whole : IsInOrderFor codes many_index → AllKnown codes key → (more : List Coded) → lookup (pointwise nat_eq key) many ≡ Some more
      → few ≡ swap_remove_entry (pointwise nat_eq key) many → IsDistinct (pointwise nat_eq) (keys_of few)
      → IsOneMore [] (read_group codes more) (read codes tuple) → IsMore
  less_whole o k more found is unique m =
      let keys = subst (AllByRecursion (λ e. AllKnown codes e.0)) (sym is)
      (all_swap_remove (λ e. AllKnown codes e.0) (pointwise nat_eq key) many o.keys) in
      let groups = subst (AllByRecursion (λ e. AllCodesKnown codes e.1)) (sym is)
      (all_swap_remove (λ e. AllCodesKnown codes e.1) (pointwise nat_eq key) many o.known) in
      of_values o.distinct keys groups o.keys o.known
      (removed_whole access n total (read_entries codes few) (read_entries codes many) (read codes tuple) (read codes key) (read_group codes more) o.stored
      (lookup_read codes o.distinct key k many o.keys ∙ ap (λ r. option_map (read_group codes) r) found)
      (ap (read_entries codes) is ∙ swap_read codes o.distinct key k many o.keys) (distinct_read codes o.distinct few keys unique) m)

found_known : (codes : List Value) (test : List ℕ → Bool) (es : List Entry) (g : List Coded) → AllByRecursion (λ e. AllCodesKnown codes e.1) es
    → lookup test es ≡ Some g → AllCodesKnown codes g
found_known codes test [] g a e = cc
found_known codes test (x ∷ es) g a e = by (test x.0) e (found_known codes test es g a.1)
  where
    by : (b : Bool) → cond b (Some x.1) (lookup test es) ≡ Some g → (lookup test es ≡ Some g → AllCodesKnown codes g) → AllCodesKnown codes g
    by true h rest = let same : x.1 ≡ g = cc in subst (AllCodesKnown codes) same a.0
    by false h rest = rest h

found_key : (codes : List Value) (key : List ℕ) (es : List Entry) (g : List Coded) → AllByRecursion (λ e. AllKnown codes e.0) es
    → lookup (pointwise nat_eq key) es ≡ Some g → AllKnown codes key
found_key codes key [] g a e = cc
found_key codes key (x ∷ es) g a e = by (pointwise nat_eq key x.0) refl e (found_key codes key es g a.1)
  where
    by : (b : Bool) → pointwise nat_eq key x.0 ≡ b → cond b (Some x.1) (lookup (pointwise nat_eq key) es) ≡ Some g
        → (lookup (pointwise nat_eq key) es ≡ Some g → AllKnown codes key) → AllKnown codes key
    by true h f rest = subst (AllKnown codes) (sym ((bytes_decides key x.0).0 h)) a.0
    by false h f rest = rest f

-- the group that a look-up finds
module _ (access : Access) (codes : List Value) (total : ℕ) (es : List Entry) (key : List ℕ)
    (o : IsInOrderFor codes (record { access = access; total = total; groups = es })) (g : List Coded)
    (found : lookup (pointwise nat_eq key) es ≡ Some g) where
  pub known_key : AllKnown codes key
  known_key = found_key codes key es g o.keys found

  pub known_group : AllCodesKnown codes g
  known_group = found_known codes (pointwise nat_eq key) es g o.known found

  pub found_read : lookup (same_row (read codes key)) (read_entries codes es) ≡ Some (read_group codes g)
  found_read = lookup_read codes o.distinct key known_key es o.keys ∙ ap (λ r. option_map (read_group codes) r) found

  pub group_holds : IsGroup (length (member_columns access)) (length access.key) (read codes key) (read_group codes g)
  group_holds = found_bucket (length (member_columns access)) (length access.key) (read codes key) (read_entries codes es) (read_group codes g) o.stored.buckets found_read

  pub group_within : counts_in (read_group codes g) ≤ total
  group_within = bucket_within (length (member_columns access)) (length access.key) (read codes key) total (read_entries codes es) (read_group codes g) o.stored found_read

-- an index of no rows
pub none_in_order : (codes : List Value) → AreDistinct codes → (access : Access) → IsInOrderFor codes (record { access = access; total = 0; groups = [] })
unfolding IsDistinct
none_in_order codes distinct access = record {
  distinct = distinct;
  keys = tt;
  known = tt;
  stored = record { distinct = tt; buckets = tt; total_is = refl };
}

pub ordered_none : (access : Access) → IsOrdered (record { access = access; total = 0; groups = [] })
ordered_none access = record { codes = []; in_order = none_in_order [] (λ i j d l m e. absurd (omega (arith, l))) access }
