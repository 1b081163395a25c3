-- What lies in an index over codes where a probe points.
use Rattle.std.proofs.Common.{◌≡◌, ◌∙◌, ◌<◌, ◌≤◌, ◌+◌, ◌==◌, ◌||◌, ℕ, zero, suc, Bool, true, false, cond, ◌⊎◌, inl, inr, List, [], ◌∷◌, map, drop, length, get_or, ap, refl, sym, subst, arith}
use Rattle.std.specs.Prelude.{Some, slice_get}
use Rattle.std.specs.List.{AllByRecursion}
use Rattle.std.specs.Map.{values_of}
use Rattle.std.proofs.lemmas.List.{get_or-take, get_or-drop, get_or-map, length-map, length-drop, take_all, get_or_past}
use Rattle.std.proofs.lemmas.List.Sums.{sum_by-cons}
use Rattle.std.proofs.lemmas.Bool.{cases_lt}
use Rattle.std.proofs.lemmas.Option.{slice_get-get_or}
use Rattle.beas_core.specs.declared.value.Value.{Value}
use Rattle.beas_core.specs.declared.schema.ColumnId.{ColumnId}
use Rattle.beas_core.specs.Found.{Found}
use Rattle.beas_core.specs.Groups.{has_column, member_columns, value_in}
use Rattle.access_index.specs.declared.tally.Tally.{Tally}
use Rattle.access_index.specs.Buckets.{tuples_in, counts_in, is_wide, AllTuplesPass}
use Rattle.access_index.specs.Index.{members_at, stands_at, start_at}
use Rattle.access_index.proofs.Counting.{tuples_within}
use Rattle.access_index.proofs.Holding.{members_are, members_len, members_stand}
use Rattle.labelled_list.specs.declared.coded.Coded.{Coded}
use Rattle.code_index.specs.Codes.{value_of}
use Rattle.code_index.specs.Reading.{CodeIndex, IsInOrderFor, IsGroup, AllKnown, AllCodesKnown, read, read_group, read_entry, read_entries, read_index, codes_in, codes_at, code_in}
use Rattle.code_index.proofs.GroupFacts.{length_group}
use Rattle.code_index.proofs.Storing.{few_buckets, entries_sum}
use Rattle.code_index.proofs.Steps.{width_at}

abbrev Entry : Type 0
Entry = List ℕ × List Coded

tuples_read : (codes : List Value) (g : List Coded) → tuples_in (read_group codes g) ≡ map (read codes) (codes_in g)
tuples_read codes [] = refl
tuples_read codes (c ∷ g) = ap (λ ts. read codes c.codes ∷ ts) (tuples_read codes g)

bucket_read : (codes : List Value) (es : List Entry) (k : ℕ) → get_or (values_of (read_entries codes es)) k [] ≡ read_group codes (get_or (values_of es) k [])
bucket_read codes [] k = refl
bucket_read codes (e ∷ es) zero = refl
bucket_read codes (e ∷ es) (suc k) = bucket_read codes es k

group_few : (codes : List Value) (n w : ℕ) (es : List Entry) (k : ℕ) → AllByRecursion (λ e. IsGroup n w e.0 e.1) (read_entries codes es)
    → length (get_or (values_of es) k []) ≤ entries_sum (read_entries codes es)
group_few codes n w [] k a = omega arith
group_few codes n w (e ∷ es) zero a =
    omega (
      arith,
      tuples_within (read_group codes e.1) (a.0).counted,
      length_group codes e.1,
      sum_by-cons (λ (d : List Value × List Tally). counts_in d.1) (read_entry codes e) (read_entries codes es),
    )
group_few codes n w (e ∷ es) (suc k) a =
    omega (
      arith,
      group_few codes n w es k a.1,
      sum_by-cons (λ (d : List Value × List Tally). counts_in d.1) (read_entry codes e) (read_entries codes es),
    )

group_known : (codes : List Value) (es : List Entry) (k : ℕ)
    → AllByRecursion (λ e. AllCodesKnown codes e.1) es → AllCodesKnown codes (get_or (values_of es) k [])
group_known codes [] k a = tt
group_known codes (e ∷ es) zero a = a.0
group_known codes (e ∷ es) (suc k) a = group_known codes es k a.1

group_wide : (codes : List Value) (n w : ℕ) (es : List Entry) (k : ℕ) → AllByRecursion (λ e. IsGroup n w e.0 e.1) (read_entries codes es)
    → AllTuplesPass (is_wide n) (read_group codes (get_or (values_of es) k []))
group_wide codes n w [] k a = tt
group_wide codes n w (e ∷ es) zero a = (a.0).wide
group_wide codes n w (e ∷ es) (suc k) a = group_wide codes n w es k a.1

member_known : (codes : List Value) (g : List Coded) (i : ℕ) (d : Coded) → AllCodesKnown codes g → i < length g → AllKnown codes (get_or g i d).codes
member_known codes [] i d a l = absurd (omega (arith, l))
member_known codes (c ∷ g) zero d a l = a.0
member_known codes (c ∷ g) (suc i) d a l = member_known codes g i d a.1 (omega arith)

-- a column's number in a tuple is a code, of the column's value
pub record IsColumnCode (codes : List Value) (columns : List ColumnId) (tuple : List ℕ) (column : ColumnId) : Type 0 where
  pub known : code_in columns tuple column < length codes
  pub same : value_of codes (code_in columns tuple column) ≡ value_in columns (read codes tuple) column

code_known : (codes : List Value) (columns : List ColumnId) (tuple : List ℕ) (column : ColumnId) → AllKnown codes tuple → length tuple ≡ length columns
    → has_column columns column ≡ true → IsColumnCode codes columns tuple column
code_known codes [] tuple column k w h = cc
code_known codes (c ∷ columns) [] column k w h = absurd (omega (arith, w))
code_known codes (c ∷ columns) (x ∷ tuple) column k w h =
    let p = by (c.0 == column.0) h (λ there. code_known codes columns tuple column k.1 (omega arith) there) in record { known = p.0; same = p.1 }
  where
    by : (b : Bool) → (b || has_column columns column) ≡ true → (has_column columns column ≡ true → IsColumnCode codes columns tuple column)
        → (cond b x (code_in columns tuple column) < length codes)
        × (value_of codes (cond b x (code_in columns tuple column)) ≡ cond b (value_of codes x) (value_in columns (read codes tuple) column))
    by true e rest = (k.0, refl)
    by false e rest = let r = rest e in (r.known, r.same)

module _ (codes : List Value) (index : CodeIndex) (order : IsInOrderFor codes index) (few : index.total < 4294967296) where
  abbrev es : List Entry
  es = index.groups

  pub few_groups : length index.groups < 4294967296
  few_groups =
      omega (
        arith,
        few,
        length-map es (read_entry codes),
        few_buckets (length (member_columns index.access)) (length index.access.key) index.total (read_entries codes es) order.stored,
      )

  few_tuples : (k : ℕ) → length (codes_at index k) < 4294967296
  few_tuples k =
      omega (
        arith,
        few,
        order.stored.total_is,
        length-map (get_or (values_of es) k []) (λ (c : Coded). c.codes),
        group_few codes (length (member_columns index.access)) (length index.access.key) es k order.stored.buckets,
      )

  tuples_at : (k : ℕ) → tuples_in (get_or (values_of (read_entries codes es)) k []) ≡ map (read codes) (codes_at index k)
  tuples_at k = ap tuples_in (bucket_read codes es k) ∙ tuples_read codes (get_or (values_of es) k [])

  -- a whole group
  module _ (found : Found) (group : ℕ) (within : group < length index.groups) (start : start_at found.place ≡ record { bucket = group; from = 0 })
      (len : found.len ≡ length (codes_at index group)) where
    abbrev bucket : List Tally
    bucket = get_or (values_of (read_entries codes es)) group []

    there : slice_get (values_of (read_entries codes es)) group ≡ Some bucket
    there = slice_get-get_or (values_of (read_entries codes es)) group [] (omega (
      arith,
      within,
      length-map (read_entries codes es) (λ (e : List Value × List Tally). e.1),
      length-map es (read_entry codes),
    ))

    long : length bucket ≡ found.len
    long = omega (
      arith,
      len,
      ap length (bucket_read codes es group),
      length_group codes (get_or (values_of es) group []),
      length-map (get_or (values_of es) group []) (λ (c : Coded). c.codes),
    )

    pub group_members : members_at (read_index codes index) found ≡ map (read codes) (codes_at index group)
    group_members =
        members_are (values_of (read_entries codes es)) group 0 found.len bucket found there start refl
        ∙ ap tuples_in (take_all found.len bucket (omega (arith, long))) ∙ tuples_at group

    pub group_len : found.len ≡ length (members_at (read_index codes index) found)
    group_len = members_len (values_of (read_entries codes es)) group 0 found.len bucket found there start refl (omega (arith, long))

    pub group_stands : stands_at (read_index codes index) found
    group_stands = members_stand (values_of (read_entries codes es)) group 0 found.len bucket found there start refl (omega (arith, long))

  -- one member
  module _ (found : Found) (i : ℕ) (stands : stands_at (read_index codes index) found) (member : i < found.len) where
    abbrev group : ℕ
    group = (start_at found.place).bucket

    abbrev at : ℕ
    at = (start_at found.place).from + i

    pub member_within : at < length (codes_at index group)
    member_within = omega (
      arith,
      stands,
      member,
      length-drop (start_at found.place).from (tuples_in (get_or (values_of (read_entries codes es)) group [])),
      ap length (tuples_at group),
      length-map (codes_at index group) (read codes),
    )

    pub member_few : at < 4294967296
    member_few = omega (arith, member_within, few_tuples group)

    pub group_within : group < length index.groups
    group_within = by (cases_lt group (length index.groups))
      where
        by : (group < length index.groups) ⊎ (length index.groups ≤ group) → group < length index.groups
        by (inl l) = l
        by (inr g) = absurd (omega (
          arith,
          member_within,
          ap (λ h. length (codes_in h)) (get_or_past (values_of es) group [] (omega (arith, g, length-map es (λ (e : Entry). e.1)))),
        ))

    abbrev pub tuple : List ℕ
    tuple = get_or (codes_at index group) at []

    pub member_is : get_or (members_at (read_index codes index) found) i [] ≡ read codes tuple
    member_is =
        get_or-take found.len (drop (start_at found.place).from (tuples_in (get_or (values_of (read_entries codes es)) group []))) i [] member
        ∙ get_or-drop (start_at found.place).from (tuples_in (get_or (values_of (read_entries codes es)) group [])) i []
        ∙ ap (λ ts. get_or ts at []) (tuples_at group)
        ∙ get_or-map (read codes) (codes_at index group) at [] [] member_within

    pub member_code : (column : ColumnId) → has_column (member_columns index.access) column ≡ true
        → IsColumnCode codes (member_columns index.access) tuple column
    member_code column there =
        let g = get_or (values_of es) group [] in
        let d : Coded = record { codes = []; count = 0 } in
        let within : at < length g = omega (arith, member_within, length-map g (λ (c : Coded). c.codes)) in
        let own : tuple ≡ (get_or g at d).codes = get_or-map (λ (c : Coded). c.codes) g at d [] within in
        let wide = width_at codes (length (member_columns index.access)) g at d
        (group_wide codes (length (member_columns index.access)) (length index.access.key) es group order.stored.buckets) within in
        code_known codes (member_columns index.access) tuple column
        (subst (AllKnown codes) (sym own) (member_known codes g at d (group_known codes es group order.known) within))
        (ap length own ∙ wide) there
