-- Entries of what probes found, by their spots, and how a key is looked for among them.
--     Added old found key s ..        the values and spots are the old ones with those of one entry more, which the spot s stands for
--     hash_at known place             the hash of the entry at a place
--     Searched known hash probe at    no entry that is found by its hash at the places that were looked at is that of the probe, and `at` is
--                                     the next place to look at
--     places_left at                  a bound on the places that are left to look at
use Rattle.std.proofs.Common.{◌≡◌, ◌<◌, ◌≤◌, ◌+◌, ◌*◌, ◌++◌, ◌∷◌, [], ℕ, zero, suc, Bool, true, false, List, Option, Some, None, IfSome, IfNone, IsSome, length, inl, inr, take, drop, map, set, get_or, slice_index_or, refl, ap, sym, subst, ◌∙◌, arith}
use Rattle.std.specs.Ordering.{eq_by_cmp, is_eq}
use Rattle.std.specs.Bool.{Decides}
use Rattle.std.specs.List.{All}
use Rattle.std.specs.Cmp.Lexicographic.{pointwise}
use Rattle.std.proofs.lemmas.Bool.{cases_eq, cases_lt}
use Rattle.std.proofs.lemmas.Cmp.{tied_itself}
use Rattle.std.proofs.lemmas.Slice.Eq.{slice_eq-Decides}
use Rattle.std.proofs.lemmas.List.{append_assoc, drop-append-le, drop-drop, drop_at, get_or-map, get_or_default, length-append, length-drop, length-map, map-append, take-append-drop, length-set, length_push, get_or_push, get_or_append_left, get_or-set_same, get_or-set_other, take-append-le, take-take, take_all}
use Rattle.std.proofs.lemmas.List.Elements.{All-head, All-set, All-tail, All-weaker, All-push}
use Rattle.std.proofs.Math.Seq.{map-set_same}
use Rattle.beas_core.proofs.Sets.{Has, Contains-from_has}
use Rattle.beas_core.specs.declared.value.Value.{Value}
use Rattle.beas_core.specs.Hashing.{equal_from}
use Rattle.beas_core.specs.Order.{value_cmp, value_cmp_total}
use Rattle.beas_core.specs.Telling.{value_cmp_tells}
use Rattle.beas_core.specs.Types.{Row}
use Rattle.block_walk.specs.Fetched.{rows_in}
use Rattle.block_walk.proofs.FetchedFacts.{length-rows_in, row_at, row_within}
use Rattle.place_chains.specs.Chains.{IsLast}
use Rattle.place_chains.specs.Hashing.{hash_of}
use Rattle.block_walk.specs.Kept.{Entry, part}
use Rattle.block_walk.specs.Entries.{AreReached, IsAt, IsIndex, IsIndexed, IsKnown, IsReached, IsSpot, entries_in, entry_at, entry_of, kept_at, kept_in, kept_of, key_alone}
use Rattle.block_walk.specs.Ordered.{IsPlaced, kept_under}
use Rattle.block_walk.proofs.OrderedFacts.{reached_more, some_weaker}
use Rattle.block_walk.specs.declared.known.Known.{Known}
use Rattle.block_walk.specs.declared.ordered.OrderedKeys.{OrderedKeys}
use Rattle.block_walk.specs.declared.known.Spot.{Spot}
use Rattle.block_walk.specs.declared.known.TupleIndex.{TupleIndex}

-- ---- an entry and its spot

pub length-entries_in : (known : Known) → length (entries_in known) ≡ length known.spots.items
length-entries_in known = length-map known.spots.items (entry_at known.values.items)

-- the spot that is read at a place
pub entry_read : (known : Known) (place : ℕ) (s : Spot) → place < length (entries_in known) → s ≡ get_or known.spots.items place s
    → entry_of known place ≡ entry_at known.values.items s
entry_read known place s l is =
    let n = length-entries_in known in
    get_or-map (entry_at known.values.items) known.spots.items place s ((0, []), []) (omega (arith, l, n))
    ∙ ap (entry_at known.values.items) (sym is)

pub length-kept_in : (known : Known) → length (kept_in known) ≡ length (entries_in known)
length-kept_in known = length-map known.spots.items (kept_at known.values.items) ∙ sym (length-entries_in known)

-- its tuples that are kept
pub kept_read : (known : Known) (place : ℕ) (s : Spot) → place < length (entries_in known) → s ≡ get_or known.spots.items place s
    → kept_of known place ≡ kept_at known.values.items s
kept_read known place s l is =
    let n = length-entries_in known in
    get_or-map (kept_at known.values.items) known.spots.items place s [] (omega (arith, l, n)) ∙ ap (kept_at known.values.items) (sym is)

pub count_read : (known : Known) (place : ℕ) (s : Spot) → place < length (entries_in known) → s ≡ get_or known.spots.items place s
    → s.count ≡ length (kept_of known place)
count_read known place s l is =
    sym (ap (λ (ts : List Row). length ts) (kept_read known place s l is) ∙ length-rows_in s.width s.count (drop s.from known.values.items))

-- a tuple's values are there
pub tuple_within : (known : Known) → IsKnown known → (place : ℕ) (s : Spot) → place < length (entries_in known) → s ≡ get_or known.spots.items place s
    → (at : ℕ) → at < length (kept_of known place) → (s.from + at * s.width) + s.width ≤ length known.values.items
tuple_within known stands place s l is at below =
    let n = length-entries_in known in
    let spot : IsSpot known.values.items s =
    subst (IsSpot known.values.items) (sym is) (stands.spots place s (omega (arith, l, n))) in
    let count = count_read known place s l is in
    let row = row_within s.width s.count at (omega (arith, below, count)) in
    omega (arith, spot.tuples, row)

pub tuple_read : (known : Known) (place : ℕ) (s : Spot) → place < length (entries_in known) → s ≡ get_or known.spots.items place s
    → (at : ℕ) → at < length (kept_of known place) → (n : ℕ) → n ≡ s.width
    → part known.values.items (s.from + at * s.width) n ≡ slice_index_or (kept_of known place) at []
tuple_read known place s l is at below n wide =
    let values = known.values.items in
    let count = count_read known place s l is in
    ap (part values (s.from + at * s.width)) wide
    ∙ ap (take s.width) (sym (drop-drop (at * s.width) s.from values))
    ∙ sym (row_at s.width s.count (drop s.from values) at (omega (arith, below, count)))
    ∙ ap (λ (ts : List Row). slice_index_or ts at []) (sym (kept_read known place s l is))

-- ---- entries stay where values are added

pub rows_in-append : (width count : ℕ) (values more : List Value) → count * width ≤ length values
    → rows_in width count (values ++ more) ≡ rows_in width count values
rows_in-append width zero values more l = refl
rows_in-append width (suc count) values more l =
    let wide : width ≤ length values = omega (arith, l) in
    let rest : count * width ≤ length (drop width values) = (let d = length-drop width values in omega (arith, d, l)) in
    ap (λ t. t ∷ rows_in width count (drop width (values ++ more))) (take-append-le width values more wide)
    ∙ ap (λ vs. take width values ∷ rows_in width count vs) (drop-append-le width values more wide)
    ∙ ap (λ rs. take width values ∷ rs) (rows_in-append width count (drop width values) more rest)

part-append : (values more : List Value) (from count : ℕ) → from + count ≤ length values → part (values ++ more) from count ≡ part values from count
part-append values more from count l =
    let d = length-drop from values in
    ap (take count) (drop-append-le from values more (omega (arith, l))) ∙ take-append-le count (drop from values) more (omega (arith, l, d))

rows_at-append : (values more : List Value) (from width count : ℕ) → from + count * width ≤ length values
    → rows_in width count (drop from (values ++ more)) ≡ rows_in width count (drop from values)
rows_at-append values more from width count l =
    let d = length-drop from values in
    ap (rows_in width count) (drop-append-le from values more (omega (arith, l)))
    ∙ rows_in-append width count (drop from values) more (omega (arith, l, d))

pub entry_at-append : (values more : List Value) (s : Spot) → IsSpot values s → entry_at (values ++ more) s ≡ entry_at values s
entry_at-append values more s is = ap (λ k. ((s.step, k), s.all.rows)) (part-append values more s.from s.key_width is.key)

pub entries-append : (values more : List Value) (spots : List Spot) → All (IsSpot values) spots
    → map (entry_at (values ++ more)) spots ≡ map (entry_at values) spots
entries-append values more [] all = refl
entries-append values more (s ∷ spots) all =
    ap (λ e. e ∷ map (entry_at (values ++ more)) spots) (entry_at-append values more s (All-head (IsSpot values) s spots all))
    ∙ ap (λ es. entry_at values s ∷ es) (entries-append values more spots (All-tail (IsSpot values) s spots all))

pub kept-append : (values more : List Value) (spots : List Spot) → All (IsSpot values) spots
    → map (kept_at (values ++ more)) spots ≡ map (kept_at values) spots
kept-append values more [] all = refl
kept-append values more (s ∷ spots) all =
    ap (λ rows. rows ∷ map (kept_at (values ++ more)) spots)
    (rows_at-append values more s.from s.width s.count (All-head (IsSpot values) s spots all).tuples)
    ∙ ap (λ rs. kept_at values s ∷ rs) (kept-append values more spots (All-tail (IsSpot values) s spots all))

pub spots-append : (values more : List Value) (spots : List Spot) → All (IsSpot values) spots → All (IsSpot (values ++ more)) spots
spots-append values more spots all =
    let n = length-append values more in
    All-weaker (IsSpot values) (IsSpot (values ++ more))
    (λ s is. record { key = omega (arith, is.key, n); tuples = omega (arith, is.tuples, n) }) spots all

-- what stands behind the values that were there
pub values_behind : (old fetched key values : List Value) → take (length old) fetched ≡ old → values ≡ fetched ++ key
    → values ≡ (old ++ drop (length old) fetched) ++ key
values_behind old fetched key values front are =
    are ∙ ap (λ vs. vs ++ key) (sym (take-append-drop (length old) fetched) ∙ ap (λ t. t ++ drop (length old) fetched) front)

-- a key stands where the tuples that begin with it do, and by itself where there is none
pub key_kept : (key found : List Value) (width count : ℕ) → length found ≡ count * width → length key ≤ width
    → All (λ tuple. take (length key) tuple ≡ key) (rows_in width count found)
    → take (length key) (found ++ key_alone count key) ≡ key
key_kept key [] width zero wide narrow begin = take_all (length key) key (omega arith)
key_kept key (v ∷ found) width zero wide narrow begin = absurd (omega (arith, wide))
key_kept key found width (suc count) wide narrow begin =
    take-append-le (length key) found [] (omega (arith, wide, narrow))
    ∙ sym (take-take (length key) width found narrow)
    ∙ All-head (λ tuple. take (length key) tuple ≡ key) (take width found) (rows_in width count (drop width found)) begin

-- so that there is room for it
key_fits : (key found : List Value) (width count : ℕ) → length found ≡ count * width → length key ≤ width
    → length key ≤ length found + length (key_alone count key)
key_fits key found width zero wide narrow = omega arith
key_fits key found width (suc count) wide narrow = omega (arith, wide, narrow)

-- what a probe found was added, and its key
pub record Added (old : Known) (found : List Value) (key : Row) (s : Spot) (values : List Value) (spots : List Spot) : Type 0 where
  pub from : s.from ≡ length old.values.items
  pub wide : length found ≡ s.count * s.width
  pub key_wide : s.key_width ≡ length key
  pub narrow : length key ≤ s.width
  pub begin : All (λ tuple. take (length key) tuple ≡ key) (rows_in s.width s.count found)
  pub values_are : values ≡ (old.values.items ++ found) ++ key_alone s.count key
  pub spots_are : spots ≡ old.spots.items ++ s ∷ []
  pub plain : s.index ≡ None

module _ (old : Known) (is : IsKnown old) (found : List Value) (key : Row) (s : Spot) (values : List Value) (spots : List Spot)
    (added : Added old found key s values spots) where
  abbrev front : List Value
  front = old.values.items ++ found

  abbrev alone : List Value
  alone = key_alone s.count key

  behind_old : drop s.from (front ++ alone) ≡ found ++ alone
  behind_old = ap (drop s.from) (append_assoc old.values.items found alone) ∙ drop_at old.values.items (found ++ alone) s.from (sym added.from)

  entry_added : entry_at (front ++ alone) s ≡ ((s.step, key), s.all.rows)
  entry_added =
      let kept : part (front ++ alone) s.from s.key_width ≡ key =
      ap (λ k. part (front ++ alone) s.from k) added.key_wide ∙ ap (take (length key)) behind_old
      ∙ key_kept key found s.width s.count added.wide added.narrow added.begin in
      ap (λ k. ((s.step, k), s.all.rows)) kept

  tuples_added : kept_at (front ++ alone) s ≡ rows_in s.width s.count found
  tuples_added =
      let n = length-append old.values.items found in
      rows_at-append front alone s.from s.width s.count (omega (arith, n, added.from, added.wide))
      ∙ ap (rows_in s.width s.count) (drop_at old.values.items found s.from (sym added.from))

  spot_added : IsSpot (front ++ alone) s
  spot_added =
      let n = length-append old.values.items found in
      let m = length-append front alone in
      let fits = key_fits key found s.width s.count added.wide added.narrow in
      record {
        key = omega (arith, n, m, fits, added.from, added.key_wide);
        tuples = omega (arith, n, m, added.from, added.wide);
      }

  spots_added : All (IsSpot (front ++ alone)) (old.spots.items ++ s ∷ [])
  spots_added =
      All-push (IsSpot (front ++ alone)) old.spots.items s
      (spots-append front alone old.spots.items (spots-append old.values.items found old.spots.items is.spots)) spot_added

  pub entries_added : map (entry_at values) spots ≡ entries_in old ++ ((s.step, key), s.all.rows) ∷ []
  entries_added =
      ap (λ vs. map (entry_at vs) spots) added.values_are
      ∙ ap (map (entry_at (front ++ alone))) added.spots_are
      ∙ map-append (entry_at (front ++ alone)) old.spots.items (s ∷ [])
      ∙ ap (λ e. map (entry_at (front ++ alone)) old.spots.items ++ e ∷ []) entry_added
      ∙ ap (λ es. es ++ ((s.step, key), s.all.rows) ∷ [])
      (entries-append front alone old.spots.items (spots-append old.values.items found old.spots.items is.spots)
      ∙ entries-append old.values.items found old.spots.items is.spots)

  pub kept_added : map (kept_at values) spots ≡ kept_in old ++ rows_in s.width s.count found ∷ []
  kept_added =
      ap (λ vs. map (kept_at vs) spots) added.values_are
      ∙ ap (map (kept_at (front ++ alone))) added.spots_are
      ∙ map-append (kept_at (front ++ alone)) old.spots.items (s ∷ [])
      ∙ ap (λ rows. map (kept_at (front ++ alone)) old.spots.items ++ rows ∷ []) tuples_added
      ∙ ap (λ rs. rs ++ rows_in s.width s.count found ∷ [])
      (kept-append front alone old.spots.items (spots-append old.values.items found old.spots.items is.spots)
      ∙ kept-append old.values.items found old.spots.items is.spots)

  -- each index that was there stays, and the new entry has none
  indexes_kept : (new : Known) → new.spots.items ≡ old.spots.items ++ s ∷ [] → (ts : List Row) → kept_in new ≡ kept_in old ++ ts ∷ []
      → new.indexes.items ≡ old.indexes.items → (i : ℕ) (d : Spot) → i < length new.spots.items
      → IfSome (get_or new.spots.items i d).index (IsIndexed (kept_of new i) new.indexes.items)
  indexes_kept new p ts kept same i d l = elim (cases_lt i (length old.spots.items)) [
    | inl before ↦ (
        let n = length-entries_in old in
        let m = length-kept_in old in
        let spot : get_or new.spots.items i d ≡ get_or old.spots.items i d =
        ap (λ ss. get_or ss i d) p ∙ get_or_append_left old.spots.items (s ∷ []) d i before in
        let tuples : kept_of new i ≡ kept_of old i =
        ap (λ es. get_or es i []) kept ∙ get_or_append_left (kept_in old) (ts ∷ []) [] i (omega (arith, before, n, m)) in
        subst (λ t. IfSome t.index (IsIndexed (kept_of new i) new.indexes.items)) (sym spot)
        (subst (λ (x : List Row). IfSome (get_or old.spots.items i d).index (IsIndexed x new.indexes.items)) (sym tuples)
        (subst (λ xs. IfSome (get_or old.spots.items i d).index (IsIndexed (kept_of old i) xs)) (sym same) (is.indexes i d before))))
    | inr past ↦ (
        let n = ap length p in
        let m = length_push old.spots.items s in
        let spot : get_or new.spots.items i d ≡ s =
        ap (λ ss. get_or ss i d) p ∙ get_or_push old.spots.items s d i (omega (arith, l, past, n, m)) in
        subst (λ t. IfSome t.index (IsIndexed (kept_of new i) new.indexes.items)) (sym spot)
        (subst (λ o. IfSome o (IsIndexed (kept_of new i) new.indexes.items)) (sym added.plain) tt))
  ]

  pub known_added : (new : Known) → new.values.items ≡ values → new.spots.items ≡ spots → (place hash : ℕ) → place ≡ length old.spots.items
      → IsPlaced old.ordered.steps.items new.ordered.steps.items s.step key place (hash_of s.step key) hash → new.chains ≡ old.chains ++ hash ∷ []
      → new.indexes.items ≡ old.indexes.items → IsKnown new
  known_added new v p place hash last placed h x =
      let added_entry : Entry = ((s.step, key), s.all.rows) in
      let kept : kept_in new ≡ kept_in old ++ rows_in s.width s.count found ∷ [] =
      ap (λ vs. map (kept_at vs) new.spots.items) v ∙ ap (map (kept_at values)) p ∙ kept_added in
      let entries : entries_in new ≡ entries_in old ++ added_entry ∷ [] =
      ap (λ vs. map (entry_at vs) new.spots.items) v ∙ ap (map (entry_at values)) p ∙ entries_added in
      record {
        spots = subst (λ vs. All (IsSpot vs) new.spots.items) (sym (v ∙ added.values_are))
            (subst (All (IsSpot (front ++ alone))) (sym (p ∙ added.spots_are)) spots_added);
        reached = subst (λ es. AreReached es new.chains new.ordered.steps.items) (sym entries)
            (subst (λ hs. AreReached (entries_in old ++ added_entry ∷ []) hs new.ordered.steps.items) (sym h)
            (reached_more (entries_in old) old.chains old.ordered.steps.items new.ordered.steps.items s.step key s.all.rows place hash
            (last ∙ sym (length-entries_in old)) placed is.reached));
        indexes = indexes_kept new (p ∙ added.spots_are) (rows_in s.width s.count found) kept x;
      }

-- ---- an entry gets an index

module _ (old : Known) (is : IsKnown old) (place : ℕ) (l : place < length (entries_in old)) (s t : Spot) (was : s ≡ get_or old.spots.items place s)
    (index : TupleIndex) (good : IsIndex (kept_of old place) index) (t_is : t ≡ record s { index = Some (length old.indexes.items) })
    (new : Known) (values : new.values.items ≡ old.values.items) (spots : new.spots.items ≡ set old.spots.items place t) (chains : new.chains ≡ old.chains)
    (ordered : new.ordered ≡ old.ordered) (indexes : new.indexes.items ≡ old.indexes.items ++ index ∷ []) where
  there : place < length old.spots.items
  there = let n = length-entries_in old in omega (arith, l, n)

  -- an entry doesn't depend on its index
  same_entry : entry_at old.values.items t ≡ entry_at old.values.items (get_or old.spots.items place s)
  same_entry = ap (entry_at old.values.items) t_is ∙ ap (entry_at old.values.items) was

  pub same_entries : entries_in new ≡ entries_in old
  same_entries = ap (λ vs. map (entry_at vs) new.spots.items) values ∙ ap (map (entry_at old.values.items)) spots
      ∙ map-set_same (entry_at old.values.items) old.spots.items place t s same_entry

  same_tuples : kept_at old.values.items t ≡ kept_at old.values.items (get_or old.spots.items place s)
  same_tuples = ap (kept_at old.values.items) t_is ∙ ap (kept_at old.values.items) was

  pub same_kept : kept_in new ≡ kept_in old
  same_kept = ap (λ vs. map (kept_at vs) new.spots.items) values ∙ ap (map (kept_at old.values.items)) spots
      ∙ map-set_same (kept_at old.values.items) old.spots.items place t s same_tuples

  spot_stays : IsSpot old.values.items t
  spot_stays =
      let spot : IsSpot old.values.items s = subst (IsSpot old.values.items) (sym was) (is.spots place s there) in
      subst (IsSpot old.values.items) (sym t_is) (record { key = spot.key; tuples = spot.tuples })

  longer : (tuples : List Row) (k : ℕ) → IsIndexed tuples old.indexes.items k → IsIndexed tuples new.indexes.items k
  longer tuples k at =
      let n = length_push old.indexes.items index in
      let b = at.there in
      subst (λ xs. IsIndexed tuples xs k) (sym indexes) (record {
        there = omega (arith, b, n);
        is = λ d. subst (IsIndex tuples) (sym (get_or_append_left old.indexes.items (index ∷ []) d k b)) (at.is d);
      })

  all_longer : (tuples : List Row) (o : Option ℕ) → IfSome o (IsIndexed tuples old.indexes.items) → IfSome o (IsIndexed tuples new.indexes.items)
  all_longer tuples None h = h
  all_longer tuples (Some k) h = longer tuples k h

  indexes_stay : (i : ℕ) (d : Spot) → i < length new.spots.items
      → IfSome (get_or new.spots.items i d).index (IsIndexed (kept_of new i) new.indexes.items)
  indexes_stay i d m =
      let n = ap length spots ∙ length-set old.spots.items place t in
      subst (λ (es : List (List Row)). IfSome (get_or new.spots.items i d).index (IsIndexed (get_or es i []) new.indexes.items)) (sym same_kept)
      (elim (cases_eq i place) [
        | inl e ↦ (
            let spot : get_or new.spots.items i d ≡ record s { index = Some (length old.indexes.items) } =
            ap (λ ss. get_or ss i d) spots ∙ ap (λ j. get_or (set old.spots.items place t) j d) e
            ∙ get_or-set_same old.spots.items place t d there ∙ t_is in
            let many = length_push old.indexes.items index in
            subst (λ (x : Spot). IfSome x.index (IsIndexed (kept_of old i) new.indexes.items)) (sym spot)
            (subst (λ xs. IsIndexed (kept_of old i) xs (length old.indexes.items)) (sym indexes) (record {
              there = omega (arith, many);
              is = λ x. subst (IsIndex (kept_of old i)) (sym (get_or_push old.indexes.items index x (length old.indexes.items) refl))
                  (subst (λ j. IsIndex (kept_of old j) index) (sym e) good);
            })))
        | inr ne ↦ (
            let spot : get_or new.spots.items i d ≡ get_or old.spots.items i d =
            ap (λ ss. get_or ss i d) spots ∙ get_or-set_other old.spots.items place i t d ne in
            subst (λ (x : Spot). IfSome x.index (IsIndexed (kept_of old i) new.indexes.items)) (sym spot)
            (all_longer (kept_of old i) (get_or old.spots.items i d).index (is.indexes i d (omega (arith, m, n)))))
      ])

  pub known_indexed : IsKnown new
  known_indexed = record {
    spots = subst (λ vs. All (IsSpot vs) new.spots.items) (sym values)
        (subst (All (IsSpot old.values.items)) (sym spots) (All-set (IsSpot old.values.items) old.spots.items place t spot_stays is.spots));
    reached = subst (λ es. AreReached es new.chains new.ordered.steps.items) (sym same_entries)
        (subst (λ hs. AreReached (entries_in old) hs new.ordered.steps.items) (sym chains)
        (subst (λ (o : OrderedKeys). AreReached (entries_in old) old.chains o.steps.items) (sym ordered) is.reached));
    indexes = indexes_stay;
  }

-- the hashes that the index of an entry has, where it is at these places
pub index_read : (known : Known) → IsKnown known → (place : ℕ) (s : Spot) → place < length (entries_in known) → s ≡ get_or known.spots.items place s
    → (k : ℕ) → s.index ≡ Some k → IsIndexed (kept_of known place) known.indexes.items k
index_read known is place s l was k e =
    let n = length-entries_in known in
    subst (λ o. IfSome o (IsIndexed (kept_of known place) known.indexes.items)) e
    (subst (λ (x : Spot). IfSome x.index (IsIndexed (kept_of known place) known.indexes.items)) (sym was) (is.indexes place s (omega (arith, l, n))))

-- ---- equal values

pub values_decided : (a b : Value) → Decides (eq_by_cmp value_cmp a b) (a ≡ b)
values_decided a b = (
  λ t. value_cmp_tells a b (equal_from (value_cmp a b) t),
  λ e. ap (eq_by_cmp value_cmp a) (sym e) ∙ ap is_eq (tied_itself value_cmp_total a),
)

-- the spot at a place is of the step, and its key was compared
pub key_decided : (known : Known) (place : ℕ) (s : Spot) → place < length (entries_in known) → s ≡ get_or known.spots.items place s
    → (step : ℕ) (key : Row) → s.step ≡ step → (n : ℕ) → n ≡ s.key_width
    → (r : Bool) → r ≡ pointwise (eq_by_cmp value_cmp) (part known.values.items s.from n) key
    → Decides r ((entry_of known place).0 ≡ (step, key))
key_decided known place s l is step key same n wide r told =
    let values = known.values.items in
    let entry : entry_of known place ≡ entry_at values s = entry_read known place s l is in
    let found : part values s.from n ≡ part values s.from s.key_width = ap (part values s.from) wide in
    let d = slice_eq-Decides {E = eq_by_cmp value_cmp} values_decided (part values s.from n) key r told in (
      λ t. ap (λ (e : Entry). e.0) entry ∙ ap (λ k. (s.step, k)) (sym found ∙ d.0 t) ∙ ap (λ i. (i, key)) same,
      λ e. d.1 (found ∙ ap (λ (p : ℕ × Row). p.1) (sym (ap (λ (e : Entry). e.0) entry) ∙ e)),
    )

-- ---- a search

abbrev pub hash_at : Known → ℕ → ℕ
hash_at known place = slice_index_or known.chains place 0

pub record Searched (known : Known) (hash : ℕ) (probe : ℕ × Row) (at : Option ℕ) : Type 0 where
  pub end : ℕ
  pub within : end ≤ length (entries_in known)
  pub last : IsLast hash known.chains end at
  pub passed : (i : ℕ) → end ≤ i → i < length (entries_in known) → hash_at known i ≡ hash → (entry_of known i).0 ≡ probe → ⊥

abbrev pub places_left : Option ℕ → ℕ
places_left None = 0
places_left (Some place) = suc place

module _ (known : Known) (is : IsKnown known) (step : ℕ) (key : Row) where
  -- no place was looked at
  pub searched_first : (at : Option ℕ) → IsLast (hash_of step key) known.chains (length known.chains) at
      → Searched known (hash_of step key) (step, key) at
  searched_first at last =
      let n = is.reached.chained in
      record {
        end = length known.chains;
        within = omega (arith, n);
        last = last;
        passed = λ i l m own e. absurd (omega (arith, l, m, n));
      }

  -- the entry at a place isn't the one that is looked for, and the search goes on before it
  pub searched_more : (place : ℕ) → Searched known (hash_of step key) (step, key) (Some place) → ((entry_of known place).0 ≡ (step, key) → ⊥)
      → (at : Option ℕ) → IsLast (hash_at known place) known.chains place at → Searched known (hash_of step key) (step, key) at
  searched_more place s other at last = record {
    end = place;
    within = omega (arith, s.within, s.last.0);
    last = subst (λ h. IsLast h known.chains place at) s.last.1 last;
    passed = passed;
  }
    where
      passed : (i : ℕ) → place ≤ i → i < length (entries_in known) → hash_at known i ≡ hash_of step key → (entry_of known i).0 ≡ (step, key) → ⊥
      passed i l m own e = elim (cases_lt place i) [
        | inl behind ↦ elim (cases_lt i s.end) [
          | inl before ↦ s.last.2 i behind before own
          | inr past ↦ s.passed i past m own e
        ]
        | inr same ↦ other (subst (λ j. (entry_of known j).0 ≡ (step, key)) (let t : i ≡ place = omega (arith, l, same) in t) e)
      ]

  abbrev kept : Option ℕ
  kept = kept_under known.ordered.steps.items step key

  -- no place is left, and no entry is kept in order
  searched_all : Searched known (hash_of step key) (step, key) None → kept ≡ None → (e : Entry) → Has (entries_in known) e → e.0 ≡ (step, key) → ⊥
  searched_all s none e h same =
      let c = Contains-from_has (entries_in known) e h in
      let at : (entry_of known c.0).0 ≡ (step, key) =
      ap (λ (x : Entry). x.0) (get_or_default (entries_in known) c.0 ((0, []), []) e c.1 ∙ c.2) ∙ same in
      elim (subst (λ (k : ℕ × Row). IsReached known.chains known.ordered.steps.items c.0 k) at (is.reached.reached c.0 c.1)) [
        | inl own ↦ elim (cases_lt c.0 s.end) [
          | inl before ↦ s.last c.0 before own
          | inr past ↦ s.passed c.0 past c.1 own at
        ]
        | inr some ↦ (let t : false ≡ true = subst IsSome none some in cc)
      ]

  -- what is kept in order is such an entry, and where nothing is, there is none
  pub kept_there : (o : Option ℕ) → o ≡ kept → IfSome o (λ place. place < length (entries_in known))
  kept_there o e = some_weaker (λ place at. at.0) o (subst (λ x. IfSome x (IsAt (entries_in known) (step, key))) (sym e) (is.reached.kept step key))

  pub kept_key : (o : Option ℕ) → o ≡ kept → IfSome o (λ place. (entry_of known place).0 ≡ (step, key))
  kept_key o e = some_weaker (λ place at. at.1) o (subst (λ x. IfSome x (IsAt (entries_in known) (step, key))) (sym e) (is.reached.kept step key))

  pub kept_none : Searched known (hash_of step key) (step, key) None → (o : Option ℕ) → o ≡ kept
      → IfNone o ((e : Entry) → Has (entries_in known) e → e.0 ≡ (step, key) → ⊥)
  kept_none s None e = searched_all s (sym e)
  kept_none s (Some place) e = tt
