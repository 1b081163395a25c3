-- What an index tells of one row, and what a probe finds.
use Rattle.std.proofs.Common.{◌≡◌, ◌≤◌, ◌<◌, ◌+◌, ◌-◌, ℕ, zero, suc, Bool, true, false, cond, ◌⊎◌, inl, inr, List, [], ◌∷◌, ◌++◌, length, take, drop, get_or, refl, ap, sym, ◌∙◌, subst, arith}
use Rattle.std.specs.Prelude.{nat_eq, max, Option, Some, None, Result, Ok, Err, MatchResult, is_ok, is_some, nat_lt, slice_get, IsTrue, ◌↔◌}
use borrow.Author.Tests.{ltb-true, ltb-false}
use Rattle.std.proofs.lemmas.Bool.{lt-ltb}
use Rattle.std.specs.Option.{unwrap_or}
use Rattle.std.specs.List.{filter, AllByRecursion}
use Rattle.std.specs.Map.{values_of, lookup}
use Rattle.std.specs.declared.cmp.Ordering.{Ordering}
use Rattle.std.specs.declared.cmp.Ordering.TheVariants.{Less, Equal, Greater}
use Rattle.std.proofs.lemmas.List.{length-map, length-take, length-drop, get_or-take, get_or-drop, get_or-map, get_or_default}
use Rattle.std.proofs.lemmas.List.Sums.{sum_by-cons}
use Rattle.beas_core.specs.declared.value.Value.{Value}
use Rattle.beas_core.specs.declared.schema.Access.{Access}
use Rattle.beas_core.specs.Found.{Found}
use Rattle.beas_core.specs.Order.{row_cmp, row_cmp_total}
use Rattle.beas_core.specs.Sets.{by_order, add_in_order}
use Rattle.beas_core.specs.Groups.{Holds, same_row, group_of}
use Rattle.beas_core.proofs.ValueOrder.{row_cmp_tells}
use Rattle.beas_core.proofs.Sets.{Has, Has-from_contains, Contains-from_has, add_known, length-add-le}
use Rattle.beas_core.proofs.Groups.{same_row_itself, group_push_own, Holds-push}
use Rattle.access_index.specs.declared.tally.Tally.{Tally}
use Rattle.access_index.specs.Hashing.{hash_of}
use Rattle.access_index.specs.Buckets.{tuples_in, count_in, is_key, IsGap, IsStored, IsBucket, IsBest, IsGroupLen, counts_in, group_len}
use Rattle.access_index.specs.declared.start.GroupStart.{GroupStart}
use Rattle.access_index.specs.Index.{Index, IsIndexOf, WouldHold, tallies, tuple_of, key_of, start_at}
use Rattle.access_index.proofs.Storing.{bucket_at, count_at, entries_sum}
use Rattle.access_index.proofs.Indexing.{own, take_tuple, group_tuples, group_in_order}

length_add_new : (x : List Value) (g : List (List Value)) → (Has g x → ⊥) → length (add_in_order row_cmp x g) ≡ length g + 1
length_add_new x [] out = omega arith
length_add_new x (y ∷ g) out = by (row_cmp x y) refl (length_add_new x g (λ h. out (inr h)))
  where
    by : (d : Ordering) → row_cmp x y ≡ d → length (add_in_order row_cmp x g) ≡ length g + 1
        → length (by_order d (x ∷ y ∷ g) (y ∷ g) (y ∷ add_in_order row_cmp x g)) ≡ length (y ∷ g) + 1
    by Less e h = omega arith
    by Equal e h = absurd (out (inl (row_cmp_tells x y e)))
    by Greater e h = omega (arith, h)

kept_has : (w : ℕ) (x : List Value) (ts : List Tally) (at : ℕ) (d : Tally) → at < length ts → (get_or ts at d).tuple ≡ x
    → Has (tuples_in (filter (is_key w (take w x)) ts)) x
kept_has w x [] at d l e = absurd (omega (arith, l))
kept_has w x (t ∷ ts) zero d l e =
    subst (λ b. Has (tuples_in (cond b (t ∷ filter (is_key w (take w x)) ts) (filter (is_key w (take w x)) ts))) x)
    (sym (ap (λ u. same_row (take w u) (take w x)) e ∙ same_row_itself (take w x))) (inl (sym e))
kept_has w x (t ∷ ts) (suc at) d l e = by (is_key w (take w x) t) (kept_has w x ts at d (omega arith) e)
  where
    by : (b : Bool) → Has (tuples_in (filter (is_key w (take w x)) ts)) x
        → Has (tuples_in (cond b (t ∷ filter (is_key w (take w x)) ts) (filter (is_key w (take w x)) ts))) x
    by true h = inr h
    by false h = h

has_kept : (test : Tally → Bool) (x : List Value) (ts : List Tally) → Has (tuples_in (filter test ts)) x → Has (tuples_in ts) x
has_kept test x [] h = h
has_kept test x (t ∷ ts) h = by (test t) h (has_kept test x ts)
  where
    by : (b : Bool) → Has (tuples_in (cond b (t ∷ filter test ts) (filter test ts))) x → (Has (tuples_in (filter test ts)) x → Has (tuples_in ts) x)
        → Has (tuples_in (t ∷ ts)) x
    by true (inl e) rest = inl e
    by true (inr g) rest = inr (rest g)
    by false g rest = inr (rest g)

gap_lacks : (x : List Value) (ts : List Tally) (at : ℕ) → IsGap ts x at → Has (tuples_in ts) x → ⊥
gap_lacks x ts at gap h = find ts (λ k d l. not_here k d l) h
  where
    not_here : (k : ℕ) (d : Tally) → k < length ts → x ≡ (get_or ts k d).tuple → ⊥
    not_here k d l e = elim (split k at) [
      | inl b ↦ let less = gap.before k d b in let same = ap (λ y. row_cmp y x) e ∙ less in itself same
      | inr a ↦ let less = gap.after k d a l in let same = ap (row_cmp x) e ∙ less in itself same
    ]
      where
        split : (m n : ℕ) → (m < n) ⊎ (n ≤ m)
        split zero zero = inr (omega arith)
        split zero (suc n) = inl (omega arith)
        split (suc m) zero = inr (omega arith)
        split (suc m) (suc n) = elim (split m n) [ inl h ↦ inl (omega arith) | inr h ↦ inr (omega arith) ]

        itself : row_cmp x x ≡ Less → ⊥
        itself q = let r = row_cmp_total.antisymm x x in cc

    find : (us : List Tally) → ((k : ℕ) (d : Tally) → k < length us → x ≡ (get_or us k d).tuple → ⊥) → Has (tuples_in us) x → ⊥
    find [] out g = g
    find (u ∷ us) out (inl e) = out 0 u (omega arith) e
    find (u ∷ us) out (inr g) = find us (λ k d l. out (suc k) d (omega arith)) g

module _ (access : Access) (n total : ℕ) (entries : List (ℕ × List Tally)) (stored : IsStored n (length access.key) entries total) (row : List Value) where
  abbrev pub seen : Index
  seen = record { access = access; total = total; buckets = values_of entries }

  abbrev found : List Tally
  found = bucket_at entries (hash_of (key_of access row))

  at_key : tallies seen (key_of access row) ≡ filter (is_key (length access.key) (key_of access row)) found
  at_key = own access n total entries stored [] (key_of access row)

  pub would_by_group : length (filter (is_key (length access.key) (key_of access row)) found) < access.bound → WouldHold seen row
  would_by_group l = inr (omega (arith, l, ap length at_key))

  pub would_by_tuple : (at : ℕ) (d : Tally) → at < length found → (get_or found at d).tuple ≡ tuple_of access row → WouldHold seen row
  would_by_tuple at d l e =
      let w = length access.key in
      let x = tuple_of access row in
      let h = subst (λ k. Has (tuples_in (filter (is_key w k) found)) x) (take_tuple access row) (kept_has w x found at d l e) in
      inl (Contains-from_has (tuples_in (tallies seen (key_of access row))) x (subst (λ ts. Has (tuples_in ts) x) (sym at_key) h))

  pub would_not : (at : ℕ) → access.bound ≤ length (filter (is_key (length access.key) (key_of access row)) found) → IsGap found (tuple_of access row) at
      → WouldHold seen row → ⊥
  would_not at l gap (inl c) =
      let x = tuple_of access row in
      gap_lacks x found at gap
      (has_kept (is_key (length access.key) (key_of access row)) x found
      (subst (λ ts. Has (tuples_in ts) x) at_key (Has-from_contains (tuples_in (tallies seen (key_of access row))) x c)))
  would_not at l gap (inr s) = omega (arith, l, s, ap length at_key)

  pub nothing_there : lookup (nat_eq (hash_of (key_of access row))) entries ≡ None → IsTrue (nat_lt 0 access.bound) ↔ WouldHold seen row
  nothing_there none = (
    λ t. would_by_group (omega (
      arith,
      ltb-true 0 access.bound t,
      ap (λ o. length (filter (is_key (length access.key) (key_of access row)) (unwrap_or o [])))
          none,
    )),
    λ would. positive access.bound (λ z. would_not 0 (omega (arith, z)) (subst (λ o. IsGap (unwrap_or o []) (tuple_of access row) 0) (sym none) empty_gap)
        would),
  )
    where
      empty_gap : IsGap [] (tuple_of access row) 0
      empty_gap = record { within = omega arith; before = λ k d l. absurd (omega (arith, l)); after = λ k d g l. absurd (omega (arith, l)) }

      positive : (m : ℕ) → (m ≡ 0 → ⊥) → nat_lt 0 m ≡ true
      positive zero out = absurd (out refl)
      positive (suc m) out = lt-ltb 0 (suc m) (omega arith)

  abbrev pub Searched : Result ℕ ℕ → List Tally → List Value → Type 0
  Searched r ts x = MatchResult r (λ at. (at < length ts) × ((d : Tally) → (get_or ts at d).tuple ≡ x)) (λ at. IsGap ts x at)

  pub searched : (r : Result ℕ ℕ) → Searched r found (tuple_of access row)
      → access.bound ≤ length (filter (is_key (length access.key) (key_of access row)) found) → IsTrue (is_ok r) ↔ WouldHold seen row
  searched (Ok at) m l = (λ t. would_by_tuple at (record { tuple = []; count = 0 }) m.0 (m.1 (record { tuple = []; count = 0 })), λ would. refl)
  searched (Err at) m l = (λ t. cc, λ would. absurd (would_not at l m would))

  -- so the constraint would hold with the row
  pub holds_iff : (b : Bool) → (IsTrue b ↔ WouldHold seen row) → (rows : List (List Value)) → IsIndexOf seen rows → Holds rows access
      → IsTrue b ↔ Holds (rows ++ row ∷ []) access
  holds_iff b exactly rows is h = (λ t. Holds-push rows access row h (fits (exactly.0 t)), λ g. back b exactly g)
    where
      tuples : tuples_in (tallies seen (key_of access row)) ≡ group_of rows access (key_of access row)
      tuples = ap tuples_in (is.tallies_are (key_of access row)) ∙ group_tuples access rows (key_of access row)

      len : length (tallies seen (key_of access row)) ≡ length (group_of rows access (key_of access row))
      len = sym (length-map (tallies seen (key_of access row)) (λ (t : Tally). t.tuple)) ∙ ap length tuples

      more : length (group_of (rows ++ row ∷ []) access (key_of access row))
          ≡ length (add_in_order row_cmp (tuple_of access row) (group_of rows access (key_of access row)))
      more = ap length (group_push_own rows access.key access.fetched row)

      fits : WouldHold seen row → length (group_of (rows ++ row ∷ []) access (key_of access row)) ≤ access.bound
      fits (inl c) =
          let there = subst (λ ts. Has ts (tuple_of access row)) tuples
          (Has-from_contains (tuples_in (tallies seen (key_of access row))) (tuple_of access row) c) in
          let known = ap length (add_known row_cmp_total row_cmp_tells (tuple_of access row) (group_of rows access (key_of access row))
          (group_in_order access rows (key_of access row) (key_of access row)) there) in
          let room = h (key_of access row) in
          omega (arith, more, known, room)
      fits (inr s) = omega (arith, more, s, len, length-add-le row_cmp_total row_cmp_tells (tuple_of access row) (group_of rows access (key_of access row)))

      back : (c : Bool) → (IsTrue c ↔ WouldHold seen row) → Holds (rows ++ row ∷ []) access → IsTrue c
      back true e g = refl
      back false e g =
          let room = g (key_of access row) in
          let new = length_add_new (tuple_of access row) (group_of rows access (key_of access row))
          (λ there. wrong (e.1 (inl (Contains-from_has (tuples_in (tallies seen (key_of access row))) (tuple_of access row)
          (subst (λ ts. Has ts (tuple_of access row)) (sym tuples) there))))) in
          absurd (wrong (e.1 (inr (omega (arith, more, new, room, len)))))
        where
          wrong : IsTrue false → ⊥
          wrong t = cc

-- both clauses of `would_hold`, of the index as callers see it
pub record Told (b : Bool) (self : Index) (row : List Value) : Type 0 where
  pub exactly : IsTrue b ↔ WouldHold self row
  pub holds : (rows : List (List Value)) → IsIndexOf self rows → Holds rows self.access → IsTrue b ↔ Holds (rows ++ row ∷ []) self.access

pub told : (access : Access) (n total : ℕ) (entries : List (ℕ × List Tally)) (stored : IsStored n (length access.key) entries total) (row : List Value)
    (self : Index)
    → seen access n total entries stored row ≡ self → (b : Bool) → (IsTrue b ↔ WouldHold (seen access n total entries stored row) row) → Told b self row
told access n total entries stored row self e b exactly =
    subst (λ s. Told b s row) e (record { exactly = exactly; holds = holds_iff access n total entries stored row b exactly })

-- a group as a search found it
pub group_found : (ts us : List Tally) (w v : ℕ) (key own_key : List Value) (from len : ℕ) → us ≡ ts → v ≡ w → own_key ≡ key → from + len ≤ length us
    → take len (drop from us) ≡ filter (is_key v own_key) us → len ≡ length (filter (is_key w key) ts)
group_found ts us w v key own_key from len e f g within members =
    omega (
      arith,
      within,
      ap length members,
      length-take len (drop from us),
      length-drop from us,
      ap (λ m. length (filter (is_key m own_key) us)) f,
      ap (λ k. length (filter (is_key w k) us)) g,
      ap (λ rs. length (filter (is_key w key) rs)) e,
    )

-- places, and what lies there
pub at_place : {X : Type 0} (xs : List X) (i : ℕ) (x d : X) → slice_get xs i ≡ Some x → get_or xs i d ≡ x
at_place [] i x d e = cc
at_place (y ∷ ys) zero x d e = cc
at_place (y ∷ ys) (suc i) x d e = at_place ys i x d e

tuples_take : (n : ℕ) (ts : List Tally) → take n (tuples_in ts) ≡ tuples_in (take n ts)
tuples_take zero ts = refl
tuples_take (suc n) [] = refl
tuples_take (suc n) (t ∷ ts) = ap (λ us. t.tuple ∷ us) (tuples_take n ts)

tuples_drop : (n : ℕ) (ts : List Tally) → drop n (tuples_in ts) ≡ tuples_in (drop n ts)
tuples_drop zero ts = refl
tuples_drop (suc n) [] = refl
tuples_drop (suc n) (t ∷ ts) = tuples_drop n ts

pub none_from : {X : Type 0} (o : Option X) → false ≡ is_some o → o ≡ None
none_from None e = refl
none_from (Some x) e = cc

module _ (buckets : List (List Tally)) (index from len : ℕ) (ts : List Tally) (found : Found) (there : slice_get buckets index ≡ Some ts)
    (start_is : start_at found.place ≡ record { bucket = index; from = from }) (len_is : found.len ≡ len) where
  lying : drop (start_at found.place).from (tuples_in (get_or buckets (start_at found.place).bucket [])) ≡ tuples_in (drop from ts)
  lying =
      ap (λ (start : GroupStart). drop start.from (tuples_in (get_or buckets start.bucket []))) start_is
      ∙ ap (λ us. drop from (tuples_in us)) (at_place buckets index ts [] there) ∙ tuples_drop from ts

  pub members_are : take found.len (drop (start_at found.place).from (tuples_in (get_or buckets (start_at found.place).bucket [])))
      ≡ tuples_in (take len (drop from ts))
  members_are = ap (λ n. take n (drop (start_at found.place).from (tuples_in (get_or buckets (start_at found.place).bucket [])))) len_is ∙ ap (take len) lying
      ∙ tuples_take len (drop from ts)

  pub members_len : from + len ≤ length ts → found.len ≡ length
      (take found.len (drop (start_at found.place).from (tuples_in (get_or buckets (start_at found.place).bucket []))))
  members_len within =
      omega (
        arith,
        within,
        len_is,
        ap length members_are,
        length-map (take len (drop from ts)) (λ (t : Tally). t.tuple),
        length-take len (drop from ts),
        length-drop from ts,
      )

  pub members_stand : from + len ≤ length ts
      → found.len ≤ length (drop (start_at found.place).from (tuples_in (get_or buckets (start_at found.place).bucket [])))
  members_stand within = omega (arith, within, len_is, ap length lying, length-map (drop from ts) (λ (t : Tally). t.tuple), length-drop from ts)

pub probed : (access : Access) (n total : ℕ) (entries : List (ℕ × List Tally)) (stored : IsStored n (length access.key) entries total)
    (rows : List (List Value)) (key : List Value) (ts : List Tally)
    → IsIndexOf (record { access = access; total = total; buckets = values_of entries }) rows → ts ≡ bucket_at entries (hash_of key)
    → tuples_in (filter (is_key (length access.key) key) ts) ≡ group_of rows access key
probed access n total entries stored rows key ts is e =
    ap (λ us. tuples_in (filter (is_key (length access.key) key) us)) e
    ∙ ap tuples_in (sym (own access n total entries stored rows key) ∙ is.tallies_are key) ∙ group_tuples access rows key

-- a tuple of a probe
pub member_at : (buckets : List (List Tally)) (found : Found) (ts : List Tally) (i : ℕ) (d : Tally) → slice_get buckets (start_at found.place).bucket ≡ Some ts
    → i < found.len
    → (start_at found.place).from + i < length ts
    → get_or (take found.len (drop (start_at found.place).from (tuples_in (get_or buckets (start_at found.place).bucket [])))) i []
    ≡ (get_or ts ((start_at found.place).from + i) d).tuple
member_at buckets found ts i d there l within =
    get_or-take found.len (drop (start_at found.place).from (tuples_in (get_or buckets (start_at found.place).bucket []))) i [] l
    ∙ get_or-drop (start_at found.place).from (tuples_in (get_or buckets (start_at found.place).bucket [])) i []
    ∙ ap (λ us. get_or (tuples_in us) ((start_at found.place).from + i) []) (at_place buckets (start_at found.place).bucket ts [] there)
    ∙ get_or-map (λ (t : Tally). t.tuple) ts ((start_at found.place).from + i) d [] within

pub bucket_at_place : (n w : ℕ) (entries : List (ℕ × List Tally)) (i : ℕ) (ts : List Tally) → AllByRecursion (λ e. IsBucket n w e.0 e.1) entries
    → slice_get (values_of entries) i ≡ Some ts → (h : ℕ) × IsBucket n w h ts
bucket_at_place n w [] i ts a e = cc
bucket_at_place n w (e ∷ es) zero ts a f = let same : e.1 ≡ ts = cc in (e.0, subst (λ us. IsBucket n w e.0 us) same a.0)
bucket_at_place n w (e ∷ es) (suc i) ts a f = bucket_at_place n w es i ts a.1 f

pub sum_at_place : (entries : List (ℕ × List Tally)) (i : ℕ) (ts : List Tally) → slice_get (values_of entries) i ≡ Some ts → counts_in ts ≤ entries_sum entries
sum_at_place [] i ts e = cc
sum_at_place (e ∷ es) zero ts f = let same : e.1 ≡ ts = cc in omega (arith, ap counts_in same, sum_by-cons (λ (d : ℕ × List Tally). counts_in d.1) e es)
sum_at_place (e ∷ es) (suc i) ts f = omega (arith, sum_at_place es i ts f, sum_by-cons (λ (d : ℕ × List Tally). counts_in d.1) e es)

-- the greatest group of a bucket, tuple by tuple
pub best_of_none : (w : ℕ) (ts : List Tally) → IsBest w ts 0 0
best_of_none w ts = record { above = λ k d l. absurd (omega (arith, l)); reached = inl refl; within = omega arith }

pub best_same : (w : ℕ) (ts : List Tally) (i best : ℕ) (a b : Tally) → IsBest w ts i best → 0 < i → i < length ts → a ≡ get_or ts (i - 1) a → b ≡ get_or ts i b
    → take w a.tuple ≡ take w b.tuple → IsBest w ts (i + 1) best
best_same w ts i best a b before some l is own alike = record { above = above; reached = before.reached; within = before.within }
  where
    above : (k : ℕ) (d : Tally) → k < i + 1 → group_len w ts (get_or ts k d) ≤ best
    above k d m = which (nat_lt k i) refl
      where
        which : (c : Bool) → nat_lt k i ≡ c → group_len w ts (get_or ts k d) ≤ best
        which true e = before.above k d (ltb-true k i e)
        which false e =
            let n : k ≡ i = omega (arith, m, ltb-false k i e) in
            let here = ap (λ j. get_or ts j d) n ∙ get_or_default ts i d b l ∙ sym own in
            omega (
              arith,
              before.above (i - 1) a (omega arith),
              ap (group_len w ts) (sym is),
              ap (group_len w ts) here,
              ap
                  (λ x. length (filter (is_key w x) ts)) alike,
            )

pub best_more : (w : ℕ) (ts : List Tally) (i best len : ℕ) (b : Tally) → IsBest w ts i best → i < length ts → b ≡ get_or ts i b → len ≡ group_len w ts b
    → len ≤ length ts → IsBest w ts (i + 1) (max len best)
best_more w ts i best len b before l own is few = record {
  above = above;
  reached = which (nat_lt len best) refl;
  within = let v = before.within in
      omega arith;
}
  where
    above : (k : ℕ) (d : Tally) → k < i + 1 → group_len w ts (get_or ts k d) ≤ max len best
    above k d m = by (nat_lt k i) refl
      where
        by : (c : Bool) → nat_lt k i ≡ c → group_len w ts (get_or ts k d) ≤ max len best
        by true e = omega (arith, before.above k d (ltb-true k i e))
        by false e =
            let n : k ≡ i = omega (arith, m, ltb-false k i e) in
            let here = ap (λ j. get_or ts j d) n ∙ get_or_default ts i d b l ∙ sym own in
            omega (arith, ap (group_len w ts) here, is)

    which : (c : Bool) → nat_lt len best ≡ c → (max len best ≡ 0) ⊎ IsGroupLen w ts (max len best)
    which true e =
        let m : best ≡ max len best = omega (arith, ltb-true len best e) in
        elim before.reached [ inl z ↦ inl (sym m ∙ z) | inr r ↦ inr (subst (IsGroupLen w ts) m r) ]
    which false e =
        let m : len ≡ max len best = omega (arith, ltb-false len best e) in
        inr (record { key = take w b.tuple; is = sym m ∙ is })

-- a group that is found by the tuple where it begins
pub found_len : (w : ℕ) (ts : List Tally) (key x : List Value) (from len : ℕ) → key ≡ take w x → from + len ≤ length ts
    → take len (drop from ts) ≡ filter (is_key w key) ts
    → (len ≡ length (filter (is_key w (take w x)) ts)) × (len ≤ length ts)
found_len w ts key x from len e within members = (
  omega (arith, within, ap length members, length-take len (drop from ts), length-drop from ts, ap (λ k. length (filter (is_key w k) ts)) e),
  omega (arith, within),
)

pub stand_within : (buckets : List (List Tally)) (found : Found) (ts : List Tally) (i : ℕ) → slice_get buckets (start_at found.place).bucket ≡ Some ts
    → i < found.len
    → found.len ≤ length (drop (start_at found.place).from (tuples_in (get_or buckets (start_at found.place).bucket [])))
    → (start_at found.place).from + i < length ts
stand_within buckets found ts i there l stands =
    omega (
      arith,
      l,
      stands,
      length-drop (start_at found.place).from (tuples_in (get_or buckets (start_at found.place).bucket [])),
      ap (λ us. length (tuples_in us)) (at_place buckets (start_at found.place).bucket ts [] there),
      length-map ts (λ (t : Tally). t.tuple),
    )

-- a tuple that is in no bucket
pub absent_count : (access : Access) (entries : List (ℕ × List Tally)) (row : List Value) (ts : List Tally)
    → ts ≡ bucket_at entries (hash_of (key_of access row)) → count_in ts (tuple_of access row) ≡ 0
    → count_at (length access.key) entries (tuple_of access row) ≡ 0
absent_count access entries row ts e none =
    ap (λ k. count_in (bucket_at entries (hash_of k)) (tuple_of access row)) (take_tuple access row) ∙ ap (λ us. count_in us (tuple_of access row)) (sym e)
    ∙ none
