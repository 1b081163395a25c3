-- Where tuples and groups lie in a bucket.
use Rattle.std.proofs.Common.{◌≡◌, ◌≤◌, ◌<◌, ◌-◌, ℕ, zero, suc, Bool, true, false, cond, List, [], ◌∷◌, length, take, drop, get_or, refl, ap, sym, ◌∙◌, arith}
use Rattle.std.specs.declared.cmp.Ordering.{Ordering}
use Rattle.std.specs.declared.cmp.Ordering.TheVariants.{Less, Equal, Greater}
use Rattle.std.specs.Ordering.{is_lt, is_le, is_eq, is_gt, ordering_then, ordering_reverse}
use Rattle.std.specs.List.{filter, AllByRecursion}
use Rattle.std.specs.List.Sorted.{IsPartitionedBy}
use Rattle.beas_core.specs.declared.value.Value.{Value}
use Rattle.beas_core.specs.Order.{value_cmp, row_cmp, row_cmp_total}
use Rattle.beas_core.specs.Sets.{IsInOrder}
use Rattle.std.specs.Prelude.{nat_lt}
use borrow.Author.Tests.{ltb-true, ltb-false}
use Rattle.beas_core.proofs.ValueOrder.{row_cmp_tells}
use Rattle.blocked_list.proofs.Joined.{all_at}
use Rattle.blocked_list.proofs.Ending.{Parted, Parted-back}
use Rattle.access_index.specs.declared.tally.Tally.{Tally}
use Rattle.access_index.specs.Buckets.{tuples_in, key_order, is_key, IsGap}

pub front_le : (w : ℕ) (a b : List Value) → row_cmp a b ≡ Less → is_gt (row_cmp (take w a) (take w b)) ≡ false
front_le zero a b e = refl
front_le (suc w) [] [] e = refl
front_le (suc w) [] (y ∷ ys) e = refl
front_le (suc w) (x ∷ xs) [] e = cc
front_le (suc w) (x ∷ xs) (y ∷ ys) e = by (value_cmp x y) e (front_le w xs ys)
  where
    by : (d : Ordering) → ordering_then d (row_cmp xs ys) ≡ Less → (row_cmp xs ys ≡ Less → is_gt (row_cmp (take w xs) (take w ys)) ≡ false)
        → is_gt (ordering_then d (row_cmp (take w xs) (take w ys))) ≡ false
    by Less h rest = refl
    by Equal h rest = rest h
    by Greater h rest = cc

-- what a greater row inherits
pub not_less_up : (a b k : List Value) → is_gt (row_cmp a b) ≡ false → is_lt (row_cmp a k) ≡ false → is_lt (row_cmp b k) ≡ false
not_less_up a b k le out = by (row_cmp a b) (row_cmp b k) refl refl le
  where
    by : (d e : Ordering) → row_cmp a b ≡ d → row_cmp b k ≡ e → is_gt d ≡ false → is_lt e ≡ false
    by d Equal p q g = refl
    by d Greater p q g = refl
    by Less Less p q g = let t = row_cmp_total.trans a b k p q in let f = sym (ap is_lt t) ∙ out in cc
    by Equal Less p q g = let t = row_cmp_total.congr a b k p in let f = sym (ap is_lt (t ∙ q)) ∙ out in cc
    by Greater Less p q g = cc

pub not_at_most_up : (a b k : List Value) → is_gt (row_cmp a b) ≡ false → is_le (row_cmp a k) ≡ false → is_le (row_cmp b k) ≡ false
not_at_most_up a b k le out = by (row_cmp a b) (row_cmp a k) refl refl le out
  where
    greater : row_cmp k b ≡ Less → is_le (row_cmp b k) ≡ false
    greater h = ap is_le (row_cmp_total.antisymm b k ∙ ap ordering_reverse h)

    by : (d e : Ordering) → row_cmp a b ≡ d → row_cmp a k ≡ e → is_gt d ≡ false → is_le e ≡ false → is_le (row_cmp b k) ≡ false
    by d Less p q g n = cc
    by d Equal p q g n = cc
    by Less Greater p q g n = greater (row_cmp_total.trans k a b (row_cmp_total.antisymm k a ∙ ap ordering_reverse q) p)
    by Equal Greater p q g n = ap is_le (sym (row_cmp_total.congr a b k p) ∙ q)
    by Greater Greater p q g n = cc

none_kept : {T : Type 0} (test : T → Bool) (ts : List T) → AllByRecursion (λ t. test t ≡ false) ts → filter test ts ≡ []
none_kept test [] a = refl
none_kept test (t ∷ ts) a = ap (λ b. cond b (t ∷ filter test ts) (filter test ts)) a.0 ∙ none_kept test ts a.1

pub all_over : (P : List Value → Type 0) (Q : Tally → Type 0) → ((t : Tally) → P t.tuple → Q t) → (ts : List Tally) → AllByRecursion P (tuples_in ts)
    → AllByRecursion Q ts
all_over P Q f [] a = tt
all_over P Q f (t ∷ ts) a = (f t a.0, all_over P Q f ts a.1)

-- a test that a tuple fails, and each greater one then too, parts tallies in order
parted : (test : Tally → Bool) → ((t u : Tally) → row_cmp t.tuple u.tuple ≡ Less → test t ≡ false → test u ≡ false)
    → (ts : List Tally) → IsInOrder row_cmp (tuples_in ts) → Parted test ts
parted test up [] o = tt
parted test up (t ∷ ts) o = (
  λ out. none_kept test ts (all_over (λ y. row_cmp t.tuple y ≡ Less) (λ u. test u ≡ false) (λ u l. up t u l out) ts o.0),
  parted test up ts o.1,
)

module _ (w : ℕ) (key : List Value) where
  abbrev pub starts_after : Tally → Bool
  starts_after t = is_lt (key_order w key t)

  abbrev pub ends_after : Tally → Bool
  ends_after t = is_le (key_order w key t)

  less_parted : (ts : List Tally) → IsInOrder row_cmp (tuples_in ts) → Parted starts_after ts
  less_parted = parted starts_after (λ t u l out. not_less_up (take w t.tuple) (take w u.tuple) key (front_le w t.tuple u.tuple l) out)

  at_most_parted : (ts : List Tally) → IsInOrder row_cmp (tuples_in ts) → Parted ends_after ts
  at_most_parted = parted ends_after (λ t u l out. not_at_most_up (take w t.tuple) (take w u.tuple) key (front_le w t.tuple u.tuple l) out)

  pub key_start : (ts : List Tally) → IsInOrder row_cmp (tuples_in ts) → IsPartitionedBy starts_after ts
  key_start ts o = Parted-back starts_after ts (less_parted ts o)

  pub key_end : (ts : List Tally) → IsInOrder row_cmp (tuples_in ts) → IsPartitionedBy ends_after ts
  key_end ts o = Parted-back ends_after ts (at_most_parted ts o)

  equal_none : (ts : List Tally) → filter ends_after ts ≡ [] → filter (is_key w key) ts ≡ []
  equal_none [] e = refl
  equal_none (t ∷ ts) e = by (key_order w key t) e (equal_none ts)
    where
      by : (d : Ordering) → cond (is_le d) (t ∷ filter ends_after ts) (filter ends_after ts) ≡ [] → (filter ends_after ts ≡ [] → filter (is_key w key) ts ≡ [])
          → cond (is_eq d) (t ∷ filter (is_key w key) ts) (filter (is_key w key) ts) ≡ []
      by Less h rest = absurd (omega (arith, ap length h))
      by Equal h rest = absurd (omega (arith, ap length h))
      by Greater h rest = rest h

  pub record IsStretch (ts : List Tally) (from end : ℕ) : Type 0 where
    pub ordered : from ≤ end
    pub within : end ≤ length ts
    pub members : take (end - from) (drop from ts) ≡ filter (is_key w key) ts

  module _ (t : Tally) (ts : List Tally) where
    less_is : (d : Ordering) → key_order w key t ≡ d → length (filter starts_after (t ∷ ts))
        ≡ length (cond (is_lt d) (t ∷ filter starts_after ts) (filter starts_after ts))
    less_is d e = ap (λ o. length (cond (is_lt o) (t ∷ filter starts_after ts) (filter starts_after ts))) e

    at_most_is : (d : Ordering) → key_order w key t ≡ d → length (filter ends_after (t ∷ ts))
        ≡ length (cond (is_le d) (t ∷ filter ends_after ts) (filter ends_after ts))
    at_most_is d e = ap (λ o. length (cond (is_le o) (t ∷ filter ends_after ts) (filter ends_after ts))) e

    equal_is : (d : Ordering) → key_order w key t ≡ d → filter (is_key w key) (t ∷ ts)
        ≡ cond (is_eq d) (t ∷ filter (is_key w key) ts) (filter (is_key w key) ts)
    equal_is d e = ap (λ o. cond (is_eq o) (t ∷ filter (is_key w key) ts) (filter (is_key w key) ts)) e

    moved : (from end first last : ℕ) → first ≡ suc from → last ≡ suc end → take (last - first) (drop first (t ∷ ts)) ≡ take (end - from) (drop from ts)
    moved from end first last f l =
        let d : last - first ≡ end - from = omega arith in
        ap (λ n. take n (drop first (t ∷ ts))) d ∙ ap (λ n. take (end - from) (drop n (t ∷ ts))) f

    opened : (from end first last : ℕ) → from ≡ 0 → first ≡ 0 → last ≡ suc end
        → take (last - first) (drop first (t ∷ ts)) ≡ t ∷ take (end - from) (drop from ts)
    opened from end first last z f l =
        let d : last - first ≡ suc end = omega arith in
        let e : end ≡ end - from = omega arith in
        ap (λ n. take n (drop first (t ∷ ts))) d ∙ ap (λ n. take (suc end) (drop n (t ∷ ts))) f
        ∙ ap (λ n. t ∷ take n ts) e ∙ ap (λ n. t ∷ take (end - from) (drop n ts)) (sym z)

    nothing : (first last : ℕ) → last ≡ 0 → take (last - first) (drop first (t ∷ ts)) ≡ []
    nothing first last l = let d : last - first ≡ 0 = omega arith in ap (λ n. take n (drop first (t ∷ ts))) d

    grown : (d : Ordering) → key_order w key t ≡ d → Parted starts_after (t ∷ ts) → Parted ends_after (t ∷ ts)
        → IsStretch ts (length (filter starts_after ts)) (length (filter ends_after ts))
        → IsStretch (t ∷ ts) (length (filter starts_after (t ∷ ts))) (length (filter ends_after (t ∷ ts)))
    grown Less e p q s =
        let l = less_is Less e in let m = at_most_is Less e in let o = s.ordered in let v = s.within in
        record {
          ordered = omega (arith, l, m, o);
          within = omega (arith, m, v);
          members = moved (length (filter starts_after ts)) (length (filter ends_after ts)) (length (filter starts_after (t ∷ ts)))
              (length (filter ends_after (t ∷ ts))) l m
              ∙ s.members ∙ sym (equal_is Less e);
        }
    grown Equal e p q s =
        let l = less_is Equal e in let m = at_most_is Equal e in let o = s.ordered in let v = s.within in
        let z = ap length (p.0 (ap is_lt e)) in
        record {
          ordered = omega (arith, l, m, o);
          within = omega (arith, m, v);
          members = opened (length (filter starts_after ts)) (length (filter ends_after ts)) (length (filter starts_after (t ∷ ts)))
              (length (filter ends_after (t ∷ ts))) z (l ∙ z) m
              ∙ ap (λ us. t ∷ us) s.members ∙ sym (equal_is Equal e);
        }
    grown Greater e p q s =
        let l = less_is Greater e in let m = at_most_is Greater e in let o = s.ordered in let v = s.within in
        let none = q.0 (ap is_le e) in
        let z = ap length none in
        record {
          ordered = omega (arith, l, m, o);
          within = omega (arith, m, v);
          members = nothing (length (filter starts_after (t ∷ ts))) (length (filter ends_after (t ∷ ts))) (m ∙ z) ∙ sym (equal_none ts none)
              ∙ sym (equal_is Greater e);
        }

  stretch : (ts : List Tally) → Parted starts_after ts → Parted ends_after ts → IsStretch ts (length (filter starts_after ts)) (length (filter ends_after ts))
  stretch [] p q = record { ordered = omega arith; within = omega arith; members = refl }
  stretch (t ∷ ts) p q = grown t ts (key_order w key t) refl p q (stretch ts p.1 q.1)

  pub stretch_of : (ts : List Tally) → IsInOrder row_cmp (tuples_in ts) → IsStretch ts (length (filter starts_after ts)) (length (filter ends_after ts))
  stretch_of ts o = stretch ts (less_parted ts o) (at_most_parted ts o)

  -- the same by the places that a search gives
  pub stretched : (ts : List Tally) (from end : ℕ) → IsInOrder row_cmp (tuples_in ts) → from ≡ length (filter starts_after ts)
      → end ≡ length (filter ends_after ts)
      → take (end - from) (drop from ts) ≡ filter (is_key w key) ts
  stretched ts from end o f e =
      ap (λ n. take (end - n) (drop n ts)) f
      ∙ ap (λ n. take (n - length (filter starts_after ts)) (drop (length (filter starts_after ts)) ts)) e
      ∙ (stretch_of ts o).members

-- the place of a tuple
module _ (x : List Value) where
  abbrev pub stands_before : Tally → Bool
  stands_before t = is_lt (row_cmp t.tuple x)

  before_parted : (ts : List Tally) → IsInOrder row_cmp (tuples_in ts) → Parted stands_before ts
  before_parted = parted stands_before (λ t u l out. not_less_up t.tuple u.tuple x (ap is_gt l) out)

  pub tuple_place : (ts : List Tally) → IsInOrder row_cmp (tuples_in ts) → IsPartitionedBy stands_before ts
  tuple_place ts o = Parted-back stands_before ts (before_parted ts o)

  less_from : (o : Ordering) → is_lt o ≡ true → o ≡ Less
  less_from Less e = refl
  less_from Equal e = cc
  less_from Greater e = cc

  pub place_le : (ts : List Tally) → length (filter stands_before ts) ≤ length ts
  place_le [] = omega arith
  place_le (t ∷ ts) = by (stands_before t) (place_le ts)
    where
      by : (b : Bool) → length (filter stands_before ts) ≤ length ts → length (cond b (t ∷ filter stands_before ts) (filter stands_before ts)) ≤ length (t ∷ ts)
      by true h = omega arith
      by false h = omega arith

  front_passes : (ts : List Tally) (k : ℕ) (d : Tally) → Parted stands_before ts → k < length (filter stands_before ts) → stands_before (get_or ts k d) ≡ true
  front_passes [] k d p l = absurd (omega (arith, l))
  front_passes (t ∷ ts) zero d p l = by (stands_before t) refl l
    where
      by : (b : Bool) → stands_before t ≡ b → 0 < length (cond b (t ∷ filter stands_before ts) (filter stands_before ts)) → stands_before t ≡ true
      by true e h = e
      by false e h = absurd (omega (arith, h, ap length (p.0 e)))
  front_passes (t ∷ ts) (suc k) d p l = by (stands_before t) refl l (front_passes ts k d p.1)
    where
      by : (b : Bool) → stands_before t ≡ b → suc k < length (cond b (t ∷ filter stands_before ts) (filter stands_before ts))
          → (k < length (filter stands_before ts) → stands_before (get_or ts k d) ≡ true) → stands_before (get_or ts k d) ≡ true
      by true e h rest = rest (omega arith)
      by false e h rest = absurd (omega (arith, h, ap length (p.0 e)))

  rest_fails : (ts : List Tally) (k : ℕ) (d : Tally) → Parted stands_before ts → length (filter stands_before ts) ≤ k → k < length ts
      → stands_before (get_or ts k d) ≡ false
  rest_fails [] k d p h l = absurd (omega (arith, l))
  rest_fails (t ∷ ts) zero d p h l = by (stands_before t) refl h
    where
      by : (b : Bool) → stands_before t ≡ b → length (cond b (t ∷ filter stands_before ts) (filter stands_before ts)) ≤ 0 → stands_before t ≡ false
      by true e g = absurd (omega (arith, g))
      by false e g = e
  rest_fails (t ∷ ts) (suc k) d p h l = by (stands_before t) refl h (λ g. rest_fails ts k d p.1 g (omega arith))
    where
      by : (b : Bool) → stands_before t ≡ b → length (cond b (t ∷ filter stands_before ts) (filter stands_before ts)) ≤ suc k
          → (length (filter stands_before ts) ≤ k → stands_before (get_or ts k d) ≡ false) → stands_before (get_or ts k d) ≡ false
      by true e g rest = rest (omega arith)
      by false e g rest = rest (omega (arith, ap length (p.0 e)))

  pub in_order_at : (ts : List Tally) (i j : ℕ) (d : Tally) → IsInOrder row_cmp (tuples_in ts) → i < j → j < length ts
      → row_cmp (get_or ts i d).tuple (get_or ts j d).tuple ≡ Less
  in_order_at [] i j d o l m = absurd (omega (arith, m))
  in_order_at (t ∷ ts) i zero d o l m = absurd (omega (arith, l))
  in_order_at (t ∷ ts) zero (suc j) d o l m =
      all_at (λ u. row_cmp t.tuple u.tuple ≡ Less) ts j d (omega arith)
      (all_over (λ y. row_cmp t.tuple y ≡ Less) (λ u. row_cmp t.tuple u.tuple ≡ Less) (λ u h. h) ts o.0)
  in_order_at (t ∷ ts) (suc i) (suc j) d o l m = in_order_at ts i j d o.1 (omega arith) (omega arith)

  pub gap_at : (ts : List Tally) (at : ℕ) → IsInOrder row_cmp (tuples_in ts) → at ≡ length (filter stands_before ts)
      → ((d : Tally) → at < length ts → row_cmp (get_or ts at d).tuple x ≡ Equal → ⊥) → IsGap ts x at
  gap_at ts at o e not_here = record { within = omega (arith, e, place_le ts); before = before; after = after }
    where
      before : (k : ℕ) (d : Tally) → k < at → row_cmp (get_or ts k d).tuple x ≡ Less
      before k d l = less_from (row_cmp (get_or ts k d).tuple x) (front_passes ts k d (before_parted ts o) (omega (arith, e, l)))

      after : (k : ℕ) (d : Tally) → at ≤ k → k < length ts → row_cmp x (get_or ts k d).tuple ≡ Less
      after k d h l = by (row_cmp (get_or ts k d).tuple x) refl
        where
          fails : (j : ℕ) → at ≤ j → j < length ts → is_lt (row_cmp (get_or ts j d).tuple x) ≡ false
          fails j g m = rest_fails ts j d (before_parted ts o) (omega (arith, e, g)) m

          by : (c : Ordering) → row_cmp (get_or ts k d).tuple x ≡ c → row_cmp x (get_or ts k d).tuple ≡ Less
          by Less q = let f = sym (ap is_lt q) ∙ fails k h l in cc
          by Greater q = row_cmp_total.antisymm x (get_or ts k d).tuple ∙ ap ordering_reverse q
          by Equal q = absurd (which (nat_lt at k) refl)
            where
              which : (b : Bool) → nat_lt at k ≡ b → ⊥
              which true w =
                  let earlier = in_order_at ts at k d o (ltb-true at k w) l in
                  let same = ap (row_cmp (get_or ts at d).tuple) (row_cmp_tells (get_or ts k d).tuple x q) in
                  let f = sym (ap is_lt (sym same ∙ earlier)) ∙ fails at (omega arith) (omega (arith, h, l)) in cc
              which false w =
                  let n : at ≡ k = omega (arith, h, ltb-false at k w) in
                  not_here d (omega (arith, n, l)) (ap (λ j. row_cmp (get_or ts j d).tuple x) n ∙ q)
