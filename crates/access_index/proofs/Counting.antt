-- How many rows have a tuple, by the tallies of a bucket, and that tallies in order are known by their counts.
use Rattle.std.proofs.Common.{◌≡◌, ◌≤◌, ◌<◌, ◌+◌, ℕ, zero, suc, Bool, true, false, cond, List, [], ◌∷◌, length, take, get_or, refl, ap, sym, ◌∙◌, subst, arith}
use Rattle.std.specs.Prelude.{if◌then◌else◌, nat_lt}
use borrow.Author.Tests.{ltb-true, ltb-false}
use Rattle.std.specs.List.{filter, insert, remove, AllByRecursion}
use Rattle.std.proofs.Math.ListN.{set}
use Rattle.std.proofs.Math.Seq.{map-set_same}
use Rattle.std.proofs.lemmas.List.Sums.{sum_by-cons, sum_by-set, sum_by-insert, sum_by-remove}
use Rattle.std.specs.Ordering.{is_eq, ordering_reverse}
use Rattle.std.specs.declared.cmp.Ordering.{Ordering}
use Rattle.std.specs.declared.cmp.Ordering.TheVariants.{Less, Equal, Greater}
use Rattle.beas_core.specs.declared.value.Value.{Value}
use Rattle.beas_core.specs.Order.{row_cmp, row_cmp_total}
use Rattle.beas_core.specs.Sets.{IsInOrder, add_in_order}
use Rattle.beas_core.specs.Groups.{same_row}
use Rattle.beas_core.proofs.ValueOrder.{row_cmp_tells}
use Rattle.beas_core.proofs.Sets.{IsInOrder-add, add_at}
use Rattle.beas_core.proofs.Groups.{same_row_true, same_row_itself}
use Rattle.blocked_list.proofs.Joined.{all_set, all_insert, all_remove, all_at}
use Rattle.access_index.specs.declared.tally.Tally.{Tally}
use Rattle.access_index.proofs.Places.{all_over}
use Rattle.access_index.specs.Buckets.{tuples_in, count_for, count_in, counts_in, one_if, AllCounted, is_key, IsGap, AllTuplesPass, IsOneMore}

less_not_same : (x y : List Value) → row_cmp x y ≡ Less → same_row y x ≡ false
less_not_same x y l = ap is_eq (row_cmp_total.antisymm y x ∙ ap ordering_reverse l)

count_cons : (x : List Value) (t : Tally) (ts : List Tally) → count_in (t ∷ ts) x ≡ count_for x t + count_in ts x
count_cons x t ts = sum_by-cons (count_for x) t ts

counts_cons : (t : Tally) (ts : List Tally) → counts_in (t ∷ ts) ≡ t.count + counts_in ts
counts_cons t ts = sum_by-cons (λ u. u.count) t ts

pub tuples_within : (ts : List Tally) → AllCounted ts → length ts ≤ counts_in ts
tuples_within [] a = omega arith
tuples_within (t ∷ ts) a = let here = a.0 in omega (arith, here, counts_cons t ts, tuples_within ts a.1)

pub count_within : (ts : List Tally) (i : ℕ) (d : Tally) → i < length ts → (get_or ts i d).count ≤ counts_in ts
count_within [] i d l = absurd (omega (arith, l))
count_within (t ∷ ts) zero d l = omega (arith, counts_cons t ts)
count_within (t ∷ ts) (suc i) d l = omega (arith, counts_cons t ts, count_within ts i d (omega arith))

-- what one tally gives at a count one higher
count_step : (x : List Value) (more less : Tally) (tuple : List Value) → more.tuple ≡ tuple → less.tuple ≡ tuple → more.count ≡ less.count + 1
    → count_for x more ≡ count_for x less + one_if (same_row tuple x)
count_step x more less tuple m l c =
    ap (λ u. if same_row u x then more.count else 0) m
    ∙ by (same_row tuple x)
    ∙ ap (λ u. (if same_row u x then less.count else 0) + one_if (same_row tuple x)) (sym l)
  where
    by : (b : Bool) → cond b more.count 0 ≡ cond b less.count 0 + cond b 1 0
    by true = c
    by false = omega arith

count_one : (x tuple : List Value) → count_for x (record { tuple = tuple; count = 1 }) ≡ one_if (same_row tuple x)
count_one x tuple = refl

same_tuples : (ts : List Tally) (i : ℕ) (t d : Tally) → t.tuple ≡ (get_or ts i d).tuple → tuples_in (set ts i t) ≡ tuples_in ts
same_tuples ts i t d e = map-set_same (λ u. u.tuple) ts i t d e

pass_back : (test : List Value → Bool) (ts : List Tally) (i : ℕ) (t d : Tally) → i < length ts → t.tuple ≡ (get_or ts i d).tuple
    → AllTuplesPass test (set ts i t) → AllTuplesPass test ts
pass_back test [] i t d l e a = tt
pass_back test (u ∷ ts) zero t d l e a = (ap test (sym e) ∙ a.0, a.1)
pass_back test (u ∷ ts) (suc i) t d l e a = (a.0, pass_back test ts i t d (omega arith) e a.1)

pass_set : (test : List Value → Bool) (ts : List Tally) (i : ℕ) (t d : Tally) → i < length ts → t.tuple ≡ (get_or ts i d).tuple
    → AllTuplesPass test ts → AllTuplesPass test (set ts i t)
pass_set test ts i t d l e a = all_set (λ u. test u.tuple ≡ true) ts i t a (ap test e ∙ all_at (λ u. test u.tuple ≡ true) ts i d l a)

-- a count written one higher
pub raised : (ts : List Tally) (i : ℕ) (t d : Tally) (tuple : List Value) → IsInOrder row_cmp (tuples_in ts) → AllCounted ts → i < length ts
    → (get_or ts i d).tuple ≡ tuple → t.tuple ≡ (get_or ts i d).tuple → t.count ≡ (get_or ts i d).count + 1 → IsOneMore ts (set ts i t) tuple
raised ts i t d tuple o a l e same c = record {
  less_ordered = o;
  more_ordered = subst (IsInOrder row_cmp) (sym (same_tuples ts i t d same)) o;
  less_counted = a;
  more_counted = all_set (λ u. 1 ≤ u.count) ts i t a (omega (arith, c));
  counts = λ x. omega (arith, sum_by-set (count_for x) ts i t d l, count_step x t (get_or ts i d) tuple (same ∙ e) e c);
  sum = omega (arith, sum_by-set (λ u. u.count) ts i t d l, c);
  kept = λ test p. pass_back test ts i t d l same p;
  added = λ test q p. pass_set test ts i t d l same p;
}

-- a count written one lower
pub lowered : (ts : List Tally) (i : ℕ) (t d : Tally) (tuple : List Value) → IsInOrder row_cmp (tuples_in ts) → AllCounted ts → i < length ts
    → (get_or ts i d).tuple ≡ tuple → t.tuple ≡ (get_or ts i d).tuple → 1 ≤ t.count → (get_or ts i d).count ≡ t.count + 1 → IsOneMore (set ts i t) ts tuple
lowered ts i t d tuple o a l e same some c = record {
  less_ordered = subst (IsInOrder row_cmp) (sym (same_tuples ts i t d same)) o;
  more_ordered = o;
  less_counted = all_set (λ u. 1 ≤ u.count) ts i t a some;
  more_counted = a;
  counts = λ x. omega (arith, sum_by-set (count_for x) ts i t d l, count_step x (get_or ts i d) t tuple e (same ∙ e) c);
  sum = omega (arith, sum_by-set (λ u. u.count) ts i t d l, c);
  kept = λ test p. pass_set test ts i t d l same p;
  added = λ test q p. pass_back test ts i t d l same p;
}

tuples_take : (n : ℕ) (ts : List Tally) → tuples_in (take n ts) ≡ take n (tuples_in ts)
tuples_take zero ts = refl
tuples_take (suc n) [] = refl
tuples_take (suc n) (t ∷ ts) = ap (λ us. t.tuple ∷ us) (tuples_take n ts)

tuples_insert : (ts : List Tally) (i : ℕ) (t : Tally) → tuples_in (insert ts i t) ≡ insert (tuples_in ts) i t.tuple
tuples_insert ts zero t = refl
tuples_insert [] (suc i) t = refl
tuples_insert (u ∷ ts) (suc i) t = ap (λ us. u.tuple ∷ us) (tuples_insert ts i t)

tuples_at : (ts : List Tally) (k : ℕ) (e : List Value) (d : Tally) → k < length ts → get_or (tuples_in ts) k e ≡ (get_or ts k d).tuple
tuples_at [] k e d l = absurd (omega (arith, l))
tuples_at (t ∷ ts) zero e d l = refl
tuples_at (t ∷ ts) (suc k) e d l = tuples_at ts k e d (omega arith)

tuples_length : (ts : List Tally) → length (tuples_in ts) ≡ length ts
tuples_length [] = refl
tuples_length (t ∷ ts) = ap suc (tuples_length ts)

insert_pass : (test : List Value → Bool) (ts : List Tally) (i : ℕ) (t : Tally) → AllTuplesPass test (insert ts i t) → AllTuplesPass test ts
insert_pass test ts zero t a = a.1
insert_pass test [] (suc i) t a = tt
insert_pass test (u ∷ ts) (suc i) t a = (a.0, insert_pass test ts i t a.1)

-- a tuple put in where it was missing
pub put_in : (ts : List Tally) (i : ℕ) (tuple : List Value) → IsInOrder row_cmp (tuples_in ts) → AllCounted ts → IsGap ts tuple i
    → IsOneMore ts (insert ts i (record { tuple = tuple; count = 1 })) tuple
put_in ts i tuple o a gap =
    let t : Tally = record { tuple = tuple; count = 1 } in
    let long = tuples_length ts in
    let within = gap.within in
    let e : tuples_in (insert ts i t) ≡ add_in_order row_cmp tuple (tuples_in ts) =
    tuples_insert ts i t
    ∙ sym (add_at row_cmp_total row_cmp_tells tuple i (tuples_in ts)
    (λ j e l. ap (λ y. row_cmp y tuple) (tuples_at ts j e t (omega arith)) ∙ gap.before j t l)
    (λ j e h l. ap (row_cmp tuple) (tuples_at ts j e t (omega (arith, l, long))) ∙ gap.after j t h (omega (arith, l, long))) (omega (arith, within, long))) in
    record {
      less_ordered = o;
      more_ordered = subst (IsInOrder row_cmp) (sym e) (IsInOrder-add row_cmp_total row_cmp_tells tuple (tuples_in ts) o);
      less_counted = a;
      more_counted = all_insert (λ u. 1 ≤ u.count) ts i t a (omega arith);
      counts = λ x. sum_by-insert (count_for x) ts i t;
      sum = sum_by-insert (λ u. u.count) ts i t;
      kept = λ test p. insert_pass test ts i t p;
      added = λ test q p. all_insert (λ u. test u.tuple ≡ true) ts i t p q;
    }

tuples_remove : (ts : List Tally) (i : ℕ) → tuples_in (remove ts i) ≡ remove (tuples_in ts) i
tuples_remove [] zero = refl
tuples_remove [] (suc i) = refl
tuples_remove (t ∷ ts) zero = refl
tuples_remove (t ∷ ts) (suc i) = ap (λ us. t.tuple ∷ us) (tuples_remove ts i)

remove_in_order : (xs : List (List Value)) (i : ℕ) → IsInOrder row_cmp xs → IsInOrder row_cmp (remove xs i)
remove_in_order [] zero o = tt
remove_in_order [] (suc i) o = tt
remove_in_order (x ∷ xs) zero o = o.1
remove_in_order (x ∷ xs) (suc i) o = (all_remove (λ y. row_cmp x y ≡ Less) xs i o.0, remove_in_order xs i o.1)

remove_pass : (test : List Value → Bool) (ts : List Tally) (i : ℕ) (d : Tally) → test (get_or ts i d).tuple ≡ true → AllTuplesPass test (remove ts i)
    → AllTuplesPass test ts
remove_pass test [] i d q a = tt
remove_pass test (t ∷ ts) zero d q a = (q, a)
remove_pass test (t ∷ ts) (suc i) d q a = (a.0, remove_pass test ts i d q a.1)

-- a tuple whose last row goes
pub taken_out : (ts : List Tally) (i : ℕ) (d : Tally) (tuple : List Value) → IsInOrder row_cmp (tuples_in ts) → AllCounted ts → i < length ts
    → (get_or ts i d).tuple ≡ tuple → (get_or ts i d).count ≡ 1 → IsOneMore (remove ts i) ts tuple
taken_out ts i d tuple o a l e one = record {
  less_ordered = subst (IsInOrder row_cmp) (sym (tuples_remove ts i)) (remove_in_order (tuples_in ts) i o);
  more_ordered = o;
  less_counted = all_remove (λ u. 1 ≤ u.count) ts i a;
  more_counted = a;
  counts = λ x. omega (arith, sum_by-remove (count_for x) ts i d l, last x);
  sum = omega (arith, sum_by-remove (λ u. u.count) ts i d l, one);
  kept = λ test p. all_remove (λ u. test u.tuple ≡ true) ts i p;
  added = λ test q p. remove_pass test ts i d (ap test e ∙ q) p;
}
  where
    last : (x : List Value) → count_for x (get_or ts i d) ≡ one_if (same_row tuple x)
    last x = ap (λ n. if same_row (get_or ts i d).tuple x then n else 0) one ∙ ap (λ u. one_if (same_row u x)) e

-- the only tuple's last row
pub last_one : (ts : List Tally) (i : ℕ) (d : Tally) (tuple : List Value) → IsInOrder row_cmp (tuples_in ts) → AllCounted ts → i < length ts
    → (get_or ts i d).tuple ≡ tuple → (get_or ts i d).count ≡ 1 → length ts ≤ 1 → IsOneMore [] ts tuple
last_one [] i d tuple o a l e one few = absurd (omega (arith, l))
last_one (t ∷ []) zero d tuple o a l e one few = taken_out (t ∷ []) zero d tuple o a l e one
last_one (t ∷ []) (suc i) d tuple o a l e one few = absurd (omega (arith, l))
last_one (t ∷ u ∷ ts) i d tuple o a l e one few = absurd (omega (arith, few))

-- a tuple that is in no tally
none_counted : (tuple : List Value) (ts : List Tally) → AllByRecursion (λ t. same_row t.tuple tuple ≡ false) ts → count_in ts tuple ≡ 0
none_counted tuple [] a = refl
none_counted tuple (t ∷ ts) a =
    let here = ap (λ b. if b then t.count else 0) a.0 in omega (arith, count_cons tuple t ts, here, none_counted tuple ts a.1)

all_by_place : (P : Tally → Type 0) (ts : List Tally) → ((k : ℕ) (d : Tally) → k < length ts → P (get_or ts k d)) → AllByRecursion P ts
all_by_place P [] f = tt
all_by_place P (t ∷ ts) f = (f 0 t (omega arith), all_by_place P ts (λ k d l. f (suc k) d (omega arith)))

pub gap_uncounted : (tuple : List Value) (ts : List Tally) (at : ℕ) → IsGap ts tuple at → count_in ts tuple ≡ 0
gap_uncounted tuple ts at gap = none_counted tuple ts (all_by_place (λ t. same_row t.tuple tuple ≡ false) ts (λ k d l. which k d l (nat_lt k at) refl))
  where
    which : (k : ℕ) (d : Tally) → k < length ts → (b : Bool) → nat_lt k at ≡ b → same_row (get_or ts k d).tuple tuple ≡ false
    which k d l true e = ap is_eq (gap.before k d (ltb-true k at e))
    which k d l false e = less_not_same tuple (get_or ts k d).tuple (gap.after k d (ltb-false k at e) l)

-- the count of a tuple in the part of a bucket that has a key
module _ (w : ℕ) (key x : List Value) where
  here_alike : (t : Tally) → cond (is_key w key t) (count_for x t) 0 ≡ cond (same_row (take w x) key) (count_for x t) 0
  here_alike t = by (same_row t.tuple x) refl
    where
      zeros : (b : Bool) → cond {A = ℕ} b 0 0 ≡ 0
      zeros true = refl
      zeros false = refl

      by : (b : Bool) → same_row t.tuple x ≡ b → cond (is_key w key t) (cond (same_row t.tuple x) t.count 0) 0
          ≡ cond (same_row (take w x) key) (cond (same_row t.tuple x) t.count 0) 0
      by true e = ap (λ u. cond (same_row (take w u) key) (cond (same_row t.tuple x) t.count 0) 0) (same_row_true t.tuple x e)
      by false e =
          ap (λ c. cond (is_key w key t) (cond c t.count 0) 0) e ∙ zeros (is_key w key t)
          ∙ sym (ap (λ c. cond (same_row (take w x) key) (cond c t.count 0) 0) e ∙ zeros (same_row (take w x) key))

  kept_cons : (b : Bool) (t : Tally) (ts : List Tally) → count_in (cond b (t ∷ ts) ts) x ≡ cond b (count_for x t) 0 + count_in ts x
  kept_cons true t ts = count_cons x t ts
  kept_cons false t ts = omega arith

  taken_cons : (b : Bool) (m n : ℕ) → cond b (m + n) 0 ≡ cond b m 0 + cond b n 0
  taken_cons true m n = refl
  taken_cons false m n = refl

  pub count_kept : (ts : List Tally) → count_in (filter (is_key w key) ts) x ≡ cond (same_row (take w x) key) (count_in ts x) 0
  count_kept [] = by (same_row (take w x) key)
    where
      by : (b : Bool) → 0 ≡ cond {A = ℕ} b 0 0
      by true = refl
      by false = refl
  count_kept (t ∷ ts) =
      kept_cons (is_key w key t) t (filter (is_key w key) ts)
      ∙ ap (λ n. n + count_in (filter (is_key w key) ts) x) (here_alike t)
      ∙ ap (λ n. cond (same_row (take w x) key) (count_for x t) 0 + n) (count_kept ts)
      ∙ sym (taken_cons (same_row (take w x) key) (count_for x t) (count_in ts x))
      ∙ ap (λ n. cond (same_row (take w x) key) n 0) (sym (count_cons x t ts))

-- tallies in order are known by their counts
count_itself : (t : Tally) → count_for t.tuple t ≡ t.count
count_itself t = ap (λ b. if b then t.count else 0) (same_row_itself t.tuple)

none_of_greater : (x : List Value) (ts : List Tally) → AllByRecursion (λ y. row_cmp x y ≡ Less) (tuples_in ts) → count_in ts x ≡ 0
none_of_greater x ts a = none_counted x ts (all_over (λ y. row_cmp x y ≡ Less) (λ t. same_row t.tuple x ≡ false) (λ t l. less_not_same x t.tuple l) ts a)

greater_than_all : (x y : List Value) (ts : List Tally) → row_cmp x y ≡ Less → AllByRecursion (λ z. row_cmp y z ≡ Less) (tuples_in ts)
    → AllByRecursion (λ z. row_cmp x z ≡ Less) (tuples_in ts)
greater_than_all x y [] l a = tt
greater_than_all x y (t ∷ ts) l a = (row_cmp_total.trans x y t.tuple l a.0, greater_than_all x y ts l a.1)

-- a tuple before the first one has no count
before_first : (x : List Value) (u : Tally) (us : List Tally) → IsInOrder row_cmp (tuples_in (u ∷ us)) → row_cmp x u.tuple ≡ Less → count_in (u ∷ us) x ≡ 0
before_first x u us o l = none_of_greater x (u ∷ us) (l, greater_than_all x u.tuple us l o.0)

first_counted : (t : Tally) (ts : List Tally) → 1 ≤ t.count → 1 ≤ count_in (t ∷ ts) t.tuple
first_counted t ts h = omega (arith, h, count_cons t.tuple t ts, count_itself t)

first_count : (t : Tally) (ts : List Tally) → IsInOrder row_cmp (tuples_in (t ∷ ts)) → count_in (t ∷ ts) t.tuple ≡ t.count
first_count t ts o = omega (arith, count_cons t.tuple t ts, count_itself t, none_of_greater t.tuple ts o.0)

pub same_counts : (ts us : List Tally) → IsInOrder row_cmp (tuples_in ts) → IsInOrder row_cmp (tuples_in us) → AllCounted ts → AllCounted us
    → ((x : List Value) → count_in ts x ≡ count_in us x) → ts ≡ us
same_counts [] [] o p a b h = refl
same_counts [] (u ∷ us) o p a b h = absurd (omega (arith, h u.tuple, first_counted u us b.0))
same_counts (t ∷ ts) [] o p a b h = absurd (omega (arith, h t.tuple, first_counted t ts a.0))
same_counts (t ∷ ts) (u ∷ us) o p a b h = by (row_cmp t.tuple u.tuple) refl (λ e. same_counts ts us o.1 p.1 a.1 b.1 (left e))
  where
    counts_alike : t.tuple ≡ u.tuple → t.count ≡ u.count
    counts_alike e = sym (first_count t ts o) ∙ h t.tuple ∙ ap (count_in (u ∷ us)) e ∙ first_count u us p

    alike : t.tuple ≡ u.tuple → t ≡ u
    alike e = λ i. record { tuple = e i; count = counts_alike e i }

    left : t.tuple ≡ u.tuple → (x : List Value) → count_in ts x ≡ count_in us x
    left e x = omega (arith, h x, count_cons x t ts, count_cons x u us, ap (count_for x) (alike e))

    by : (d : Ordering) → row_cmp t.tuple u.tuple ≡ d → (t.tuple ≡ u.tuple → ts ≡ us) → t ∷ ts ≡ u ∷ us
    by Less q rest = absurd (omega (arith, h t.tuple, first_counted t ts a.0, before_first t.tuple u us p q))
    by Equal q rest = let e = row_cmp_tells t.tuple u.tuple q in (λ i. alike e i ∷ rest e i)
    by Greater q rest =
        absurd (omega (arith, h u.tuple, first_counted u us b.0, before_first u.tuple t ts o (row_cmp_total.antisymm u.tuple t.tuple ∙ ap ordering_reverse q)))
