-- A group over codes, read by the values of the codes, and its edits.
use Rattle.std.proofs.Common.{◌≡◌, ◌≢◌, ◌≤◌, ◌<◌, ◌+◌, ◌⊎◌, ℕ, zero, suc, Bool, true, false, cond, inl, inr, List, [], ◌∷◌, length, get_or, refl, ap, sym, ◌∙◌, subst, arith}
use Rattle.std.specs.List.{AllByRecursion, filter, insert, remove}
use Rattle.std.proofs.Math.ListN.{set}
use Rattle.std.proofs.lemmas.List.{get_or-map}
use Rattle.std.proofs.lemmas.List.Sums.{sum_by-cons}
use Rattle.std.specs.Ordering.{is_lt}
use Rattle.std.specs.declared.cmp.Ordering.{Ordering}
use Rattle.std.specs.declared.cmp.Ordering.TheVariants.{Less, Equal, Greater}
use Rattle.beas_core.specs.declared.value.Value.{Value}
use Rattle.beas_core.specs.Order.{row_cmp, row_cmp_total}
use Rattle.beas_core.specs.Sets.{IsInOrder}
use Rattle.beas_core.specs.Groups.{same_row}
use Rattle.beas_core.proofs.Groups.{same_row_true}
use Rattle.beas_core.proofs.Sets.{Has}
use Rattle.access_index.specs.declared.tally.Tally.{Tally}
use Rattle.access_index.specs.Buckets.{tuples_in, count_for, count_in, AllCounted, IsGap, IsOneMore}
use Rattle.access_index.proofs.Places.{tuple_place}
use Rattle.access_index.proofs.Counting.{raised, lowered, put_in, taken_out}
use Rattle.labelled_list.specs.declared.coded.Coded.{Coded}
use Rattle.code_index.specs.Codes.{AreDistinct}
use Rattle.code_index.specs.Reading.{read, read_tally, read_group, AllKnown, AllCodesKnown}
use Rattle.code_index.proofs.ReadFacts.{read_tells}

module _ (codes : List Value) where
  read_set : (g : List Coded) (i : ℕ) (c : Coded) → read_group codes (set g i c) ≡ set (read_group codes g) i (read_tally codes c)
  read_set [] i c = refl
  read_set (x ∷ g) zero c = refl
  read_set (x ∷ g) (suc i) c = ap (λ ts. read_tally codes x ∷ ts) (read_set g i c)

  read_insert : (g : List Coded) (i : ℕ) (c : Coded) → read_group codes (insert g i c) ≡ insert (read_group codes g) i (read_tally codes c)
  read_insert g zero c = refl
  read_insert [] (suc i) c = refl
  read_insert (x ∷ g) (suc i) c = ap (λ ts. read_tally codes x ∷ ts) (read_insert g i c)

  read_remove : (g : List Coded) (i : ℕ) → read_group codes (remove g i) ≡ remove (read_group codes g) i
  read_remove [] zero = refl
  read_remove [] (suc i) = refl
  read_remove (x ∷ g) zero = refl
  read_remove (x ∷ g) (suc i) = ap (λ ts. read_tally codes x ∷ ts) (read_remove g i)

  pub length_group : (g : List Coded) → length (read_group codes g) ≡ length g
  length_group [] = refl
  length_group (x ∷ g) = ap suc (length_group g)

  pub read_at : (g : List Coded) (i : ℕ) (d : Coded) (e : Tally) → i < length g → get_or (read_group codes g) i e ≡ read_tally codes (get_or g i d)
  read_at g i d e l = get_or-map (read_tally codes) g i d e l

  module _ (g : List Coded) (i : ℕ) (d : Coded) (o : IsInOrder row_cmp (tuples_in (read_group codes g))) (a : AllCounted (read_group codes g)) (l : i < length g) where
    within : i < length (read_group codes g)
    within = omega (arith, l, length_group g)

    -- a count written one higher
    pub group_raised : (c : Coded) (tuple : List Value) → read codes (get_or g i d).codes ≡ tuple → c.codes ≡ (get_or g i d).codes
        → c.count ≡ (get_or g i d).count + 1 → IsOneMore (read_group codes g) (read_group codes (set g i c)) tuple
    group_raised c tuple e same more =
        let t = read_tally codes c in
        let at = read_at g i d t l in
        subst (λ ts. IsOneMore (read_group codes g) ts tuple) (sym (read_set g i c))
        (raised (read_group codes g) i t t tuple o a within (ap (λ x. x.tuple) at ∙ e) (ap (read codes) same ∙ sym (ap (λ x. x.tuple) at))
        (more ∙ ap (λ x. x.count + 1) (sym at)))

    -- a count written one lower
    pub group_lowered : (c : Coded) → c.codes ≡ (get_or g i d).codes → 1 ≤ c.count → (get_or g i d).count ≡ c.count + 1
        → IsOneMore (read_group codes (set g i c)) (read_group codes g) (read codes (get_or g i d).codes)
    group_lowered c same some less =
        let t = read_tally codes c in
        let at = read_at g i d t l in
        subst (λ ts. IsOneMore ts (read_group codes g) (read codes (get_or g i d).codes)) (sym (read_set g i c))
        (lowered (read_group codes g) i t t (read codes (get_or g i d).codes) o a within (ap (λ x. x.tuple) at)
        (ap (read codes) same ∙ sym (ap (λ x. x.tuple) at)) some (ap (λ x. x.count) at ∙ less))

    -- a tuple whose last row goes
    pub group_taken : (get_or g i d).count ≡ 1 → IsOneMore (read_group codes (remove g i)) (read_group codes g) (read codes (get_or g i d).codes)
    group_taken one =
        let t = read_tally codes d in
        let at = read_at g i d t l in
        subst (λ ts. IsOneMore ts (read_group codes g) (read codes (get_or g i d).codes)) (sym (read_remove g i))
        (taken_out (read_group codes g) i t (read codes (get_or g i d).codes) o a within (ap (λ x. x.tuple) at) (ap (λ x. x.count) at ∙ one))

  -- a tuple put in where it was missing
  pub group_put : (g : List Coded) (i : ℕ) (tuple_codes : List ℕ) → IsInOrder row_cmp (tuples_in (read_group codes g)) → AllCounted (read_group codes g)
      → IsGap (read_group codes g) (read codes tuple_codes) i
      → IsOneMore (read_group codes g) (read_group codes (insert g i (record { codes = tuple_codes; count = 1 }))) (read codes tuple_codes)
  group_put g i tuple_codes o a gap =
      subst (λ ts. IsOneMore (read_group codes g) ts (read codes tuple_codes)) (sym (read_insert g i (record { codes = tuple_codes; count = 1 })))
      (put_in (read_group codes g) i (read codes tuple_codes) o a gap)

  -- a tuple that no member has
  module _ (distinct : AreDistinct codes) (tuple_codes : List ℕ) (known : AllKnown codes tuple_codes) where
    pub uncounted : (g : List Coded) → AllCodesKnown codes g
        → AllByRecursion (λ c. c.codes ≢ tuple_codes) g → count_in (read_group codes g) (read codes tuple_codes) ≡ 0
    uncounted [] k a = refl
    uncounted (c ∷ g) k a =
        omega (
          arith,
          sum_by-cons (count_for (read codes tuple_codes)) (read_tally codes c) (read_group codes g),
          here (same_row (read codes c.codes) (read codes tuple_codes)) refl,
          uncounted g k.1 a.1,
        )
      where
        here : (b : Bool) → same_row (read codes c.codes) (read codes tuple_codes) ≡ b → count_for (read codes tuple_codes) (read_tally codes c) ≡ 0
        here true e = absurd (a.0 (read_tells codes distinct c.codes tuple_codes k.0 known (same_row_true (read codes c.codes) (read codes tuple_codes) e)))
        here false e = ap (λ b. cond b c.count 0) e

    pub lacks : (g : List Coded) → AllCodesKnown codes g
        → AllByRecursion (λ c. c.codes ≢ tuple_codes) g → Has (tuples_in (read_group codes g)) (read codes tuple_codes) → ⊥
    lacks [] k a h = h
    lacks (c ∷ g) k a (inl e) = a.0 (read_tells codes distinct c.codes tuple_codes k.0 known (sym e))
    lacks (c ∷ g) k a (inr h) = lacks g k.1 a.1 h

    pub has : (g : List Coded) (i : ℕ) (d : Coded) → i < length g → (get_or g i d).codes ≡ tuple_codes
        → Has (tuples_in (read_group codes g)) (read codes tuple_codes)
    has [] i d l e = absurd (omega (arith, l))
    has (c ∷ g) zero d l e = inl (ap (read codes) (sym e))
    has (c ∷ g) (suc i) d l e = inr (has g i d (omega arith) e)

-- a member's count
pub member_counted : (codes : List Value) (g : List Coded) (i : ℕ) (d : Coded) → AllCounted (read_group codes g) → i < length g → 1 ≤ (get_or g i d).count
member_counted codes [] i d a l = absurd (omega (arith, l))
member_counted codes (c ∷ g) zero d a l = a.0
member_counted codes (c ∷ g) (suc i) d a l = member_counted codes g i d a.1 (omega arith)

-- how many pass, read or not
pub filter_read : (codes : List Value) (test : Tally → Bool) (g : List Coded)
    → length (filter (λ c. test (read_tally codes c)) g) ≡ length (filter test (read_group codes g))
filter_read codes test [] = refl
filter_read codes test (c ∷ g) = by (test (read_tally codes c)) (filter_read codes test g)
  where
    by : (b : Bool) → length (filter (λ d. test (read_tally codes d)) g) ≡ length (filter test (read_group codes g))
        → length (cond b (c ∷ filter (λ d. test (read_tally codes d)) g) (filter (λ d. test (read_tally codes d)) g))
        ≡ length (cond b (read_tally codes c ∷ filter test (read_group codes g)) (filter test (read_group codes g)))
    by true h = ap suc h
    by false h = h

less_is : (o : Ordering) → is_lt o ≡ true → o ≡ Less
less_is Less e = refl
less_is Equal e = cc
less_is Greater e = cc

-- where the last tuple stands before another one, all do
pub end_gap : (x : List Value) (ts : List Tally) → IsInOrder row_cmp (tuples_in ts) → (last : ℕ) → last + 1 ≡ length ts
    → ((d : Tally) → row_cmp (get_or ts last d).tuple x ≡ Less) → IsGap ts x (length ts)
end_gap x ts o last at e = record {
  within = omega arith;
  before = λ k d l. less_is (row_cmp (get_or ts k d).tuple x) (tuple_place x ts o k last d (omega (arith, l, at)) (omega (arith, at)) (ap is_lt (e d)));
  after = λ k d h l. absurd (omega (arith, h, l));
}

pub not_before_itself : (x : List Value) → row_cmp x x ≡ Less → ⊥
not_before_itself x e = let r = row_cmp_total.antisymm x x in cc

before_or_not : (m n : ℕ) → (m < n) ⊎ (n ≤ m)
before_or_not zero zero = inr (omega arith)
before_or_not zero (suc n) = inl (omega arith)
before_or_not (suc m) zero = inr (omega arith)
before_or_not (suc m) (suc n) = elim (before_or_not m n) [ inl h ↦ inl (omega arith) | inr h ↦ inr (omega arith) ]

not_in_gap : (x : List Value) (ts : List Tally) (at : ℕ) → IsGap ts x at → (k : ℕ) (d : Tally) → k < length ts → (get_or ts k d).tuple ≡ x → ⊥
not_in_gap x ts at gap k d l e = elim (before_or_not k at) [
  | inl b ↦ not_before_itself x (ap (λ y. row_cmp y x) (sym e) ∙ gap.before k d b)
  | inr a ↦ not_before_itself x (ap (row_cmp x) (sym e) ∙ gap.after k d a l)
]

none_has : (codes : List Value) (tuple_codes : List ℕ) (g : List Coded)
    → ((k : ℕ) (d : Tally) → k < length (read_group codes g) → (get_or (read_group codes g) k d).tuple ≡ read codes tuple_codes → ⊥)
    → AllByRecursion (λ (c : Coded). c.codes ≢ tuple_codes) g
none_has codes tuple_codes [] f = tt
none_has codes tuple_codes (c ∷ g) f =
    (λ e. f 0 (read_tally codes c) (omega arith) (ap (read codes) e), none_has codes tuple_codes g (λ k d l e. f (suc k) d (omega (arith, l)) e))

-- where a tuple would go in, no tuple has its codes
pub gap_lacks : (codes : List Value) (tuple_codes : List ℕ) (g : List Coded) (at : ℕ) → IsGap (read_group codes g) (read codes tuple_codes) at
    → AllByRecursion (λ (c : Coded). c.codes ≢ tuple_codes) g
gap_lacks codes tuple_codes g at gap = none_has codes tuple_codes g (not_in_gap (read codes tuple_codes) (read_group codes g) at gap)
