-- The buckets of an index by the hash of a key, and what holds of them after an edit of one bucket.
--     bucket_at entries hash           the bucket of this hash, empty where there is none
--     count_at width entries tuple     how many rows have the tuple, by the bucket of its key
use Rattle.std.proofs.Common.{◌≡◌, ◌≤◌, ◌<◌, ◌+◌, ℕ, zero, suc, Bool, true, false, cond, List, [], ◌∷◌, ◌++◌, length, take, get_or, refl, ap, sym, ◌∙◌, subst, arith}
use Rattle.std.specs.Prelude.{nat_eq, Option, Some, None}
use Rattle.std.specs.Option.{unwrap_or}
use Rattle.std.specs.List.{flat_map, filter, sum_by, AllByRecursion, IsDistinct}
use Rattle.std.specs.Map.{keys_of, values_of, lookup, set_value}
use Rattle.std.proofs.lemmas.Bool.{eqb-true, eq-eqb}
use Rattle.std.specs.Prelude.{position, slice_get, is_some, ◌-◌}
use Rattle.std.specs.List.{swap_remove}
use Rattle.std.proofs.Math.ListN.{set}
use Rattle.indexmap.specs.IndexMap.{swap_remove_entry}
use Rattle.indexmap.proofs.MapLemmas.{Found-position, some_index, swap_remove_entry-found}
use Rattle.access_index.proofs.Counting.{tuples_within}
use Rattle.std.proofs.lemmas.List.{append-nil}
use Rattle.std.proofs.lemmas.List.Sums.{sum_by-cons, sum_by-append, sum_by-swap_remove}
use Rattle.blocked_list.proofs.Joined.{all_append, all_take, all_set, all_at}
use Rattle.beas_core.specs.declared.value.Value.{Value}
use Rattle.beas_core.specs.Groups.{same_row}
use Rattle.beas_core.proofs.Groups.{same_row_true}
use Rattle.access_index.specs.declared.tally.Tally.{Tally}
use Rattle.access_index.specs.Hashing.{hash_of}
use Rattle.access_index.specs.Buckets.{count_in, counts_in, one_if, is_key, is_hashed, is_wide, AllTuplesPass, IsOneMore, IsBucket, IsStored}

abbrev pub bucket_at : List (ℕ × List Tally) → ℕ → List Tally
bucket_at entries hash = unwrap_or (lookup (nat_eq hash) entries) []

abbrev pub count_at : ℕ → List (ℕ × List Tally) → List Value → ℕ
count_at width entries tuple = count_in (bucket_at entries (hash_of (take width tuple))) tuple

pub some_counted : (ts : List Tally) → 1 ≤ counts_in ts → 0 < length ts
some_counted [] h = absurd (omega (arith, h))
some_counted (t ∷ ts) h = omega arith

no_member : (w h : ℕ) (key : List Value) (ts : List Tally) → (h ≡ hash_of key → ⊥) → AllTuplesPass (is_hashed w h) ts → filter (is_key w key) ts ≡ []
no_member w h key [] out a = refl
no_member w h key (t ∷ ts) out a = by (is_key w key t) refl (no_member w h key ts out a.1)
  where
    by : (b : Bool) → is_key w key t ≡ b → filter (is_key w key) ts ≡ [] → cond b (t ∷ filter (is_key w key) ts) (filter (is_key w key) ts) ≡ []
    by true e rest =
        let hash = eqb-true h (hash_of (take w t.tuple)) a.0 in
        absurd (out (hash ∙ ap hash_of (same_row_true (take w t.tuple) key e)))
    by false e rest = rest

module _ (n w : ℕ) (key : List Value) where
  abbrev others : List (ℕ × List Tally) → Type 0
  others entries = AllByRecursion (λ k. nat_eq (hash_of key) k ≡ false) (keys_of entries)

  not_here : (k : ℕ) → nat_eq (hash_of key) k ≡ false → k ≡ hash_of key → ⊥
  not_here k e same = let t = eq-eqb (hash_of key) k (sym same) in cc

  none_elsewhere : (entries : List (ℕ × List Tally)) → AllByRecursion (λ e. IsBucket n w e.0 e.1) entries → others entries
      → flat_map (filter (is_key w key)) (values_of entries) ≡ []
  none_elsewhere [] a o = refl
  none_elsewhere (e ∷ es) a o =
      ap (λ found. found ++ flat_map (filter (is_key w key)) (values_of es)) (no_member w e.0 key e.1 (not_here e.0 o.0) (a.0).hashed)
      ∙ none_elsewhere es a.1 o.1

  -- a group lies in the bucket of its key's hash
  pub own_bucket : (entries : List (ℕ × List Tally)) → IsDistinct nat_eq (keys_of entries) → AllByRecursion (λ e. IsBucket n w e.0 e.1) entries
      → flat_map (filter (is_key w key)) (values_of entries) ≡ filter (is_key w key) (bucket_at entries (hash_of key))
  unfolding IsDistinct
  own_bucket [] d a = refl
  own_bucket (e ∷ es) d a = by (nat_eq (hash_of key) e.0) refl (own_bucket es d.1 a.1)
    where
      apart : (ks : List ℕ) → hash_of key ≡ e.0 → AllByRecursion (λ k. nat_eq e.0 k ≡ false) ks → AllByRecursion (λ k. nat_eq (hash_of key) k ≡ false) ks
      apart [] s o = tt
      apart (k ∷ ks) s o = (ap (λ m. nat_eq m k) s ∙ o.0, apart ks s o.1)

      by : (b : Bool) → nat_eq (hash_of key) e.0 ≡ b
          → flat_map (filter (is_key w key)) (values_of es) ≡ filter (is_key w key) (unwrap_or (lookup (nat_eq (hash_of key)) es) [])
          → filter (is_key w key) e.1 ++ flat_map (filter (is_key w key)) (values_of es)
          ≡ filter (is_key w key) (unwrap_or (cond b (Some e.1) (lookup (nat_eq (hash_of key)) es)) [])
      by true h rest =
          ap (λ found. filter (is_key w key) e.1 ++ found) (none_elsewhere es a.1 (apart (keys_of es) (eqb-true (hash_of key) e.0 h) d.0))
          ∙ append-nil (filter (is_key w key) e.1)
      by false h rest =
          ap (λ found. found ++ flat_map (filter (is_key w key)) (values_of es)) (no_member w e.0 key e.1 (not_here e.0 h) (a.0).hashed) ∙ rest

module _ (n w h : ℕ) where
  -- what holds of the bucket that a look-up finds
  pub found_bucket : (entries : List (ℕ × List Tally)) (ts : List Tally) → AllByRecursion (λ e. IsBucket n w e.0 e.1) entries
      → lookup (nat_eq h) entries ≡ Some ts → IsBucket n w h ts
  found_bucket [] ts a e = cc
  found_bucket (e ∷ es) ts a f = by (nat_eq h e.0) refl f (found_bucket es ts a.1)
    where
      by : (b : Bool) → nat_eq h e.0 ≡ b → cond b (Some e.1) (lookup (nat_eq h) es) ≡ Some ts → (lookup (nat_eq h) es ≡ Some ts → IsBucket n w h ts)
          → IsBucket n w h ts
      by true q g rest =
          let same : e.1 ≡ ts = cc in
          subst (λ us. IsBucket n w h us) same (subst (λ k. IsBucket n w k e.1) (sym (eqb-true h e.0 q)) a.0)
      by false q g rest = rest g

  pub all_set_value : (entries : List (ℕ × List Tally)) (ts : List Tally) → AllByRecursion (λ e. IsBucket n w e.0 e.1) entries → IsBucket n w h ts
      → AllByRecursion (λ e. IsBucket n w e.0 e.1) (set_value (nat_eq h) entries ts)
  all_set_value [] ts a b = tt
  all_set_value (e ∷ es) ts a b = by (nat_eq h e.0) refl (all_set_value es ts a.1 b)
    where
      by : (c : Bool) → nat_eq h e.0 ≡ c → AllByRecursion (λ f. IsBucket n w f.0 f.1) (set_value (nat_eq h) es ts)
          → AllByRecursion (λ f. IsBucket n w f.0 f.1) (cond c ((e.0, ts) ∷ es) (e ∷ set_value (nat_eq h) es ts))
      by true q rest = (subst (λ k. IsBucket n w k ts) (eqb-true h e.0 q) b, a.1)
      by false q rest = (a.0, rest)

  -- a bucket with a tuple more or less
  pub more_bucket : (less more : List Tally) (tuple : List Value) → IsOneMore less more tuple → n ≡ length tuple → h ≡ hash_of (take w tuple)
      → IsBucket n w h less → IsBucket n w h more
  more_bucket less more tuple m wide hash b = record {
    ordered = m.more_ordered;
    wide = m.added (is_wide n) (eq-eqb n (length tuple) wide) b.wide;
    hashed = m.added (is_hashed w h) (eq-eqb h (hash_of (take w tuple)) hash) b.hashed;
    counted = m.more_counted;
    some = some_counted more (omega (arith, m.sum));
  }

-- the count of a tuple after an edit
pub count_after : (w h : ℕ) (old new : List (ℕ × List Tally)) (less more : List Tally) (tuple x : List Value) → h ≡ hash_of (take w tuple)
    → IsOneMore less more tuple → bucket_at old h ≡ less → ((q : ℕ) → bucket_at new q ≡ cond (nat_eq h q) more (bucket_at old q))
    → count_at w new x ≡ count_at w old x + one_if (same_row tuple x)
count_after w h old new less more tuple x hash m was now = by (nat_eq h (hash_of (take w x))) refl
  where
    by : (b : Bool) → nat_eq h (hash_of (take w x)) ≡ b → count_at w new x ≡ count_at w old x + one_if (same_row tuple x)
    by true e =
        let same = eqb-true h (hash_of (take w x)) e in
        ap (λ ts. count_in ts x) (now (hash_of (take w x)) ∙ ap (λ b. cond b more (bucket_at old (hash_of (take w x)))) e)
        ∙ m.counts x ∙ ap (λ ts. count_in ts x + one_if (same_row tuple x)) (sym was ∙ ap (bucket_at old) same)
    by false e =
        ap (λ ts. count_in ts x) (now (hash_of (take w x)) ∙ ap (λ b. cond b more (bucket_at old (hash_of (take w x)))) e)
        ∙ other (same_row tuple x) refl
      where
        other : (b : Bool) → same_row tuple x ≡ b → count_at w old x ≡ count_at w old x + cond b 1 0
        other true s = let t = eq-eqb h (hash_of (take w x)) (hash ∙ ap (λ u. hash_of (take w u)) (same_row_true tuple x s)) in cc
        other false s = omega arith

-- the sum over all buckets
abbrev pub entries_sum : List (ℕ × List Tally) → ℕ
entries_sum entries = sum_by (λ e. counts_in e.1) entries

-- a sum after what stands under one key is written anew
pub set_sum : {K : Type 0} (f : List Tally → ℕ) (test : K → Bool) (es : List (K × List Tally)) (ts us : List Tally) → lookup test es ≡ Some ts
    → sum_by (λ e. f e.1) (set_value test es us) + f ts ≡ sum_by (λ e. f e.1) es + f us
set_sum f test [] ts us e = cc
set_sum {K} f test (e ∷ es) ts us g = by (test e.0) g (set_sum f test es ts us)
  where
    by : (b : Bool) → cond b (Some e.1) (lookup test es) ≡ Some ts
        → (lookup test es ≡ Some ts → sum_by (λ d. f d.1) (set_value test es us) + f ts ≡ sum_by (λ d. f d.1) es + f us)
        → sum_by (λ d. f d.1) (cond b ((e.0, us) ∷ es) (e ∷ set_value test es us)) + f ts ≡ sum_by (λ d. f d.1) (e ∷ es) + f us
    by true q rest =
        let same : e.1 ≡ ts = cc in
        omega (arith, sum_by-cons (λ (d : K × List Tally). f d.1) (e.0, us) es, sum_by-cons (λ (d : K × List Tally). f d.1) e es, ap f same)
    by false q rest =
        omega (
          arith,
          rest q,
          sum_by-cons (λ (d : K × List Tally). f d.1) e (set_value test es us),
          sum_by-cons (λ (d : K × List Tally). f d.1) e es,
        )

-- a bucket with a tuple more
pub stored_more : (n w h total : ℕ) (old new : List (ℕ × List Tally)) (less more : List Tally) (tuple : List Value) → IsStored n w old total
    → lookup (nat_eq h) old ≡ Some less
    → new ≡ set_value (nat_eq h) old more → IsDistinct nat_eq (keys_of new) → n ≡ length tuple → h ≡ hash_of (take w tuple) → IsOneMore less more tuple
    → IsStored n w new (total + 1)
stored_more n w h total old new less more tuple s found is unique wide hash m = record {
  distinct = unique;
  buckets = subst (λ es. AllByRecursion (λ e. IsBucket n w e.0 e.1) es) (sym is)
      (all_set_value n w h old more s.buckets (more_bucket n w h less more tuple m wide hash (found_bucket n w h old less s.buckets found)));
  total_is = omega (arith, s.total_is, ap entries_sum is, set_sum counts_in (nat_eq h) old less more found, m.sum);
}

-- a bucket with a tuple less, which keeps another
pub stored_less : (n w h total : ℕ) (old new : List (ℕ × List Tally)) (less more : List Tally) (tuple : List Value) → IsStored n w old (total + 1)
    → lookup (nat_eq h) old ≡ Some more
    → new ≡ set_value (nat_eq h) old less → IsDistinct nat_eq (keys_of new) → IsOneMore less more tuple → 0 < length less → IsStored n w new total
stored_less n w h total old new less more tuple s found is unique m some =
    let b = found_bucket n w h old more s.buckets found in
    let smaller : IsBucket n w h less = record {
      ordered = m.less_ordered;
      wide = m.kept (is_wide n) b.wide;
      hashed = m.kept (is_hashed w h) b.hashed;
      counted = m.less_counted;
      some = some;
    } in
    record {
      distinct = unique;
      buckets = subst (λ es. AllByRecursion (λ e. IsBucket n w e.0 e.1) es) (sym is) (all_set_value n w h old less s.buckets smaller);
      total_is = omega (arith, s.total_is, ap entries_sum is, set_sum counts_in (nat_eq h) old more less found, m.sum);
    }

-- a bucket that is new
pub stored_new : (n w h total : ℕ) (old new : List (ℕ × List Tally)) (more : List Tally) (tuple : List Value) → IsStored n w old total
    → new ≡ old ++ (h, more) ∷ []
    → IsDistinct nat_eq (keys_of new) → n ≡ length tuple → h ≡ hash_of (take w tuple) → IsOneMore [] more tuple → IsStored n w new (total + 1)
stored_new n w h total old new more tuple s is unique wide hash m =
    let b : IsBucket n w h more = record {
      ordered = m.more_ordered;
      wide = m.added (is_wide n) (eq-eqb n (length tuple) wide) tt;
      hashed = m.added (is_hashed w h) (eq-eqb h (hash_of (take w tuple)) hash) tt;
      counted = m.more_counted;
      some = some_counted more (omega (arith, m.sum));
    } in
    record {
      distinct = unique;
      buckets = subst (λ es. AllByRecursion (λ e. IsBucket n w e.0 e.1) es) (sym is)
          (all_append (λ e. IsBucket n w e.0 e.1) old ((h, more) ∷ []) s.buckets (b, tt));
      total_is = omega (
        arith,
        s.total_is,
        ap entries_sum is,
        sum_by-append (λ e. counts_in e.1) old ((h, more) ∷ []),
        m.sum,
        sum_by-cons
            (λ (e : ℕ × List Tally). counts_in e.1) (h, more) [],
      );
    }

-- a bucket that goes with its last tuple
pub record IsPlace (h : ℕ) (es : List (ℕ × List Tally)) (ts : List Tally) (i : ℕ) : Type 0 where
  pub position_is : position (nat_eq h) (keys_of es) ≡ Some i
  pub within : i < length es
  pub bucket_is : (d : ℕ × List Tally) → (get_or es i d).1 ≡ ts
  pub value_is : slice_get (values_of es) i ≡ Some ts

value_at : (es : List (ℕ × List Tally)) (i : ℕ) (ts : List Tally) (d : ℕ × List Tally) → slice_get (values_of es) i ≡ Some ts → (get_or es i d).1 ≡ ts
value_at [] i ts d e = cc
value_at (e ∷ es) zero ts d f = cc
value_at (e ∷ es) (suc i) ts d f = value_at es i ts d f

pub place_of : (h : ℕ) (es : List (ℕ × List Tally)) (ts : List Tally) → lookup (nat_eq h) es ≡ Some ts → (i : ℕ) × IsPlace h es ts i
place_of h es ts e = by (position (nat_eq h) (keys_of es)) refl
  where
    by : (o : Option ℕ) → position (nat_eq h) (keys_of es) ≡ o → (i : ℕ) × IsPlace h es ts i
    by None p = let s = some_index (nat_eq h) es in let q = ap is_some p in let r = ap is_some e in let f = sym q ∙ s ∙ r in cc
    by (Some i) p =
        let f = Found-position (nat_eq h) es i p in
        (i, record { position_is = p; within = f.within; bucket_is = λ d. value_at es i ts d (sym f.value ∙ e); value_is = sym f.value ∙ e })

pub stored_gone : (n w h total : ℕ) (old new : List (ℕ × List Tally)) (more : List Tally) (tuple : List Value) → IsStored n w old (total + 1)
    → lookup (nat_eq h) old ≡ Some more
    → new ≡ swap_remove_entry (nat_eq h) old → IsDistinct nat_eq (keys_of new) → IsOneMore [] more tuple → IsStored n w new total
stored_gone n w h total old new more tuple s found is unique m =
    let p = place_of h old more found in
    let d : ℕ × List Tally = (h, more) in
    let at = p.1 in
    let within = at.within in
    let e : new ≡ swap_remove old p.0 d = is ∙ swap_remove_entry-found (nat_eq h) old p.0 d at.position_is in
    let last : length old - 1 < length old = omega arith in
    record {
      distinct = unique;
      buckets = subst (λ es. AllByRecursion (λ b. IsBucket n w b.0 b.1) es) (sym e)
          (all_take (λ b. IsBucket n w b.0 b.1) (length old - 1) (set old p.0 (get_or old (length old - 1) d))
          (all_set (λ b. IsBucket n w b.0 b.1) old p.0 (get_or old (length old - 1) d) s.buckets
          (all_at (λ b. IsBucket n w b.0 b.1) old (length old - 1) d last s.buckets)));
      total_is = omega (arith, s.total_is, ap entries_sum e, sum_by-swap_remove (λ b. counts_in b.1) old p.0 d within, ap counts_in (at.bucket_is d), m.sum);
    }

-- a bucket written as it was
pub set_same : (h : ℕ) (es : List (ℕ × List Tally)) (ts : List Tally) → lookup (nat_eq h) es ≡ Some ts → set_value (nat_eq h) es ts ≡ es
set_same h [] ts e = refl
set_same h (e ∷ es) ts f = by (nat_eq h e.0) f (set_same h es ts)
  where
    by : (b : Bool) → cond b (Some e.1) (lookup (nat_eq h) es) ≡ Some ts → (lookup (nat_eq h) es ≡ Some ts → set_value (nat_eq h) es ts ≡ es)
        → cond b ((e.0, ts) ∷ es) (e ∷ set_value (nat_eq h) es ts) ≡ e ∷ es
    by true g rest = let same : e.1 ≡ ts = cc in ap (λ us. (e.0, us) ∷ es) (sym same)
    by false g rest = ap (λ us. e ∷ us) (rest g)

-- there are no more buckets than rows
pub few_buckets : (n w total : ℕ) (entries : List (ℕ × List Tally)) → IsStored n w entries total → length entries ≤ total
few_buckets n w total entries s = omega (arith, s.total_is, le entries s.buckets)
  where
    le : (es : List (ℕ × List Tally)) → AllByRecursion (λ e. IsBucket n w e.0 e.1) es → length es ≤ entries_sum es
    le [] a = omega arith
    le (e ∷ es) a =
        let some = (a.0).some in
        omega (arith, some, tuples_within e.1 (a.0).counted, le es a.1, sum_by-cons (λ (d : ℕ × List Tally). counts_in d.1) e es)

-- and none has more
pub bucket_within : (n w h total : ℕ) (entries : List (ℕ × List Tally)) (ts : List Tally) → IsStored n w entries total → lookup (nat_eq h) entries ≡ Some ts
    → counts_in ts ≤ total
bucket_within n w h total entries ts s e = omega (arith, s.total_is, le entries e)
  where
    le : (es : List (ℕ × List Tally)) → lookup (nat_eq h) es ≡ Some ts → counts_in ts ≤ entries_sum es
    le [] f = cc
    le (d ∷ es) f = by (nat_eq h d.0) f (le es)
      where
        by : (b : Bool) → cond b (Some d.1) (lookup (nat_eq h) es) ≡ Some ts → (lookup (nat_eq h) es ≡ Some ts → counts_in ts ≤ entries_sum es)
            → counts_in ts ≤ entries_sum (d ∷ es)
        by true g rest = let same : d.1 ≡ ts = cc in omega (arith, ap counts_in same, sum_by-cons (λ (b : ℕ × List Tally). counts_in b.1) d es)
        by false g rest = omega (arith, rest g, sum_by-cons (λ (b : ℕ × List Tally). counts_in b.1) d es)
