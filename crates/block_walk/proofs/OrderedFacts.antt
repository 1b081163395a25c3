-- Maps of ordered keys, and how entries are found again by them and by their hashes.
--     some_weaker            what holds of a value that may be there implies what is weaker
--     kept_at, kept_past     what is kept under a step of which there is a map, and under one of which there is none
--     same_with_empty        an empty map more keeps nothing
--     keeps_inserted         the map of a step is written, with a key more
--     keeps_after            the same, after a step in which the maps kept what they did
--     reached_more           one entry more is found again, by its hash or by the maps
use Rattle.std.proofs.Common.{◌≡◌, ◌<◌, ◌≤◌, ◌++◌, ◌∷◌, [], ℕ, zero, suc, Bool, true, false, cond, List, Option, Some, None, IfSome, IsSome, Vec, length, ◌⊎◌, inl, inr, set, get_or, refl, ap, sym, subst, ◌∙◌, arith}
use Rattle.std.specs.declared.cmp.Ordering.{Ordering}
use Rattle.std.specs.declared.cmp.Ordering.TheVariants.{Less, Equal, Greater}
use Rattle.std.specs.declared.alloc.Global.{Global}
use Rattle.std.specs.Ordering.{is_eq, match_ordering}
use Rattle.std.specs.BTreeMap.{BTreeMap, insert_entry}
use Rattle.std.specs.Map.{lookup}
use Rattle.std.proofs.lemmas.Bool.{cases_Bool, cases_eq, cases_lt, cond-false, cond-true}
use Rattle.std.proofs.lemmas.Cmp.{tied_itself}
use Rattle.std.proofs.lemmas.List.{get_or_append_left, get_or_push, length_push}
use Rattle.beas_core.specs.declared.value.Value.{Value}
use Rattle.beas_core.specs.Hashing.{equal_from}
use Rattle.beas_core.specs.Order.{row_cmp, row_cmp_total}
use Rattle.beas_core.specs.Telling.{row_cmp_tells}
use Rattle.beas_core.specs.Types.{Row}
use Rattle.place_chains.specs.Hashing.{hash_of}
use Rattle.block_walk.specs.Kept.{Entry}
use Rattle.block_walk.specs.Entries.{AreReached, IsAt, IsReached}
use Rattle.block_walk.specs.Ordered.{HasSame, IsPlaced, Keeps, Maps, kept_in, kept_under}

pub some_weaker : {X : Type 0} {P Q : X → Type 0} → ((x : X) → P x → Q x) → (o : Option X) → IfSome o P → IfSome o Q
some_weaker f None h = h
some_weaker f (Some x) h = f x h

-- ---- equal keys

not_tied : (a b : Row) → (a ≡ b → ⊥) → is_eq (row_cmp a b) ≡ false
not_tied a b apart = elim (cases_Bool (is_eq (row_cmp a b))) [
  | inl t ↦ absurd (apart (row_cmp_tells a b (equal_from (row_cmp a b) t)))
  | inr f ↦ f
]

tied : (a : Row) → is_eq (row_cmp a a) ≡ true
tied a = ap is_eq (tied_itself row_cmp_total a)

rows_decided : (a b : Row) → (a ≡ b) ⊎ (a ≡ b → ⊥)
rows_decided a b = elim (cases_Bool (is_eq (row_cmp a b))) [
  | inl t ↦ inl (row_cmp_tells a b (equal_from (row_cmp a b) t))
  | inr f ↦ inr (λ e. let t : true ≡ false = sym (tied a) ∙ ap (λ x. is_eq (row_cmp a x)) e ∙ f in cc)
]

keys_decided : (s step : ℕ) (k key : Row) → ((s ≡ step) × (k ≡ key)) ⊎ ((s ≡ step) × (k ≡ key) → ⊥)
keys_decided s step k key = elim (cases_eq s step) [
  | inl a ↦ elim (rows_decided k key) [
    | inl b ↦ inl (a, b)
    | inr n ↦ inr (λ p. n p.1)
  ]
  | inr n ↦ inr (λ p. n p.0)
]

-- ---- the map of a step

pub kept_at : (ms : Maps) (step : ℕ) (key : Row) (m : BTreeMap (Vec Value Global) ℕ) → step < length ms → m ≡ get_or ms step m
    → kept_under ms step key ≡ kept_in m key
kept_at [] step key m l is = absurd (omega (arith, l))
kept_at (n ∷ ms) zero key m l is = ap (λ x. kept_in x key) (sym is)
kept_at (n ∷ ms) (suc step) key m l is = kept_at ms step key m (omega (arith, l)) is

pub kept_past : (ms : Maps) (step : ℕ) (key : Row) → length ms ≤ step → kept_under ms step key ≡ None
kept_past [] step key l = refl
kept_past (m ∷ ms) zero key l = absurd (omega (arith, l))
kept_past (m ∷ ms) (suc step) key l = kept_past ms step key (omega (arith, l))

pub same_with_empty : (ms : Maps) (m : BTreeMap (Vec Value Global) ℕ) → m.entries ≡ [] → HasSame ms (ms ++ m ∷ [])
same_with_empty [] m empty zero key = ap (lookup (λ k. is_eq (row_cmp key k.items))) empty
same_with_empty [] m empty (suc step) key = refl
same_with_empty (n ∷ ms) m empty zero key = refl
same_with_empty (n ∷ ms) m empty (suc step) key = same_with_empty ms m empty step key

kept-set_same : (ms : Maps) (step : ℕ) (key : Row) (m : BTreeMap (Vec Value Global) ℕ) → step < length ms
    → kept_under (set ms step m) step key ≡ kept_in m key
kept-set_same [] step key m l = absurd (omega (arith, l))
kept-set_same (n ∷ ms) zero key m l = refl
kept-set_same (n ∷ ms) (suc step) key m l = kept-set_same ms step key m (omega (arith, l))

kept-set_other : (ms : Maps) (step s : ℕ) (key : Row) (m : BTreeMap (Vec Value Global) ℕ) → (s ≡ step → ⊥)
    → kept_under (set ms step m) s key ≡ kept_under ms s key
kept-set_other [] step s key m ne = refl
kept-set_other (n ∷ ms) zero zero key m ne = absurd (ne refl)
kept-set_other (n ∷ ms) zero (suc s) key m ne = refl
kept-set_other (n ∷ ms) (suc step) zero key m ne = refl
kept-set_other (n ∷ ms) (suc step) (suc s) key m ne = kept-set_other ms step s key m (λ e. ne (ap suc e))

-- ---- a key more in a map

module _ {K X : Type 0} (cmp : K → K → Ordering) (k : K) (v : X) (test : K → Bool) where
  -- looked up by a test that passes where the order says equal
  lookup-insert_here : ((x : K) → test x ≡ is_eq (cmp k x)) → test k ≡ true → (es : List (K × X)) → lookup test (insert_entry cmp es k v) ≡ Some v
  lookup-insert_here same passes [] = cond-true (test k) (Some v) None passes
  lookup-insert_here same passes (e ∷ es) = by (cmp k e.0) refl (lookup-insert_here same passes es)
    where
      by : (r : Ordering) → cmp k e.0 ≡ r → lookup test (insert_entry cmp es k v) ≡ Some v
          → lookup test (match_ordering r ((k, v) ∷ e ∷ es) ((e.0, v) ∷ es) (e ∷ insert_entry cmp es k v)) ≡ Some v
      by Less p h = cond-true (test k) (Some v) (lookup test (e ∷ es)) passes
      by Equal p h = cond-true (test e.0) (Some v) (lookup test es) (same e.0 ∙ ap is_eq p)
      by Greater p h = cond-false (test e.0) (Some e.1) (lookup test (insert_entry cmp es k v)) (same e.0 ∙ ap is_eq p) ∙ h

  -- and by one that fails there
  lookup-insert_other : ((x : K) → cmp k x ≡ Equal → test x ≡ false) → test k ≡ false → (es : List (K × X))
      → lookup test (insert_entry cmp es k v) ≡ lookup test es
  lookup-insert_other apart fails [] = cond-false (test k) (Some v) None fails
  lookup-insert_other apart fails (e ∷ es) = by (cmp k e.0) refl (lookup-insert_other apart fails es)
    where
      by : (r : Ordering) → cmp k e.0 ≡ r → lookup test (insert_entry cmp es k v) ≡ lookup test es
          → lookup test (match_ordering r ((k, v) ∷ e ∷ es) ((e.0, v) ∷ es) (e ∷ insert_entry cmp es k v)) ≡ lookup test (e ∷ es)
      by Less p h = cond-false (test k) (Some v) (lookup test (e ∷ es)) fails
      by Equal p h = cond-false (test e.0) (Some v) (lookup test es) (apart e.0 p) ∙ sym (cond-false (test e.0) (Some e.1) (lookup test es) (apart e.0 p))
      by Greater p h = ap (λ o. cond (test e.0) (Some e.1) o) h

abbrev vec_cmp : Vec Value Global → Vec Value Global → Ordering
vec_cmp a b = row_cmp a.items b.items

pub keeps_inserted : (ms new : Maps) (step : ℕ) (key : Row) (entry : ℕ) (k : Vec Value Global) (was m : BTreeMap (Vec Value Global) ℕ) → step < length ms
    → was ≡ get_or ms step was → k.items ≡ key → m.entries ≡ insert_entry vec_cmp was.entries k entry → new ≡ set ms step m → Keeps ms new step key entry
keeps_inserted ms new step key entry k was m l is copy entries written = record {
  here = ap (λ x. kept_under x step key) written ∙ kept-set_same ms step key m l ∙ ap (lookup (test key)) entries
      ∙ lookup-insert_here vec_cmp k entry (test key) (λ x. ap (λ r. is_eq (row_cmp r x.items)) (sym copy))
      (ap (λ r. is_eq (row_cmp key r)) copy ∙ tied key) was.entries;
  elsewhere = elsewhere;
}
  where
    test : Row → Vec Value Global → Bool
    test q x = is_eq (row_cmp q x.items)

    in_map : (q : Row) → (q ≡ key → ⊥) → kept_in m q ≡ kept_in was q
    in_map q apart = ap (lookup (test q)) entries
        ∙ lookup-insert_other vec_cmp k entry (test q)
        (λ x e. not_tied q x.items (λ same. apart (same ∙ sym (row_cmp_tells k.items x.items e) ∙ copy)))
        (not_tied q k.items (λ same. apart (same ∙ copy))) was.entries

    elsewhere : (s : ℕ) (q : Row) → ((s ≡ step) × (q ≡ key) → ⊥) → kept_under new s q ≡ kept_under ms s q
    elsewhere s q apart = ap (λ x. kept_under x s q) written ∙ elim (cases_eq s step) [
      | inl same ↦ ap (λ j. kept_under (set ms step m) j q) same ∙ kept-set_same ms step q m l ∙ in_map q (λ e. apart (same, e))
          ∙ sym (kept_at ms step q was l is) ∙ ap (λ j. kept_under ms j q) (sym same)
      | inr ne ↦ kept-set_other ms step s q m ne
    ]

-- and before that the maps kept the same
pub keeps_after : (old ms new : Maps) (step : ℕ) (key : Row) (entry : ℕ) → HasSame old ms → Keeps ms new step key entry → Keeps old new step key entry
keeps_after old ms new step key entry same keeps = record {
  here = keeps.here;
  elsewhere = λ s k other. keeps.elsewhere s k other ∙ same s k;
}

-- ---- entries are found again

module _ (entries : List Entry) (chains : List ℕ) (maps more : Maps) (step : ℕ) (key : Row) (rows : List Row) (place hash : ℕ)
    (last : place ≡ length entries) (placed : IsPlaced maps more step key place (hash_of step key) hash) (are : AreReached entries chains maps) where
  abbrev added : Entry
  added = ((step, key), rows)

  abbrev longer : List ℕ
  longer = chains ++ hash ∷ []

  reached_still : (i : ℕ) (k : ℕ × Row) → i < length chains → IsReached chains maps i k → IsReached longer more i k
  reached_still i k l was = elim was [
    | inl own ↦ inl (get_or_append_left chains (hash ∷ []) 0 i l ∙ own)
    | inr some ↦ inr (elim placed [
      | inl p ↦ subst IsSome (sym (p.1 k.0 k.1)) some
      | inr keeps ↦ elim (keys_decided k.0 step k.1 key) [
        | inl same ↦ subst IsSome (sym (ap (λ s. kept_under more s k.1) same.0 ∙ ap (kept_under more step) same.1 ∙ keeps.here)) refl
        | inr other ↦ subst IsSome (sym (keeps.elsewhere k.0 k.1 other)) some
      ]
    ])
  ]

  reached_last : IsReached longer more (length chains) (step, key)
  reached_last = elim placed [
    | inl p ↦ inl (get_or_push chains hash 0 (length chains) refl ∙ p.0)
    | inr keeps ↦ inr (subst IsSome (sym keeps.here) refl)
  ]

  each_reached : (i : ℕ) → i < length (entries ++ added ∷ []) → IsReached longer more i (get_or (entries ++ added ∷ []) i ((0, []), [])).0
  each_reached i l = elim (cases_lt i (length entries)) [
    | inl before ↦ (
        let n = are.chained in
        subst (λ (x : Entry). IsReached longer more i x.0) (sym (get_or_append_left entries (added ∷ []) ((0, []), []) i before))
        (reached_still i (get_or entries i ((0, []), [])).0 (omega (arith, before, n)) (are.reached i before)))
    | inr past ↦ (
        let n = length_push entries added in
        let at : i ≡ length entries = omega (arith, l, past, n) in
        subst (λ (x : Entry). IsReached longer more i x.0) (sym (get_or_push entries added ((0, []), []) i (sym at)))
        (subst (λ j. IsReached longer more j (step, key)) (sym (at ∙ sym are.chained)) reached_last))
  ]

  at_still : (k : ℕ × Row) (p : ℕ) → IsAt entries k p → IsAt (entries ++ added ∷ []) k p
  at_still k p at =
      let n = length_push entries added in
      let b = at.0 in
      (omega (arith, b, n), ap (λ (x : Entry). x.0) (get_or_append_left entries (added ∷ []) ((0, []), []) p b) ∙ at.1)

  at_last : (s : ℕ) (k : Row) → s ≡ step → k ≡ key → IsAt (entries ++ added ∷ []) (s, k) place
  at_last s k a b =
      let n = length_push entries added in (
        omega (arith, n, last),
        ap (λ (x : Entry). x.0) (get_or_push entries added ((0, []), []) place (sym last)) ∙ ap (λ t. (t, key)) (sym a) ∙ ap (λ t. (s, t)) (sym b),
      )

  each_kept : (s : ℕ) (k : Row) → IfSome (kept_under more s k) (IsAt (entries ++ added ∷ []) (s, k))
  each_kept s k = elim placed [
    | inl p ↦ subst (λ o. IfSome o (IsAt (entries ++ added ∷ []) (s, k))) (sym (p.1 s k)) still
    | inr keeps ↦ elim (keys_decided s step k key) [
      | inl same ↦ subst (λ o. IfSome o (IsAt (entries ++ added ∷ []) (s, k)))
          (sym (ap (λ t. kept_under more t k) same.0 ∙ ap (kept_under more step) same.1 ∙ keeps.here)) (at_last s k same.0 same.1)
      | inr other ↦ subst (λ o. IfSome o (IsAt (entries ++ added ∷ []) (s, k))) (sym (keeps.elsewhere s k other)) still
    ]
  ]
    where
      still : IfSome (kept_under maps s k) (IsAt (entries ++ added ∷ []) (s, k))
      still = some_weaker (at_still (s, k)) (kept_under maps s k) (are.kept s k)

  pub reached_more : AreReached (entries ++ added ∷ []) longer more
  reached_more =
      let n = length_push entries added in
      let m = length_push chains hash in
      let was = are.chained in
      record { chained = omega (arith, n, m, was); reached = each_reached; kept = each_kept }
