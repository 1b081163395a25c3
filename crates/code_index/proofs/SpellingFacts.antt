-- The codes of a row's values, one column after another.
use Rattle.std.proofs.Common.{◌≡◌, ◌≢◌, ◌∙◌, ◌<◌, ◌≤◌, ◌+◌, ◌==◌, ◌||◌, ℕ, zero, suc, Bool, true, false, cond, List, [], ◌∷◌, map, take, length, get_or, set, ap, refl, sym, subst, arith, inl, inr, ◌⊎◌, true≢false, Some, None}
use Rattle.std.specs.Prelude.{pos, All, eqb}
use Rattle.std.specs.List.{list_any, position_from}
use Rattle.std.proofs.lemmas.Bool.{eqb-true, ne_eqb, cases_eq}
use Rattle.std.proofs.lemmas.List.{get_or_default, get_or-set_same, get_or-set_other, get_or-map, length-map}
use Rattle.std.proofs.lemmas.List.Elements.{All-append}
use Rattle.std.proofs.lemmas.List.Quantifiers.{position-Some}
use Rattle.std.proofs.lemmas.Iterator.Adapters.{position_from-zero}
use Rattle.std.proofs.lemmas.Map.Keys.{IsDistinct-from_apart}
use Rattle.std.proofs.lemmas.Map.Steps.{length-le_from_distinct_below}
use Rattle.beas_core.specs.declared.value.Value.{Value}
use Rattle.beas_core.specs.declared.value.Value.TheVariants.{Int}
use Rattle.beas_core.specs.declared.schema.ColumnId.{ColumnId}
use Rattle.beas_core.specs.Hashing.{equal_from}
use Rattle.beas_core.specs.Order.{value_cmp}
use Rattle.beas_core.specs.Telling.{value_cmp_tells}
use Rattle.beas_core.specs.declared.schema.Access.{Access}
use Rattle.beas_core.specs.Groups.{value_at, member_columns}
use Rattle.beas_core.specs.Shapes.{AccessIsWellFormed, EachOnce}
use Rattle.code_index.specs.Codes.{same_value, code_of, value_of}
use Rattle.code_index.specs.Reading.{read, AllKnown, Spells, KeepsCodes}
use Rattle.code_index.specs.Spelling.{IsCodeOf, HasCode, AllHaveCodes, IsCodeIn, AreCodesOf}
use Rattle.code_index.proofs.CodeFacts.{same_laws}

-- what a look-up tells
pub found_code : (codes : List Value) (value : Value) (code : ℕ) → code_of codes value ≡ Some code → IsCodeOf codes code value
found_code codes value code e =
    let p = position-Some (same_value value) codes code (Int (pos 0)) e in
    record { known = p.0; same = sym (value_cmp_tells value (value_of codes code) (equal_from (value_cmp value (value_of codes code)) p.1)) }

none_passes : {X : Type 0} (p : X → Bool) (i : ℕ) (xs : List X) → position_from p i xs ≡ None → All (λ x. p x ≡ false) xs
none_passes p i [] e = λ k d l. absurd (omega (arith, l))
none_passes {X} p i (x ∷ xs) e = by (p x) refl e (none_passes p (i + 1) xs)
  where
    by : (b : Bool) → p x ≡ b → cond b (Some i) (position_from p (i + 1) xs) ≡ None → (position_from p (i + 1) xs ≡ None → All (λ y. p y ≡ false) xs)
        → All (λ y. p y ≡ false) (x ∷ xs)
    by true t f rest = cc
    by false t f rest = at (rest f)
      where
        at : All (λ y. p y ≡ false) xs → All (λ y. p y ≡ false) (x ∷ xs)
        at h zero d l = t
        at h (suc k) d l = h k d (omega arith)

pub no_code : (codes : List Value) (value : Value) → code_of codes value ≡ None → HasCode codes value → ⊥
no_code codes value e h =
    let apart = none_passes (same_value value) 0 codes (sym (position_from-zero (same_value value) codes) ∙ e) h.code (Int (pos 0)) h.is.known in
    true≢false (sym (same_laws.refl value) ∙ ap (same_value value) (sym h.is.same) ∙ apart)

pub all_coded_at : (codes values : List Value) (i : ℕ) (d : Value) → AllHaveCodes codes values → i < length values → HasCode codes (get_or values i d)
all_coded_at codes [] i d a l = absurd (omega (arith, l))
all_coded_at codes (v ∷ values) zero d a l = a.0
all_coded_at codes (v ∷ values) (suc i) d a l = all_coded_at codes values i d a.1 (omega arith)

-- the values of known codes have these codes
pub read_coded : (codes : List Value) (tuple : List ℕ) → AllKnown codes tuple → AllHaveCodes codes (read codes tuple)
read_coded codes [] k = tt
read_coded codes (w ∷ tuple) k = (record { code = w; is = record { known = k.0; same = refl } }, read_coded codes tuple k.1)

-- codes that are right in each column
pub spelled : (codes : List Value) (row_codes : List ℕ) (row : List Value) (columns : List ColumnId)
    → ((j : ℕ) (d : ColumnId) → j < length columns → IsCodeIn codes row_codes row (get_or columns j d)) → Spells codes columns row_codes row
spelled codes row_codes row [] h = record { known = tt; same = refl }
spelled codes row_codes row (c ∷ columns) h =
    let first = h zero c (omega arith) in
    let rest = spelled codes row_codes row columns (λ j d l. h (suc j) d (omega arith)) in
    record { known = (first.known, rest.known); same = λ i. first.same i ∷ rest.same i }

-- a code is written to its column
pub written : (codes : List Value) (row_codes : List ℕ) (row : List Value) (column c : ColumnId) (code : ℕ) → column.0 < length row_codes
    → IsCodeOf codes code (value_at row column) → (c.0 ≢ column.0 → IsCodeIn codes row_codes row c) → IsCodeIn codes (set row_codes column.0 code) row c
written codes row_codes row column c code l new old = by (cases_eq c.0 column.0)
  where
    by : (c.0 ≡ column.0) ⊎ (c.0 ≢ column.0) → IsCodeIn codes (set row_codes column.0 code) row c
    by (inl e) =
        let code_there : get_or (set row_codes column.0 code) c.0 0 ≡ code = ap (λ i. get_or (set row_codes column.0 code) i 0) e
        ∙ get_or-set_same row_codes column.0 code 0 l in
        let value : value_at row c ≡ value_at row column = ap (λ i. get_or row i (Int (pos 0))) e in
        subst (λ v. IsCodeOf codes (get_or (set row_codes column.0 code) c.0 0) v) (sym value)
        (subst (λ w. IsCodeOf codes w (value_at row column)) (sym code_there) new)
    by (inr n) =
        subst (λ w. IsCodeOf codes w (value_at row c)) (sym (get_or-set_other row_codes column.0 c.0 code 0 n)) (old n)

-- and all columns up to this one are right
pub written_next : (codes : List Value) (row_codes : List ℕ) (row : List Value) (columns : List ColumnId) (i : ℕ) (column : ColumnId) (code : ℕ)
    → i < length columns → column ≡ get_or columns i column → column.0 < length row_codes → IsCodeOf codes code (value_at row column)
    → ((j : ℕ) (d : ColumnId) → j < i → IsCodeIn codes row_codes row (get_or columns j d))
    → (j : ℕ) (d : ColumnId) → j < i + 1 → IsCodeIn codes (set row_codes column.0 code) row (get_or columns j d)
written_next codes row_codes row columns i column code within is l new old j d m =
    written codes row_codes row column (get_or columns j d) code l new (λ n. old j d (by n (cases_eq j i)))
  where
    by : (get_or columns j d).0 ≢ column.0 → (j ≡ i) ⊎ (j ≢ i) → j < i
    by n (inl e) = absurd (n (ap (λ (c : ColumnId). c.0) (ap (λ k. get_or columns k d) e ∙ get_or_default columns i d column within ∙ sym is)))
    by n (inr apart) = omega (arith, m, apart)

-- a constraint's columns are few
pub narrow : (access : Access) → AccessIsWellFormed 64 access → All (λ c. c.0 < 64) (member_columns access)
narrow access form = All-append (λ (c : ColumnId). c.0 < 64) access.key access.fetched form.key_columns form.fetched_columns

-- codes stay codes when an interner grows
pub code_stays : (codes more : List Value) → KeepsCodes codes more → (code : ℕ) (value : Value) → IsCodeOf codes code value → IsCodeOf more code value
code_stays codes more k code value h =
    let w = k.tuples (code ∷ []) (h.known, tt) in
    record { known = w.0.0; same = ap (λ xs. get_or xs 0 value) w.1 ∙ h.same }

pub kept_twice : (codes middle more : List Value) → KeepsCodes codes middle → KeepsCodes middle more → KeepsCodes codes more
kept_twice codes middle more k l = record {
  tuples = λ tuple h. let first = k.tuples tuple h in let then = l.tuples tuple first.0 in (then.0, then.1 ∙ first.1);
  in_order = λ index o. l.in_order index (k.in_order index o);
  same = λ index o. l.same index (k.in_order index o) ∙ k.same index o;
}

-- codes that are right at each place
pub coded : (codes values : List Value) (tuple : List ℕ) → length values ≤ length tuple
    → ((j : ℕ) → j < length values → IsCodeOf codes (get_or tuple j 0) (get_or values j (Int (pos 0)))) → AreCodesOf codes (take (length values) tuple) values
coded codes [] tuple l h = record { known = tt; same = refl }
coded codes (v ∷ values) [] l h = absurd (omega (arith, l))
coded codes (v ∷ values) (w ∷ tuple) l h =
    let first = h zero (omega arith) in
    let rest = coded codes values tuple (omega (arith, l)) (λ j m. h (suc j) (omega arith)) in
    record { known = (first.known, rest.known); same = λ i. first.same i ∷ rest.same i }

-- one place more
pub coded_next : (codes values : List Value) (tuple : List ℕ) (i code : ℕ) → i < length tuple → IsCodeOf codes code (get_or values i (Int (pos 0)))
    → ((j : ℕ) → j < i → IsCodeOf codes (get_or tuple j 0) (get_or values j (Int (pos 0))))
    → (j : ℕ) → j < i + 1 → IsCodeOf codes (get_or (set tuple i code) j 0) (get_or values j (Int (pos 0)))
coded_next codes values tuple i code l new old j m = by (cases_eq j i)
  where
    by : (j ≡ i) ⊎ (j ≢ i) → IsCodeOf codes (get_or (set tuple i code) j 0) (get_or values j (Int (pos 0)))
    by (inl e) =
        subst (λ k. IsCodeOf codes (get_or (set tuple i code) k 0) (get_or values k (Int (pos 0)))) (sym e)
        (subst (λ w. IsCodeOf codes w (get_or values i (Int (pos 0)))) (sym (get_or-set_same tuple i code 0 l)) new)
    by (inr n) =
        subst (λ w. IsCodeOf codes w (get_or values j (Int (pos 0)))) (sym (get_or-set_other tuple i j code 0 n)) (old j (omega (arith, m, n)))

below : (n : ℕ) (columns : List ColumnId) → All (λ c. c.0 < n) columns → (q : ℕ) → list_any (λ x. q == x) (map (λ c. c.0) columns) ≡ true → q < n
below n [] h q e = cc
below n (c ∷ columns) h q e = by (q == c.0) refl e (below n columns (λ k d l. h (suc k) d (omega arith)) q)
  where
    by : (b : Bool) → (q == c.0) ≡ b → (b || list_any (λ x. q == x) (map (λ x. x.0) columns)) ≡ true
        → (list_any (λ x. q == x) (map (λ x. x.0) columns) ≡ true → q < n) → q < n
    by true t f rest = omega (arith, eqb-true q c.0 t, h zero c (omega arith))
    by false t f rest = rest f

-- different columns of a table of few
pub few_columns : (n : ℕ) (columns : List ColumnId) → EachOnce columns → All (λ c. c.0 < n) columns → length columns ≤ n
few_columns n columns once h =
    let numbers = map (λ (c : ColumnId). c.0) columns in
    let long : length numbers ≡ length columns = length-map columns (λ (c : ColumnId). c.0) in
    let no : ColumnId = record { 0 = 0 } in
    let apart : (i j : ℕ) (d : ℕ) → i < j → j < length numbers → (get_or numbers i d == get_or numbers j d) ≡ false =
    λ i j d b l. ne_eqb (get_or numbers i d) (get_or numbers j d) (λ e. once i j no b (omega (arith, l, long))
    (sym (get_or-map (λ (c : ColumnId). c.0) columns i no d (omega (arith, b, l, long))) ∙ e
    ∙ get_or-map (λ (c : ColumnId). c.0) columns j no d (omega (arith, l, long)))) in
    let few = length-le_from_distinct_below numbers n (IsDistinct-from_apart eqb numbers apart) (below n columns h) in
    omega (arith, few, long)
