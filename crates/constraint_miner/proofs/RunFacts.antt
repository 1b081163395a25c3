-- Going through rows in order finds the greatest group.
use Rattle.std.proofs.Common.{◌≡◌, ◌<◌, ◌+◌, ℕ, suc, max, Bool, true, false, cond, List, [], ◌∷◌, ◌++◌, length, map, get_or, Some, None, inl, inr, refl, ap, sym, ◌∙◌, subst, arith, append_assoc, length-append}
use Rattle.std.specs.declared.cmp.Ordering.{Ordering}
use Rattle.std.specs.declared.cmp.Ordering.TheVariants.{Less, Equal, Greater}
use Rattle.std.specs.Ordering.{is_eq, is_lt, ordering_then}
use Rattle.std.specs.Cmp.Lexicographic.{slice_cmp}
use Rattle.std.specs.List.{filter}
use Rattle.std.specs.List.Sorted.{IsSorted}
use Rattle.std.proofs.lemmas.List.{append-nil}
use Rattle.std.proofs.lemmas.List.MinMax.{ranks_by}
use Rattle.std.proofs.lemmas.Cmp.{tied_itself}
use Rattle.beas_core.specs.declared.value.Value.{Value}
use Rattle.beas_core.specs.declared.schema.ColumnId.{ColumnId}
use Rattle.beas_core.specs.Order.{value_cmp, row_cmp, row_cmp_total}
use Rattle.beas_core.specs.Sets.{add_in_order}
use Rattle.beas_core.specs.Groups.{project, same_row, group, greatest}
use Rattle.beas_core.proofs.ValueOrder.{row_cmp_tells}
use Rattle.beas_core.proofs.Sets.{Has, Has-map, Has-from_map, Has-filter, Has-from_filter, Has-append_right, Has-append_cases, Has-distinct, Has-from_distinct, IsInOrder-distinct, add_known, add_between, all_from, less_from_greater}
use Rattle.beas_core.proofs.Groups.{same_row_true, same_row_itself, project-append, length-project, group_push_own}
use Rattle.constraint_miner.specs.Runs.{tuple_cmp, is_same_in, size_with, greatest_from}
use Rattle.constraint_miner.proofs.GreatestFacts.{greatest_push}

-- lists that are joined, front by front
pub cmp-append : {K : Type 0} (cmp : K → K → Ordering) (a b c d : List K) → length a ≡ length b
    → slice_cmp cmp (a ++ c) (b ++ d) ≡ ordering_then (slice_cmp cmp a b) (slice_cmp cmp c d)
cmp-append cmp [] [] c d l = refl
cmp-append cmp [] (y ∷ ys) c d l = absurd (omega (arith, l))
cmp-append cmp (x ∷ xs) [] c d l = absurd (omega (arith, l))
cmp-append {K} cmp (x ∷ xs) (y ∷ ys) c d l = by (cmp x y) (cmp-append cmp xs ys c d (omega (arith, l)))
  where
    by : (o : Ordering) → slice_cmp cmp (xs ++ c) (ys ++ d) ≡ ordering_then (slice_cmp cmp xs ys) (slice_cmp cmp c d)
        → ordering_then o (slice_cmp cmp (xs ++ c) (ys ++ d)) ≡ ordering_then (ordering_then o (slice_cmp cmp xs ys)) (slice_cmp cmp c d)
    by Less e = refl
    by Equal e = e
    by Greater e = refl

pub tuples_by_parts : (key fetched : List ColumnId) (a b : List Value)
    → tuple_cmp key fetched a b ≡ ordering_then (row_cmp (project key a) (project key b)) (row_cmp (project fetched a) (project fetched b))
tuples_by_parts key fetched a b =
    ap (λ t. row_cmp t (project (key ++ fetched) b)) (project-append key fetched a)
    ∙ ap (row_cmp (project key a ++ project fetched a)) (project-append key fetched b)
    ∙ cmp-append value_cmp (project key a) (project key b) (project fetched a) (project fetched b) (length-project key a ∙ sym (length-project key b))

nothing : {K : Type 0} (xs : List K) → ((y : K) → Has xs y → ⊥) → xs ≡ []
nothing [] h = refl
nothing (x ∷ xs) h = absurd (h x (inl refl))

module _ (key fetched : List ColumnId) where
  abbrev Row : Type 0
  Row = List Value

  abbrev tuple : Row → Row
  tuple row = project (key ++ fetched) row

  -- the first stands before the second, or ties with it
  abbrev AtMost : Row → Row → Type 0
  AtMost a b = is_lt (tuple_cmp key fetched b a) ≡ false

  at_most_chain : (a b c : Row) → AtMost a b → AtMost b c → AtMost a c
  at_most_chain a b c h g = (ranks_by row_cmp_total tuple).chain c b a g h

  -- what the code knows after the rows in front
  record Reached (front : List Row) (before : Row) (size most : ℕ) : Type 0 where
    last : Has front before
    below : (row : Row) → Has front row → AtMost row before
    size_is : size ≡ length (group front key fetched (project key before))
    most_is : most ≡ greatest front key fetched

  -- the rows of a group, by its tuples
  row_of_member : (front : List Row) (value t : Row) → Has (group front key fetched value) t
      → (row : Row) × (Has front row) × (project key row ≡ value) × (t ≡ tuple row)
  row_of_member front value t h =
      let m = Has-from_distinct row_cmp_total row_cmp_tells (map tuple (filter (λ row. same_row (project key row) value) front)) t h in
      let r = Has-from_map tuple (filter (λ row. same_row (project key row) value) front) t m in
      let f = Has-from_filter (λ row. same_row (project key row) value) front r.0 r.1 in
      (r.0, f.0, same_row_true (project key r.0) value f.1, r.2)

  member_of_row : (front : List Row) (row : Row) → Has front row → Has (group front key fetched (project key row)) (tuple row)
  member_of_row front row h =
      Has-distinct row_cmp_total row_cmp_tells (map tuple (filter (λ r. same_row (project key r) (project key row)) front)) (tuple row)
      (Has-map tuple (filter (λ r. same_row (project key r) (project key row)) front) row
      (Has-filter (λ r. same_row (project key r) (project key row)) front row h (same_row_itself (project key row))))

  -- equal keys between which another stands
  key_at_most : (a b : Row) → AtMost a b → is_lt (row_cmp (project key b) (project key a)) ≡ false
  key_at_most a b h = by (row_cmp (project key b) (project key a)) refl
    where
      by : (o : Ordering) → row_cmp (project key b) (project key a) ≡ o → is_lt o ≡ false
      by Less e =
          let t = tuples_by_parts key fetched b a in
          let s : tuple_cmp key fetched b a ≡ Less = t ∙ ap (λ o. ordering_then o (row_cmp (project fetched b) (project fetched a))) e in
          let l = ap is_lt s in
          cc
      by Equal e = refl
      by Greater e = refl

  tied_both : (a b : Row) → is_lt (row_cmp a b) ≡ false → is_lt (row_cmp b a) ≡ false → a ≡ b
  tied_both a b h g = by (row_cmp a b) refl
    where
      by : (o : Ordering) → row_cmp a b ≡ o → a ≡ b
      by Less e = let l = ap is_lt e in cc
      by Equal e = row_cmp_tells a b e
      by Greater e = let l = ap is_lt (less_from_greater row_cmp_total row_cmp_tells a b e) in cc

  -- no row in front has a key that comes after that of the last one
  new_group : (front : List Row) (before row : Row) → ((r : Row) → Has front r → AtMost r before) → AtMost before row
      → same_row (project key before) (project key row) ≡ false → group front key fetched (project key row) ≡ []
  new_group front before row below next other = nothing (group front key fetched (project key row)) (λ t h.
      let r = row_of_member front (project key row) t h in
      let up = key_at_most r.0 before (below r.0 r.1) in
      let on = key_at_most before row next in
      let back : is_lt (row_cmp (project key before) (project key row)) ≡ false = ap (λ k. is_lt (row_cmp (project key before) k)) (sym r.2) ∙ up in
      let same = tied_both (project key before) (project key row) back on in
      let s = ap (λ k. same_row (project key before) k) (sym same) ∙ same_row_itself (project key before) in
      cc)

  -- a new tuple of the last row's group comes after all others
  tuple_less : (r before row : Row) → AtMost r before → AtMost before row → (tuple before ≡ tuple row → ⊥) → row_cmp (tuple r) (tuple row) ≡ Less
  tuple_less r before row h g differ = by (row_cmp (tuple r) (tuple row)) refl
    where
      by : (o : Ordering) → row_cmp (tuple r) (tuple row) ≡ o → row_cmp (tuple r) (tuple row) ≡ Less
      by Less e = e
      by Equal e =
          let same = row_cmp_tells (tuple r) (tuple row) e in
          absurd (differ (tied_both (tuple before) (tuple row) (ap (λ t. is_lt (row_cmp (tuple before) t)) (sym same) ∙ h) g))
      by Greater e =
          let l = ap is_lt (less_from_greater row_cmp_total row_cmp_tells (tuple r) (tuple row) e) in
          let n = at_most_chain r before row h g in
          cc

  tuples_differ : (before row : Row) → project key before ≡ project key row → same_row (project fetched before) (project fetched row) ≡ false
      → tuple before ≡ tuple row → ⊥
  tuples_differ before row same other e =
      let whole : tuple_cmp key fetched before row ≡ Equal = ap (row_cmp (tuple before)) (sym e) ∙ tied_itself row_cmp_total (tuple before) in
      let keys : row_cmp (project key before) (project key row)
      ≡ Equal = ap (row_cmp (project key before)) (sym same) ∙ tied_itself row_cmp_total (project key before) in
      let parts = tuples_by_parts key fetched before row ∙ ap (λ o. ordering_then o (row_cmp (project fetched before) (project fetched row))) keys in
      let rest = ap is_eq (sym parts ∙ whole) in
      cc

  abbrev Below : List Row → Row → Type 0
  Below front before = (r : Row) → Has front r → AtMost r before

  abbrev members : List Row → Row → List Row
  members front row = group front key fetched (project key row)

  abbrev own : List Row → Row → ℕ
  own front row = length (members (front ++ row ∷ []) row)

  new_tuple : (front : List Row) (before row : Row) → Below front before → AtMost before row → (tuple before ≡ tuple row → ⊥)
      → own front row ≡ length (members front row) + 1
  new_tuple front before row below next differ =
      ap length (group_push_own front key fetched row)
      ∙ ap (λ g. length (add_in_order row_cmp (tuple row) g)) (sym (append-nil (members front row)))
      ∙ ap length (add_between row_cmp_total row_cmp_tells (tuple row) (members front row) []
      (all_from (λ t. row_cmp t (tuple row) ≡ Less) (members front row) less) tt)
      ∙ length-append (members front row) (tuple row ∷ [])
    where
      less : (t : Row) → Has (members front row) t → row_cmp t (tuple row) ≡ Less
      less t h = let r = row_of_member front (project key row) t h in ap (λ u. row_cmp u (tuple row)) r.3
          ∙ tuple_less r.0 before row (below r.0 r.1) next differ

  known_tuple : (front : List Row) (before row : Row) → Has front before → project key before ≡ project key row → tuple before ≡ tuple row
      → own front row ≡ length (members front row)
  known_tuple front before row last same tuples =
      let P : List Value → Type 0 = λ k. Has (group front key fetched k) (tuple before) in
      let h = subst (Has (members front row)) tuples (subst P same (member_of_row front before last)) in
      ap length (group_push_own front key fetched row)
      ∙ ap length (add_known row_cmp_total row_cmp_tells (tuple row) (members front row)
      (IsInOrder-distinct row_cmp_total row_cmp_tells (map tuple (filter (λ r. same_row (project key r) (project key row)) front))) h)

  first_tuple : (front : List Row) (row : Row) → members front row ≡ [] → own front row ≡ 1
  first_tuple front row none = ap length (group_push_own front key fetched row) ∙ ap (λ g. length (add_in_order row_cmp (tuple row) g)) none

  -- the size after one row more
  size_next : (front : List Row) (before row : Row) (size most : ℕ) → Reached front before size most → AtMost before row
      → size_with key fetched (Some before) row size ≡ own front row
  size_next front before row size most h next = by (is_same_in key before row) refl (is_same_in fetched before row) refl
    where
      by : (k : Bool) → is_same_in key before row ≡ k → (f : Bool) → is_same_in fetched before row ≡ f → cond k (cond f size (size + 1)) 1 ≡ own front row
      by false k f e = sym (first_tuple front row (new_group front before row h.below next k))
      by true k true e =
          let same = same_row_true (project key before) (project key row) k in
          let others = same_row_true (project fetched before) (project fetched row) e in
          let tuples = project-append key fetched before ∙ ap (λ t. t ++ project fetched before) same ∙ ap (λ t. project key row ++ t) others
          ∙ sym (project-append key fetched row) in
          h.size_is ∙ ap (λ v. length (group front key fetched v)) same ∙ sym (known_tuple front before row h.last same tuples)
      by true k false e =
          let same = same_row_true (project key before) (project key row) k in
          ap (λ n. n + 1) (h.size_is ∙ ap (λ v. length (group front key fetched v)) same)
          ∙ sym (new_tuple front before row h.below next (tuples_differ before row same e))

  reached_next : (front : List Row) (before row : Row) (size most : ℕ) → Reached front before size most → AtMost before row
      → Reached (front ++ row ∷ []) row (size_with key fetched (Some before) row size) (max most (size_with key fetched (Some before) row size))
  reached_next front before row size most h next = record {
    last = Has-append_right front (row ∷ []) row (inl refl);
    below = λ r g. elim (Has-append_cases front (row ∷ []) r g) [
      | inl old ↦ at_most_chain r before row (h.below r old) next
      | inr new ↦ elim new [ inl e ↦ at_most_itself r row e | inr n ↦ absurd n ]
    ];
    size_is = size_next front before row size most h next;
    most_is = ap (λ n. max most n) (size_next front before row size most h next) ∙ ap (λ n. max n (own front row)) h.most_is
        ∙ sym (greatest_push front row key fetched);
  }
    where
      at_most_itself : (a b : Row) → a ≡ b → AtMost a b
      at_most_itself a b e = ap (λ t. is_lt (row_cmp (tuple b) (tuple t))) e ∙ ap is_lt (tied_itself row_cmp_total (tuple b))

  abbrev Rises : Row → List Row → Type 0
  Rises before [] = Unit {0}
  Rises before (row ∷ rows) = AtMost before row × Rises row rows

  goes_on : (rest front : List Row) (before : Row) (size most : ℕ) → Reached front before size most → Rises before rest
      → greatest_from key fetched (Some before) size most rest ≡ greatest (front ++ rest) key fetched
  goes_on [] front before size most h up = h.most_is ∙ ap (λ rows. greatest rows key fetched) (sym (append-nil front))
  goes_on (row ∷ rows) front before size most h up =
      goes_on rows (front ++ row ∷ []) row (size_with key fetched (Some before) row size) (max most (size_with key fetched (Some before) row size))
      (reached_next front before row size most h up.0) up.1
      ∙ ap (λ all. greatest all key fetched) (append_assoc front (row ∷ []) rows)

  abbrev Climbs : List Row → Type 0
  Climbs [] = Unit {0}
  Climbs (row ∷ rows) = Rises row rows

  pub run_is_greatest : (rows : List Row) → Climbs rows → greatest_from key fetched None 0 0 rows ≡ greatest rows key fetched
  run_is_greatest [] up = refl
  run_is_greatest (row ∷ rows) up =
      let one = first_tuple [] row refl in
      goes_on rows (row ∷ []) row 1 1 record {
        last = inl refl;
        below = λ r g. elim g [
          | inl e ↦ ap (λ t. is_lt (row_cmp (tuple row) (tuple t))) e
              ∙ ap is_lt (tied_itself row_cmp_total (tuple row))
          | inr n ↦ absurd n
        ];
        size_is = sym one;
        most_is = let g = greatest_push [] row key fetched in omega (arith, g, one);
      } up

  -- tuples as a sort leaves them
  module _ {X : Type 0} (row_of : X → Row) where
    rises_from : (x : X) (xs : List X) → IsSorted (λ a b. tuple_cmp key fetched (row_of a) (row_of b)) (x ∷ xs) → Rises (row_of x) (map row_of xs)
    rises_from x [] h = tt
    rises_from x (y ∷ ys) h = (h 0 x (omega arith) (omega arith), rises_from y ys (λ k d z l. later k d l))
      where
        later : (k : ℕ) (d : X) → k + 1 < length (y ∷ ys)
            → is_lt (tuple_cmp key fetched (row_of (get_or (y ∷ ys) (k + 1) d)) (row_of (get_or (y ∷ ys) k d))) ≡ false
        later k d l =
            let e : suc k + 1 ≡ suc (k + 1) = omega arith in
            ap (λ n. is_lt (tuple_cmp key fetched (row_of (get_or (x ∷ y ∷ ys) n d)) (row_of (get_or (y ∷ ys) k d)))) (sym e)
            ∙ h (suc k) d (omega arith) (omega arith)

    pub climbs_from : (xs : List X) → IsSorted (λ a b. tuple_cmp key fetched (row_of a) (row_of b)) xs → Climbs (map row_of xs)
    climbs_from [] h = tt
    climbs_from (x ∷ xs) h = rises_from x xs h
