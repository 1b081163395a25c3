-- What an index tells of a row tells whether its constraint would hold with the row.
use Rattle.std.proofs.Common.{◌≡◌, ◌≤◌, ◌+◌, Bool, true, false, inl, inr, List, [], ◌∷◌, ◌++◌, length, refl, ap, sym, ◌∙◌, subst, arith}
use Rattle.std.specs.Prelude.{IsTrue, ◌↔◌}
use Rattle.std.specs.declared.cmp.Ordering.{Ordering}
use Rattle.std.specs.declared.cmp.Ordering.TheVariants.{Less, Equal, Greater}
use Rattle.std.proofs.lemmas.List.{length-map}
use Rattle.beas_core.specs.declared.value.Value.{Value}
use Rattle.beas_core.specs.Order.{row_cmp, row_cmp_total}
use Rattle.beas_core.specs.Sets.{by_order, add_in_order}
use Rattle.beas_core.specs.Groups.{Holds, group_of}
use Rattle.beas_core.proofs.ValueOrder.{row_cmp_tells}
use Rattle.beas_core.proofs.Sets.{Has, Has-from_contains, Contains-from_has, add_known, length-add-le}
use Rattle.beas_core.proofs.Groups.{group_push_own, Holds-push}
use Rattle.access_index.specs.declared.tally.Tally.{Tally}
use Rattle.access_index.specs.Buckets.{tuples_in}
use Rattle.access_index.specs.Index.{Index, IsIndexOf, WouldHold, tallies, tuple_of, key_of}
use Rattle.access_index.proofs.Indexing.{group_tuples, group_in_order}

length_add_new : (x : List Value) (g : List (List Value)) → (Has g x → ⊥) → length (add_in_order row_cmp x g) ≡ length g + 1
length_add_new x [] out = omega arith
length_add_new x (y ∷ g) out = by (row_cmp x y) refl (length_add_new x g (λ h. out (inr h)))
  where
    by : (d : Ordering) → row_cmp x y ≡ d → length (add_in_order row_cmp x g) ≡ length g + 1
        → length (by_order d (x ∷ y ∷ g) (y ∷ g) (y ∷ add_in_order row_cmp x g)) ≡ length (y ∷ g) + 1
    by Less e h = omega arith
    by Equal e h = absurd (out (inl (row_cmp_tells x y e)))
    by Greater e h = omega (arith, h)

module _ (index : Index) (row : List Value) where
  -- so the constraint would hold with the row
  pub holds_iff : (b : Bool) → (IsTrue b ↔ WouldHold index row) → (rows : List (List Value)) → IsIndexOf index rows → Holds rows index.access
      → IsTrue b ↔ Holds (rows ++ row ∷ []) index.access
  holds_iff b exactly rows is h = (λ t. Holds-push rows index.access row h (fits (exactly.0 t)), λ g. back b exactly g)
    where
      tuples : tuples_in (tallies index (key_of index.access row)) ≡ group_of rows index.access (key_of index.access row)
      tuples = ap tuples_in (is.tallies_are (key_of index.access row)) ∙ group_tuples index.access rows (key_of index.access row)

      len : length (tallies index (key_of index.access row)) ≡ length (group_of rows index.access (key_of index.access row))
      len = sym (length-map (tallies index (key_of index.access row)) (λ (t : Tally). t.tuple)) ∙ ap length tuples

      more : length (group_of (rows ++ row ∷ []) index.access (key_of index.access row))
          ≡ length (add_in_order row_cmp (tuple_of index.access row) (group_of rows index.access (key_of index.access row)))
      more = ap length (group_push_own rows index.access.key index.access.fetched row)

      fits : WouldHold index row → length (group_of (rows ++ row ∷ []) index.access (key_of index.access row)) ≤ index.access.bound
      fits (inl c) =
          let there = subst (λ ts. Has ts (tuple_of index.access row)) tuples
          (Has-from_contains (tuples_in (tallies index (key_of index.access row))) (tuple_of index.access row) c) in
          let known = ap length (add_known row_cmp_total row_cmp_tells (tuple_of index.access row) (group_of rows index.access (key_of index.access row))
          (group_in_order index.access rows (key_of index.access row) (key_of index.access row)) there) in
          let room = h (key_of index.access row) in
          omega (arith, more, known, room)
      fits (inr s) = omega (arith, more, s, len, length-add-le row_cmp_total row_cmp_tells (tuple_of index.access row) (group_of rows index.access (key_of index.access row)))

      back : (c : Bool) → (IsTrue c ↔ WouldHold index row) → Holds (rows ++ row ∷ []) index.access → IsTrue c
      back true e g = refl
      back false e g =
          let room = g (key_of index.access row) in
          let new = length_add_new (tuple_of index.access row) (group_of rows index.access (key_of index.access row))
          (λ there. wrong (e.1 (inl (Contains-from_has (tuples_in (tallies index (key_of index.access row))) (tuple_of index.access row)
          (subst (λ ts. Has ts (tuple_of index.access row)) (sym tuples) there))))) in
          absurd (wrong (e.1 (inr (omega (arith, more, new, room, len)))))
        where
          wrong : IsTrue false → ⊥
          wrong t = cc
