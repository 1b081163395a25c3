-- The outputs of the last valuations are the full answer, and of a guided block those of its rows that stand in the guide.
use Rattle.std.proofs.Common.{◌≡◌, ◌==◌, ◌&&◌, ◌<◌, ◌+◌, ℕ, zero, suc, Bool, true, false, not, cond, nat_lt, List, [], ◌∷◌, ◌++◌, length, map, get_or, Some, None, ◌⊎◌, inl, inr, refl, ap, sym, ◌∙◌, subst, arith, zero-add}
use Rattle.std.specs.Option.{is_some}
use Rattle.std.specs.List.{list_all, list_any, filter, flat_map, zip, enumerate_from, range_with_len}
use Rattle.std.proofs.lemmas.Bool.{eqb-true, ltb-true}
use Rattle.std.proofs.lemmas.List.{append-nil, length-map}
use Rattle.std.proofs.lemmas.List.Elements.{All-contains}
use Rattle.std.proofs.lemmas.List.FromFn.{get_or-map-range_with_len, length-enumerate_from}
use Rattle.beas_core.specs.declared.schema.ColumnId.{ColumnId}
use Rattle.beas_core.specs.declared.schema.Access.{Access}
use Rattle.beas_core.specs.declared.value.Value.{Value}
use Rattle.beas_core.specs.declared.query.Atom.{Atom}
use Rattle.beas_core.specs.declared.query.Place.{Place}
use Rattle.beas_core.specs.declared.query.Operand.{Operand}
use Rattle.beas_core.specs.declared.query.Operand.TheVariants.{At, Fixed}
use Rattle.beas_core.specs.declared.query.Comparison.{Comparison}
use Rattle.beas_core.specs.declared.query.Block.{Block}
use Rattle.beas_core.specs.declared.plan.DStep.{DStep}
use Rattle.beas_core.specs.declared.plan.Normal.{Normal}
use Rattle.beas_core.specs.Types.{TableRows, Row, ClassSet, Binding, Bindings, Guide}
use Rattle.beas_core.specs.Order.{row_cmp_total}
use Rattle.beas_core.specs.Sets.{distinct}
use Rattle.beas_core.specs.Groups.{value_at, member_columns, has_column}
use Rattle.beas_core.specs.Shapes.{IsPlace, OperandIsPlace, ComparisonIsWellFormed, BlockIsWellFormed, AccessIsWellFormed, width_of}
use Rattle.beas_core.specs.Full.{same_value, comparison_holds, operand_value, choices, choice_value, meets, full_of_block}
use Rattle.beas_core.specs.Classes.{Linked, itself, equated, turned, chained, same_place, class_of, operand_places, used_places, needed_columns, normal_of}
use Rattle.beas_core.specs.Coverage.{has, class_at, place_class, output_classes, start_classes, needed_of, needed_places, holds_needed, is_open, atoms_of, ClassesInRange}
use Rattle.beas_core.specs.Derivations.{access_in, table_of, use_of, bound_after, is_on_table, is_served_by, steps_are_sound, IsSound}
use Rattle.beas_core.specs.Valuations.{value_of, agrees, bindings_of, with_row_for, ways, comparison_is_bound, operand_is_bound, comparison_is_met, is_consistent, classes_in, as_bindings, output_row, valued_rows, valuations, answers_of, starts}
use Rattle.beas_core.proofs.Sets.{Has, Has-map, Has-from_map, Has-filter, Has-from_filter, Has-append_left, Has-append_right, Has-append_cases, Has-distinct, Has-from_distinct, Has-from_contains, Contains-from_has, IsInOrder-distinct, same_sets}
use Rattle.beas_core.proofs.ValueOrder.{row_cmp_tells}
use Rattle.beas_core.proofs.MemberTests.{and_left, and_right, and_both, or_cases, or_left, or_right, from_not, which, all_has, all_by, any_has, any_by, none_has, Has-flat_map, Has-from_flat_map}
use Rattle.beas_core.proofs.SoundParts.{SoundParts, sound_parts, steps_from}
use Rattle.beas_core.proofs.UseFacts.{same_number}
use Rattle.beas_core.specs.Guides.{GuideFits}
use Rattle.beas_core.proofs.BindingFacts.{zip-maps, keys, Binds, map_same, same_value_to, same_from, agreed, Has-range, value_in_valuation}
use Rattle.beas_core.proofs.ConsistencyFacts.{compared_alike}
use Rattle.beas_core.proofs.FrontBounds.{front_binds}
use Rattle.beas_core.proofs.ClassFacts.{has_enumerated, width_at, class_from_linked, linked_from_class, has_place, classes_in_range, constants_in_range}
use Rattle.beas_core.specs.Queries.{inside}
use Rattle.beas_core.proofs.GuidedLaw.{InGuide, Has-inside, Has-from_inside, in_order-inside}

abbrev none : Atom
none = record { table = record { 0 = 0 }; width = 0 }

get_or-map : {A B : Type 0} (f : A → B) (xs : List A) (k : ℕ) (d : B) (e : A) → k < length xs → get_or (map f xs) k d ≡ f (get_or xs k e)
get_or-map f [] k d e l = absurd (omega (arith, l))
get_or-map f (x ∷ xs) zero d e l = refl
get_or-map f (x ∷ xs) (suc k) d e l = get_or-map f xs k d e (omega arith)

get_or-enumerated : {A B : Type 0} (f : ℕ × A → B) (n k : ℕ) (xs : List A) (d : B) (e : A) → k < length xs
    → get_or (map f (enumerate_from n xs)) k d ≡ f (n + k, get_or xs k e)
get_or-enumerated f n k [] d e l = absurd (omega (arith, l))
get_or-enumerated f n zero (x ∷ xs) d e l = let z : n ≡ n + 0 = omega arith in ap (λ m. f (m, x)) z
get_or-enumerated f n (suc k) (x ∷ xs) d e l =
    let z : n + 1 + k ≡ n + suc k = omega arith in
    get_or-enumerated f (n + 1) k xs d e (omega arith) ∙ ap (λ m. f (m, get_or xs k e)) z

-- the binding that gives a bound class its value
value_found : (w : Bindings) (c : ℕ) → Has (keys w) c → (b : Binding) × (Has w b) × (b.0 ≡ c) × (value_of w c ≡ b.1)
value_found [] c h = absurd h
value_found (b ∷ w) c h = by (b.0 == c) refl h (value_found w c)
  where
    by : (t : Bool) → (b.0 == c) ≡ t → Has (keys (b ∷ w)) c → (Has (keys w) c → (d : Binding) × (Has w d) × (d.0 ≡ c) × (value_of w c ≡ d.1))
        → (d : Binding) × (Has (b ∷ w) d) × (d.0 ≡ c) × (cond t b.1 (value_of w c) ≡ d.1)
    by true e g later = (b, inl refl, eqb-true b.0 c e, refl)
    by false e (inl k) later = let s = same_number b.0 c (sym k) in cc
    by false e (inr k) later = let r = later k in (r.0, inr r.1, r.2, r.3)

-- a column that a test finds in a list stands in it
has_column_has : (columns : List ColumnId) (c : ColumnId) → has_column columns c ≡ true → Has columns c
has_column_has columns c h =
    let r = any_has (λ d. d.0 == c.0) columns h in
    let column : ℕ → ColumnId = λ n. record { 0 = n } in
    subst (Has columns) (ap column (eqb-true r.0.0 c.0 r.2)) r.1

-- choices of rows, by atom
module _ (rows : TableRows) where
  row_in_choice : (atoms : List Atom) (choice : List Row) → Has (choices rows atoms) choice → (k : ℕ) → k < length atoms
      → Has (rows (get_or atoms k none).table) (get_or choice k [])
  row_in_choice [] choice h k l = absurd (omega (arith, l))
  row_in_choice (a ∷ atoms) choice h k l =
      let f = Has-from_flat_map (λ row. map (λ others. row ∷ others) (choices rows atoms)) (rows a.table) choice h in
      let m = Has-from_map (λ others. f.0 ∷ others) (choices rows atoms) choice f.2 in
      subst (λ c. Has (rows (get_or (a ∷ atoms) k none).table) (get_or c k [])) (sym m.2) (by k l f.0 m.0 f.1 (row_in_choice atoms m.0 m.1))
    where
      by : (j : ℕ) → j < length (a ∷ atoms) → (row : Row) (others : List Row) → Has (rows a.table) row
          → ((i : ℕ) → i < length atoms → Has (rows (get_or atoms i none).table) (get_or others i []))
          → Has (rows (get_or (a ∷ atoms) j none).table) (get_or (row ∷ others) j [])
      by zero b row others g later = g
      by (suc j) b row others g later = later j (omega arith)

  choice_of : (P : ℕ → Row → Type 0) (atoms : List Atom) (n : ℕ)
      → ((k : ℕ) → k < length atoms → (row : Row) × (Has (rows (get_or atoms k none).table) row) × P (n + k) row)
      → (choice : List Row) × (Has (choices rows atoms) choice) × ((k : ℕ) → k < length atoms → P (n + k) (get_or choice k []))
  choice_of P [] n f = ([], inl refl, λ k l. absurd (omega (arith, l)))
  choice_of P (a ∷ atoms) n f =
      let first = f 0 (omega arith) in
      let rest = choice_of P atoms (n + 1)
      (λ k l. let r = f (suc k) (omega arith) in let e : n + suc k ≡ n + 1 + k = omega arith in (r.0, r.1, subst (λ m. P m r.0) e r.2)) in (
        first.0 ∷ rest.0,
        Has-flat_map (λ row. map (λ others. row ∷ others) (choices rows atoms)) (rows a.table) first.0 (first.0 ∷ rest.0) first.1
            (Has-map (λ others. first.0 ∷ others) (choices rows atoms) rest.0 rest.1),
        λ k l. by k l first.0 rest.0 first.2 rest.2,
      )
    where
      by : (j : ℕ) → j < length (a ∷ atoms) → (row : Row) (others : List Row) → P (n + 0) row
          → ((i : ℕ) → i < length atoms → P (n + 1 + i) (get_or others i [])) → P (n + j) (get_or (row ∷ others) j [])
      by zero b row others g later = g
      by (suc j) b row others g later = let e : n + 1 + j ≡ n + suc j = omega arith in subst (λ m. P m (get_or others j [])) e (later j (omega arith))

-- the places of a block's conditions and output are used
module _ (block : Block) where
  abbrev from_equalities : List Place
  from_equalities = flat_map (λ e. e.0 ∷ e.1 ∷ []) block.equalities

  abbrev from_constants : List Place
  from_constants = map (λ c. c.0) block.constants

  abbrev from_comparisons : List Place
  from_comparisons = flat_map (λ c. c.left ∷ operand_places c.right) block.comparisons

  used_equality : (e : Place × Place) → Has block.equalities e → Has (used_places block) e.0 × Has (used_places block) e.1
  used_equality e h = (lift e.0 (inl refl), lift e.1 (inr (inl refl)))
    where
      lift : (p : Place) → Has (e.0 ∷ e.1 ∷ []) p → Has (used_places block) p
      lift p g = Has-append_left (from_equalities ++ from_constants ++ from_comparisons) block.output p
          (Has-append_left (from_equalities ++ from_constants) from_comparisons p
          (Has-append_left from_equalities from_constants p (Has-flat_map (λ d. d.0 ∷ d.1 ∷ []) block.equalities e p h g)))

  used_constant : (c : Place × Value) → Has block.constants c → Has (used_places block) c.0
  used_constant c h = Has-append_left (from_equalities ++ from_constants ++ from_comparisons) block.output c.0
      (Has-append_left (from_equalities ++ from_constants) from_comparisons c.0
      (Has-append_right from_equalities from_constants c.0 (Has-map (λ d. d.0) block.constants c h)))

  used_comparison : (c : Comparison) → Has block.comparisons c → (p : Place) → Has (c.left ∷ operand_places c.right) p → Has (used_places block) p
  used_comparison c h p g = Has-append_left (from_equalities ++ from_constants ++ from_comparisons) block.output p
      (Has-append_right (from_equalities ++ from_constants) from_comparisons p (Has-flat_map (λ d. d.left ∷ operand_places d.right) block.comparisons c p h g))

  used_output : (p : Place) → Has block.output p → Has (used_places block) p
  used_output p h = Has-append_right (from_equalities ++ from_constants ++ from_comparisons) block.output p h

  place_class_is : (p : Place) → IsPlace block.atoms p → place_class (normal_of block) p ≡ class_of block p
  unfolding normal_of
  place_class_is p h =
      let row = get_or-enumerated (λ a. map (λ c. class_of block (record { atom = a.0; column = record { 0 = c } })) (range_with_len 0 a.1.width)) 0 p.atom
      block.atoms [] none h.atom in
      let w = width_at block.atoms p.atom none h.atom in
      let l = subst (λ n. p.column.0 < n) w h.column in
      ap (λ cs. get_or cs p.column.0 0) row
      ∙ ap (λ k. get_or (map (λ c. class_of block (record { atom = k; column = record { 0 = c } })) (range_with_len 0 (get_or block.atoms p.atom none).width))
      p.column.0 0) (zero-add p.atom)
      ∙ get_or-map-range_with_len (λ c. class_of block (record { atom = p.atom; column = record { 0 = c } })) 0
      (get_or block.atoms p.atom none).width p.column.0 p.column.0 0 l (zero-add p.column.0)

  -- a used place's column is needed on its atom
  needed_column : (p : Place) → IsPlace block.atoms p → Has (used_places block) p → Has (needed_of (normal_of block) p.atom) p.column
  unfolding normal_of
  needed_column p h used =
      let list = get_or-enumerated (λ a. needed_columns block a.0 a.1.width) 0 p.atom block.atoms [] none h.atom in
      let w = width_at block.atoms p.atom none h.atom in
      let l = subst (λ n. p.column.0 < n) w h.column in
      let here = Has-map (λ c. record { 0 = c })
      (filter (λ c. list_any (same_place (record { atom = p.atom; column = record { 0 = c } })) (used_places block))
      (range_with_len 0 (get_or block.atoms p.atom none).width)) p.column.0
      (Has-filter (λ c. list_any (same_place (record { atom = p.atom; column = record { 0 = c } })) (used_places block))
      (range_with_len 0 (get_or block.atoms p.atom none).width) p.column.0
      (Has-range (get_or block.atoms p.atom none).width 0 p.column.0 (omega arith) (omega (arith, l)))
      (any_by (same_place p) (used_places block) p used (and_both (p.atom == p.atom) (p.column.0 == p.column.0) (same_number p.atom p.atom refl)
      (same_number p.column.0 p.column.0 refl)))) in
      subst (λ cs. Has cs p.column) (sym (list ∙ ap (λ k. needed_columns block k (get_or block.atoms p.atom none).width) (zero-add p.atom))) here

  needed_place : (p : Place) → IsPlace block.atoms p → Has (used_places block) p → Has (needed_places (normal_of block)) p
  unfolding normal_of
  needed_place p h used =
      let needed = (normal_of block).needed in
      let many = length-map (enumerate_from 0 block.atoms) (λ a. needed_columns block a.0 a.1.width) ∙ length-enumerate_from 0 block.atoms in
      let l = subst (λ n. p.atom < n) (sym many) h.atom in
      let m = subst (λ n. Has (enumerate_from 0 needed) (n, get_or needed p.atom [])) (zero-add p.atom) (has_enumerated 0 p.atom needed [] l) in
      Has-flat_map (λ n. map (λ c. record { atom = n.0; column = c }) n.1) (enumerate_from 0 needed) (p.atom, get_or needed p.atom []) p m
      (Has-map (λ c. record { atom = p.atom; column = c }) (get_or needed p.atom []) p.column (needed_column p h used))

-- every start has the constants, and one of a guided block a row of the guide too
constants_in : (normal : Normal) (guide : Guide) (start : Bindings) → Has (starts normal guide) start → (b : Binding) → Has normal.constants b → Has start b
constants_in normal None start (inl e) b h = subst (λ u. Has u b) (sym e) h
constants_in normal None start (inr n) b h = absurd n
constants_in normal (Some found) start m b h =
    let r = Has-from_map (λ row. normal.constants ++ zip (output_classes normal) row) found start m in
    subst (λ u. Has u b) (sym r.2) (Has-append_left normal.constants (zip (output_classes normal) r.0) b h)

-- the start that a row makes, where it stands in the guide
start_for : (normal : Normal) (guide : Guide) (row : Row) → InGuide guide row
    → (start : Bindings) × (Has (starts normal guide) start) × ((b : Binding) → Has start b → Has normal.constants b ⊎ Has (zip (output_classes normal) row) b)
start_for normal None row g = (normal.constants, inl refl, λ b h. inl h)
start_for normal (Some found) row g = (
  normal.constants ++ zip (output_classes normal) row,
  Has-map (λ r. normal.constants ++ zip (output_classes normal) r) found row g,
  λ b h. Has-append_cases normal.constants (zip (output_classes normal) row) b h,
)

-- a row is known by the values of its places
zipped_values : (value : ℕ → Value) (class : Place → ℕ) (places : List Place) (row : Row) → length row ≡ length places
    → ((b : Binding) → Has (zip (map class places) row) b → b.1 ≡ value b.0) → map (λ p. value (class p)) places ≡ row
zipped_values value class [] [] e f = refl
zipped_values value class [] (v ∷ row) e f = absurd (omega (arith, e))
zipped_values value class (p ∷ places) [] e f = absurd (omega (arith, e))
zipped_values value class (p ∷ places) (v ∷ row) e f =
    let first = f (class p, v) (inl refl) in
    let rest = zipped_values value class places row (omega arith) (λ b h. f b (inr h)) in
    cc

-- each way has a row of each step, and any rows make a way
module _ (rows : TableRows) (normal : Normal) (accesses : List Access) (ranges : ClassesInRange normal) where
  -- the row that a way chose for a step
  abbrev RowFor : DStep → Bindings → Type 0
  RowFor s w = (row : Row) × (Has (rows (table_of normal s.atom)) row) × ((b : Binding) → Has (bindings_of normal accesses s row) b → Has w b)

  ways_rows : (steps : List DStep) (found : List Bindings) (w : Bindings) → Has (ways rows normal accesses found steps) w
      → (start : Bindings) × (Has found start) × ((b : Binding) → Has start b → Has w b) × ((s : DStep) → Has steps s → RowFor s w)
  ways_rows [] found w h = (w, h, λ b m. m, λ s m. absurd m)
  ways_rows (s ∷ steps) found w h =
      let later = ways_rows steps (with_row_for rows normal accesses found s) w h in
      let f = Has-from_flat_map (λ u. map (λ row. u ++ bindings_of normal accesses s row) (rows (table_of normal s.atom))) found later.0 later.1 in
      let m = Has-from_map (λ row. f.0 ++ bindings_of normal accesses s row) (rows (table_of normal s.atom)) later.0 f.2 in
      let front : (b : Binding) → Has f.0 b
      → Has w b = λ b k. later.2 b (subst (λ u. Has u b) (sym m.2) (Has-append_left f.0 (bindings_of normal accesses s m.0) b k)) in
      let back : (b : Binding) → Has (bindings_of normal accesses s m.0) b
      → Has w b = λ b k. later.2 b (subst (λ u. Has u b) (sym m.2) (Has-append_right f.0 (bindings_of normal accesses s m.0) b k)) in
      (f.0, f.1, front, λ t k. elim k [ inl e ↦ subst (λ u. RowFor u w) (sym e) (m.0, m.1, back) | inr g ↦ later.3 t g ])

  -- the way that a row for each atom makes
  way_of : (pick : ℕ → Row) (steps : List DStep) (found : List Bindings) (start : Bindings) → Has found start
      → ((s : DStep) → Has steps s → Has (rows (table_of normal s.atom)) (pick s.atom))
      → (w : Bindings) × (Has (ways rows normal accesses found steps) w) × ((b : Binding) → Has w b
      → Has start b ⊎ ((s : DStep) × (Has steps s) × (Has (bindings_of normal accesses s (pick s.atom)) b)))
  way_of pick [] found start h f = (start, h, λ b m. inl m)
  way_of pick (s ∷ steps) found start h f =
      let more = start ++ bindings_of normal accesses s (pick s.atom) in
      let member = Has-flat_map (λ u. map (λ row. u ++ bindings_of normal accesses s row) (rows (table_of normal s.atom))) found start more h
      (Has-map (λ row. start ++ bindings_of normal accesses s row) (rows (table_of normal s.atom)) (pick s.atom) (f s (inl refl))) in
      let later = way_of pick steps (with_row_for rows normal accesses found s) more member (λ t k. f t (inr k)) in (
        later.0,
        later.1,
        λ b m. elim (later.2 b m) [
          | inl k ↦ elim (Has-append_cases start (bindings_of normal accesses s (pick s.atom)) b k) [ inl g ↦ inl g | inr g ↦ inr (s, inl refl, g) ]
          | inr k ↦ inr (k.0, inr k.1, k.2)
        ],
      )

module _ (rows : TableRows) (block : Block) (shape : BlockIsWellFormed block) (accesses : List Access) (steps : List DStep)
    (guide : Guide) (fit : GuideFits (normal_of block) guide)
    (sound : IsSound (normal_of block) accesses (start_classes (normal_of block) (is_some guide)) steps)
    (formed : (s : DStep) → Has steps s → AccessIsWellFormed (width_of block.atoms s.atom) (access_in accesses s.access)) where
  abbrev normal : Normal
  normal = normal_of block

  abbrev bound : ClassSet
  bound = bound_after (normal_of block) accesses (start_classes (normal_of block) (is_some guide)) steps

  abbrev all_ways : List Bindings
  all_ways = ways rows (normal_of block) accesses (starts (normal_of block) guide) steps

  parts : SoundParts (normal_of block) accesses (start_classes (normal_of block) (is_some guide)) steps
  parts = sound_parts (normal_of block) accesses (start_classes (normal_of block) (is_some guide)) steps sound.sound

  equality_place : (e : Place × Place) → Has block.equalities e → IsPlace block.atoms e.0 × IsPlace block.atoms e.1
  equality_place e h = All-contains (λ d. IsPlace block.atoms d.0 × IsPlace block.atoms d.1) block.equalities e shape.equalities
      (Contains-from_has block.equalities e h)

  constant_place : (c : Place × Value) → Has block.constants c → IsPlace block.atoms c.0
  constant_place c h = All-contains (λ d. IsPlace block.atoms d.0) block.constants c shape.constants (Contains-from_has block.constants c h)

  comparison_shape : (c : Comparison) → Has block.comparisons c → ComparisonIsWellFormed block.atoms c
  comparison_shape c h = All-contains (ComparisonIsWellFormed block.atoms) block.comparisons c shape.comparisons (Contains-from_has block.comparisons c h)

  output_place : (p : Place) → Has block.output p → IsPlace block.atoms p
  output_place p h = All-contains (IsPlace block.atoms) block.output p shape.output (Contains-from_has block.output p h)

  -- a used place's class is bound in the end
  bound_place : (p : Place) → IsPlace block.atoms p → Has (used_places block) p → has bound (place_class normal p) ≡ true
  bound_place p h used =
      let all = from_not (list_any (is_open normal bound) (needed_places normal)) parts.needed in
      let one = none_has (is_open normal bound) (needed_places normal) p all (needed_place block p h used) in
      twice (has bound (place_class normal p)) one
    where
      twice : (b : Bool) → not b ≡ false → b ≡ true
      twice true e = refl
      twice false e = cc

  way_binds : (w : Bindings) → Has all_ways w → Binds bound w
  way_binds = front_binds rows (normal_of block) accesses guide (classes_in_range block shape) (constants_in_range block shape) fit steps []
      (subst (λ all. steps_are_sound (normal_of block) accesses (start_classes (normal_of block) (is_some guide)) all ≡ true) (sym (append-nil steps))
      (steps_from (normal_of block) accesses (start_classes (normal_of block) (is_some guide)) steps parts.each))

  table_is : (k : ℕ) → k < length block.atoms → table_of normal k ≡ (get_or block.atoms k none).table
  unfolding normal_of
  table_is k l = get_or-map (λ a. a.table) block.atoms k (record { 0 = 0 }) none l

  -- a consistent way has, for each atom, the row that its serving step chose
  module _ (w : Bindings) (way : Has all_ways w) (consistent : is_consistent normal bound w ≡ true) where
    agree : agrees w ≡ true
    agree = and_left (agrees w) (list_all (comparison_is_met normal bound w) normal.comparisons) consistent

    way_parts : (start : Bindings) × (Has (starts normal guide) start) × ((b : Binding) → Has start b → Has w b) × ((s : DStep) → Has steps s
        → RowFor rows normal accesses (classes_in_range block shape) s w)
    way_parts = ways_rows rows normal accesses (classes_in_range block shape) steps (starts normal guide) w way

    abbrev GivesValues : ℕ → Row → Type 0
    GivesValues k row = (p : Place) → p.atom ≡ k → IsPlace block.atoms p → Has (used_places block) p → value_at row p.column ≡ value_of w (place_class normal p)

    row_for_atom : (k : ℕ) → k < length block.atoms → (row : Row) × (Has (rows (get_or block.atoms k none).table) row) × GivesValues (0 + k) row
    unfolding normal_of
    row_for_atom k l =
        let served = all_has (is_served_by normal accesses steps) (atoms_of normal) k parts.served
        (Has-range (length block.atoms) 0 k (omega arith) (omega (arith, l))) in
        let s = any_has (λ t. (t.atom == k) && holds_needed normal (use_of accesses t)) steps served in
        let here = eqb-true s.0.atom k (and_left (s.0.atom == k) (holds_needed normal (use_of accesses s.0)) s.2) in
        let whole = and_right (s.0.atom == k) (holds_needed normal (use_of accesses s.0)) s.2 in
        let r = way_parts.3 s.0 s.1 in
        let table = ap (table_of normal) here ∙ table_is k l in (
          r.0,
          subst (λ t. Has (rows t) r.0) table r.1,
          λ p at h used. (
              let at_step : p.atom ≡ s.0.atom = at ∙ zero-add k ∙ sym here in
              let needed = subst (λ n. Has (needed_of normal n) p.column) at_step (needed_column block p h used) in
              let member = has_column_has (member_columns (access_in accesses s.0.access)) p.column
              (all_has (has_column (member_columns (access_in accesses s.0.access))) (needed_of normal s.0.atom) p.column whole needed) in
              let binding = r.2 (class_at normal s.0.atom p.column, value_at r.0 p.column)
              (Has-map (λ c. (class_at normal s.0.atom c, value_at r.0 c)) (member_columns (access_in accesses s.0.access)) p.column member) in
              agreed w (class_at normal s.0.atom p.column, value_at r.0 p.column) agree binding
              ∙ ap (λ n. value_of w (class_at normal n p.column)) (sym at_step)),
        )

    choice_made : (choice : List Row) × (Has (choices rows block.atoms) choice) × ((k : ℕ) → k < length block.atoms → GivesValues (0 + k) (get_or choice k []))
    choice_made = choice_of rows GivesValues block.atoms 0 row_for_atom

    value_chosen : (p : Place) → IsPlace block.atoms p → Has (used_places block) p → choice_value choice_made.0 p ≡ value_of w (place_class normal p)
    value_chosen p h used = choice_made.2 p.atom h.atom p (sym (zero-add p.atom)) h used

    operand_value_is : (o : Operand) → OperandIsPlace block.atoms o → ((p : Place) → Has (operand_places o) p → Has (used_places block) p)
        → operand_value (choice_value choice_made.0) o ≡ operand_value (λ p. value_of w (place_class normal p)) o
    operand_value_is (At p) h used = value_chosen p h (used p (inl refl))
    operand_value_is (Fixed v) h used = refl

    operand_bound_is : (o : Operand) → OperandIsPlace block.atoms o → ((p : Place) → Has (operand_places o) p → Has (used_places block) p)
        → operand_is_bound normal bound o ≡ true
    operand_bound_is (At p) h used = bound_place p h (used p (inl refl))
    operand_bound_is (Fixed v) h used = refl

    choice_meets : meets block choice_made.0 ≡ true
    unfolding normal_of
    choice_meets = and_both
        (list_all (λ e. same_value (choice_value choice_made.0 e.0) (choice_value choice_made.0 e.1)) block.equalities && list_all
        (λ c. same_value (choice_value choice_made.0 c.0) c.1) block.constants)
        (list_all (comparison_holds (choice_value choice_made.0)) block.comparisons)
        (and_both
        (list_all (λ e. same_value (choice_value choice_made.0 e.0) (choice_value choice_made.0 e.1)) block.equalities)
        (list_all (λ c. same_value (choice_value choice_made.0 c.0) c.1) block.constants)
        (all_by (λ e. same_value (choice_value choice_made.0 e.0) (choice_value choice_made.0 e.1)) block.equalities (λ e h.
        let places = equality_place e h in
        let used = used_equality block e h in
        let linked = equated e.0 e.1 (Contains-from_has block.equalities e h) in
        let classes = place_class_is block e.0 places.0 ∙ class_from_linked block e.0 e.1 linked ∙ sym (place_class_is block e.1 places.1) in
        same_value_to (choice_value choice_made.0 e.0) (choice_value choice_made.0 e.1) (value_chosen e.0 places.0 used.0 ∙ ap (value_of w) classes
        ∙ sym (value_chosen e.1 places.1 used.1))))
        (all_by (λ c. same_value (choice_value choice_made.0 c.0) c.1) block.constants (λ c h.
        let place = constant_place c h in
        let given = Has-map (λ d. (class_of block d.0, d.1)) block.constants c h in
        let binding = way_parts.2 (class_of block c.0, c.1) (constants_in normal guide way_parts.0 way_parts.1 (class_of block c.0, c.1) given) in
        same_value_to (choice_value choice_made.0 c.0) c.1 (value_chosen c.0 place (used_constant block c h)
        ∙ ap (value_of w) (place_class_is block c.0 place) ∙ sym (agreed w (class_of block c.0, c.1) agree binding)))))
        (all_by (comparison_holds (choice_value choice_made.0)) block.comparisons (λ c h.
        let form = comparison_shape c h in
        let used_left = used_comparison block c h c.left (inl refl) in
        let used_right : (p : Place) → Has (operand_places c.right) p → Has (used_places block) p = λ p m. used_comparison block c h p (inr m) in
        let met = all_has (comparison_is_met normal bound w) normal.comparisons c
        (and_right (agrees w) (list_all (comparison_is_met normal bound w) normal.comparisons) consistent) h in
        let is_bound = and_both (has bound (place_class normal c.left)) (operand_is_bound normal bound c.right) (bound_place c.left form.left used_left)
        (operand_bound_is c.right form.right used_right) in
        let alike = compared_alike (choice_value choice_made.0) (λ p. value_of w (place_class normal p)) c (value_chosen c.left form.left used_left)
        (operand_value_is c.right form.right used_right) in
        alike ∙ elim (or_cases (not (comparison_is_bound normal bound c)) (comparison_holds (λ p. value_of w (place_class normal p)) c) met) [
          | inl n ↦ (let f = from_not (comparison_is_bound normal bound c) n in cc)
          | inr k ↦ k
        ]))

    output_is : output_row normal bound (map (value_of w) (classes_in bound)) ≡ map (choice_value choice_made.0) block.output
    unfolding normal_of
    output_is = map_same (λ p. value_of (as_bindings bound (map (value_of w) (classes_in bound))) (place_class normal p))
        (choice_value choice_made.0) block.output (λ p h.
        let place = output_place p h in
        let used = used_output block p h in
        value_in_valuation bound w (place_class normal p) (bound_place p place used) ∙ sym (value_chosen p place used))

    outputs_are : output_row normal bound (map (value_of w) (classes_in bound)) ≡ map (λ p. value_of w (place_class normal p)) normal.output
    unfolding normal_of
    outputs_are = map_same (λ p. value_of (as_bindings bound (map (value_of w) (classes_in bound))) (place_class normal p))
        (λ p. value_of w (place_class normal p)) block.output (λ p h.
        value_in_valuation bound w (place_class normal p) (bound_place p (output_place p h) (used_output block p h)))

    -- a way of a guided block starts from a row of its guide, which is its output
    output_in_guide : InGuide guide (output_row normal bound (map (value_of w) (classes_in bound)))
    output_in_guide = by guide refl
      where
        by : (some : Guide) → guide ≡ some → InGuide some (output_row normal bound (map (value_of w) (classes_in bound)))
        by None e = tt
        by (Some found) e =
            let from = subst (λ g. Has (starts normal g) way_parts.0) e way_parts.1 in
            let r = Has-from_map (λ row. normal.constants ++ zip (output_classes normal) row) found way_parts.0 from in
            let wide = All-contains (λ row. length row ≡ length normal.output) found r.0 (subst (GuideFits normal) e fit) (Contains-from_has found r.0 r.1) in
            let whole = zipped_values (value_of w) (place_class normal) normal.output r.0 wide (λ b h.
            agreed w b agree (way_parts.2 b (subst (λ u. Has u b) (sym r.2) (Has-append_right normal.constants (zip (output_classes normal) r.0) b h)))) in
            subst (Has found) (sym (outputs_are ∙ whole)) r.1

  -- a choice that meets all conditions makes a consistent way
  module _ (choice : List Row) (member : Has (choices rows block.atoms) choice) (met : meets block choice ≡ true)
      (in_guide : InGuide guide (map (choice_value choice) block.output)) where
    equal_met : list_all (λ e. same_value (choice_value choice e.0) (choice_value choice e.1)) block.equalities ≡ true
    equal_met = and_left (list_all (λ e. same_value (choice_value choice e.0) (choice_value choice e.1)) block.equalities)
        (list_all (λ c. same_value (choice_value choice c.0) c.1) block.constants)
        (and_left (list_all (λ e. same_value (choice_value choice e.0) (choice_value choice e.1)) block.equalities && list_all
        (λ c. same_value (choice_value choice c.0) c.1) block.constants) (list_all (comparison_holds (choice_value choice)) block.comparisons) met)

    constants_met : list_all (λ c. same_value (choice_value choice c.0) c.1) block.constants ≡ true
    constants_met = and_right (list_all (λ e. same_value (choice_value choice e.0) (choice_value choice e.1)) block.equalities)
        (list_all (λ c. same_value (choice_value choice c.0) c.1) block.constants)
        (and_left (list_all (λ e. same_value (choice_value choice e.0) (choice_value choice e.1)) block.equalities && list_all
        (λ c. same_value (choice_value choice c.0) c.1) block.constants) (list_all (comparison_holds (choice_value choice)) block.comparisons) met)

    comparisons_met : list_all (comparison_holds (choice_value choice)) block.comparisons ≡ true
    comparisons_met = and_right (list_all (λ e. same_value (choice_value choice e.0) (choice_value choice e.1)) block.equalities && list_all
        (λ c. same_value (choice_value choice c.0) c.1) block.constants) (list_all (comparison_holds (choice_value choice)) block.comparisons) met

    linked_alike : (p q : Place) → Linked block.equalities p q → choice_value choice p ≡ choice_value choice q
    linked_alike p q (itself r) = refl
    linked_alike p q (equated r s h) = same_from (choice_value choice r) (choice_value choice s)
        (all_has (λ e. same_value (choice_value choice e.0) (choice_value choice e.1)) block.equalities (r, s) equal_met
        (Has-from_contains block.equalities (r, s) h))
    linked_alike p q (turned r s h) = sym (linked_alike r s h)
    linked_alike p q (chained r s t h g) = linked_alike r s h ∙ linked_alike s t g

    class_alike : (p q : Place) → IsPlace block.atoms p → IsPlace block.atoms q → class_of block p ≡ class_of block q
        → choice_value choice p ≡ choice_value choice q
    class_alike p q a b e = linked_alike p q (linked_from_class block p q (has_place block.atoms p a) (has_place block.atoms q b) e)

    -- a binding that a place of the choice gives
    abbrev FromPlace : Binding → Type 0
    FromPlace b = (p : Place) × IsPlace block.atoms p × (class_of block p ≡ b.0) × (b.1 ≡ choice_value choice p)

    step_atom : (s : DStep) → Has steps s → s.atom < length block.atoms
    unfolding normal_of
    step_atom s h = ltb-true s.atom (length block.atoms)
        (and_left (nat_lt s.atom (length block.atoms)) ((table_of normal s.atom).0 == (access_in accesses s.access).table.0)
        (all_has (is_on_table normal accesses) steps s parts.each.tables h))

    made_start : (start : Bindings) × (Has (starts normal guide) start) × ((b : Binding) → Has start b
        → Has normal.constants b ⊎ Has (zip (output_classes normal) (map (choice_value choice) block.output)) b)
    made_start = start_for normal guide (map (choice_value choice) block.output) in_guide

    made_way : (w : Bindings) × (Has all_ways w) × ((b : Binding) → Has w b
        → Has made_start.0 b ⊎ ((s : DStep) × (Has steps s) × (Has (bindings_of normal accesses s (get_or choice s.atom [])) b)))
    made_way = way_of rows normal accesses (classes_in_range block shape) (λ k. get_or choice k []) steps (starts normal guide) made_start.0 made_start.1
        (λ s h. subst (λ t. Has (rows t) (get_or choice s.atom [])) (sym (table_is s.atom (step_atom s h)))
        (row_in_choice rows block.atoms choice member s.atom (step_atom s h)))

    column_place : (s : DStep) → Has steps s → (c : ColumnId) → Has (member_columns (access_in accesses s.access)) c
        → IsPlace block.atoms (record { atom = s.atom; column = c })
    column_place s h c m = record {
      atom = step_atom s h;
      column = elim (Has-append_cases (access_in accesses s.access).key (access_in accesses s.access).fetched c m) [
        | inl k ↦ All-contains (λ d. d.0 < width_of block.atoms s.atom) (access_in accesses s.access).key c (formed s h).key_columns
            (Contains-from_has (access_in accesses s.access).key c k)
        | inr k ↦ All-contains (λ d. d.0 < width_of block.atoms s.atom) (access_in accesses s.access).fetched c (formed s h).fetched_columns
            (Contains-from_has (access_in accesses s.access).fetched c k)
      ];
    }

    from_place : (b : Binding) → Has made_way.0 b → FromPlace b
    unfolding normal_of
    from_place b h = elim (made_way.2 b h) [
      | inl start ↦ elim (made_start.2 b start) [
        | inl k ↦ (
            let m = Has-from_map (λ d. (class_of block d.0, d.1)) block.constants b k in
            let same = same_from (choice_value choice m.0.0) m.0.1
            (all_has (λ c. same_value (choice_value choice c.0) c.1) block.constants m.0 constants_met m.1) in
            (m.0.0, constant_place m.0 m.1, ap (λ d. d.0) (sym m.2), ap (λ d. d.1) m.2 ∙ sym same))
        | inr k ↦ (
            let m = Has-from_map (λ p. (place_class normal p, choice_value choice p)) block.output b
            (subst (λ bs. Has bs b) (zip-maps (place_class normal) (choice_value choice) block.output) k) in
            let place = output_place m.0 m.1 in
            (m.0, place, sym (place_class_is block m.0 place) ∙ ap (λ d. d.0) (sym m.2), ap (λ d. d.1) m.2))
      ]
      | inr k ↦ (
          let s = k.0 in
          let m = Has-from_map (λ c. (class_at normal s.atom c, value_at (get_or choice s.atom []) c)) (member_columns (access_in accesses s.access)) b k.2 in
          let place : Place = record { atom = s.atom; column = m.0 } in
          let shaped = column_place s k.1 m.0 m.1 in
          (place, shaped, sym (place_class_is block place shaped) ∙ ap (λ d. d.0) (sym m.2), ap (λ d. d.1) m.2))
    ]

    value_at_class : (p : Place) → IsPlace block.atoms p → Has (keys made_way.0) (class_of block p)
        → value_of made_way.0 (class_of block p) ≡ choice_value choice p
    value_at_class p h m =
        let v = value_found made_way.0 (class_of block p) m in
        let f = from_place v.0 v.1 in
        v.3 ∙ f.3 ∙ class_alike f.0 p f.1 h (f.2 ∙ v.2)

    value_at_place : (p : Place) → IsPlace block.atoms p → has bound (place_class normal p) ≡ true
        → value_of made_way.0 (place_class normal p) ≡ choice_value choice p
    value_at_place p h e =
        let c = place_class_is block p h in
        let m = subst (Has (keys made_way.0)) c ((way_binds made_way.0 made_way.1).0 (place_class normal p) e) in
        ap (value_of made_way.0) c ∙ value_at_class p h m

    way_agrees : agrees made_way.0 ≡ true
    way_agrees = all_by (λ b. same_value b.1 (value_of made_way.0 b.0)) made_way.0 (λ b h.
        let f = from_place b h in
        let m = subst (Has (keys made_way.0)) (sym f.2) (Has-map (λ d. d.0) made_way.0 b h) in
        same_value_to b.1 (value_of made_way.0 b.0) (f.3 ∙ sym (value_at_class f.0 f.1 m) ∙ ap (value_of made_way.0) f.2))

    operand_alike : (o : Operand) → OperandIsPlace block.atoms o → operand_is_bound normal bound o ≡ true
        → operand_value (λ p. value_of made_way.0 (place_class normal p)) o ≡ operand_value (choice_value choice) o
    operand_alike (At p) h e = value_at_place p h e
    operand_alike (Fixed v) h e = refl

    comparison_met : (c : Comparison) → Has block.comparisons c → comparison_is_met normal bound made_way.0 c ≡ true
    comparison_met c h = elim (which (comparison_is_bound normal bound c)) [
      | inr e ↦ or_left (not (comparison_is_bound normal bound c)) (comparison_holds (λ p. value_of made_way.0 (place_class normal p)) c) (ap not e)
      | inl e ↦ (
          let form = comparison_shape c h in
          let left = and_left (has bound (place_class normal c.left)) (operand_is_bound normal bound c.right) e in
          let right = and_right (has bound (place_class normal c.left)) (operand_is_bound normal bound c.right) e in
          let alike = compared_alike (λ p. value_of made_way.0 (place_class normal p)) (choice_value choice) c (value_at_place c.left form.left left)
          (operand_alike c.right form.right right) in
          or_right (not (comparison_is_bound normal bound c)) (comparison_holds (λ p. value_of made_way.0 (place_class normal p)) c)
          (alike ∙ all_has (comparison_holds (choice_value choice)) block.comparisons c comparisons_met h))
    ]

    way_consistent : is_consistent normal bound made_way.0 ≡ true
    unfolding normal_of
    way_consistent = and_both (agrees made_way.0) (list_all (comparison_is_met normal bound made_way.0) block.comparisons) way_agrees
        (all_by (comparison_is_met normal bound made_way.0) block.comparisons comparison_met)

    output_made : output_row normal bound (map (value_of made_way.0) (classes_in bound)) ≡ map (choice_value choice) block.output
    unfolding normal_of
    output_made = map_same (λ p. value_of (as_bindings bound (map (value_of made_way.0) (classes_in bound))) (place_class normal p))
        (choice_value choice) block.output (λ p h.
        let place = output_place p h in
        let held = bound_place p place (used_output block p h) in
        value_in_valuation bound made_way.0 (place_class normal p) held ∙ value_at_place p place held)

  abbrev found : List Row
  found = valued_rows (normal_of block) bound all_ways

  abbrev outputs : List Row
  outputs = map (output_row (normal_of block) bound) found

  abbrev full_outputs : List Row
  full_outputs = map (λ choice. map (choice_value choice) block.output) (filter (meets block) (choices rows block.atoms))

  outputs_in_full : (row : Row) → Has outputs row → Has full_outputs row × InGuide guide row
  outputs_in_full row h =
      let m = Has-from_map (output_row normal bound) found row h in
      let d = Has-from_distinct row_cmp_total row_cmp_tells (map (λ w. map (value_of w) (classes_in bound)) (filter (is_consistent normal bound) all_ways))
      m.0 m.1 in
      let v = Has-from_map (λ w. map (value_of w) (classes_in bound)) (filter (is_consistent normal bound) all_ways) m.0 d in
      let f = Has-from_filter (is_consistent normal bound) all_ways v.0 v.1 in
      let choice = choice_made v.0 f.0 f.1 in
      let to = m.2 ∙ ap (output_row normal bound) v.2 in
      let e = to ∙ output_is v.0 f.0 f.1 in (
        subst (Has full_outputs) (sym e)
            (Has-map (λ c. map (choice_value c) block.output) (filter (meets block) (choices rows block.atoms)) choice.0
            (Has-filter (meets block) (choices rows block.atoms) choice.0 choice.1 (choice_meets v.0 f.0 f.1))),
        subst (InGuide guide) (sym to) (output_in_guide v.0 f.0 f.1),
      )

  full_in_outputs : (row : Row) → Has full_outputs row → InGuide guide row → Has outputs row
  full_in_outputs row h in_guide =
      let m = Has-from_map (λ c. map (choice_value c) block.output) (filter (meets block) (choices rows block.atoms)) row h in
      let f = Has-from_filter (meets block) (choices rows block.atoms) m.0 m.1 in
      let its_row = subst (InGuide guide) m.2 in_guide in
      let way = made_way m.0 f.0 f.1 its_row in
      let v = map (value_of way.0) (classes_in bound) in
      let member = Has-distinct row_cmp_total row_cmp_tells (map (λ w. map (value_of w) (classes_in bound)) (filter (is_consistent normal bound) all_ways)) v
      (Has-map (λ w. map (value_of w) (classes_in bound)) (filter (is_consistent normal bound) all_ways) way.0
      (Has-filter (is_consistent normal bound) all_ways way.0 way.1 (way_consistent m.0 f.0 f.1 its_row))) in
      subst (Has outputs) (output_made m.0 f.0 f.1 its_row ∙ sym m.2) (Has-map (output_row normal bound) found v member)

  pub answers_are_inside : answers_of rows (normal_of block) accesses guide steps ≡ inside guide (full_of_block rows block)
  unfolding answers_of valuations full_of_block
  answers_are_inside = same_sets row_cmp_total row_cmp_tells _ _
      (IsInOrder-distinct row_cmp_total row_cmp_tells outputs)
      (in_order-inside guide (distinct _ full_outputs) (IsInOrder-distinct row_cmp_total row_cmp_tells full_outputs))
      (λ row. (
        λ h. (
            let o = outputs_in_full row (Has-from_distinct row_cmp_total row_cmp_tells outputs row h) in
            Has-inside guide (distinct _ full_outputs) row o.1 (Has-distinct row_cmp_total row_cmp_tells full_outputs row o.0)),
        λ h. (
            let o = Has-from_inside guide (distinct _ full_outputs) row h in
            Has-distinct row_cmp_total row_cmp_tells outputs row
            (full_in_outputs row (Has-from_distinct row_cmp_total row_cmp_tells full_outputs row o.0) o.1)),
      ))
