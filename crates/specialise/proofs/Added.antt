-- A block with constants more: its classes are the same, its start holds theirs, and their places are needed.
use Rattle.std.proofs.Common.{◌≡◌, ◌==◌, ◌<◌, ℕ, zero, suc, Bool, true, false, List, [], ◌∷◌, ◌++◌, length, map, get_or, replicate, ◌⊎◌, inl, inr, refl, ap, sym, ◌∙◌, subst, arith, zero-add}
use Rattle.std.specs.List.{list_any, filter, flat_map, range_with_len}
use Rattle.std.specs.Option.{unwrap_or}
use Rattle.std.proofs.lemmas.Bool.{eqb-true}
use Rattle.beas_core.specs.declared.schema.ColumnId.{ColumnId}
use Rattle.beas_core.specs.declared.schema.Access.{Access}
use Rattle.beas_core.specs.declared.value.Value.{Value}
use Rattle.beas_core.specs.declared.query.Atom.{Atom}
use Rattle.beas_core.specs.declared.query.Place.{Place}
use Rattle.beas_core.specs.declared.query.Block.{Block}
use Rattle.beas_core.specs.Types.{ClassSet, Use}
use Rattle.beas_core.specs.Groups.{has_column, member_columns}
use Rattle.beas_core.specs.Shapes.{IsPlace, width_of}
use Rattle.beas_core.specs.Classes.{same_place, places_of, leaders, class_of, operand_places, used_places, needed_columns, normal_of}
use Rattle.beas_core.specs.Coverage.{with_classes, constant_classes, grow, grow_times, covered_set, needed_of, holds_needed, uses, key_classes, fetched_classes}
use Rattle.beas_core.proofs.Sets.{Has, Has-map, Has-from_map, Has-filter, Has-from_filter, Has-append_left, Has-append_right, Has-append_cases}
use Rattle.beas_core.proofs.MemberTests.{and_both, all_has, all_by, any_has, any_by}
use Rattle.beas_core.proofs.UseFacts.{same_number}
use Rattle.beas_core.proofs.BindingFacts.{Has-range, from_range}
use Rattle.beas_core.proofs.ClassFacts.{has_place, width_at, place_from_test}
use Rattle.beas_core.proofs.ClassNumbers.{first_place as first_of_class, place_of_list}
use Rattle.specialise.specs.Specialised.{first_place, with_constants}
use Rattle.specialise.proofs.Lists.{found, get_or-enumerated}
use Rattle.specialise.proofs.Noted.{with_append}

abbrev pub place_at : ℕ → ℕ → Place
place_at atom column = record { atom = atom; column = record { 0 = column } }

-- ---- first places

pub record IsFirstPlace (block : Block) (class : ℕ) : Type 0 where
  pub is_place : IsPlace block.atoms (first_place block class)
  pub of_class : class_of block (first_place block class) ≡ class

pub is_first_place : (block : Block) (class : ℕ) → class < length (leaders block) → IsFirstPlace block class
is_first_place block class l =
    let first = first_of_class block class l in
    let none : Place = record { atom = 0; column = record { 0 = 0 } } in
    let test : Place → Bool = λ p. class_of block p == class in
    let r = found test (places_of block.atoms) first.place (has_place block.atoms first.place first.is_first.is_place)
    (same_number (class_of block first.place) class first.is_first.of_class) in
    let same : first_place block class ≡ r.0 = ap (λ o. unwrap_or o none) r.1 in
    record {
      is_place = subst (IsPlace block.atoms) (sym same) (place_of_list block.atoms r.0 r.2);
      of_class = ap (class_of block) same ∙ eqb-true (class_of block r.0) class r.3;
    }

-- ---- needed columns

no_atom : Atom
no_atom = record { table = record { 0 = 0 }; width = 0 }

needed_list : (block : Block) (atom : ℕ) → atom < length block.atoms
    → needed_of (normal_of block) atom ≡ needed_columns block atom (width_of block.atoms atom)
unfolding normal_of
needed_list block atom l =
    get_or-enumerated (λ a. needed_columns block a.0 a.1.width) 0 atom block.atoms [] no_atom l
    ∙ ap (λ n. needed_columns block n (get_or block.atoms atom no_atom).width) (zero-add atom)
    ∙ ap (needed_columns block atom) (sym (width_at block.atoms atom no_atom l))

abbrev column_used : Block → ℕ → ℕ → Bool
column_used block atom c = list_any (same_place (place_at atom c)) (used_places block)

needed_used : (block : Block) (atom : ℕ) (column : ColumnId) → atom < length block.atoms → Has (needed_of (normal_of block) atom) column
    → (column.0 < width_of block.atoms atom) × (column_used block atom column.0 ≡ true)
needed_used block atom column l h =
    let made : ℕ → ColumnId = λ c. record { 0 = c } in
    let w = width_of block.atoms atom in
    let listed = subst (λ cs. Has cs column) (needed_list block atom l) h in
    let m = Has-from_map made (filter (column_used block atom) (range_with_len 0 w)) column listed in
    let f = Has-from_filter (column_used block atom) (range_with_len 0 w) m.0 m.1 in
    let e : column.0 ≡ m.0 = ap (λ c. c.0) m.2 in
    let below = from_range w 0 m.0 f.0 in
    (omega (arith, e, below), ap (column_used block atom) e ∙ f.1)

used_needed : (block : Block) (atom : ℕ) (column : ColumnId) → atom < length block.atoms → column.0 < width_of block.atoms atom
    → column_used block atom column.0 ≡ true → Has (needed_of (normal_of block) atom) column
used_needed block atom column l b h =
    let made : ℕ → ColumnId = λ c. record { 0 = c } in
    let w = width_of block.atoms atom in
    subst (λ cs. Has cs column) (sym (needed_list block atom l))
    (Has-map made (filter (column_used block atom) (range_with_len 0 w)) column.0
    (Has-filter (column_used block atom) (range_with_len 0 w) column.0 (Has-range w 0 column.0 (omega arith) (omega (arith, b))) h))

module _ (accesses : List Access) (block : Block) (given : List (ℕ × Value)) where
  abbrev more : Block
  more = with_constants block given

  abbrev firsts : List Place
  firsts = map (λ g. first_place block g.0) given

  -- ---- what constants cover

  times_same : (n : ℕ) (set : ClassSet) → grow_times n (normal_of more) accesses set ≡ grow_times n (normal_of block) accesses set
  unfolding normal_of
  times_same zero set = refl
  times_same (suc n) set = ap (grow (normal_of block) accesses) (times_same n set)

  pub covered_same : (set : ClassSet) → covered_set (normal_of more) accesses set ≡ covered_set (normal_of block) accesses set
  unfolding covered_set normal_of
  covered_same set = times_same (length (leaders block)) set

  abbrev by_class : Place × Value → ℕ × Value
  by_class c = (class_of block c.0, c.1)

  classes_more : (cs : List (Place × Value)) (gs : List (ℕ × Value))
      → map (λ (c : ℕ × Value). c.0) (map by_class (cs ++ map (λ g. (first_place block g.0, g.1)) gs))
      ≡ map (λ (c : ℕ × Value). c.0) (map by_class cs) ++ map (λ g. class_of block (first_place block g.0)) gs
  classes_more [] [] = refl
  classes_more [] (g ∷ gs) = ap (λ ks. class_of block (first_place block g.0) ∷ ks) (classes_more [] gs)
  classes_more (c ∷ cs) gs = ap (λ ks. class_of block c.0 ∷ ks) (classes_more cs gs)

  pub start_more : constant_classes (normal_of more)
      ≡ with_classes (constant_classes (normal_of block)) (map (λ g. class_of block (first_place block g.0)) given)
  unfolding normal_of
  start_more =
      ap (with_classes (replicate (length (leaders block)) false)) (classes_more block.constants given)
      ∙ with_append (replicate (length (leaders block)) false) (map (λ (c : ℕ × Value). c.0) (map by_class block.constants))
      (map (λ g. class_of block (first_place block g.0)) given)

  -- ---- what they make needed

  abbrev from_equalities : List Place
  from_equalities = flat_map (λ e. e.0 ∷ e.1 ∷ []) block.equalities

  abbrev from_comparisons : List Place
  from_comparisons = flat_map (λ c. c.left ∷ operand_places c.right) block.comparisons

  abbrev old_constants : List Place
  old_constants = map (λ c. c.0) block.constants

  abbrev all_constants : List Place
  all_constants = map (λ c. c.0) more.constants

  pub constants_split : (cs : List (Place × Value)) (gs : List (ℕ × Value))
      → map (λ c. c.0) (cs ++ map (λ g. (first_place block g.0, g.1)) gs) ≡ map (λ c. c.0) cs ++ map (λ g. first_place block g.0) gs
  constants_split [] [] = refl
  constants_split [] (g ∷ gs) = ap (λ ps. first_place block g.0 ∷ ps) (constants_split [] gs)
  constants_split (c ∷ cs) gs = ap (λ ps. c.0 ∷ ps) (constants_split cs gs)

  used_cases : (p : Place) → Has (used_places more) p → Has (used_places block) p ⊎ Has firsts p
  used_cases p h = elim (Has-append_cases (from_equalities ++ all_constants ++ from_comparisons) block.output p h) [
    | inr out ↦ inl (Has-append_right (from_equalities ++ old_constants ++ from_comparisons) block.output p out)
    | inl k ↦ elim (Has-append_cases (from_equalities ++ all_constants) from_comparisons p k) [
      | inr c ↦ inl (old (Has-append_right (from_equalities ++ old_constants) from_comparisons p c))
      | inl m ↦ elim (Has-append_cases from_equalities all_constants p m) [
        | inl e ↦ inl (old (Has-append_left (from_equalities ++ old_constants) from_comparisons p (Has-append_left from_equalities old_constants p e)))
        | inr c ↦ elim (Has-append_cases old_constants firsts p (subst (λ ps. Has ps p) (constants_split block.constants given) c)) [
          | inl o ↦ inl (old (Has-append_left (from_equalities ++ old_constants) from_comparisons p (Has-append_right from_equalities old_constants p o)))
          | inr n ↦ inr n
        ]
      ]
    ]
  ]
    where
      old : Has (from_equalities ++ old_constants ++ from_comparisons) p → Has (used_places block) p
      old g = Has-append_left (from_equalities ++ old_constants ++ from_comparisons) block.output p g

  constant_used : (p : Place) → Has (old_constants ++ firsts) p → Has (used_places more) p
  constant_used p h =
      Has-append_left (from_equalities ++ all_constants ++ from_comparisons) block.output p
      (Has-append_left (from_equalities ++ all_constants) from_comparisons p
      (Has-append_right from_equalities all_constants p (subst (λ ps. Has ps p) (sym (constants_split block.constants given)) h)))

  used_new : (p : Place) → Has firsts p → Has (used_places more) p
  used_new p h = constant_used p (Has-append_right old_constants firsts p h)

  used_old : (p : Place) → Has (used_places block) p → Has (used_places more) p
  used_old p h = elim (Has-append_cases (from_equalities ++ old_constants ++ from_comparisons) block.output p h) [
    | inr out ↦ Has-append_right (from_equalities ++ all_constants ++ from_comparisons) block.output p out
    | inl k ↦ elim (Has-append_cases (from_equalities ++ old_constants) from_comparisons p k) [
      | inr c ↦ new (Has-append_right (from_equalities ++ all_constants) from_comparisons p c)
      | inl m ↦ elim (Has-append_cases from_equalities old_constants p m) [
        | inl e ↦ new (Has-append_left (from_equalities ++ all_constants) from_comparisons p (Has-append_left from_equalities all_constants p e))
        | inr c ↦ constant_used p (Has-append_left old_constants firsts p c)
      ]
    ]
  ]
    where
      new : Has (from_equalities ++ all_constants ++ from_comparisons) p → Has (used_places more) p
      new g = Has-append_left (from_equalities ++ all_constants ++ from_comparisons) block.output p g

  -- a constraint holds the needed columns where it holds those that were needed before, and the new constants' columns
  pub needed_before : (u : Use) → u.atom < length block.atoms → holds_needed (normal_of more) u ≡ true → holds_needed (normal_of block) u ≡ true
  needed_before u l h = all_by (has_column (member_columns u.access)) (needed_of (normal_of block) u.atom) (λ column m.
      let used = needed_used block u.atom column l m in
      let r = any_has (same_place (place_at u.atom column.0)) (used_places block) used.1 in
      all_has (has_column (member_columns u.access)) (needed_of (normal_of more) u.atom) column h
      (used_needed more u.atom column l used.0
      (any_by (same_place (place_at u.atom column.0)) (used_places more) r.0 (used_old r.0 r.1) r.2)))

  pub needed_first : (u : Use) → u.atom < length block.atoms → holds_needed (normal_of more) u ≡ true
      → (p : Place) → Has firsts p → IsPlace block.atoms p → p.atom ≡ u.atom → has_column (member_columns u.access) p.column ≡ true
  needed_first u l h p m place e =
      let width = subst (λ a. p.column.0 < width_of block.atoms a) e place.column in
      all_has (has_column (member_columns u.access)) (needed_of (normal_of more) u.atom) p.column h
      (used_needed more u.atom p.column l width
      (any_by (same_place (place_at u.atom p.column.0)) (used_places more) p (used_new p m)
      (and_both (u.atom == p.atom) (p.column.0 == p.column.0) (same_number u.atom p.atom (sym e)) (same_number p.column.0 p.column.0 refl))))

  pub needed_with : (u : Use) → u.atom < length block.atoms → holds_needed (normal_of block) u ≡ true
      → ((p : Place) → Has firsts p → p.atom ≡ u.atom → has_column (member_columns u.access) p.column ≡ true) → holds_needed (normal_of more) u ≡ true
  needed_with u l h new = all_by (has_column (member_columns u.access)) (needed_of (normal_of more) u.atom) (λ column m.
      let used = needed_used more u.atom column l m in
      let r = any_has (same_place (place_at u.atom column.0)) (used_places more) used.1 in
      elim (used_cases r.0 r.1) [
        | inl o ↦ all_has (has_column (member_columns u.access)) (needed_of (normal_of block) u.atom) column h
            (used_needed block u.atom column l used.0 (any_by (same_place (place_at u.atom column.0)) (used_places block) r.0 o r.2))
        | inr n ↦ (
            let same = place_from_test (place_at u.atom column.0) r.0 r.2 in
            ap (has_column (member_columns u.access)) (ap (λ p. p.column) same) ∙ new r.0 n (sym (ap (λ p. p.atom) same)))
      ])

  pub uses_same : uses (normal_of more) accesses ≡ uses (normal_of block) accesses
  unfolding normal_of
  uses_same = refl

  pub keys_same : (u : Use) → key_classes (normal_of more) u ≡ key_classes (normal_of block) u
  unfolding normal_of
  keys_same u = refl

  pub fetched_same : (u : Use) → fetched_classes (normal_of more) u ≡ fetched_classes (normal_of block) u
  unfolding normal_of
  fetched_same u = refl
