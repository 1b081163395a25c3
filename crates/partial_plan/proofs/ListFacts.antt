-- The lists of scan constraints of a query's blocks: in them no atom stands twice, so that all blocks are covered in the end.
use Rattle.std.proofs.Common.{◌≡◌, ◌≢◌, ◌<◌, ◌≤◌, ◌+◌, ◌-◌, ◌*◌, ℕ, zero, suc, Bool, false, max, List, [], ◌∷◌, ◌++◌, length, map, get_or, set, eqb, Option, Some, None, ◌⊎◌, inl, inr, refl, ap, sym, ◌∙◌, subst, arith, append_assoc}
use Rattle.std.specs.Prelude.{is_some}
use Rattle.std.specs.List.{All, AllPairs, IsDistinct, list_any, filter, flat_map, range_with_len}
use Rattle.std.proofs.lemmas.Bool.{cases_eq, cases_lt, eqb-true, ne_eqb}
use Rattle.std.proofs.lemmas.List.{get_or-map, get_or-set_same, get_or-set_other, length-set, length-map}
use Rattle.std.proofs.lemmas.List.Elements.{All-contains, All-from_recursion}
use Rattle.std.proofs.lemmas.List.FromFn.{get_or-range_with_len, length-range_with_len}
use Rattle.std.proofs.lemmas.List.Kept.{AllPairs-cons, AllPairs-filter}
use Rattle.std.proofs.lemmas.Map.Keys.{IsDistinct-cons}
use Rattle.std.proofs.lemmas.Map.Steps.{length-le_from_distinct_below}
use Rattle.beas_core.specs.declared.schema.Access.{Access}
use Rattle.beas_core.specs.declared.schema.ColumnId.{ColumnId}
use Rattle.beas_core.specs.declared.query.Atom.{Atom}
use Rattle.beas_core.specs.declared.query.Block.{Block}
use Rattle.beas_core.specs.declared.plan.Normal.{Normal}
use Rattle.beas_core.specs.Trees.{QueryTree, blocks_of}
use Rattle.beas_core.specs.Classes.{normal_of, needed_columns, same_place, used_places}
use Rattle.beas_core.specs.Coverage.{covered_set, needed_of, reason, start_classes}
use Rattle.beas_core.specs.Guiding.{BlockTask, Uncovered, first_uncovered, is_guided_task, task_reason}
use Rattle.beas_core.specs.Shapes.{BlockIsWellFormed, EachIdOnce, EachOnce, QueryIsWellFormed}
use Rattle.beas_core.proofs.Sets.{Has, Has-append_cases, Has-append_left, Has-append_right, Has-from_filter, Has-from_map, Contains-from_has, all_from}
use Rattle.catalogue.specs.Schema.{Schema, SchemaIsSound, AccessIsSound, columns_at}
use Rattle.catalogue.specs.Queries.{BlockIsOver, QueryIsOver}
use Rattle.beas_core.proofs.BindingFacts.{from_range}
use Rattle.beas_core.proofs.ClassFacts.{classes_in_range}
use Rattle.beas_core.proofs.MemberTests.{Has-flat_map, any_has, first_of_pairs, rest_of_pairs}
use Rattle.beas_core.proofs.StartFacts.{start_counted}
use Rattle.beas_core.proofs.TaskFacts.{length-tasks, task_normals}
use Rattle.plan_builder.specs.Preparation.{IsWellFormedIn, atom_table, constraints_with, no_block, with_lists}
use Rattle.plan_builder.proofs.PreparationFacts.{as_many_needed, atoms_are, ids_once, mapped_numbered}
use Rattle.partial_plan.specs.Scans.{TableSizes}
use Rattle.partial_plan.specs.ScanPlans.{lists_after, named_atom, or_first, scan_for, scan_lists, scan_of, tasks_with, with_scan}
use Rattle.partial_plan.proofs.CoverFacts.{constraints_at, first_at, named_below, not_named}

-- ---- a list with one more scan constraint

abbrev flat : List (List Access) → List Access
flat lists = flat_map (λ scans. scans) lists

abbrev grown : List (List Access) → ℕ → Access → List (List Access)
grown lists k scan = set lists k (get_or lists k [] ++ scan ∷ [])

-- what is in the lists then
pub has_grown : (lists : List (List Access)) (k : ℕ) (scan x : Access) → Has (flat (grown lists k scan)) x → Has (flat lists) x ⊎ (x ≡ scan)
has_grown [] k scan x m = absurd m
has_grown (list ∷ lists) zero scan x m = elim (Has-append_cases (list ++ scan ∷ []) (flat lists) x m) [
  | inl h ↦ elim (Has-append_cases list (scan ∷ []) x h) [
    | inl g ↦ inl (Has-append_left list (flat lists) x g)
    | inr g ↦ elim g [ inl e ↦ inr e | inr none ↦ absurd none ]
  ]
  | inr h ↦ inl (Has-append_right list (flat lists) x h)
]
has_grown (list ∷ lists) (suc k) scan x m = elim (Has-append_cases list (flat (grown lists k scan)) x m) [
  | inl h ↦ inl (Has-append_left list (flat lists) x h)
  | inr h ↦ elim (has_grown lists k scan x h) [ inl g ↦ inl (Has-append_right list (flat lists) x g) | inr e ↦ inr e ]
]

abbrev Apart : Access → Access → Type 0
Apart a b = a.id.0 ≢ b.id.0

apart_from : (xs : List Access) (a : Access) → ((x : Access) → Has xs x → Apart a x) → All (Apart a) xs
apart_from xs a f = All-from_recursion (Apart a) xs (all_from (Apart a) xs f)

back_once : (xs ys : List Access) → EachIdOnce (xs ++ ys) → EachIdOnce ys
back_once [] ys h = h
back_once (x ∷ xs) ys h = back_once xs ys (rest_of_pairs Apart x (xs ++ ys) h)

-- behind the same front other constraints, which are those that stood there or a new one
front_once : (xs ys zs : List Access) (new : Access) → EachIdOnce (xs ++ ys) → EachIdOnce zs
    → ((z : Access) → Has zs z → Has ys z ⊎ (z ≡ new)) → ((x : Access) → Has xs x → Apart x new) → EachIdOnce (xs ++ zs)
front_once [] ys zs new h once within apart = once
front_once (x ∷ xs) ys zs new h once within apart = AllPairs-cons Apart x (xs ++ zs)
    (apart_from (xs ++ zs) x (λ z m. elim (Has-append_cases xs zs z m) [
      | inl g ↦ first_of_pairs Apart x (xs ++ ys) h z (Has-append_left xs ys z g)
      | inr g ↦ elim (within z g) [
        | inl k ↦ first_of_pairs Apart x (xs ++ ys) h z (Has-append_right xs ys z k)
        | inr e ↦ subst (Apart x) (sym e) (apart x (inl refl))
      ]
    ]))
    (front_once xs ys zs new (rest_of_pairs Apart x (xs ++ ys) h) once within (λ y m. apart y (inr m)))

turned : (a b : Access) → Apart a b → Apart b a
turned a b h e = h (sym e)

once_grown : (lists : List (List Access)) (k : ℕ) (scan : Access) → EachIdOnce (flat lists) → ((x : Access) → Has (flat lists) x → Apart x scan)
    → EachIdOnce (flat (grown lists k scan))
once_grown [] k scan once apart = once
once_grown (list ∷ lists) zero scan once apart =
    let with_new : EachIdOnce (scan ∷ flat lists) = AllPairs-cons Apart scan (flat lists)
    (apart_from (flat lists) scan (λ x m. turned x scan (apart x (Has-append_right list (flat lists) x m)))) (back_once list (flat lists) once) in
    subst EachIdOnce (sym (append_assoc list (scan ∷ []) (flat lists)))
    (front_once list (flat lists) (scan ∷ flat lists) scan once with_new
    (λ z m. elim m [ inl e ↦ inr e | inr g ↦ inl g ]) (λ x m. apart x (Has-append_left list (flat lists) x m)))
once_grown (list ∷ lists) (suc k) scan once apart =
    front_once list (flat lists) (flat (grown lists k scan)) scan once
    (once_grown lists k scan (back_once list (flat lists) once) (λ x m. apart x (Has-append_right list (flat lists) x m)))
    (λ z m. has_grown lists k scan z m) (λ x m. apart x (Has-append_left list (flat lists) x m))

-- ---- scan constraints are well formed

has_or_first : (columns : List ColumnId) (c : ColumnId) → Has columns c → Has (or_first columns) c
has_or_first [] c m = absurd m
has_or_first (x ∷ columns) c m = m

some_or_first : (columns : List ColumnId) → 1 ≤ length (or_first columns)
some_or_first [] = omega arith
some_or_first (x ∷ columns) = omega arith

all_or_first : (P : ColumnId → Type 0) (columns : List ColumnId) → P (record { 0 = 0 }) → ((c : ColumnId) → Has columns c → P c) → All P (or_first columns)
all_or_first P [] first each = All-from_recursion P (record { 0 = 0 } ∷ []) (all_from P (record { 0 = 0 } ∷ []) (λ c m. elim m [
  | inl e ↦ subst P (sym e) first
  | inr none ↦ absurd none
]))
all_or_first P (x ∷ columns) first each = All-from_recursion P (x ∷ columns) (all_from P (x ∷ columns) each)

one_once : (c : ColumnId) → EachOnce (c ∷ [])
one_once c i j d l m = absurd (omega (arith, l, m))

once_or_first : (columns : List ColumnId) → EachOnce columns → EachOnce (or_first columns)
once_or_first [] h = one_once (record { 0 = 0 })
once_or_first (x ∷ columns) h = h

range_rises : (n : ℕ) → AllPairs (λ (x : ℕ) y. x < y) (range_with_len 0 n)
range_rises n i j d l m =
    let long = length-range_with_len 0 n in
    let a = get_or-range_with_len 0 n i d (omega (arith, l, m, long)) in
    let b = get_or-range_with_len 0 n j d (omega (arith, m, long)) in
    omega (arith, a, b, l)

numbers_once : (xs : List ℕ) → AllPairs (λ (x : ℕ) y. x < y) xs → EachOnce (map (λ n. record { 0 = n }) xs)
numbers_once xs rises i j d l m e =
    let made : ℕ → ColumnId = λ n. record { 0 = n } in
    let long = length-map xs made in
    let b : j < length xs = omega (arith, m, long) in
    let here = ap (λ (c : ColumnId). c.0) (get_or-map made xs i 0 d (omega (arith, l, b))) in
    let there = ap (λ (c : ColumnId). c.0) (get_or-map made xs j 0 d b) in
    let less = rises i j 0 l b in
    omega (arith, here, there, less, e)

module _ (block : Block) (atom : ℕ) (below : atom < length block.atoms) where
  abbrev no_atom : Atom
  no_atom = record { table = record { 0 = 0 }; width = 0 }

  abbrev its_atom : Atom
  its_atom = get_or block.atoms atom no_atom

  abbrev its_columns : List ColumnId
  its_columns = needed_columns block atom its_atom.width

  needed_are : needed_of (normal_of block) atom ≡ its_columns
  unfolding normal_of
  needed_are =
      let z : 0 + atom ≡ atom = omega arith in
      mapped_numbered (λ a. needed_columns block a.0 a.1.width) 0 atom block.atoms [] no_atom below
      ∙ ap (λ n. needed_columns block n its_atom.width) z

  abbrev is_needed : ℕ → Bool
  is_needed c = list_any (same_place (record { atom = atom; column = record { 0 = c } })) (used_places block)

  column_inside : (c : ColumnId) → Has its_columns c → c.0 < its_atom.width
  column_inside c m =
      let made : ℕ → ColumnId = λ n. record { 0 = n } in
      let r = Has-from_map made (filter is_needed (range_with_len 0 its_atom.width)) c m in
      let l = from_range its_atom.width 0 r.0 (Has-from_filter is_needed (range_with_len 0 its_atom.width) r.0 r.1).0 in
      omega (arith, l, ap (λ (x : ColumnId). x.0) r.2)

  columns_once : EachOnce its_columns
  columns_once = numbers_once (filter is_needed (range_with_len 0 its_atom.width))
      (AllPairs-filter (λ (x : ℕ) y. x < y) is_needed (range_with_len 0 its_atom.width) (range_rises its_atom.width))

  table_is : atom_table block atom ≡ its_atom.table
  table_is = get_or-map (λ (a : Atom). a.table) block.atoms atom no_atom (record { 0 = 0 }) below

  module _ (schema : Schema) (shape : BlockIsWellFormed block) (over : BlockIsOver schema block) (sizes : TableSizes) (number : ℕ) where
    pub scan_table : (scan_of sizes block atom number).table.0 < length schema.tables
    scan_table = subst (λ t. t.0 < length schema.tables) (sym table_is) (over atom no_atom below).table

    pub scan_is_formed : IsWellFormedIn schema (scan_of sizes block atom number)
    scan_is_formed =
        let scan = scan_of sizes block atom number in
        let wide : 1 ≤ its_atom.width = (shape.widths atom no_atom below).wide in
        let width : its_atom.width ≡ length (columns_at schema scan.table) =
        (over atom no_atom below).width ∙ ap (λ t. length (columns_at schema t)) (sym table_is) in
        record {
          fetches = some_or_first (needed_of (normal_of block) atom);
          key_once = λ i j d l m. absurd (omega (arith, m));
          fetched_once = once_or_first (needed_of (normal_of block) atom) (subst EachOnce (sym needed_are) columns_once);
          key_columns = λ i d l. absurd (omega (arith, l));
          fetched_columns = all_or_first (λ c. c.0 < length (columns_at schema scan.table)) (needed_of (normal_of block) atom)
              (omega (arith, wide, width))
              (λ c m. let l = column_inside c (subst (λ cs. Has cs c) needed_are m) in omega (arith, l, width));
          bound = omega arith;
        }

-- ---- the lists of a query

module _ (schema : Schema) (sizes : TableSizes) (query : QueryTree) (shape : QueryIsWellFormed query) where
  abbrev blocks : List Block
  blocks = blocks_of query

  abbrev listed : ℕ → List (List Access)
  listed n = lists_after schema sizes query n

  abbrev lacks : List (List Access) → Option Uncovered
  lacks lists = first_uncovered (tasks_with schema lists query)

  pub length-listed : (n : ℕ) → length (listed n) ≡ length blocks
  length-listed zero = length-map blocks (λ block. [])
  length-listed (suc n) = by (lacks (listed n)) (length-listed n)
    where
      by : (o : Option Uncovered) → length (listed n) ≡ length blocks → length (with_scan sizes query n (listed n) o) ≡ length blocks
      by None before = before
      by (Some found) before =
          length-set (listed n) found.block (get_or (listed n) found.block [] ++ scan_for sizes query n found ∷ []) ∙ before

  pub block_is_formed : (k : ℕ) → k < length blocks → BlockIsWellFormed (get_or blocks k no_block)
  block_is_formed k l = shape.blocks k no_block l

  -- what is known of a block that isn't covered, and of the atom that its reason names
  pub record IsLacking (lists : List (List Access)) (found : Uncovered) : Type 0 where
    pub block : found.block < length blocks
    pub guided : Bool
    pub why : reason (normal_of (get_or blocks found.block no_block)) (constraints_with schema.accesses lists found.block)
        (covered_set (normal_of (get_or blocks found.block no_block)) (constraints_with schema.accesses lists found.block)
        (start_classes (normal_of (get_or blocks found.block no_block)) guided)) ≡ Some found.why
    pub atom : named_atom found.why < length (get_or blocks found.block no_block).atoms
    pub few : named_atom found.why < 16

  pub is_lacking : (lists : List (List Access)) (found : Uncovered) → lacks lists ≡ Some found → IsLacking lists found
  is_lacking lists found h =
      let constraints = constraints_with schema.accesses lists in
      let tasks = tasks_with schema lists query in
      let none : BlockTask = record { normal = normal_of no_block; accesses = []; has_guide = false } in
      let r = first_at 0 tasks found none h in
      let long = length-tasks constraints 0 false query in
      let at : r.0 ≡ found.block = omega (arith, r.2) in
      let inside : found.block < length tasks = omega (arith, at, r.1) in
      let below : found.block < length blocks = omega (arith, inside, long) in
      let task = get_or tasks found.block none in
      let normal : task.normal ≡ normal_of (get_or blocks found.block no_block) =
      sym (get_or-map (λ (u : BlockTask). u.normal) tasks found.block none task.normal inside)
      ∙ ap (λ ns. get_or ns found.block task.normal) (task_normals constraints 0 false query)
      ∙ get_or-map normal_of blocks found.block no_block task.normal below in
      let z : 0 + found.block ≡ found.block = omega arith in
      let own : task.accesses ≡ constraints found.block = constraints_at constraints 0 false query found.block none below ∙ ap constraints z in
      let told : task_reason task ≡ Some found.why = subst (λ k. task_reason (get_or tasks k none) ≡ Some found.why) at r.3 in
      let over_own : reason task.normal (constraints found.block) (covered_set task.normal (constraints found.block)
      (start_classes task.normal (is_guided_task task))) ≡ Some found.why =
      subst (λ a. reason task.normal a (covered_set task.normal a (start_classes task.normal (is_guided_task task))) ≡ Some found.why) own told in
      let why = subst (λ (m : Normal). reason m (constraints found.block) (covered_set m (constraints found.block)
      (start_classes m (is_guided_task task))) ≡ Some found.why) normal over_own in
      let block = get_or blocks found.block no_block in
      let many : length (normal_of block).needed ≡ length (normal_of block).atoms = as_many_needed block ∙ sym (ap length (atoms_are block)) in
      let named = named_below (normal_of block) (constraints found.block)
      (covered_set (normal_of block) (constraints found.block) (start_classes (normal_of block) (is_guided_task task))) many found.why why in
      let atoms = ap length (atoms_are block) in
      let atom : named_atom found.why < length block.atoms = omega (arith, named, atoms) in
      record {
        block = below;
        guided = is_guided_task task;
        why = why;
        atom = atom;
        few = omega (arith, atom, (block_is_formed found.block below).few_atoms);
      }

  -- ---- each look names another atom

  -- the atoms of all blocks are numbered, 16 for each block
  abbrev atom_number : Uncovered → ℕ
  atom_number found = 16 * found.block + named_atom found.why

  -- the atom with this number has a scan constraint in its block's list
  record HasScan (lists : List (List Access)) (place : ℕ) : Type 0 where
    pub block : ℕ
    pub atom : ℕ
    pub number : ℕ
    pub place_is : place ≡ 16 * block + atom
    pub few : atom < 16
    pub member : Has (get_or lists block []) (scan_of sizes (get_or blocks block no_block) atom number)

  not_scanned : (lists : List (List Access)) (found : Uncovered) → lacks lists ≡ Some found → HasScan lists (atom_number found) → ⊥
  not_scanned lists found h s =
      let f = is_lacking lists found h in
      let same_block : s.block ≡ found.block = omega (arith, s.place_is, s.few, f.few) in
      let same_atom : s.atom ≡ named_atom found.why = omega (arith, s.place_is, s.few, f.few) in
      let block = get_or blocks found.block no_block in
      let scan = scan_of sizes block (named_atom found.why) s.number in
      let member : Has (get_or lists found.block []) scan =
      subst (λ k. Has (get_or lists k []) (scan_of sizes (get_or blocks k no_block) (named_atom found.why) s.number)) same_block
      (subst (λ a. Has (get_or lists s.block []) (scan_of sizes (get_or blocks s.block no_block) a s.number)) same_atom s.member) in
      let atoms = ap length (atoms_are block) in
      not_named (normal_of block) (constraints_with schema.accesses lists found.block) (start_classes (normal_of block) f.guided)
      (start_counted (normal_of block) f.guided) (classes_in_range block (block_is_formed found.block f.block)) (named_atom found.why) scan
      (Has-append_right schema.accesses (get_or lists found.block []) scan member) (omega (arith, f.atom, atoms))
      (ap (λ (atoms : List Atom). get_or (map (λ a. a.table) atoms) (named_atom found.why) (record { 0 = 0 })) (sym (atoms_are block))) refl
      (has_or_first (needed_of (normal_of block) (named_atom found.why))) found.why f.why refl

  -- a scan constraint stays in its list
  still_has : (n : ℕ) (lists : List (List Access)) (found : Uncovered) (place : ℕ) → found.block < length lists → HasScan lists place
      → HasScan (with_scan sizes query n lists (Some found)) place
  still_has n lists found place below s =
      let list = get_or lists found.block [] ++ scan_for sizes query n found ∷ [] in
      record {
        block = s.block;
        atom = s.atom;
        number = s.number;
        place_is = s.place_is;
        few = s.few;
        member = elim (cases_eq s.block found.block) [
          | inl same ↦ (
              let at : get_or (set lists found.block list) s.block [] ≡ list = ap (λ k. get_or (set lists found.block list) k []) same
              ∙ get_or-set_same lists found.block list [] below in
              subst (λ own. Has own (scan_of sizes (get_or blocks s.block no_block) s.atom s.number)) (sym at)
              (Has-append_left (get_or lists found.block []) (scan_for sizes query n found ∷ []) (scan_of sizes (get_or blocks s.block no_block) s.atom s.number)
              (subst (λ k. Has (get_or lists k []) (scan_of sizes (get_or blocks s.block no_block) s.atom s.number)) same s.member)))
          | inr other ↦ subst (λ own. Has own (scan_of sizes (get_or blocks s.block no_block) s.atom s.number))
              (sym (get_or-set_other lists found.block s.block list [] other)) s.member
        ];
      }

  now_has : (n : ℕ) (lists : List (List Access)) (found : Uncovered) → lacks lists ≡ Some found → found.block < length lists
      → HasScan (with_scan sizes query n lists (Some found)) (atom_number found)
  now_has n lists found h below =
      let list = get_or lists found.block [] ++ scan_for sizes query n found ∷ [] in
      record {
        block = found.block;
        atom = named_atom found.why;
        number = n;
        place_is = refl;
        few = (is_lacking lists found h).few;
        member = subst (λ own. Has own (scan_for sizes query n found)) (sym (get_or-set_same lists found.block list [] below))
            (Has-append_right (get_or lists found.block []) (scan_for sizes query n found ∷ []) (scan_for sizes query n found) (inl refl));
      }

  -- so many different atoms were named
  record Named (n : ℕ) : Type 0 where
    pub places : List ℕ
    pub count : length places ≡ n
    pub once : IsDistinct eqb places
    pub each : (place : ℕ) → Has places place → HasScan (listed n) place × (place < 16 * length blocks)

  one_more : (n : ℕ) (found : Uncovered) → lacks (listed n) ≡ Some found → Named n
      → (places : List ℕ) × (length places ≡ n + 1) × IsDistinct eqb places
      × ((place : ℕ) → Has places place → HasScan (with_scan sizes query n (listed n) (Some found)) place × (place < 16 * length blocks))
  one_more n found h named =
      let f = is_lacking (listed n) found h in
      let long = length-listed n in
      let below : found.block < length (listed n) = omega (arith, f.block, long) in
      let inside : atom_number found < 16 * length blocks = omega (arith, f.block, f.few) in (
        atom_number found ∷ named.places,
        omega (arith, named.count),
        IsDistinct-cons eqb (atom_number found) named.places (all_from (λ y. eqb (atom_number found) y ≡ false) named.places (λ y m.
            ne_eqb (atom_number found) y (λ e. not_scanned (listed n) found h (subst (HasScan (listed n)) (sym e) (named.each y m).0)))) named.once,
        λ place m. elim m [
          | inl e ↦ (subst (HasScan (with_scan sizes query n (listed n) (Some found))) (sym e) (now_has n (listed n) found h below), omega (arith, e, inside))
          | inr g ↦ let r = named.each place g in (still_has n (listed n) found place below r.0, r.1)
        ],
      )

  none_named : Named 0
  unfolding IsDistinct
  none_named = record { places = []; count = refl; once = tt; each = λ place m. absurd m }

  progress : (n : ℕ) → (lacks (listed n) ≡ None) ⊎ Named n
  progress zero = inr none_named
  progress (suc n) = by (lacks (listed n)) refl (progress n)
    where
      by : (o : Option Uncovered) → lacks (listed n) ≡ o → (lacks (listed n) ≡ None) ⊎ Named n → (lacks (listed (suc n)) ≡ None) ⊎ Named (suc n)
      by None e before = inl (ap (λ o. lacks (with_scan sizes query n (listed n) o)) e ∙ e)
      by (Some found) e (inl none) = cc
      by (Some found) e (inr named) =
          let r = one_more n found e named in
          let now : listed (suc n) ≡ with_scan sizes query n (listed n) (Some found) = ap (with_scan sizes query n (listed n)) e in
          inr (record {
            places = r.0;
            count = omega (arith, r.1);
            once = r.2;
            each = λ place m. let k = r.3 place m in (subst (λ lists. HasScan lists place) (sym now) k.0, k.1);
          })

  -- with all of them every block is covered
  pub all_covered : lacks (scan_lists schema sizes query) ≡ None
  unfolding scan_lists
  all_covered = by (lacks (listed (16 * length blocks))) refl (progress (16 * length blocks))
    where
      by : (o : Option Uncovered) → lacks (listed (16 * length blocks)) ≡ o
          → (lacks (listed (16 * length blocks)) ≡ None) ⊎ Named (16 * length blocks) → lacks (listed (16 * length blocks)) ≡ None
      by None e before = e
      by (Some found) e (inl none) = none
      by (Some found) e (inr named) =
          let r = one_more (16 * length blocks) found e named in
          let few = length-le_from_distinct_below r.0 (16 * length blocks) r.2 (λ q h.
          let k = any_has (eqb q) r.0 h in
          let same : q ≡ k.0 = eqb-true q k.0 k.2 in
          let l = (r.3 k.0 k.1).1 in
          omega (arith, same, l)) in
          absurd (omega (arith, few, r.1))

  -- once all blocks are covered, the lists stay
  pub lists_stay : (n k : ℕ) → lacks (listed n) ≡ None → listed (k + n) ≡ listed n
  lists_stay n zero h = let z : 0 + n ≡ n = omega arith in ap listed z
  lists_stay n (suc k) h =
      let z : suc k + n ≡ suc (k + n) = omega arith in
      let before = lists_stay n k h in
      ap listed z ∙ ap (with_scan sizes query (k + n) (listed (k + n))) (ap lacks before ∙ h) ∙ before

  pub lists_past : (n : ℕ) → 16 * length blocks ≤ n → listed n ≡ scan_lists schema sizes query
  unfolding scan_lists
  lists_past n past =
      let z : (n - 16 * length blocks) + 16 * length blocks ≡ n = omega (arith, past) in
      ap listed (sym z) ∙ lists_stay (16 * length blocks) (n - 16 * length blocks) all_covered

  lists_before : (n : ℕ) → n ≤ 16 * length blocks → lacks (listed n) ≡ None → listed n ≡ scan_lists schema sizes query
  unfolding scan_lists
  lists_before n within h =
      let z : (16 * length blocks - n) + n ≡ 16 * length blocks = omega (arith, within) in
      sym (lists_stay n (16 * length blocks - n) h) ∙ ap listed z

  -- these are all, where every block is covered, and after as many looks as the query can have atoms
  pub lists_are : (n : ℕ) → lacks (listed n) ≡ None → listed n ≡ scan_lists schema sizes query
  lists_are n h = elim (cases_lt n (16 * length blocks)) [
    | inl less ↦ lists_before n (omega (arith, less)) h
    | inr more ↦ lists_past n more
  ]

-- ---- what is known of each scan constraint

-- one of the first n that were made
pub record IsListed (schema : Schema) (sizes : TableSizes) (n : ℕ) (scan : Access) : Type 0 where
  pub low : 65536 ≤ scan.id.0
  pub high : scan.id.0 < 65536 + n
  pub table : scan.table.0 < length schema.tables
  pub bound : scan.bound ≡ max 1 (sizes scan.table)
  pub formed : IsWellFormedIn schema scan

pub record AreListed (schema : Schema) (sizes : TableSizes) (n : ℕ) (lists : List (List Access)) : Type 0 where
  pub once : EachIdOnce (flat lists)
  pub each : (scan : Access) → Has (flat lists) scan → IsListed schema sizes n scan

pub none_listed : (blocks : List Block) → flat (map (λ block. []) blocks) ≡ []
none_listed [] = refl
none_listed (block ∷ blocks) = none_listed blocks

still_listed : (schema : Schema) (sizes : TableSizes) (n : ℕ) (scan : Access) → IsListed schema sizes n scan → IsListed schema sizes (suc n) scan
still_listed schema sizes n scan h = record {
  low = h.low;
  high = omega (arith, h.high);
  table = h.table;
  bound = h.bound;
  formed = h.formed;
}

module _ (schema : Schema) (sizes : TableSizes) (query : QueryTree) (shape : QueryIsWellFormed query) (over : QueryIsOver schema query) where
  pub new_listed : (n : ℕ) (lists : List (List Access)) (found : Uncovered) → IsLacking schema sizes query shape lists found
      → IsListed schema sizes (suc n) (scan_for sizes query n found)
  new_listed n lists found f =
      let block = get_or (blocks_of query) found.block no_block in
      let own = shape.blocks found.block no_block f.block in
      let own_over = over found.block no_block f.block in
      record {
        low = omega arith;
        high = omega arith;
        table = scan_table block (named_atom found.why) f.atom schema own own_over sizes n;
        bound = refl;
        formed = scan_is_formed block (named_atom found.why) f.atom schema own own_over sizes n;
      }

  pub are_listed : (n : ℕ) → AreListed schema sizes n (lists_after schema sizes query n)
  are_listed zero =
      let none = none_listed (blocks_of query) in
      record {
        once = subst EachIdOnce (sym none) (λ i j d l m. absurd (omega (arith, m)));
        each = λ scan m. absurd (subst (λ xs. Has xs scan) none m);
      }
  are_listed (suc n) = by (first_uncovered (tasks_with schema (lists_after schema sizes query n) query)) refl (are_listed n)
    where
      by : (o : Option Uncovered) → first_uncovered (tasks_with schema (lists_after schema sizes query n) query) ≡ o
          → AreListed schema sizes n (lists_after schema sizes query n)
          → AreListed schema sizes (suc n) (with_scan sizes query n (lists_after schema sizes query n) o)
      by None e before = record { once = before.once; each = λ scan m. still_listed schema sizes n scan (before.each scan m) }
      by (Some found) e before =
          let lists = lists_after schema sizes query n in
          let f = is_lacking schema sizes query shape lists found e in
          let new = new_listed n lists found f in
          record {
            once = once_grown lists found.block (scan_for sizes query n found) before.once
                (λ x m same. absurd (omega (arith, (before.each x m).high, same)));
            each = λ scan m. elim (has_grown lists found.block (scan_for sizes query n found) scan m) [
              | inl h ↦ still_listed schema sizes n scan (before.each scan h)
              | inr same ↦ subst (IsListed schema sizes (suc n)) (sym same) new
            ];
          }

-- two lists in neither of which an id stands twice, and which share none
both_once : (xs ys : List Access) → EachIdOnce xs → EachIdOnce ys → ((x y : Access) → Has xs x → Has ys y → Apart x y) → EachIdOnce (xs ++ ys)
both_once [] ys front back apart = back
both_once (x ∷ xs) ys front back apart = AllPairs-cons Apart x (xs ++ ys)
    (apart_from (xs ++ ys) x (λ z m. elim (Has-append_cases xs ys z m) [
      | inl g ↦ first_of_pairs Apart x xs front z g
      | inr g ↦ apart x z (inl refl) g
    ]))
    (both_once xs ys (rest_of_pairs Apart x xs front) back (λ y z m g. apart y z (inr m) g))

module _ (schema : Schema) (sound : SchemaIsSound schema) (sizes : TableSizes) (n : ℕ) (lists : List (List Access))
    (listed : AreListed schema sizes n lists) where
  pub live_low : (access : Access) → Has schema.accesses access → access.id.0 < 65536
  live_low access m =
      let below = (All-contains (AccessIsSound schema) schema.accesses access sound.accesses (Contains-from_has schema.accesses access m)).id in
      omega (arith, below, sound.few_created)

  pub with_lists_once : EachIdOnce (with_lists schema.accesses lists)
  with_lists_once = both_once schema.accesses (flat lists) (ids_once schema sound) listed.once
      (λ x y m g same. absurd (omega (arith, live_low x m, (listed.each y g).low, same)))

  pub lists_are_formed : All (All (IsWellFormedIn schema)) lists
  lists_are_formed = All-from_recursion (All (IsWellFormedIn schema)) lists (all_from (All (IsWellFormedIn schema)) lists (λ list m.
      All-from_recursion (IsWellFormedIn schema) list (all_from (IsWellFormedIn schema) list (λ scan g.
      (listed.each scan (Has-flat_map (λ scans. scans) lists list scan m g)).formed))))

pub some_columns : (columns : List ColumnId) → (columns ≡ [] → ⊥) → columns ≡ or_first columns
some_columns [] h = absurd (h refl)
some_columns (x ∷ columns) h = refl

-- ---- what loops tell

pub none_left : (more : Bool) (o : Option Uncovered) → more ≡ is_some o → more ≡ false → o ≡ None
none_left more None e h = refl
none_left more (Some found) e h = cc

pub same_nones : {A B : Type 0} (f : A → B) (xs : List A) → map (λ a. let none : List Access = [] in none) xs ≡ map (λ b. let none : List Access = [] in none) (map f xs)
same_nones f [] = refl
same_nones f (x ∷ xs) = ap (λ rest. [] ∷ rest) (same_nones f xs)
