-- The reason of a block names one of its atoms, and none that has a scan constraint.
use Rattle.std.proofs.Common.{◌≡◌, ◌==◌, ◌&&◌, ◌<◌, ◌+◌, ◌-◌, ℕ, zero, suc, Bool, true, false, not, cond, List, [], ◌∷◌, ◌++◌, length, map, get_or, Option, Some, None, ◌⊎◌, inl, inr, refl, ap, sym, ◌∙◌, subst, arith, length-append, eq-eqb}
use Rattle.std.specs.List.{find, filter, enumerate_from}
use Rattle.std.specs.Option.{option_map, option_or}
use Rattle.std.proofs.lemmas.Bool.{cases_lt}
use Rattle.std.proofs.lemmas.List.{get_or-map, get_or_append_left, get_or-append-add}
use Rattle.beas_core.specs.declared.schema.Access.{Access}
use Rattle.beas_core.specs.declared.schema.ColumnId.{ColumnId}
use Rattle.beas_core.specs.declared.schema.TableId.{TableId}
use Rattle.beas_core.specs.declared.query.Atom.{Atom}
use Rattle.beas_core.specs.declared.query.Place.{Place}
use Rattle.beas_core.specs.declared.plan.Normal.{Normal}
use Rattle.beas_core.specs.declared.plan.NotCovered.{NotCovered}
use Rattle.beas_core.specs.declared.plan.NotCovered.TheVariants.{ColumnOpen, AtomUnindexed}
use Rattle.beas_core.specs.Types.{ClassSet, Use}
use Rattle.beas_core.specs.Groups.{has_column, member_columns}
use Rattle.beas_core.specs.Trees.{QueryTree, Single, Either, Minus, blocks_of}
use Rattle.beas_core.specs.Coverage.{has, class_at, uses, key_classes, fetched_classes, holds_classes, covered_set, needed_of, needed_places, holds_needed, serves, is_served, is_open, atoms_of, reason, ClassesInRange}
use Rattle.beas_core.specs.Derivations.{table_of}
use Rattle.beas_core.specs.Guiding.{BlockTask, Uncovered, after, tasks_from, task_reason, first_uncovered_from}
use Rattle.beas_core.proofs.Sets.{Has, Has-map, Has-from_map, Has-filter, Has-append_right, Contains-from_has}
use Rattle.beas_core.proofs.MemberTests.{Has-flat_map, Has-from_flat_map, and_both, all_has, all_by, any_by}
use Rattle.beas_core.proofs.BindingFacts.{from_range}
use Rattle.beas_core.proofs.TaskFacts.{length-tasks}
use Rattle.beas_core.proofs.UseFacts.{enumerated}
use Rattle.beas_core.proofs.CoveredSetFacts.{covered_set_least}
use Rattle.partial_plan.specs.ScanPlans.{named_atom}

-- ---- what a reason tells

found_holds : {X : Type 0} (p : X → Bool) (xs : List X) (x : X) → find p xs ≡ Some x → Has xs x × (p x ≡ true)
found_holds p [] x e = cc
found_holds {X} p (y ∷ ys) x e = by (p y) refl e (found_holds p ys x)
  where
    by : (b : Bool) → p y ≡ b → cond b (Some y) (find p ys) ≡ Some x → (find p ys ≡ Some x → Has ys x × (p x ≡ true)) → Has (y ∷ ys) x × (p x ≡ true)
    by true t f later = let g : y ≡ x = cc in (inl (sym g), subst (λ z. p z ≡ true) g t)
    by false t f later = let r = later f in (inr r.0, r.1)

same_some : {A : Type 0} (x y : A) → Some x ≡ Some y → x ≡ y
same_some x y e = cc

twice : (b : Bool) → not b ≡ true → b ≡ false
twice true e = cc
twice false e = refl

module _ (normal : Normal) where
  -- a needed place is of one of the atoms with needed columns, and its column is one of them
  needed_at : (p : Place) → Has (needed_places normal) p → (p.atom < length normal.needed) × Has (needed_of normal p.atom) p.column
  needed_at p h =
      let r = Has-from_flat_map (λ (n : ℕ × List ColumnId). map (λ c. record { atom = n.0; column = c }) n.1) (enumerate_from 0 normal.needed) p h in
      let m = Has-from_map (λ (c : ColumnId). record { atom = r.0.0; column = c }) r.0.1 p r.2 in
      let k = enumerated (λ (cs : List ColumnId). cs) [] 0 normal.needed r.0 r.1 in
      let atom : p.atom ≡ k.0 = ap (λ q. q.atom) m.2 ∙ (let z : r.0.0 ≡ k.0 = omega (arith, k.2) in z) in
      let column : p.column ≡ m.0 = ap (λ q. q.column) m.2 in
      let same : get_or normal.needed k.0 [] ≡ r.0.1 = sym (get_or-map (λ (cs : List ColumnId). cs) normal.needed k.0 [] [] k.1) ∙ k.3 in (
        subst (λ n. n < length normal.needed) (sym atom) k.1,
        subst (λ n. Has (needed_of normal n) p.column) (sym atom)
            (subst (λ cs. Has cs p.column) (sym same) (subst (Has r.0.1) (sym column) m.1)),
      )

  module _ (accesses : List Access) (set : ClassSet) where
    abbrev IsOpenPlace : NotCovered → Type 0
    IsOpenPlace why = (p : Place) × Has (needed_places normal) p × (is_open normal set p ≡ true) × (named_atom why ≡ p.atom)

    abbrev IsUnserved : NotCovered → Type 0
    IsUnserved why = Has (atoms_of normal) (named_atom why) × (is_served normal accesses set (named_atom why) ≡ false)

    reason_is : (why : NotCovered) → reason normal accesses set ≡ Some why → IsOpenPlace why ⊎ IsUnserved why
    unfolding reason
    reason_is why h = by (find (is_open normal set) (needed_places normal)) refl (find (λ a. not (is_served normal accesses set a)) (atoms_of normal)) refl h
      where
        by : (o : Option Place) → find (is_open normal set) (needed_places normal) ≡ o
            → (s : Option ℕ) → find (λ a. not (is_served normal accesses set a)) (atoms_of normal) ≡ s
            → option_or (option_map (λ p. ColumnOpen p.atom p.column) o) (option_map (λ a. AtomUnindexed a) s) ≡ Some why
            → IsOpenPlace why ⊎ IsUnserved why
        by (Some p) e s f g =
            let r = found_holds (is_open normal set) (needed_places normal) p e in
            inl (p, r.0, r.1, ap named_atom (sym (same_some (ColumnOpen p.atom p.column) why g)))
        by None e (Some a) f g =
            let r = found_holds (λ x. not (is_served normal accesses set x)) (atoms_of normal) a f in
            let named : a ≡ named_atom why = ap named_atom (same_some (AtomUnindexed a) why g) in
            inr (subst (Has (atoms_of normal)) named r.0, subst (λ x. is_served normal accesses set x ≡ false) named (twice (is_served normal accesses set a) r.1))
        by None e None f g = cc

    -- it names an atom of the block
    pub named_below : length normal.needed ≡ length normal.atoms → (why : NotCovered) → reason normal accesses set ≡ Some why
        → named_atom why < length normal.atoms
    named_below many why h = elim (reason_is why h) [
      | inl r ↦ let l = (needed_at r.0 r.1).0 in omega (arith, l, many, r.3)
      | inr r ↦ let l = from_range (length normal.atoms) 0 (named_atom why) r.0 in omega (arith, l)
    ]

-- ---- an atom that has a scan constraint

module _ (normal : Normal) (accesses : List Access) (start : ClassSet) (starts : length start ≡ normal.count) (ranges : ClassesInRange normal)
    (atom : ℕ) (scan : Access) (member : Has accesses scan) (below : atom < length normal.atoms) (table : scan.table ≡ table_of normal atom)
    (key : scan.key ≡ []) (fetches : (c : ColumnId) → Has (needed_of normal atom) c → Has scan.fetched c) where
  abbrev its_use : Use
  its_use = record { atom = atom; access = scan }

  abbrev covered : ClassSet
  covered = covered_set normal accesses start

  abbrev no_atom : Atom
  no_atom = record { table = record { 0 = 0 }; width = 0 }

  on_table : (scan.table.0 == (get_or normal.atoms atom no_atom).table.0) ≡ true
  on_table =
      let at = get_or-map (λ (a : Atom). a.table) normal.atoms atom no_atom (record { 0 = 0 }) below in
      eq-eqb scan.table.0 (get_or normal.atoms atom no_atom).table.0 (ap (λ (t : TableId). t.0) (table ∙ at))

  numbered_atom : (n : ℕ) (atoms : List Atom) (k : ℕ) → k < length atoms → Has (enumerate_from n atoms) (n + k, get_or atoms k no_atom)
  numbered_atom n [] k l = absurd (omega (arith, l))
  numbered_atom n (a ∷ atoms) zero l = inl (let z : n + 0 ≡ n = omega arith in ap (λ m. (m, a)) z)
  numbered_atom n (a ∷ atoms) (suc k) l =
      let z : n + 1 + k ≡ n + suc k = omega arith in
      inr (subst (λ m. Has (enumerate_from (n + 1) atoms) (m, get_or atoms k no_atom)) z (numbered_atom (n + 1) atoms k (omega arith)))

  is_use : Has (uses normal accesses) its_use
  is_use =
      let made : ℕ → Access → Use = λ n c. record { atom = n; access = c } in
      let z : 0 + atom ≡ atom = omega arith in
      Has-flat_map (λ a. map (λ c. made a.0 c) (filter (λ c. c.table.0 == a.1.table.0) accesses)) (enumerate_from 0 normal.atoms)
      (atom, get_or normal.atoms atom no_atom) its_use
      (subst (λ n. Has (enumerate_from 0 normal.atoms) (n, get_or normal.atoms atom no_atom)) z (numbered_atom 0 normal.atoms atom below))
      (Has-map (made atom) (filter (λ c. c.table.0 == (get_or normal.atoms atom no_atom).table.0) accesses) scan
      (Has-filter (λ c. c.table.0 == (get_or normal.atoms atom no_atom).table.0) accesses scan member on_table))

  keys_held : holds_classes covered (key_classes normal its_use) ≡ true
  keys_held = ap (λ cs. holds_classes covered (map (class_at normal atom) cs)) key

  fetched_held : holds_classes covered (fetched_classes normal its_use) ≡ true
  fetched_held = (covered_set_least normal accesses start starts ranges).closed its_use (Contains-from_has (uses normal accesses) its_use is_use) keys_held

  needed_held : holds_needed normal its_use ≡ true
  needed_held = all_by (has_column (member_columns scan)) (needed_of normal atom) (λ c m.
      any_by (λ d. d.0 == c.0) (member_columns scan) c (Has-append_right scan.key scan.fetched c (fetches c m)) (eq-eqb c.0 c.0 refl))

  served : is_served normal accesses covered atom ≡ true
  served = any_by (λ u. (u.atom == atom) && serves normal covered u) (uses normal accesses) its_use is_use
      (and_both (atom == atom) (serves normal covered its_use) (eq-eqb atom atom refl)
      (and_both (holds_classes covered (key_classes normal its_use)) (holds_needed normal its_use) keys_held needed_held))

  pub not_named : (why : NotCovered) → reason normal accesses covered ≡ Some why → named_atom why ≡ atom → ⊥
  not_named why h same = elim (reason_is normal accesses covered why h) [
    | inl r ↦ (
        let here : r.0.atom ≡ atom = sym r.3 ∙ same in
        let needed = subst (λ n. Has (needed_of normal n) r.0.column) here (needed_at normal r.0 r.1).1 in
        let held = all_has (has covered) (fetched_classes normal its_use) (class_at normal atom r.0.column) fetched_held
        (Has-map (class_at normal atom) scan.fetched r.0.column (fetches r.0.column needed)) in
        let open_there : not (has covered (class_at normal atom r.0.column)) ≡ true = subst (λ n. not (has covered (class_at normal n r.0.column)) ≡ true) here r.2 in
        cc)
    | inr r ↦ (
        let unserved : is_served normal accesses covered atom ≡ false = subst (λ n. is_served normal accesses covered n ≡ false) same r.1 in
        let is = served in
        cc)
  ]

-- ---- the first block that isn't covered

pub first_at : (n : ℕ) (tasks : List BlockTask) (found : Uncovered) (d : BlockTask) → first_uncovered_from n tasks ≡ Some found
    → (k : ℕ) × (k < length tasks) × (found.block ≡ n + k) × (task_reason (get_or tasks k d) ≡ Some found.why)
first_at n [] found d h = cc
first_at n (task ∷ tasks) found d h = by (task_reason task) refl h (first_at (n + 1) tasks found d)
  where
    by : (o : Option NotCovered) → task_reason task ≡ o
        → option_or (option_map (λ why. record { block = n; why = why }) o) (first_uncovered_from (n + 1) tasks) ≡ Some found
        → (first_uncovered_from (n + 1) tasks ≡ Some found
        → (k : ℕ) × (k < length tasks) × (found.block ≡ n + 1 + k) × (task_reason (get_or tasks k d) ≡ Some found.why))
        → (k : ℕ) × (k < length (task ∷ tasks)) × (found.block ≡ n + k) × (task_reason (get_or (task ∷ tasks) k d) ≡ Some found.why)
    by (Some why) e g later =
        let same = same_some (record { block = n; why = why }) found g in
        (0, omega arith, omega (arith, ap (λ (u : Uncovered). u.block) same), e ∙ ap (λ (u : Uncovered). Some u.why) same)
    by None e g later = let r = later g in (suc r.0, omega (arith, r.1), omega (arith, r.2), r.3)

joined : (constraints : ℕ → List Access) (n : ℕ) (l r : QueryTree) (has other : Bool) (k : ℕ) (d : BlockTask) → k < length (blocks_of l ++ blocks_of r)
    → ((j : ℕ) → j < length (blocks_of l) → (get_or (tasks_from constraints n has l) j d).accesses ≡ constraints (n + j))
    → ((j : ℕ) → j < length (blocks_of r) → (get_or (tasks_from constraints (after n l) other r) j d).accesses ≡ constraints (after n l + j))
    → (get_or (tasks_from constraints n has l ++ tasks_from constraints (after n l) other r) k d).accesses ≡ constraints (n + k)
joined constraints n l r has other k d below left right =
    let both = length-append (blocks_of l) (blocks_of r) in
    let xs = tasks_from constraints n has l in
    let ys = tasks_from constraints (after n l) other r in
    let long = length-tasks constraints n has l in
    elim (cases_lt k (length (blocks_of l))) [
      | inl less ↦ ap (λ (t : BlockTask). t.accesses) (get_or_append_left xs ys d k (omega (arith, less, long))) ∙ left k less
      | inr more ↦ (
          let j = k - length (blocks_of l) in
          let at : length xs + j ≡ k = omega (arith, more, long) in
          let place : after n l + j ≡ n + k = omega (arith, more) in
          ap (λ i. (get_or (xs ++ ys) i d).accesses) (sym at) ∙ ap (λ (t : BlockTask). t.accesses) (get_or-append-add xs ys j d)
          ∙ right j (omega (arith, more, below, both)) ∙ ap constraints place)
    ]

-- the constraints of a task by its number
pub constraints_at : (constraints : ℕ → List Access) (n : ℕ) (has : Bool) (t : QueryTree) (k : ℕ) (d : BlockTask) → k < length (blocks_of t)
    → (get_or (tasks_from constraints n has t) k d).accesses ≡ constraints (n + k)
constraints_at constraints n has (Single block) zero d l = let z : n ≡ n + 0 = omega arith in ap constraints z
constraints_at constraints n has (Single block) (suc k) d l = absurd (omega (arith, l))
constraints_at constraints n has (Either l r) k d below = joined constraints n l r has has k d below (λ j b. constraints_at constraints n has l j d b)
    (λ j b. constraints_at constraints (after n l) has r j d b)
constraints_at constraints n has (Minus l r) k d below = joined constraints n l r has true k d below (λ j b. constraints_at constraints n has l j d b)
    (λ j b. constraints_at constraints (after n l) true r j d b)
