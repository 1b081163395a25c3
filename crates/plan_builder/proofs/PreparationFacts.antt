-- What is prepared of a query, block by block, and that it fits the constraints that it is prepared over.
use Rattle.std.proofs.Common.{◌≡◌, ◌≢◌, ◌==◌, ◌&&◌, ◌<◌, ◌≤◌, ◌+◌, ◌*◌, ◌^◌, ℕ, zero, suc, Bool, true, false, not, cond, nat_lt, List, [], ◌∷◌, ◌++◌, length, map, drop, get_or, Option, Some, None, Result, Ok, Err, inl, inr, refl, ap, sym, ◌∙◌, subst, arith, zero-add, append_assoc, length-append}
use Rattle.std.specs.List.{All, AllZip, find, list_any, enumerate_from, range_with_len, filter}
use Rattle.std.specs.Option.{option_map, option_or, is_some}
use Rattle.std.specs.Prelude.{unwrap_or, nat_le}
use Rattle.std.proofs.lemmas.List.{length-map, get_or-map, get_or_default, drop_more, drop_all}
use Rattle.std.proofs.lemmas.List.Elements.{All-contains, All-from_recursion}
use Rattle.std.proofs.Math.Nat.{mul-le-mul_left}
use Rattle.std.proofs.lemmas.List.FromFn.{length-enumerate_from}
use Rattle.std.proofs.lemmas.Bool.{eqb-true}
use Rattle.std.proofs.lemmas.Bool.Decides.{nat_tests}
use Rattle.beas_core.specs.declared.errors.Fail.{Fail}
use Rattle.beas_core.specs.declared.errors.Fail.TheVariants.{NoMemory, Refused}
use Rattle.beas_core.specs.declared.refusal.Refusal.{Refusal}
use Rattle.beas_core.specs.declared.refusal.Refusal.TheVariants.{TooLarge}
use Rattle.beas_core.specs.declared.schema.Access.{Access}
use Rattle.beas_core.specs.declared.schema.Column.{Column}
use Rattle.beas_core.specs.declared.schema.ColumnId.{ColumnId}
use Rattle.beas_core.specs.declared.query.Atom.{Atom}
use Rattle.beas_core.specs.declared.query.Block.{Block}
use Rattle.beas_core.specs.declared.query.Place.{Place}
use Rattle.beas_core.specs.declared.plan.DStep.{DStep}
use Rattle.beas_core.specs.declared.plan.Normal.{Normal}
use Rattle.beas_core.specs.declared.plan.Derivation.{Derivation}
use Rattle.beas_core.specs.declared.plan.Prepared.{Prepared}
use Rattle.beas_core.specs.declared.plan.NotCovered.{NotCovered}
use Rattle.beas_core.specs.declared.plan.NotCovered.TheVariants.{ColumnOpen, AtomUnindexed}
use Rattle.beas_core.specs.Types.{ClassSet}
use Rattle.beas_core.specs.Shapes.{BlockIsWellFormed, EachIdOnce, AccessIsWellFormed, IsPlace, QueryIsWellFormed, width_of}
use Rattle.beas_core.specs.Trees.{QueryTree, blocks_of}
use Rattle.beas_core.specs.Classes.{normal_of, needed_columns, used_places, same_place}
use Rattle.beas_core.specs.Coverage.{ClassesInRange, constant_classes, covered_set, is_open, is_served, needed_places, atoms_of, own_is_covered, own_reason, reason, start_classes}
use Rattle.beas_core.specs.Guiding.{BlockTask, Uncovered, after, block_tasks, first_uncovered, first_uncovered_from, is_guided_task, task_reason, task_start, task_steps, tasks_from}
use Rattle.beas_core.specs.Derivations.{access_in, is_live, is_on_table, is_served_by, table_of, IsSound}
use Rattle.beas_core.specs.Pruning.{derivation, own_derivation}
use Rattle.beas_core.specs.Numbers.{announced_from, last_size, size_after}
use Rattle.beas_core.specs.Queries.{query_bound}
use Rattle.beas_core.specs.Results.{Gives, IsRefusedAs}
use Rattle.beas_core.specs.Fits.{GuidedOnlyWithGuide, PlanFits, PlansAreSound}
use Rattle.beas_core.proofs.Sets.{Has, Contains-from_has, all_from, Has-from_map, Has-from_filter, Has-get_or, Has-map}
use Rattle.beas_core.proofs.Accesses.{access_in-member}
use Rattle.beas_core.proofs.MemberTests.{and_left, and_right, all_has, Has-from_flat_map}
use Rattle.beas_core.proofs.BindingFacts.{Has-range, from_range}
use Rattle.beas_core.proofs.ClassFacts.{width_at}
use Rattle.beas_core.proofs.DerivationsExist.{derivation_only_if}
use Rattle.beas_core.proofs.ReasonFacts.{covered-reason, reason-covered}
use Rattle.beas_core.proofs.SoundDerivations.{derivation_sound}
use Rattle.beas_core.proofs.SoundParts.{sound_parts}
use Rattle.beas_core.proofs.StartFacts.{start_counted}
use Rattle.beas_core.proofs.MoreAccesses.{stays_sound}
use Rattle.beas_core.proofs.TaskFacts.{guided_only_with_guide, length-tasks}
use Rattle.catalogue.specs.Queries.{AtomIsOver, BlockIsOver, QueryIsOver}
use Rattle.catalogue.specs.Schema.{Schema, SchemaIsSound, columns_at}
use Rattle.plan_builder.specs.declared.blocks.BlockAt.{BlockAt}
use Rattle.plan_builder.specs.Parts.{Grows, blocks_at, normal_task, task_at, unless_too_large}
use Rattle.plan_builder.specs.Preparation.{IsWellFormedIn, announced_number, constraints_with, flags_of, header_of, no_block, not_covered, task_plan, place_name, plans_of, preparation_of, preparation_over, prepared_query, refusal_of, unless_uncovered, with_lists}
use Rattle.plan_builder.proofs.Extras.{IsPart, RunsOver, list_is_part, lists_formed, plans_run, task_of_list}
use Rattle.plan_builder.proofs.Turns as turns

-- constraints whose ids rise have each id once
pub ids_once : (schema : Schema) → SchemaIsSound schema → EachIdOnce schema.accesses
ids_once schema sound i j d l m = apart ((get_or schema.accesses i d).id.0) ((get_or schema.accesses j d).id.0) (sound.ids_rise i j d l m)
  where
    apart : (a b : ℕ) → a < b → a ≢ b
    apart a b h e = omega (arith, h, e)

-- ---- names of places

module _ (schema : Schema) (block : Block) (over : BlockIsOver schema block) (place : Place) (is_place : IsPlace block.atoms place) (d : Atom) where
  pub place_over : AtomIsOver schema (get_or block.atoms place.atom d)
  place_over = over place.atom d is_place.atom

  pub column_inside : place.column.0 < length (columns_at schema (get_or block.atoms place.atom d).table)
  column_inside =
      subst (λ n. place.column.0 < n) (width_at block.atoms place.atom d is_place.atom ∙ place_over.width) is_place.column

  pub name_of_place : (c : Column) → (get_or (columns_at schema (get_or block.atoms place.atom d).table) place.column.0 c).name ≡ place_name schema block place
  name_of_place c =
      sym (get_or-map (λ (x : Column). x.name) (columns_at schema (get_or block.atoms place.atom d).table) place.column.0 c [] column_inside)
      ∙ ap (λ t. get_or (map (λ (x : Column). x.name) (columns_at schema t)) place.column.0 [])
      (sym (get_or-map (λ (a : Atom). a.table) block.atoms place.atom d (record { 0 = 0 }) is_place.atom))

-- ---- an open column is one of its atom's

pub find_has : {X : Type 0} (p : X → Bool) (xs : List X) (x : X) → find p xs ≡ Some x → Has xs x
find_has p [] x e = cc
find_has {X} p (y ∷ ys) x e = by (p y) e (find_has p ys x)
  where
    by : (b : Bool) → cond b (Some y) (find p ys) ≡ Some x → (find p ys ≡ Some x → Has ys x) → Has (y ∷ ys) x
    by true f later = inl (let g : y ≡ x = cc in sym g)
    by false f later = inr (later f)

open_found : (o : Option Place) (served : Option ℕ) (atom : ℕ) (column : ColumnId)
    → option_or (option_map (λ p. ColumnOpen p.atom p.column) o) (option_map (λ a. AtomUnindexed a) served) ≡ Some (ColumnOpen atom column)
    → o ≡ Some (record { atom = atom; column = column })
open_found None None atom column e = cc
open_found None (Some a) atom column e = cc
open_found (Some p) served atom column e =
    let first : p.atom ≡ atom = cc in
    let second : p.column ≡ column = cc in
    ap (λ (n : ℕ). Some (record { atom = n; column = p.column })) first ∙ ap (λ (c : ColumnId). Some (record { atom = atom; column = c })) second

pub numbered : {A : Type 0} (n : ℕ) (xs : List A) (d : A) (a : ℕ × A) → Has (enumerate_from n xs) a → (k : ℕ) × (k < length xs) × (a ≡ (n + k, get_or xs k d))
numbered n [] d a h = absurd h
numbered n (x ∷ xs) d a (inl e) = let z : n ≡ n + 0 = omega arith in (0, omega arith, e ∙ ap (λ m. (m, x)) z)
numbered n (x ∷ xs) d a (inr h) =
    let r = numbered (n + 1) xs d a h in
    let z : n + 1 + r.0 ≡ n + suc r.0 = omega arith in
    (suc r.0, omega (arith, r.1), r.2 ∙ ap (λ m. (m, get_or xs r.0 d)) z)

pub mapped_numbered : {A B : Type 0} (f : ℕ × A → B) (n k : ℕ) (xs : List A) (d : B) (e : A) → k < length xs
    → get_or (map f (enumerate_from n xs)) k d ≡ f (n + k, get_or xs k e)
mapped_numbered f n k [] d e l = absurd (omega (arith, l))
mapped_numbered f n zero (x ∷ xs) d e l = let z : n ≡ n + 0 = omega arith in ap (λ m. f (m, x)) z
mapped_numbered f n (suc k) (x ∷ xs) d e l =
    let z : n + 1 + k ≡ n + suc k = omega arith in
    mapped_numbered f (n + 1) k xs d e (omega arith) ∙ ap (λ m. f (m, get_or xs k e)) z

no_atom : Atom
no_atom = record { table = record { 0 = 0 }; width = 0 }

needed_is_place : (block : Block) (p : Place) → Has (needed_places (normal_of block)) p → IsPlace block.atoms p
unfolding normal_of
needed_is_place block p h =
    let needed = (normal_of block).needed in
    let of_atom : ℕ × Atom → List ColumnId = λ a. needed_columns block a.0 a.1.width in
    let r = Has-from_flat_map (λ (n : ℕ × List ColumnId). map (λ c. record { atom = n.0; column = c }) n.1) (enumerate_from 0 needed) p h in
    let m = Has-from_map (λ (c : ColumnId). record { atom = r.0.0; column = c }) r.0.1 p r.2 in
    let k = numbered 0 needed [] r.0 r.1 in
    let many = length-map (enumerate_from 0 block.atoms) of_atom ∙ length-enumerate_from 0 block.atoms in
    let l : k.0 < length block.atoms = subst (λ n. k.0 < n) many k.1 in
    let width = (get_or block.atoms k.0 no_atom).width in
    let columns : r.0.1 ≡ needed_columns block (0 + k.0) width = ap (λ x. x.1) k.2 ∙ mapped_numbered of_atom 0 k.0 block.atoms [] no_atom l in
    let of_number : ℕ → ColumnId = λ c. record { 0 = c } in
    let used : ℕ → Bool = λ c. list_any (same_place (record { atom = 0 + k.0; column = record { 0 = c } })) (used_places block) in
    let c = Has-from_map of_number (filter used (range_with_len 0 width)) m.0 (subst (λ cs. Has cs m.0) columns m.1) in
    let inside = from_range width 0 c.0 (Has-from_filter used (range_with_len 0 width) c.0 c.1).0 in
    let atom : p.atom ≡ k.0 = ap (λ x. x.atom) m.2 ∙ ap (λ x. x.0) k.2 ∙ zero-add k.0 in
    let column : p.column.0 ≡ c.0 = ap (λ x. x.column.0) m.2 ∙ ap (λ x. x.0) c.2 in
    let wide = width_at block.atoms k.0 no_atom l in
    let place : IsPlace block.atoms (record { atom = k.0; column = record { 0 = c.0 } }) =
    record { atom = l; column = omega (arith, inside, wide) } in
    subst (λ n. IsPlace block.atoms (record { atom = n; column = p.column })) (sym atom)
    (subst (λ n. IsPlace block.atoms (record { atom = k.0; column = record { 0 = n } })) (sym column) place)

pub open_is_place : (block : Block) (accesses : List Access) (set : ClassSet) (atom : ℕ) (column : ColumnId)
    → reason (normal_of block) accesses set ≡ Some (ColumnOpen atom column) → IsPlace block.atoms (record { atom = atom; column = column })
unfolding reason
open_is_place block accesses set atom column h =
    let normal = normal_of block in
    needed_is_place block (record { atom = atom; column = column })
    (find_has (is_open normal set) (needed_places normal) (record { atom = atom; column = column })
    (open_found (find (is_open normal set) (needed_places normal)) (find (λ a. not (is_served normal accesses set a)) (atoms_of normal)) atom column h))

-- ---- one block

pub atoms_are : (block : Block) → (normal_of block).atoms ≡ block.atoms
unfolding normal_of
atoms_are block = refl

pub as_many_needed : (block : Block) → length (normal_of block).needed ≡ length block.atoms
unfolding normal_of
as_many_needed block = length-map (enumerate_from 0 block.atoms) (λ a. needed_columns block a.0 a.1.width) ∙ length-enumerate_from 0 block.atoms

and_no : (b : Bool) → (b && false) ≡ false
and_no true = refl
and_no false = refl

and_yes : (b : Bool) → (b && true) ≡ b
and_yes true = refl
and_yes false = refl

-- why a block isn't covered
module _ (normal : Normal) (accesses : List Access) (has : Bool) where
  pub none_alone : own_reason normal accesses ≡ None → task_reason (normal_task normal accesses has) ≡ None
  none_alone h =
      let covered : own_is_covered normal accesses ≡ true = reason-covered normal accesses (covered_set normal accesses (constant_classes normal)) h in
      let flag : is_guided_task (normal_task normal accesses has) ≡ false = ap (λ b. has && not b) covered ∙ and_no has in
      ap (λ g. reason normal accesses (covered_set normal accesses (start_classes normal g))) flag ∙ h

  -- a block that isn't covered by itself is guided where it has a guide
  pub flag_is : (why : NotCovered) → own_reason normal accesses ≡ Some why → is_guided_task (normal_task normal accesses has) ≡ has
  flag_is why out =
      ap (λ b. has && not b) (turns.not_covered normal accesses (covered_set normal accesses (constant_classes normal)) why out) ∙ and_yes has

  pub reason_from : (why : NotCovered) → own_reason normal accesses ≡ Some why
      → task_reason (normal_task normal accesses has) ≡ reason normal accesses (covered_set normal accesses (start_classes normal has))
  reason_from why out = ap (λ g. reason normal accesses (covered_set normal accesses (start_classes normal g))) (flag_is why out)

-- what is found out of a block, from its constants and then from its output too
module _ (normal : Normal) (accesses : List Access) (once : EachIdOnce accesses) (ranges : ClassesInRange normal) (has : Bool) where
  abbrev this_task : BlockTask
  this_task = normal_task normal accesses has

  abbrev pub IsPlanned : Bool → List DStep → Type 0
  IsPlanned guided steps = (guided ≡ is_guided_task this_task) × (task_steps this_task ≡ Some steps) × (task_reason this_task ≡ None)

  no_reason : (flag : Bool) (steps : List DStep) → derivation normal accesses (start_classes normal flag) ≡ Some steps
      → reason normal accesses (covered_set normal accesses (start_classes normal flag)) ≡ None
  no_reason flag steps h = covered-reason normal accesses (covered_set normal accesses (start_classes normal flag))
      (derivation_only_if normal accesses once ranges (start_classes normal flag) (start_counted normal flag) (ap is_some h))

  planned_as : (flag : Bool) (steps : List DStep) → is_guided_task this_task ≡ flag → derivation normal accesses (start_classes normal flag) ≡ Some steps
      → IsPlanned flag steps
  planned_as flag steps e h = (
    sym e,
    ap (λ g. derivation normal accesses (start_classes normal g)) e ∙ h,
    ap (λ g. reason normal accesses (covered_set normal accesses (start_classes normal g))) e ∙ no_reason flag steps h,
  )

  pub planned_alone : (steps : List DStep) → own_derivation normal accesses ≡ Some steps → IsPlanned false steps
  planned_alone steps h =
      let covered : own_is_covered normal accesses ≡ true =
      derivation_only_if normal accesses once ranges (constant_classes normal) (start_counted normal false) (ap is_some h) in
      planned_as false steps (ap (λ b. has && not b) covered ∙ and_no has) h

  module _ (why : NotCovered) (out : own_reason normal accesses ≡ Some why) where
    pub planned_guided : has ≡ true → (steps : List DStep) → derivation normal accesses (start_classes normal true) ≡ Some steps → IsPlanned true steps
    planned_guided e steps h = planned_as true steps (flag_is normal accesses has why out ∙ e) h

    pub reason_guided : has ≡ true → (other : NotCovered)
        → reason normal accesses (covered_set normal accesses (start_classes normal true)) ≡ Some other → task_reason this_task ≡ Some other
    reason_guided e other h = ap (λ g. reason normal accesses (covered_set normal accesses (start_classes normal g))) (flag_is normal accesses has why out ∙ e) ∙ h

-- ---- block after block

module _ (lent : List BlockAt) (i : ℕ) (at : BlockAt) (below : i < length lent) (is : at ≡ get_or lent i at) where
  pub lent_below : i < length (blocks_at lent)
  lent_below = subst (λ n. i < n) (sym (length-map lent (λ (b : BlockAt). b.block.now))) below

  pub lent_is : at.block.now ≡ get_or (blocks_at lent) i at.block.now
  lent_is = ap (λ (b : BlockAt). b.block.now) is ∙ sym (get_or-map (λ (b : BlockAt). b.block.now) lent i at at.block.now below)

  pub lent_all : (P : Block → Type 0) → All P (blocks_at lent) → P at.block.now
  lent_all P all = subst P (sym lent_is) (all i at.block.now lent_below)

module _ (accesses : List Access) (lent : List BlockAt) where
  abbrev task : BlockAt → BlockTask
  task b = task_at accesses b

  -- the first of the blocks from a number on that isn't covered
  abbrev pub uncovered_from : ℕ → Option Uncovered
  uncovered_from i = first_uncovered_from i (map task (drop i lent))

  abbrev found_or : ℕ → Option NotCovered → Option Uncovered → Option Uncovered
  found_or i why later = option_or (option_map (λ w. record { block = i; why = w }) why) later

  split : (i : ℕ) (at : BlockAt) → i < length lent → at ≡ get_or lent i at
      → uncovered_from i ≡ found_or i (task_reason (task at)) (uncovered_from (i + 1))
  split i at l e =
      ap (λ bs. first_uncovered_from i (map task bs)) (drop_more lent i at l)
      ∙ ap (λ b. found_or i (task_reason (task b)) (uncovered_from (i + 1))) (sym e)

  pub covered_next : (i : ℕ) (at : BlockAt) → i < length lent → at ≡ get_or lent i at → task_reason (task at) ≡ None
      → uncovered_from i ≡ uncovered_from (i + 1)
  covered_next i at l e none = split i at l e ∙ ap (λ o. found_or i o (uncovered_from (i + 1))) none

  pub uncovered_here : (i : ℕ) (at : BlockAt) (why : NotCovered) → i < length lent → at ≡ get_or lent i at
      → task_reason (task at) ≡ Some why → uncovered_from i ≡ Some (record { block = i; why = why })
  uncovered_here i at why l e some = split i at l e ∙ ap (λ o. found_or i o (uncovered_from (i + 1))) some

  pub none_after : (i : ℕ) → length lent ≤ i → uncovered_from i ≡ None
  none_after i all = ap (λ bs. first_uncovered_from i (map task bs)) (drop_all i lent all)

  -- a block's refusal is that of all blocks, where the blocks before it are covered
  pub refused_here : (schema : Schema) (T U : Type 0) (e : Fail) (i : ℕ) (at : BlockAt) → uncovered_from 0 ≡ uncovered_from i → i < length lent
      → at ≡ get_or lent i at
      → IsRefusedAs {A = T} (Err e) (option_map (not_covered schema (i + 1) at.block.now) (task_reason (task at)))
      → IsRefusedAs {A = U} (Err e) (option_map (refusal_of schema (blocks_at lent)) (uncovered_from 0))
  refused_here schema T U NoMemory i at so_far l is h = tt
  refused_here schema T U (Refused why) i at so_far l is h = by (task_reason (task at)) refl h
    where
      by : (o : Option NotCovered) → task_reason (task at) ≡ o → option_map (not_covered schema (i + 1) at.block.now) o ≡ Some why
          → option_map (refusal_of schema (blocks_at lent)) (uncovered_from 0) ≡ Some why
      by None e g = cc
      by (Some w) e g =
          ap (option_map (refusal_of schema (blocks_at lent))) (so_far ∙ uncovered_here i at w l is e)
          ∙ ap (λ b. Some (not_covered schema (i + 1) b w)) (get_or_default (blocks_at lent) i no_block at.block.now (lent_below lent i at l is)
          ∙ sym (lent_is lent i at l is)) ∙ g

  pub covered_all : (schema : Schema) (i : ℕ) → uncovered_from 0 ≡ uncovered_from i → length lent ≤ i
      → option_map (refusal_of schema (blocks_at lent)) (uncovered_from 0) ≡ None
  covered_all schema i so_far all = ap (option_map (refusal_of schema (blocks_at lent))) (so_far ∙ none_after i all)

-- blocks that are lent one part after the other
module _ (a : List Access) (extra : List (List Access)) (old mid new : List BlockAt) (has other : Bool) (l r : QueryTree) where
  pub lent_both : blocks_at mid ≡ blocks_at old ++ blocks_of l
      → map (task_at a) mid ≡ map (task_at a) old ++ tasks_from (constraints_with a extra) (length old) has l
      → map (task_at a) new ≡ map (task_at a) mid ++ tasks_from (constraints_with a extra) (length mid) other r
      → map (task_at a) new ≡ map (task_at a) old
      ++ (tasks_from (constraints_with a extra) (length old) has l ++ tasks_from (constraints_with a extra) (after (length old) l) other r)
  lent_both blocks left right =
      let long : length mid ≡ after (length old) l =
      sym (length-map mid (λ (b : BlockAt). b.block.now)) ∙ ap length blocks ∙ length-append (blocks_at old) (blocks_of l)
      ∙ ap (λ n. n + length (blocks_of l)) (length-map old (λ (b : BlockAt). b.block.now)) in
      right ∙ ap (λ n. map (task_at a) mid ++ tasks_from (constraints_with a extra) n other r) long
      ∙ ap (λ ts. ts ++ tasks_from (constraints_with a extra) (after (length old) l) other r) left
      ∙ append_assoc (map (task_at a) old) (tasks_from (constraints_with a extra) (length old) has l)
      (tasks_from (constraints_with a extra) (after (length old) l) other r)

-- derivations that are the canonical ones are those that the announced number is taken of
pub same_plans : (tasks : List BlockTask) (plans : List Derivation) → map (λ d. Some d.steps) plans ≡ map task_steps tasks → plans ≡ map task_plan tasks
same_plans [] [] e = refl
same_plans [] (p ∷ plans) e = cc
same_plans (t ∷ tasks) [] e = cc
same_plans (t ∷ tasks) (p ∷ plans) e =
    let first : Some p.steps ≡ task_steps t = cc in
    let rest : map (λ d. Some d.steps) plans ≡ map task_steps tasks = cc in
    let here : p ≡ task_plan t = ap (λ o. record { steps = unwrap_or o [] }) first in
    ap (λ d. d ∷ plans) here ∙ ap (λ ds. task_plan t ∷ ds) (same_plans tasks plans rest)

-- ---- a query has at most as many rows as reads

more_reads : (accesses : List Access) (b : ℕ) (s : DStep) → 1 ≤ (access_in accesses s.access).bound
    → size_after accesses b s ≤ b * (access_in accesses s.access).bound
more_reads accesses b s h = by s.adds
  where
    by : (adds : Bool) → cond adds (b * (access_in accesses s.access).bound) b ≤ b * (access_in accesses s.access).bound
    by true = omega arith
    by false = at_least b (access_in accesses s.access).bound h
      where
        at_least : (m k : ℕ) → 1 ≤ k → m ≤ m * k
        at_least m k l = let z = mul-le-mul_left m l in omega (arith, z)

few_rows : (accesses : List Access) (b : ℕ) (steps : List DStep) → 1 ≤ length steps → ((s : DStep) → Has steps s → 1 ≤ (access_in accesses s.access).bound)
    → last_size accesses b steps ≤ announced_from accesses b steps
few_rows accesses b [] l h = absurd (omega (arith, l))
few_rows accesses b (s ∷ []) l h = let m = more_reads accesses b s (h s (inl refl)) in omega (arith, m)
few_rows accesses b (s ∷ t ∷ steps) l h =
    let m = few_rows accesses (size_after accesses b s) (t ∷ steps) (omega arith) (λ r k. h r (inr k)) in omega (arith, m)

-- a derivation that grows leaves at most as many valuations as reads
pub few_left : (accesses : List Access) (b : ℕ) (plan : Derivation) → Grows accesses plan
    → last_size accesses b plan.steps ≤ announced_from accesses b plan.steps
few_left accesses b plan g = few_rows accesses b plan.steps g.some_step
    (λ s m. All-contains (λ r. 1 ≤ (access_in accesses r.access).bound) plan.steps s g.bounds (Contains-from_has plan.steps s m))

-- ---- what fits

-- derivations over some constraints, each of them one of the constraints of a port
module _ (schema : Schema) (accesses : List Access) (once : EachIdOnce accesses) (formed : All (IsWellFormedIn schema) accesses) where
  step_fits : (block : Block) → BlockIsOver schema block → (s : DStep) → is_live accesses s.access ≡ true
      → is_on_table (normal_of block) accesses s ≡ true
      → AccessIsWellFormed (width_of (normal_of block).atoms s.atom) (access_in accesses s.access)
  step_fits block over s live on =
      let access = access_in accesses s.access in
      let atoms = (normal_of block).atoms in
      let is_over : BlockIsOver schema (record block { atoms = atoms }) = subst (All (AtomIsOver schema)) (sym (atoms_are block)) over in
      let member = Contains-from_has accesses access (access_in-member accesses s.access live) in
      let form = All-contains (IsWellFormedIn schema) accesses access formed member in
      let few : s.atom < length atoms = inside s.atom (length atoms) (and_left (nat_lt s.atom (length atoms))
      ((table_of (normal_of block) s.atom).0 == access.table.0) on) in
      let same = eqb-true (table_of (normal_of block) s.atom).0 access.table.0 (and_right (nat_lt s.atom (length atoms))
      ((table_of (normal_of block) s.atom).0 == access.table.0) on) in
      let atom = get_or atoms s.atom no_atom in
      let table : atom.table ≡ access.table =
      sym (get_or-map (λ (a : Atom). a.table) atoms s.atom no_atom (record { 0 = 0 }) few) ∙ ap (λ (n : ℕ). record { 0 = n }) same in
      let width : length (columns_at schema access.table) ≡ width_of atoms s.atom =
      sym (width_at atoms s.atom no_atom few ∙ (is_over s.atom no_atom few).width ∙ ap (λ t. length (columns_at schema t)) table) in
      subst (λ n. AccessIsWellFormed n access) width form
    where
      inside : (a b : ℕ) → nat_lt a b ≡ true → a < b
      inside a b h = grind (arith, nat_tests)

  task_runs : (block : Block) (own : List Access) (has : Bool) (plan : Derivation) → BlockIsOver schema block → IsPart accesses own
      → Some plan.steps ≡ task_steps (normal_task (normal_of block) own has)
      → RunsOver accesses (normal_task (normal_of block) own has) plan
  task_runs block own has plan over part h =
      let normal = normal_of block in
      let start = task_start (normal_task normal own has) in
      let is_sound : IsSound normal accesses start plan.steps =
      stays_sound own accesses once part.within normal start plan.steps (derivation_sound normal own part.once start plan.steps (sym h)) in
      let parts = sound_parts normal accesses start plan.steps is_sound.sound in
      record {
        sound = is_sound;
        well_formed = λ i d l. step_fits block over (get_or plan.steps i d) (is_sound.live i d l)
            (all_has (is_on_table normal accesses) plan.steps (get_or plan.steps i d) parts.each.tables (Has-get_or plan.steps i d l));
      }

  module _ (live : List Access) where
    pub tasks_run : (lent : List BlockAt) (plans : List Derivation) → ((b : Block) → Has (blocks_at lent) b → BlockIsOver schema b)
        → ((b : BlockAt) → Has lent b → IsPart accesses (live ++ b.extra.now))
        → map (λ d. Some d.steps) plans ≡ map task_steps (map (task_at live) lent)
        → AllZip (RunsOver accesses) (map (task_at live) lent) plans
    tasks_run [] [] over parts e = tt
    tasks_run [] (p ∷ plans) over parts e = cc
    tasks_run (b ∷ lent) [] over parts e = cc
    tasks_run (b ∷ lent) (p ∷ plans) over parts e =
        let first : Some p.steps ≡ task_steps (task_at live b) = cc in
        let rest : map (λ d. Some d.steps) plans ≡ map task_steps (map (task_at live) lent) = cc in (
          task_runs b.block.now (live ++ b.extra.now) b.has_guide p (over b.block.now (inl refl)) (parts b (inl refl)) first,
          tasks_run lent plans (λ c m. over c (inr m)) (λ c m. parts c (inr m)) rest,
        )

  -- a sound derivation of a block with an atom has a step
  pub plan_grows : (block : Block) (own : List Access) (has : Bool) (plan : Derivation) → 1 ≤ length block.atoms
      → RunsOver accesses (normal_task (normal_of block) own has) plan → Grows accesses plan
  plan_grows block own has plan some h = record {
    some_step = by plan.steps h.sound;
    bounds = λ i d l. (h.well_formed i d l).bound;
  }
    where
      by : (steps : List DStep) → IsSound (normal_of block) accesses (task_start (normal_task (normal_of block) own has)) steps
          → 1 ≤ length steps
      by (s ∷ steps) k = omega arith
      by [] k =
          let normal = normal_of block in
          let parts = sound_parts normal accesses (task_start (normal_task normal own has)) [] k.sound in
          let many = ap length (atoms_are block) in
          let first = all_has (is_served_by normal accesses []) (atoms_of normal) 0 parts.served
          (Has-range (length normal.atoms) 0 0 (omega arith) (omega (arith, many, some))) in
          cc

  module _ (live : List Access) where
    plans_grow : (lent : List BlockAt) (plans : List Derivation) → ((b : Block) → Has (blocks_at lent) b → 1 ≤ length b.atoms)
        → AllZip (RunsOver accesses) (map (task_at live) lent) plans → (d : Derivation) → Has plans d → Grows accesses d
    plans_grow lent [] some h d m = absurd m
    plans_grow [] (p ∷ plans) some h d m = absurd h
    plans_grow (b ∷ lent) (p ∷ plans) some h d (inl e) =
        subst (Grows accesses) (sym e) (plan_grows b.block.now (live ++ b.extra.now) b.has_guide p (some b.block.now (inl refl)) h.0)
    plans_grow (b ∷ lent) (p ∷ plans) some h d (inr m) = plans_grow lent plans (λ c k. some c (inr k)) h.1 d m

-- blocks that are lent with lists of further constraints
module _ (live : List Access) (extra : List (List Access)) (once : EachIdOnce (with_lists live extra)) (query : QueryTree) (lent : List BlockAt)
    (tasks : (accesses : List Access) → map (task_at accesses) lent ≡ block_tasks (constraints_with accesses extra) query) where
  -- what a block may use besides is one of the lists
  pub each_part : (b : BlockAt) → Has lent b → IsPart (with_lists live extra) (live ++ b.extra.now)
  each_part b m =
      let found = task_of_list (constraints_with [] extra) 0 false query (task_at [] b)
      (subst (λ ts. Has ts (task_at [] b)) (tasks []) (Has-map (task_at []) lent b m)) in
      subst (λ more. IsPart (with_lists live extra) (live ++ more)) (sym found.1) (list_is_part live extra once found.0)

  pub each_once : All (λ (b : BlockAt). EachIdOnce (live ++ b.extra.now)) lent
  each_once = All-from_recursion (λ (b : BlockAt). EachIdOnce (live ++ b.extra.now)) lent
      (all_from (λ (b : BlockAt). EachIdOnce (live ++ b.extra.now)) lent (λ b m. (each_part b m).once))

-- the blocks of a query, lent with lists of further constraints, and their derivations
module _ (schema : Schema) (sound : SchemaIsSound schema) (extra : List (List Access)) (once : EachIdOnce (with_lists schema.accesses extra))
    (well : All (All (IsWellFormedIn schema)) extra) (query : QueryTree) (shape : QueryIsWellFormed query) (over : QueryIsOver schema query)
    (lent : List BlockAt) (blocks : blocks_at lent ≡ blocks_of query)
    (tasks : (accesses : List Access) → map (task_at accesses) lent ≡ block_tasks (constraints_with accesses extra) query) where
  abbrev all : List Access
  all = with_lists schema.accesses extra

  abbrev given : List BlockTask
  given = block_tasks (constraints_with schema.accesses extra) query

  all_formed : All (IsWellFormedIn schema) all
  all_formed = lists_formed schema sound extra well

  each_over : (b : Block) → Has (blocks_at lent) b → BlockIsOver schema b
  each_over b m = All-contains (BlockIsOver schema) (blocks_of query) b over (Contains-from_has (blocks_of query) b (subst (λ bs. Has bs b) blocks m))

  each_some : (b : Block) → Has (blocks_at lent) b → 1 ≤ length b.atoms
  each_some b m =
      let there = Contains-from_has (blocks_of query) b (subst (λ bs. Has bs b) blocks m) in
      (All-contains BlockIsWellFormed (blocks_of query) b shape.blocks there).some_atom

  module _ (plans : List Derivation) (made : map (λ d. Some d.steps) plans ≡ map task_steps (map (task_at schema.accesses) lent)) where
    all_run : AllZip (RunsOver all) (map (task_at schema.accesses) lent) plans
    all_run = tasks_run schema all once all_formed schema.accesses lent plans each_over
        (each_part schema.accesses extra once query lent tasks) made

    pub all_grow : All (Grows all) plans
    all_grow = All-from_recursion (Grows all) plans (all_from (Grows all) plans
        (λ d m. plans_grow schema all once all_formed schema.accesses lent plans each_some all_run d m))

    pub as_many_plans : length plans ≡ length (blocks_of query)
    as_many_plans = sym (length-map plans (λ (d : Derivation). Some d.steps)) ∙ ap length made
        ∙ length-map (map (task_at schema.accesses) lent) task_steps ∙ ap length (tasks schema.accesses)
        ∙ length-tasks (constraints_with schema.accesses extra) 0 false query

    pub as_many_flags : (guided : List Bool) → guided ≡ map is_guided_task (map (task_at schema.accesses) lent)
        → length guided ≡ length (blocks_of query)
    as_many_flags guided g = ap length g ∙ ap (λ ts. length (map is_guided_task ts)) (tasks schema.accesses) ∙ length-map given is_guided_task
        ∙ length-tasks (constraints_with schema.accesses extra) 0 false query

    pub plan_fits : (prepared : Prepared) → prepared.query ≡ query → prepared.normals ≡ map normal_of (blocks_of query) → prepared.derivations ≡ plans
        → prepared.guided ≡ map is_guided_task (map (task_at schema.accesses) lent)
        → prepared.bound ≡ query_bound all prepared.guided plans query → PlanFits all prepared
    plan_fits prepared q n d g b =
        let flags : prepared.guided ≡ flags_of given = g ∙ ap (map is_guided_task) (tasks schema.accesses) in
        let sound_plans = plans_run all (constraints_with schema.accesses extra) query plans
        (subst (λ ts. AllZip (RunsOver all) ts plans) (tasks schema.accesses) all_run) in
        let many = ap length n ∙ length-map (blocks_of query) normal_of in
        record {
          well_formed = record {
            query = subst QueryIsWellFormed (sym q) shape;
            normals = n ∙ ap (λ t. map normal_of (blocks_of t)) (sym q);
            derivations = ap length d ∙ as_many_plans ∙ sym many;
            flags = as_many_flags prepared.guided g ∙ sym many;
            guided = subst (λ t. GuidedOnlyWithGuide prepared.guided 0 false t) (sym q)
                (subst (λ gs. GuidedOnlyWithGuide gs 0 false query) (sym flags)
                (guided_only_with_guide (constraints_with schema.accesses extra) query));
          };
          plans = subst (λ t. PlansAreSound all prepared.guided prepared.derivations 0 t) (sym q)
              (subst (λ ds. PlansAreSound all prepared.guided ds 0 query) (sym d)
              (subst (λ gs. PlansAreSound all gs plans 0 query) (sym flags) sound_plans));
          bound = b ∙ ap (λ ds. query_bound all prepared.guided ds query) (sym d)
              ∙ ap (λ t. query_bound all prepared.guided prepared.derivations t) (sym q);
        }

-- ---- the answer

pub none_mapped : {A B : Type 0} (f : A → B) (o : Option A) → option_map f o ≡ None → o ≡ None
none_mapped f None e = refl
none_mapped f (Some a) e = cc

passes : (a b : ℕ) → a ≤ b → nat_le a b ≡ true
passes a b h = grind (arith, nat_tests)

below : (a b : ℕ) → b < a → nat_le a b ≡ false
below a b h = grind (arith, nat_tests)

-- a number that passes, and one that doesn't
pub too_large : (number : ℕ) (e : Fail) → e ≡ Refused TooLarge → 2 ^ 128 ≤ number → Gives {A = ℕ} (Err e) (unless_too_large number)
too_large number e is large = subst (λ f. Gives {A = ℕ} (Err f) (unless_too_large number)) (sym is)
    (ap (λ b. cond b (Err TooLarge) (Ok number)) (passes (2 ^ 128) number large))

pub not_too_large : (number : ℕ) → number < 2 ^ 128 → unless_too_large number ≡ Ok number
not_too_large number small = ap (λ b. cond b (Err TooLarge) (Ok number)) (below (2 ^ 128) number small)

pub told_number : (number bound : ℕ) → unless_too_large number ≡ Ok bound → bound ≡ number
told_number number bound h = by (nat_le (2 ^ 128) number) h
  where
    by : (b : Bool) → cond b (Err TooLarge) (Ok number) ≡ Ok bound → bound ≡ number
    by true e = cc
    by false e = cc

module _ (schema : Schema) (accesses : List Access) (given : List BlockTask) (query : QueryTree) where
  pub gives_err : (A : Type 0) (e : Fail) (blocks : List Block) (tasks : List BlockTask) → blocks ≡ blocks_of query → tasks ≡ given
      → IsRefusedAs {A = A} (Err e) (option_map (refusal_of schema blocks) (first_uncovered tasks))
      → Gives (Err e) (preparation_of schema accesses given query)
  gives_err A NoMemory blocks tasks same made h = tt
  gives_err A (Refused why) blocks tasks same made h = by (first_uncovered given) whole
    where
      whole : option_map (refusal_of schema (blocks_of query)) (first_uncovered given) ≡ Some why
      whole = ap (λ ts. option_map (refusal_of schema (blocks_of query)) (first_uncovered ts)) (sym made)
          ∙ ap (λ bs. option_map (refusal_of schema bs) (first_uncovered tasks)) (sym same) ∙ h

      by : (o : Option Uncovered) → option_map (refusal_of schema (blocks_of query)) o ≡ Some why
          → unless_uncovered schema accesses given query o ≡ Err why
      by None e = cc
      by (Some found) e = let f : refusal_of schema (blocks_of query) found ≡ why = cc in ap Err f

  pub all_covered : (blocks : List Block) (tasks : List BlockTask) → tasks ≡ given
      → option_map (refusal_of schema blocks) (first_uncovered tasks) ≡ None → first_uncovered given ≡ None
  all_covered blocks tasks made h = ap first_uncovered (sym made) ∙ none_mapped (refusal_of schema blocks) (first_uncovered tasks) h

  abbrev number : ℕ
  number = announced_number accesses given query

  -- a number that is refused, and one that isn't
  abbrev then_prepared : Result ℕ Refusal → Result Prepared Refusal
  then_prepared (Ok n) = Ok (prepared_query schema accesses given query)
  then_prepared (Err why) = Err why

  module _ (none : first_uncovered given ≡ None) where
    by_number : preparation_of schema accesses given query ≡ then_prepared (unless_too_large number)
    by_number = ap (unless_uncovered schema accesses given query) none ∙ by (nat_le (2 ^ 128) number)
      where
        by : (b : Bool) → cond b (Err TooLarge) (Ok (prepared_query schema accesses given query))
            ≡ then_prepared (cond b (Err TooLarge) (Ok number))
        by true = refl
        by false = refl

    pub gives_refused : (e : Fail) (n : ℕ) → n ≡ number → Gives {A = ℕ} (Err e) (unless_too_large n)
        → Gives (Err e) (preparation_of schema accesses given query)
    gives_refused NoMemory n same h = tt
    gives_refused (Refused why) n same h = by_number ∙ ap (λ k. then_prepared (unless_too_large k)) (sym same) ∙ ap then_prepared h

    gives_ok : number < 2 ^ 128 → Gives (Ok (prepared_query schema accesses given query)) (preparation_of schema accesses given query)
    gives_ok small = by_number ∙ ap then_prepared (not_too_large number small)

    -- what is prepared has the derivations and the flags of the tasks
    pub gives_parts : (p : Prepared) → p.query ≡ query → p.header ≡ header_of schema (blocks_of query) → p.normals ≡ map normal_of (blocks_of query)
        → p.derivations ≡ plans_of given → p.guided ≡ flags_of given
        → p.bound ≡ query_bound accesses p.guided p.derivations query → p.bound < 2 ^ 128 → Gives (Ok p) (preparation_of schema accesses given query)
    gives_parts p q h n d g b small =
        let counted : p.bound ≡ number =
        b ∙ ap (λ gs. query_bound accesses gs p.derivations query) g
        ∙ ap (λ ds. query_bound accesses (flags_of given) ds query) d in
        let goal = prepared_query schema accesses given query in
        let is : p ≡ goal =
        ap (λ (x : QueryTree). record p { query = x }) q
        ∙ ap (λ x. record goal { header = x; normals = p.normals; derivations = p.derivations; bound = p.bound; guided = p.guided }) h
        ∙ ap (λ x. record goal { normals = x; derivations = p.derivations; bound = p.bound; guided = p.guided }) n
        ∙ ap (λ x. record goal { derivations = x; bound = p.bound; guided = p.guided }) d
        ∙ ap (λ x. record goal { bound = x; guided = p.guided }) counted
        ∙ ap (λ x. record goal { guided = x }) g in
        subst (λ x. Gives (Ok x) (preparation_of schema accesses given query)) (sym is) (gives_ok (subst (λ x. x < 2 ^ 128) counted small))

-- over the live constraints and lists of further ones
module _ (schema : Schema) (extra : List (List Access)) (query : QueryTree) where
  abbrev over_lists : List BlockTask
  over_lists = block_tasks (constraints_with schema.accesses extra) query

  pub over_err : (A : Type 0) (e : Fail) (blocks : List Block) (tasks : List BlockTask) → blocks ≡ blocks_of query → tasks ≡ over_lists
      → IsRefusedAs {A = A} (Err e) (option_map (refusal_of schema blocks) (first_uncovered tasks)) → Gives (Err e) (preparation_over schema extra query)
  unfolding preparation_over
  over_err A e blocks tasks same made h = gives_err schema (with_lists schema.accesses extra) over_lists query A e blocks tasks same made h

  pub over_refused : first_uncovered over_lists ≡ None → (e : Fail) (n : ℕ) → n ≡ announced_number (with_lists schema.accesses extra) over_lists query
      → Gives {A = ℕ} (Err e) (unless_too_large n) → Gives (Err e) (preparation_over schema extra query)
  unfolding preparation_over
  over_refused none e n same h = gives_refused schema (with_lists schema.accesses extra) over_lists query none e n same h
