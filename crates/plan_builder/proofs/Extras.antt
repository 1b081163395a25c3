-- Constraints that a block may use besides the live ones, and what is prepared over them.
use Rattle.std.proofs.Common.{◌≡◌, ◌≢◌, ◌+◌, ◌<◌, ℕ, zero, suc, Bool, true, false, List, [], ◌∷◌, ◌++◌, length, map, get_or, ◌⊎◌, inl, inr, ap, sym, ◌∙◌, subst, arith, length-append}
use Rattle.std.specs.List.{All, AllZip, Contains, flat_map}
use Rattle.std.specs.Prelude.{slice_index_or, Result}
use Rattle.std.proofs.lemmas.List.{append-nil, get_or_append_left, get_or-append-add, get_or-map}
use Rattle.std.proofs.lemmas.List.Elements.{All-contains, All-from_recursion}
use Rattle.std.proofs.lemmas.List.Kept.{AllPairs-cons}
use Rattle.beas_core.specs.declared.errors.Fail.{Fail}
use Rattle.beas_core.specs.declared.schema.Access.{Access}
use Rattle.beas_core.specs.declared.query.Block.{Block}
use Rattle.beas_core.specs.declared.plan.Normal.{Normal}
use Rattle.beas_core.specs.declared.plan.Derivation.{Derivation}
use Rattle.beas_core.specs.declared.plan.Prepared.{Prepared}
use Rattle.beas_core.specs.Trees.{QueryTree, Single, Either, Minus, blocks_of}
use Rattle.beas_core.specs.Classes.{normal_of}
use Rattle.beas_core.specs.Coverage.{start_classes}
use Rattle.beas_core.specs.Guiding.{BlockTask, after, block_tasks, is_guided_task, task_start, tasks_from}
use Rattle.beas_core.specs.Queries.{is_guided, plan_of}
use Rattle.beas_core.specs.Fits.{PlanIsSound, PlansAreSound}
use Rattle.beas_core.specs.Shapes.{EachIdOnce}
use Rattle.beas_core.specs.Results.{Gives}
use Rattle.beas_core.proofs.Sets.{Has, Has-append_cases, Has-append_left, Has-append_right, Has-from_contains, Contains-from_has, all_from}
use Rattle.beas_core.proofs.MemberTests.{Has-from_flat_map, first_of_pairs, rest_of_pairs}
use Rattle.beas_core.proofs.TaskFacts.{length-tasks, task_normals}
use Rattle.catalogue.specs.Schema.{Schema, SchemaIsSound, AccessIsSound}
use Rattle.plan_builder.specs.Preparation.{IsWellFormedIn, constraints_with, preparation, preparation_of, preparation_over, with_lists}

-- ---- parts of lists in which no id stands twice

abbrev Apart : Access → Access → Type 0
Apart a b = a.id.0 ≢ b.id.0

-- its constraints are among these, and none of its ids stands twice
pub record IsPart (all own : List Access) : Type 0 where
  pub once : EachIdOnce own
  pub within : (access : Access) → Contains own access → Contains all access

pairs_left : (xs ys : List Access) → EachIdOnce (xs ++ ys) → EachIdOnce xs
pairs_left [] ys h = λ i j d l m. absurd (omega (arith, m))
pairs_left (x ∷ xs) ys h = AllPairs-cons Apart x xs
    (All-from_recursion (Apart x) xs (all_from (Apart x) xs (λ y m. first_of_pairs Apart x (xs ++ ys) h y (Has-append_left xs ys y m))))
    (pairs_left xs ys (rest_of_pairs Apart x (xs ++ ys) h))

pub pairs_right : (xs ys : List Access) → EachIdOnce (xs ++ ys) → EachIdOnce ys
pairs_right [] ys h = h
pairs_right (x ∷ xs) ys h = pairs_right xs ys (rest_of_pairs Apart x (xs ++ ys) h)

-- one of several lists, by number
pub has_list : (extra : List (List Access)) (n : ℕ) (access : Access) → Has (slice_index_or extra n []) access → Has (flat_map (λ more. more) extra) access
has_list [] zero access m = absurd m
has_list [] (suc n) access m = absurd m
has_list (more ∷ extra) zero access m = Has-append_left more (flat_map (λ more. more) extra) access m
has_list (more ∷ extra) (suc n) access m = Has-append_right more (flat_map (λ more. more) extra) access (has_list extra n access m)

pub list_once : (extra : List (List Access)) (n : ℕ) → EachIdOnce (flat_map (λ more. more) extra) → EachIdOnce (slice_index_or extra n [])
list_once [] zero h = h
list_once [] (suc n) h = h
list_once (more ∷ extra) zero h = pairs_left more (flat_map (λ more. more) extra) h
list_once (more ∷ extra) (suc n) h = list_once extra n (pairs_right more (flat_map (λ more. more) extra) h)

pub part_once : (live all own : List Access) → EachIdOnce (live ++ all) → EachIdOnce own → ((access : Access) → Has own access → Has all access)
    → EachIdOnce (live ++ own)
part_once [] all own h once within = once
part_once (a ∷ live) all own h once within = AllPairs-cons Apart a (live ++ own)
    (All-from_recursion (Apart a) (live ++ own) (all_from (Apart a) (live ++ own) (λ b m. first_of_pairs Apart a (live ++ all) h b (moved b m))))
    (part_once live all own (rest_of_pairs Apart a (live ++ all) h) once within)
  where
    moved : (b : Access) → Has (live ++ own) b → Has (live ++ all) b
    moved b m = elim (Has-append_cases live own b m) [
      | inl k ↦ Has-append_left live all b k
      | inr k ↦ Has-append_right live all b (within b k)
    ]

module _ (live : List Access) (extra : List (List Access)) (once : EachIdOnce (with_lists live extra)) (n : ℕ) where
  abbrev every : List Access
  every = flat_map (λ more. more) extra

  abbrev own : List Access
  own = slice_index_or extra n []

  moved : (access : Access) → Has (live ++ own) access → Has (live ++ every) access
  moved access m = elim (Has-append_cases live own access m) [
    | inl k ↦ Has-append_left live every access k
    | inr k ↦ Has-append_right live every access (has_list extra n access k)
  ]

  pub list_is_part : IsPart (with_lists live extra) (live ++ slice_index_or extra n [])
  list_is_part = record {
    once = part_once live every own once (list_once extra n (pairs_right live every once)) (has_list extra n);
    within = λ access there. Contains-from_has (live ++ every) access (moved access (Has-from_contains (live ++ own) access there));
  }

pub lists_formed : (schema : Schema) → SchemaIsSound schema → (extra : List (List Access)) → All (All (IsWellFormedIn schema)) extra
    → All (IsWellFormedIn schema) (with_lists schema.accesses extra)
lists_formed schema sound extra well =
    All-from_recursion (IsWellFormedIn schema) (with_lists schema.accesses extra) (all_from (IsWellFormedIn schema) (with_lists schema.accesses extra)
    (λ access m. either access (Has-append_cases schema.accesses (flat_map (λ more. more) extra) access m)))
  where
    either : (access : Access) → Has schema.accesses access ⊎ Has (flat_map (λ more. more) extra) access → IsWellFormedIn schema access
    either access (inl m) = (All-contains (AccessIsSound schema) schema.accesses access sound.accesses (Contains-from_has schema.accesses access m)).form
    either access (inr m) =
        let r = Has-from_flat_map (λ more. more) extra access m in
        All-contains (IsWellFormedIn schema) r.0 access
        (All-contains (All (IsWellFormedIn schema)) extra r.0 well (Contains-from_has extra r.0 r.1)) (Contains-from_has r.0 access r.2)

-- ---- tasks

-- a task of a tree has the constraints of some block
pub task_of_list : (constraints : ℕ → List Access) (n : ℕ) (has : Bool) (t : QueryTree) (task : BlockTask) → Has (tasks_from constraints n has t) task
    → (k : ℕ) × (task.accesses ≡ constraints k)
task_of_list constraints n has (Single block) task (inl e) = (n, ap (λ (u : BlockTask). u.accesses) e)
task_of_list constraints n has (Single block) task (inr m) = absurd m
task_of_list constraints n has (Either l r) task m =
    elim (Has-append_cases (tasks_from constraints n has l) (tasks_from constraints (after n l) has r) task m) [
      | inl k ↦ task_of_list constraints n has l task k
      | inr k ↦ task_of_list constraints (after n l) has r task k
    ]
task_of_list constraints n has (Minus l r) task m =
    elim (Has-append_cases (tasks_from constraints n has l) (tasks_from constraints (after n l) true r) task m) [
      | inl k ↦ task_of_list constraints n has l task k
      | inr k ↦ task_of_list constraints (after n l) true r task k
    ]

-- the tasks are the same where each block may use the same constraints
pub same_tasks : (c d : ℕ → List Access) → ((k : ℕ) → c k ≡ d k) → (n : ℕ) (has : Bool) (t : QueryTree) → tasks_from c n has t ≡ tasks_from d n has t
same_tasks c d same n has (Single block) =
    ap (λ (accesses : List Access). record { normal = normal_of block; accesses = accesses; has_guide = has } ∷ []) (same n)
same_tasks c d same n has (Either l r) =
    ap (λ ts. ts ++ tasks_from c (after n l) has r) (same_tasks c d same n has l)
    ∙ ap (λ ts. tasks_from d n has l ++ ts) (same_tasks c d same (after n l) has r)
same_tasks c d same n has (Minus l r) =
    ap (λ ts. ts ++ tasks_from c (after n l) true r) (same_tasks c d same n has l)
    ∙ ap (λ ts. tasks_from d n has l ++ ts) (same_tasks c d same (after n l) true r)

pub none_extra : (accesses : List Access) (n : ℕ) → constraints_with accesses [] n ≡ accesses
none_extra accesses zero = append-nil accesses
none_extra accesses (suc n) = append-nil accesses

pub gives_over : (schema : Schema) (extra : List (List Access)) (query : QueryTree) (r : Result Prepared Fail)
    → Gives r (preparation_of schema (with_lists schema.accesses extra) (block_tasks (constraints_with schema.accesses extra) query) query)
    → Gives r (preparation_over schema extra query)
unfolding preparation_over
gives_over schema extra query r h = h

-- without further constraints a query is prepared as ever
pub over_none : (schema : Schema) (query : QueryTree) → preparation_over schema [] query ≡ preparation schema query
unfolding preparation preparation_over
over_none schema query =
    ap (λ ts. preparation_of schema (schema.accesses ++ []) ts query)
    (same_tasks (constraints_with schema.accesses []) (λ n. schema.accesses) (none_extra schema.accesses) 0 false query)
    ∙ ap (λ accesses. preparation_of schema accesses (block_tasks (λ n. schema.accesses) query) query) (append-nil schema.accesses)

-- ---- derivations of tasks that run over other constraints

-- the derivation is sound for the task's start over these constraints
abbrev pub RunsOver : List Access → BlockTask → Derivation → Type 0
RunsOver accesses task plan = PlanIsSound task.normal accesses (task_start task) plan

zip_at : (P : BlockTask → Derivation → Type 0) (tasks : List BlockTask) (plans : List Derivation) → AllZip P tasks plans
    → (i : ℕ) (d : BlockTask) → i < length tasks → P (get_or tasks i d) (plan_of plans i)
zip_at P [] plans h i d l = absurd (omega (arith, l))
zip_at P (task ∷ tasks) [] h i d l = absurd h
zip_at P (task ∷ tasks) (plan ∷ plans) h zero d l = h.0
zip_at P (task ∷ tasks) (plan ∷ plans) h (suc i) d l = zip_at P tasks plans h.1 i d (omega arith)

module _ (accesses : List Access) (guided : List Bool) (plans : List Derivation) where
  abbrev RunsAt : ℕ → Block → Type 0
  RunsAt n block = PlanIsSound (normal_of block) accesses (start_classes (normal_of block) (is_guided guided n)) (plan_of plans n)

  abbrev EachRuns : ℕ → List Block → Type 0
  EachRuns n blocks = (i : ℕ) (d : Block) → i < length blocks → RunsAt (n + i) (get_or blocks i d)

  left_runs : (n : ℕ) (l r : List Block) → EachRuns n (l ++ r) → EachRuns n l
  left_runs n l r h i d b =
      let long = length-append l r in
      subst (RunsAt (n + i)) (get_or_append_left l r d i b) (h i d (omega (arith, b, long)))

  right_runs : (n : ℕ) (l r : List Block) → EachRuns n (l ++ r) → EachRuns (n + length l) r
  right_runs n l r h i d b =
      let long = length-append l r in
      let place : n + (length l + i) ≡ n + length l + i = omega arith in
      subst (λ k. RunsAt k (get_or r i d)) place
      (subst (RunsAt (n + (length l + i))) (get_or-append-add l r i d) (h (length l + i) d (omega (arith, b, long))))

  tree_runs : (n : ℕ) (t : QueryTree) → EachRuns n (blocks_of t) → PlansAreSound accesses guided plans n t
  tree_runs n (Single block) h = let z : n + 0 ≡ n = omega arith in subst (λ k. RunsAt k block) z (h 0 block (omega arith))
  tree_runs n (Either l r) h =
      (tree_runs n l (left_runs n (blocks_of l) (blocks_of r) h), tree_runs (after n l) r (right_runs n (blocks_of l) (blocks_of r) h))
  tree_runs n (Minus l r) h =
      (tree_runs n l (left_runs n (blocks_of l) (blocks_of r) h), tree_runs (after n l) r (right_runs n (blocks_of l) (blocks_of r) h))

-- derivations of the tasks that are sound over these constraints are sound derivations of the query
module _ (accesses : List Access) (constraints : ℕ → List Access) (t : QueryTree) (plans : List Derivation)
    (h : AllZip (RunsOver accesses) (block_tasks constraints t) plans) where
  abbrev tasks : List BlockTask
  tasks = block_tasks constraints t

  each : (i : ℕ) (d : Block) → i < length (blocks_of t) → RunsAt accesses (map is_guided_task tasks) plans (0 + i) (get_or (blocks_of t) i d)
  each i d l =
      let long = length-tasks constraints 0 false t in
      let inside : i < length tasks = omega (arith, l, long) in
      let none : BlockTask = record { normal = normal_of d; accesses = []; has_guide = false } in
      let task = get_or tasks i none in
      let normal : task.normal ≡ normal_of (get_or (blocks_of t) i d) =
      sym (get_or-map (λ (u : BlockTask). u.normal) tasks i none task.normal inside) ∙ ap (λ ns. get_or ns i task.normal) (task_normals constraints 0 false t)
      ∙ get_or-map normal_of (blocks_of t) i d task.normal l in
      let flag : is_guided_task task ≡ is_guided (map is_guided_task tasks) i = sym (get_or-map is_guided_task tasks i none false inside) in
      let z : i ≡ 0 + i = omega arith in
      subst (λ k. RunsAt accesses (map is_guided_task tasks) plans k (get_or (blocks_of t) i d)) z
      (subst (λ g. PlanIsSound (normal_of (get_or (blocks_of t) i d)) accesses (start_classes (normal_of (get_or (blocks_of t) i d)) g) (plan_of plans i)) flag
      (subst (λ (m : Normal). PlanIsSound m accesses (start_classes m (is_guided_task task)) (plan_of plans i)) normal
      (zip_at (RunsOver accesses) tasks plans h i none inside)))

  pub plans_run : PlansAreSound accesses (map is_guided_task (block_tasks constraints t)) plans 0 t
  plans_run = tree_runs accesses (map is_guided_task tasks) plans 0 t each
