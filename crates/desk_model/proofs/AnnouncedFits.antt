-- What is announced of a query fits the constraints over which it is announced.
use Rattle.std.proofs.Common.{◌≡◌, ◌++◌, ◌^◌, ◌∙◌, ℕ, Bool, true, false, List, [], ◌∷◌, map, Option, Some, None, is_some, Result, Ok, Err, inl, inr, refl, ap, sym, subst}
use Rattle.std.specs.Prelude.{if◌then◌else◌, nat_le, unwrap_or}
use Rattle.std.specs.List.{flat_map, list_all}
use Rattle.std.proofs.lemmas.List.{append-nil, map-append}
use Rattle.std.proofs.lemmas.List.Elements.{All-contains, All-nil}
use Rattle.beas_core.specs.declared.limits.Limits.{Limits}
use Rattle.beas_core.specs.declared.plan.Derivation.{Derivation}
use Rattle.beas_core.specs.declared.plan.DStep.{DStep}
use Rattle.beas_core.specs.declared.plan.Prepared.{Prepared}
use Rattle.beas_core.specs.declared.refusal.Refusal.{Refusal}
use Rattle.beas_core.specs.declared.refusal.Refusal.TheVariants.{TooLarge}
use Rattle.beas_core.specs.declared.schema.Access.{Access}
use Rattle.beas_core.specs.Classes.{normal_of}
use Rattle.beas_core.specs.Coverage.{ClassesInRange}
use Rattle.beas_core.specs.Fits.{PlanFits}
use Rattle.beas_core.specs.Guiding.{BlockTask, Uncovered, after, block_tasks, first_uncovered, is_guided_task, tasks_from, task_start, task_steps}
use Rattle.beas_core.specs.Shapes.{BlockIsWellFormed, EachIdOnce, QueryIsWellFormed}
use Rattle.beas_core.specs.Trees.{QueryTree, Single, Either, Minus, blocks_of}
use Rattle.beas_core.proofs.Sets.{Has, Has-map, Has-from_map, Contains-from_has}
use Rattle.beas_core.specs.Covered.{task_is_covered}
use Rattle.beas_core.proofs.ClassFacts.{classes_in_range}
use Rattle.beas_core.proofs.DerivationsExist.{derivation_exists}
use Rattle.beas_core.proofs.MemberTests.{and_left, and_right}
use Rattle.beas_core.proofs.ReasonFacts.{no_first-covered}
use Rattle.beas_core.proofs.StartFacts.{start_counted}
use Rattle.beas_core.proofs.TaskFacts.{task_normals}
use Rattle.catalogue.specs.Queries.{QueryIsOver}
use Rattle.catalogue.specs.Schema.{Schema, SchemaIsSound}
use Rattle.sql_text.specs.Trees.{Tree}
use Rattle.name_resolution.specs.Binding.{blocks_of as blocks_in, bound_query, looked_refusals, refusals}
use Rattle.name_resolution.specs.LookedUp.{looked_up}
use Rattle.name_resolution.specs.Refusing.{first, repeated_aliases, unknown_tables}
use Rattle.name_resolution.proofs.OverTables.{query_over}
use Rattle.name_resolution.proofs.WellFormed.{query_fits}
use Rattle.plan_builder.specs.declared.blocks.BlockAt.{BlockAt}
use Rattle.plan_builder.specs.Parts.{blocks_at, task_at}
use Rattle.plan_builder.specs.Preparation.{announced_number, constraints_with, plans_of, preparation, preparation_over, prepared_query, unless_uncovered, with_lists}
use Rattle.plan_builder.proofs.Extras.{none_extra, over_none}
use Rattle.plan_builder.proofs.PreparationFacts.{ids_once, plan_fits}
use Rattle.session.specs.Announced.{and_then, announcement, unless_refused, within_budget}
use Rattle.session.specs.Statements.{TreeIsWellFormed}
use Rattle.session.proofs.AnnouncedFacts.{within_same}

-- ---- a tree that isn't refused

front_none : {A : Type 0} (xs ys : List A) → xs ++ ys ≡ [] → xs ≡ []
front_none [] ys h = refl
front_none (x ∷ xs) ys h = cc

back_none : {A : Type 0} (xs ys : List A) → xs ++ ys ≡ [] → ys ≡ []
back_none [] ys h = h
back_none (x ∷ xs) ys h = cc

module _ (limits : Limits) (schema : Schema) (tree : Tree) (none : refusals limits schema tree ≡ []) where
  names_known : flat_map (unknown_tables schema) (blocks_in tree) ++ flat_map repeated_aliases (blocks_in tree) ≡ []
  unfolding refusals
  names_known = front_none (flat_map (unknown_tables schema) (blocks_in tree) ++ flat_map repeated_aliases (blocks_in tree))
      (looked_refusals limits (map (looked_up schema) (blocks_in tree))) none

  tables_known : flat_map (unknown_tables schema) (blocks_in tree) ≡ []
  tables_known = front_none (flat_map (unknown_tables schema) (blocks_in tree)) (flat_map repeated_aliases (blocks_in tree)) names_known

  rest_allowed : looked_refusals limits (map (looked_up schema) (blocks_in tree)) ≡ []
  unfolding refusals
  rest_allowed = back_none (flat_map (unknown_tables schema) (blocks_in tree) ++ flat_map repeated_aliases (blocks_in tree))
      (looked_refusals limits (map (looked_up schema) (blocks_in tree))) none

  bound_well : SchemaIsSound schema → TreeIsWellFormed tree → QueryIsWellFormed (bound_query schema tree)
  bound_well sound formed =
      query_fits limits schema tree sound limits.atoms_in_range.1 formed.some_table (ap first tables_known) (ap first rest_allowed)

  bound_over : QueryIsOver schema (bound_query schema tree)
  bound_over = query_over schema tree (ap first tables_known)

-- ---- a query whose blocks are covered

-- its blocks, as they are lent to be planned
abbrev lent_of : Bool → QueryTree → List BlockAt
lent_of has (Single block) =
    record { block = record { ref_ptr = (0, 0); now = block }; extra = record { ref_ptr = (0, 0); now = [] }; has_guide = has } ∷ []
lent_of has (Either l r) = lent_of has l ++ lent_of has r
lent_of has (Minus l r) = lent_of has l ++ lent_of true r

lent_blocks : (has : Bool) (t : QueryTree) → blocks_at (lent_of has t) ≡ blocks_of t
lent_blocks has (Single block) = refl
lent_blocks has (Either l r) = map-append (λ (b : BlockAt). b.block.now) (lent_of has l) (lent_of has r)
    ∙ ap (λ bs. bs ++ blocks_at (lent_of has r)) (lent_blocks has l) ∙ ap (λ bs. blocks_of l ++ bs) (lent_blocks has r)
lent_blocks has (Minus l r) = map-append (λ (b : BlockAt). b.block.now) (lent_of has l) (lent_of true r)
    ∙ ap (λ bs. bs ++ blocks_at (lent_of true r)) (lent_blocks has l) ∙ ap (λ bs. blocks_of l ++ bs) (lent_blocks true r)

module _ (accesses : List Access) where
  abbrev constraints : ℕ → List Access
  constraints n = constraints_with accesses [] n

  lent_tasks : (n : ℕ) (has : Bool) (t : QueryTree) → map (task_at accesses) (lent_of has t) ≡ tasks_from constraints n has t
  lent_tasks n has (Single block) =
      let task : List Access → BlockTask = λ own. record { normal = normal_of block; accesses = own; has_guide = has } in
      ap (λ own. task own ∷ []) (append-nil accesses ∙ sym (none_extra accesses n))
  lent_tasks n has (Either l r) = map-append (task_at accesses) (lent_of has l) (lent_of has r)
      ∙ ap (λ ts. ts ++ map (task_at accesses) (lent_of has r)) (lent_tasks n has l)
      ∙ ap (λ ts. tasks_from constraints n has l ++ ts) (lent_tasks (after n l) has r)
  lent_tasks n has (Minus l r) = map-append (task_at accesses) (lent_of has l) (lent_of true r)
      ∙ ap (λ ts. ts ++ map (task_at accesses) (lent_of true r)) (lent_tasks n has l)
      ∙ ap (λ ts. tasks_from constraints n has l ++ ts) (lent_tasks (after n l) true r)

-- a block that is covered has a derivation
planned : (tasks : List BlockTask) → ((task : BlockTask) → Has tasks task → ClassesInRange task.normal) → list_all task_is_covered tasks ≡ true
    → map (λ (d : Derivation). Some d.steps) (plans_of tasks) ≡ map task_steps tasks
planned [] ranges covered = refl
planned (task ∷ tasks) ranges covered =
    ap (λ o. o ∷ map (λ (d : Derivation). Some d.steps) (plans_of tasks)) (there (task_steps task)
    (derivation_exists task.normal task.accesses (ranges task (inl refl)) (task_start task) (start_counted task.normal (is_guided_task task))
    (and_left (task_is_covered task) (list_all task_is_covered tasks) covered)))
    ∙ ap (λ os. task_steps task ∷ os) (planned tasks (λ other m. ranges other (inr m))
    (and_right (task_is_covered task) (list_all task_is_covered tasks) covered))
  where
    there : (o : Option (List DStep)) → is_some o ≡ true → Some (unwrap_or o []) ≡ o
    there None e = cc
    there (Some steps) e = refl

module _ (schema : Schema) (sound : SchemaIsSound schema) (query : QueryTree) (shape : QueryIsWellFormed query) (over : QueryIsOver schema query) where
  abbrev all : List Access
  all = with_lists schema.accesses []

  abbrev given : List BlockTask
  given = block_tasks (constraints_with schema.accesses []) query

  ranges : (task : BlockTask) → Has given task → ClassesInRange task.normal
  ranges task m =
      let named = subst (λ ns. Has ns task.normal) (task_normals (constraints_with schema.accesses []) 0 false query)
      (Has-map (λ (u : BlockTask). u.normal) given task m) in
      let found = Has-from_map normal_of (blocks_of query) task.normal named in
      subst ClassesInRange (sym found.2)
      (classes_in_range found.0 (All-contains BlockIsWellFormed (blocks_of query) found.0 shape.blocks (Contains-from_has (blocks_of query) found.0 found.1)))

  all_fits : first_uncovered given ≡ None → PlanFits schema.accesses (prepared_query schema all given query)
  all_fits none =
      let lent = lent_of false query in
      let tasks : (accesses : List Access) → map (task_at accesses) lent ≡ block_tasks (constraints_with accesses []) query =
      λ accesses. lent_tasks accesses 0 false query in
      let made = planned given ranges (no_first-covered given none) ∙ ap (map task_steps) (sym (tasks schema.accesses)) in
      subst (λ accesses. PlanFits accesses (prepared_query schema all given query)) (append-nil schema.accesses)
      (plan_fits schema sound [] (subst EachIdOnce (sym (append-nil schema.accesses)) (ids_once schema sound)) (All-nil _) query shape over lent
      (lent_blocks false query) tasks (plans_of given) made (prepared_query schema all given query) refl refl refl
      (ap (map is_guided_task) (sym (tasks schema.accesses))) refl)

  prepared_fits : (p : Prepared) → preparation schema query ≡ Ok p → PlanFits schema.accesses p
  unfolding preparation_over
  prepared_fits p e = found (over_none schema query ∙ e)
    where
      by : (o : Option Uncovered) → first_uncovered given ≡ o → unless_uncovered schema all given query o ≡ Ok p → PlanFits schema.accesses p
      by (Some what) none h = cc
      by None none h = told (nat_le (2 ^ 128) (announced_number all given query)) h
        where
          told : (b : Bool) → (if b then Err TooLarge else Ok (prepared_query schema all given query)) ≡ Ok p → PlanFits schema.accesses p
          told true g = cc
          told false g = let same : prepared_query schema all given query ≡ p = cc in subst (PlanFits schema.accesses) same (all_fits none)

      found : preparation_over schema [] query ≡ Ok p → PlanFits schema.accesses p
      found h = by (first_uncovered given) refl h

-- ---- what is announced

pub announced_fits : (limits : Limits) (budget : Option ℕ) (schema : Schema) (tree : Tree) → SchemaIsSound schema → TreeIsWellFormed tree
    → (prepared : Prepared) → announcement limits budget schema tree ≡ Ok prepared → PlanFits schema.accesses prepared
unfolding announcement
announced_fits limits budget schema tree sound formed prepared e = by (refusals limits schema tree) refl e
  where
    within : (p : Prepared) → within_budget budget p ≡ Ok prepared → PlanFits schema.accesses p → PlanFits schema.accesses prepared
    within p h fits = subst (PlanFits schema.accesses) (sym (within_same budget p prepared h)) fits

    by_number : refusals limits schema tree ≡ [] → (r : Result Prepared Refusal) → preparation schema (bound_query schema tree) ≡ r
        → and_then r (within_budget budget) ≡ Ok prepared → PlanFits schema.accesses prepared
    by_number none (Err why) h g = cc
    by_number none (Ok p) h g =
        within p g (prepared_fits schema sound (bound_query schema tree) (bound_well limits schema tree none sound formed)
        (bound_over limits schema tree none) p h)

    by : (rs : List Refusal) → refusals limits schema tree ≡ rs
        → and_then (unless_refused rs (bound_query schema tree)) (λ query. and_then (preparation schema query) (within_budget budget)) ≡ Ok prepared
        → PlanFits schema.accesses prepared
    by (why ∷ more) h g = cc
    by [] h g = by_number h (preparation schema (bound_query schema tree)) refl g
