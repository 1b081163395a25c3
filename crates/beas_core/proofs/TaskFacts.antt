-- The blocks of a query as tasks, and what is prepared of each by its number.
use Rattle.std.proofs.Common.{◌≡◌, ◌+◌, ◌<◌, ◌≤◌, ℕ, zero, suc, Bool, true, false, not, List, [], ◌∷◌, ◌++◌, length, map, inl, inr, refl, ap, sym, ◌∙◌, subst, arith, length-append}
use Rattle.std.specs.List.{All, AllZip}
use Rattle.std.proofs.lemmas.List.{map-append, length-map}
use Rattle.std.proofs.lemmas.Bool.{cases_lt}
use Rattle.std.proofs.lemmas.List.Elements.{All-head, All-tail, All-from_get_or}
use Rattle.beas_core.specs.declared.schema.Access.{Access}
use Rattle.beas_core.specs.declared.plan.Normal.{Normal}
use Rattle.beas_core.specs.declared.plan.Derivation.{Derivation}
use Rattle.beas_core.specs.Trees.{QueryTree, Single, Either, Minus, blocks_of}
use Rattle.beas_core.specs.Classes.{normal_of}
use Rattle.beas_core.specs.Coverage.{start_classes, own_is_covered}
use Rattle.beas_core.specs.Derivations.{is_live}
use Rattle.beas_core.specs.Guiding.{BlockTask, after, has_guides, tasks_from, block_tasks, is_guided_task, task_start}
use Rattle.beas_core.specs.Queries.{is_guided, plan_of}
use Rattle.beas_core.specs.Fits.{PlanIsSound, PlansAreSound, GuidedOnlyWithGuide}
use Rattle.beas_core.proofs.Sets.{Has, Has-append_cases}
use Rattle.beas_core.proofs.MemberTests.{and_left}

map-both : {A C : Type 0} (f : A → C) (xs ys : List A) (us vs : List C) → map f xs ≡ us → map f ys ≡ vs → map f (xs ++ ys) ≡ us ++ vs
map-both f xs ys us vs e g = map-append f xs ys ∙ ap (λ s. s ++ map f ys) e ∙ ap (λ s. us ++ s) g

-- ---- derivations by number

-- what is true of each derivation and of one without steps is true of the derivation with any number
pub plan_at : (P : Derivation → Type 0) (plans : List Derivation) → P (record { steps = [] }) → All P plans → (n : ℕ) → P (plan_of plans n)
plan_at P [] none h n = none_at n
  where
    none_at : (k : ℕ) → P (plan_of [] k)
    none_at zero = none
    none_at (suc k) = none
plan_at P (plan ∷ plans) none h zero = All-head P plan plans h
plan_at P (plan ∷ plans) none h (suc n) = plan_at P plans none (All-tail P plan plans h) n

-- the steps of sound derivations are live
module _ (accesses : List Access) (guided : List Bool) (plans : List Derivation) where
  abbrev IsLiveAt : ℕ → Type 0
  IsLiveAt n = All (λ s. is_live accesses s.access ≡ true) (plan_of plans n).steps

  live_in : (n : ℕ) (l r : QueryTree) (k : ℕ) → n ≤ k → k < n + length (blocks_of l ++ blocks_of r) → (n ≤ k → k < after n l → IsLiveAt k)
      → (after n l ≤ k → k < after (after n l) r → IsLiveAt k) → IsLiveAt k
  live_in n l r k low high left right =
      let both = length-append (blocks_of l) (blocks_of r) in
      elim (cases_lt k (after n l)) [
        | inl less ↦ left low less
        | inr more ↦ right more (omega (arith, high, both))
      ]

  live_at : (n : ℕ) (t : QueryTree) → PlansAreSound accesses guided plans n t → (k : ℕ) → n ≤ k → k < after n t → IsLiveAt k
  live_at n (Single block) sound k low high = subst IsLiveAt (the_one n k low high) sound.sound.live
    where
      the_one : (n k : ℕ) → n ≤ k → k < n + 1 → n ≡ k
      the_one n k low high = omega (arith, low, high)
  live_at n (Either l r) sound k low high = live_in n l r k low high (live_at n l sound.0 k) (live_at (after n l) r sound.1 k)
  live_at n (Minus l r) sound k low high = live_in n l r k low high (live_at n l sound.0 k) (live_at (after n l) r sound.1 k)

  pub plans_are_live : (t : QueryTree) → length plans ≡ length (blocks_of t) → PlansAreSound accesses guided plans 0 t
      → All (λ plan. All (λ s. is_live accesses s.access ≡ true) plan.steps) plans
  plans_are_live t long sound = All-from_get_or (λ plan. All (λ s. is_live accesses s.access ≡ true) plan.steps) plans (record { steps = [] })
      (λ k below. live_at 0 t sound k (omega arith) (omega (arith, below, long)))

-- ---- the tasks of a tree

module _ (constraints : ℕ → List Access) where
  pub task_normals : (n : ℕ) (has : Bool) (t : QueryTree) → map (λ task. task.normal) (tasks_from constraints n has t) ≡ map normal_of (blocks_of t)
  task_normals n has (Single block) = refl
  task_normals n has (Either l r) =
      map-both (λ task. task.normal) (tasks_from constraints n has l) (tasks_from constraints (after n l) has r) (map normal_of (blocks_of l))
      (map normal_of (blocks_of r)) (task_normals n has l) (task_normals (after n l) has r)
      ∙ sym (map-append normal_of (blocks_of l) (blocks_of r))
  task_normals n has (Minus l r) =
      map-both (λ task. task.normal) (tasks_from constraints n has l) (tasks_from constraints (after n l) true r) (map normal_of (blocks_of l))
      (map normal_of (blocks_of r)) (task_normals n has l) (task_normals (after n l) true r)
      ∙ sym (map-append normal_of (blocks_of l) (blocks_of r))

  pub length-tasks : (n : ℕ) (has : Bool) (t : QueryTree) → length (tasks_from constraints n has t) ≡ length (blocks_of t)
  length-tasks n has t =
      sym (length-map (tasks_from constraints n has t) (λ task. task.normal)) ∙ ap length (task_normals n has t) ∙ length-map (blocks_of t) normal_of

  pub task_guides : (n : ℕ) (has : Bool) (t : QueryTree) → map (λ task. task.has_guide) (tasks_from constraints n has t) ≡ has_guides has t
  task_guides n has (Single block) = refl
  task_guides n has (Either l r) =
      map-both (λ task. task.has_guide) (tasks_from constraints n has l) (tasks_from constraints (after n l) has r) (has_guides has l) (has_guides has r)
      (task_guides n has l) (task_guides (after n l) has r)
  task_guides n has (Minus l r) =
      map-both (λ task. task.has_guide) (tasks_from constraints n has l) (tasks_from constraints (after n l) true r) (has_guides has l) (has_guides true r)
      (task_guides n has l) (task_guides (after n l) true r)

  pub task_accesses : (accesses : List Access) → ((k : ℕ) → constraints k ≡ accesses) → (n : ℕ) (has : Bool) (t : QueryTree) (task : BlockTask)
      → Has (tasks_from constraints n has t) task → task.accesses ≡ accesses
  task_accesses accesses same n has (Single block) task (inl e) = ap (λ (u : BlockTask). u.accesses) e ∙ same n
  task_accesses accesses same n has (Single block) task (inr m) = absurd m
  task_accesses accesses same n has (Either l r) task m =
      elim (Has-append_cases (tasks_from constraints n has l) (tasks_from constraints (after n l) has r) task m) [
        | inl k ↦ task_accesses accesses same n has l task k
        | inr k ↦ task_accesses accesses same (after n l) has r task k
      ]
  task_accesses accesses same n has (Minus l r) task m =
      elim (Has-append_cases (tasks_from constraints n has l) (tasks_from constraints (after n l) true r) task m) [
        | inl k ↦ task_accesses accesses same n has l task k
        | inr k ↦ task_accesses accesses same (after n l) true r task k
      ]

-- ---- what is true of each block by its number, and of the tree

-- this is true of each item of a list with its number, where the first has number n
abbrev pub Numbered : {A : Type 0} → (ℕ → A → Type 0) → ℕ → List A → Type 0
Numbered P n [] = Unit {0}
Numbered P n (x ∷ xs) = P n x × Numbered P (n + 1) xs

next : (k : ℕ) → suc k ≡ k + 1
next k = omega arith

numbered_at : {A : Type 0} (P : ℕ → A → Type 0) (m n : ℕ) (xs : List A) → m ≡ n → Numbered P m xs → Numbered P n xs
numbered_at P m n xs e h = subst (λ k. Numbered P k xs) e h

numbered-append : {A : Type 0} (P : ℕ → A → Type 0) (n : ℕ) (xs ys : List A) → Numbered P n (xs ++ ys)
    → Numbered P n xs × Numbered P (n + length xs) ys
numbered-append P n [] ys h = (tt, numbered_at P n (n + 0) ys (omega arith) h)
numbered-append P n (x ∷ xs) ys h =
    let rest = numbered-append P (n + 1) xs ys h.1 in
    ((h.0, rest.0), numbered_at P (n + 1 + length xs) (n + suc (length xs)) ys (omega arith) rest.1)

numbered-shift : {A : Type 0} (P Q : ℕ → A → Type 0) → ((k : ℕ) (x : A) → P k x → Q (k + 1) x) → (n : ℕ) (xs : List A)
    → Numbered P n xs → Numbered Q (n + 1) xs
numbered-shift P Q f n [] h = tt
numbered-shift P Q f n (x ∷ xs) h = (f n x h.0, numbered-shift P Q f (n + 1) xs h.1)

module _ (accesses : List Access) (guided : List Bool) (plans : List Derivation) where
  abbrev pub SoundAt : ℕ → Normal → Type 0
  SoundAt n normal = PlanIsSound normal accesses (start_classes normal (is_guided guided n)) (plan_of plans n)

  -- the blocks of two trees, one after the other
  halves : (n : ℕ) (l r : QueryTree) → Numbered SoundAt n (map normal_of (blocks_of l ++ blocks_of r))
      → Numbered SoundAt n (map normal_of (blocks_of l)) × Numbered SoundAt (after n l) (map normal_of (blocks_of r))
  halves n l r h =
      let both = numbered-append SoundAt n (map normal_of (blocks_of l)) (map normal_of (blocks_of r))
      (subst (Numbered SoundAt n) (map-append normal_of (blocks_of l) (blocks_of r)) h) in (
        both.0,
        numbered_at SoundAt (n + length (map normal_of (blocks_of l))) (after n l) (map normal_of (blocks_of r))
            (ap (λ k. n + k) (length-map (blocks_of l) normal_of)) both.1,
      )

  -- where the derivation of each block is sound, those of the tree are
  tree_is_sound : (n : ℕ) (t : QueryTree) → Numbered SoundAt n (map normal_of (blocks_of t)) → PlansAreSound accesses guided plans n t
  tree_is_sound n (Single block) h = h.0
  tree_is_sound n (Either l r) h = let both = halves n l r h in (tree_is_sound n l both.0, tree_is_sound (after n l) r both.1)
  tree_is_sound n (Minus l r) h = let both = halves n l r h in (tree_is_sound n l both.0, tree_is_sound (after n l) r both.1)

module _ (guided : List Bool) where
  abbrev OnlyAt : ℕ → Bool → Type 0
  OnlyAt n has = is_guided guided n ≡ true → has ≡ true

  length-guides : (has : Bool) (t : QueryTree) → length (has_guides has t) ≡ length (blocks_of t)
  length-guides has t = sym (ap length (task_guides (λ n. []) 0 has t)) ∙ length-map (tasks_from (λ n. []) 0 has t) (λ task. task.has_guide)
      ∙ length-tasks (λ n. []) 0 has t

  guide_halves : (n : ℕ) (has other : Bool) (l r : QueryTree) → Numbered OnlyAt n (has_guides has l ++ has_guides other r)
      → Numbered OnlyAt n (has_guides has l) × Numbered OnlyAt (after n l) (has_guides other r)
  guide_halves n has other l r h =
      let both = numbered-append OnlyAt n (has_guides has l) (has_guides other r) h in
      (both.0, numbered_at OnlyAt (n + length (has_guides has l)) (after n l) (has_guides other r) (ap (λ k. n + k) (length-guides has l)) both.1)

  -- where each guided block has a guide, it is so in the tree
  tree_is_guided : (n : ℕ) (has : Bool) (t : QueryTree) → Numbered OnlyAt n (has_guides has t) → GuidedOnlyWithGuide guided n has t
  tree_is_guided n has (Single block) h = h.0
  tree_is_guided n has (Either l r) h =
      let both = guide_halves n has has l r h in (tree_is_guided n has l both.0, tree_is_guided (after n l) has r both.1)
  tree_is_guided n has (Minus l r) h =
      let both = guide_halves n has true l r h in (tree_is_guided n has l both.0, tree_is_guided (after n l) true r both.1)

-- ---- what is prepared of tasks

-- the derivation is sound for the task's start over its constraints
abbrev pub TaskIsSound : BlockTask → Derivation → Type 0
TaskIsSound task plan = PlanIsSound task.normal task.accesses (task_start task) plan

sound_tasks : (accesses : List Access) (tasks : List BlockTask) (plans : List Derivation) → ((task : BlockTask) → Has tasks task → task.accesses ≡ accesses)
    → AllZip TaskIsSound tasks plans → Numbered (SoundAt accesses (map is_guided_task tasks) plans) 0 (map (λ task. task.normal) tasks)
sound_tasks accesses [] [] same h = tt
sound_tasks accesses [] (plan ∷ plans) same h = absurd h
sound_tasks accesses (task ∷ tasks) [] same h = absurd h
sound_tasks accesses (task ∷ tasks) (plan ∷ plans) same h = (
  subst (λ a. PlanIsSound task.normal a (task_start task) plan) (same task (inl refl)) h.0,
  numbered-shift (SoundAt accesses (map is_guided_task tasks) plans) (SoundAt accesses (map is_guided_task (task ∷ tasks)) (plan ∷ plans))
      (λ k normal sound. subst (λ m. SoundAt accesses (map is_guided_task (task ∷ tasks)) (plan ∷ plans) m normal) (next k) sound)
      0 (map (λ u. u.normal) tasks) (sound_tasks accesses tasks plans (λ u m. same u (inr m)) h.1),
)

-- where all blocks may use the same constraints, sound derivations of the tasks are sound derivations of the query
pub plans_are_sound : (constraints : ℕ → List Access) (accesses : List Access) → ((k : ℕ) → constraints k ≡ accesses) → (t : QueryTree) (plans : List Derivation)
    → AllZip TaskIsSound (block_tasks constraints t) plans
    → PlansAreSound accesses (map is_guided_task (block_tasks constraints t)) plans 0 t
plans_are_sound constraints accesses same t plans h =
    let tasks = block_tasks constraints t in
    tree_is_sound accesses (map is_guided_task tasks) plans 0 t (subst (Numbered (SoundAt accesses (map is_guided_task tasks) plans) 0)
    (task_normals constraints 0 false t) (sound_tasks accesses tasks plans (task_accesses constraints accesses same 0 false t) h))

guided_tasks : (tasks : List BlockTask) → Numbered (OnlyAt (map is_guided_task tasks)) 0 (map (λ task. task.has_guide) tasks)
guided_tasks [] = tt
guided_tasks (task ∷ tasks) = (
  λ e. and_left task.has_guide (not (own_is_covered task.normal task.accesses)) e,
  numbered-shift (OnlyAt (map is_guided_task tasks)) (OnlyAt (map is_guided_task (task ∷ tasks)))
      (λ k has only. subst (λ m. OnlyAt (map is_guided_task (task ∷ tasks)) m has) (next k) only) 0
      (map (λ u. u.has_guide) tasks) (guided_tasks tasks),
)

-- a task is guided only where it has a guide
pub guided_only_with_guide : (constraints : ℕ → List Access) (t : QueryTree) → GuidedOnlyWithGuide (map is_guided_task (block_tasks constraints t)) 0 false t
guided_only_with_guide constraints t =
    let tasks = block_tasks constraints t in
    tree_is_guided (map is_guided_task tasks) 0 false t
    (subst (Numbered (OnlyAt (map is_guided_task tasks)) 0) (task_guides constraints 0 false t) (guided_tasks tasks))
