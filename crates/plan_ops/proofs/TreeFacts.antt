-- A tree of a query's blocks: its parts, its blocks by number, and what it answers.
use Rattle.std.proofs.Common.{◌≡◌, ◌+◌, ◌≤◌, ◌<◌, ◌^◌, ℕ, Bool, List, [], ◌∷◌, ◌++◌, length, map, get_or, Some, None, inl, refl, ap, sym, ◌∙◌, subst, arith, append_assoc, length-append}
use Rattle.std.specs.List.{All}
use Rattle.std.specs.Option.{is_some}
use Rattle.std.proofs.lemmas.List.{length-map, map-append, append-nil, get_or_default}
use Rattle.std.proofs.lemmas.List.Sums.{sum_by-append}
use Rattle.std.proofs.lemmas.List.Elements.{All-contains}
use Rattle.std.proofs.Math.Seq.{get_or-append_seam}
use Rattle.beas_core.specs.declared.schema.Access.{Access}
use Rattle.beas_core.specs.declared.query.Block.{Block}
use Rattle.beas_core.specs.declared.plan.DStep.{DStep}
use Rattle.beas_core.specs.declared.plan.Normal.{Normal}
use Rattle.beas_core.specs.declared.plan.Derivation.{Derivation}
use Rattle.beas_core.specs.declared.plan.Prepared.{Prepared}
use Rattle.beas_core.specs.Types.{TableRows, Guide}
use Rattle.beas_core.specs.Trees.{QueryTree, Single, Either, Minus, blocks_of}
use Rattle.beas_core.specs.Classes.{normal_of}
use Rattle.beas_core.specs.Shapes.{BlockIsWellFormed}
use Rattle.beas_core.specs.Coverage.{ClassesInRange, ConstantsInRange, start_classes}
use Rattle.beas_core.specs.Derivations.{IsSound}
use Rattle.beas_core.specs.Numbers.{announced_from}
use Rattle.beas_core.specs.Valuations.{starts, answers_of}
use Rattle.beas_core.specs.Reads.{reads_of}
use Rattle.beas_core.specs.Fits.{StepsHold, Fits, GuidedOnlyWithGuide, PlansAreSound}
use Rattle.beas_core.specs.Guiding.{after}
use Rattle.beas_core.specs.Queries.{plan_of, guide_of, answers, start_size, size_of, announced_in, probes_in, reads_at, reads_in}
use Rattle.beas_core.proofs.Sets.{Has-append_left, Has-append_right, Has-from_contains}
use Rattle.beas_core.specs.Guides.{GuideFits}
use Rattle.beas_core.proofs.ClassFacts.{classes_in_range, constants_in_range}
use Rattle.beas_core.proofs.QueryBounds.{Shaped, Guides, fits, started, block_answers, block_reads_are, wide_answers, few, shaped_query}
use Rattle.beas_core.proofs.SizeFacts.{announced_from_more}
use Rattle.beas_core.proofs.TaskFacts.{plan_at}
use Rattle.plan_ops.specs.Asked.{TreeFits}
use Rattle.plan_ops.specs.Held.{StepHolds, PlanHolds}

-- every derivation's constraints hold, where they do in the list
pub all_hold : (rows : TableRows) (accesses : List Access) (plans : List Derivation) → All (PlanHolds rows accesses) plans
    → (n : ℕ) → StepsHold rows accesses (plan_of plans n).steps
all_hold rows accesses plans held = plan_at (λ (plan : Derivation). StepsHold rows accesses plan.steps) plans (λ s none. absurd (Has-from_contains [] s none))
    (λ i d l s m. (let h = All-contains (StepHolds rows accesses) (get_or plans i d).steps s (held i d l).steps m in (h.holds, h.bound)))

-- a number read off a list that has it, at any default
pub at_number : {A : Type 0} (xs : List A) (n : ℕ) (x d : A) → n < length xs → x ≡ get_or xs n x → x ≡ get_or xs n d
at_number xs n x d l is = is ∙ get_or_default xs n x d l

module _ (rows : TableRows) (accesses : List Access) (prepared : Prepared)
    (hold : (n : ℕ) → StepsHold rows accesses (plan_of prepared.derivations n).steps) where
  abbrev plans : List Derivation
  plans = prepared.derivations

  abbrev guided : List Bool
  guided = prepared.guided

  -- ---- a block

  module _ (n : ℕ) (guide : Guide) (block : Block) (reads : ℕ) (h : TreeFits accesses prepared n guide (Single block) reads) where
    pub block_stands : n < length prepared.normals
    block_stands =
        let e = ap length h.stands ∙ length-append h.before (normal_of block ∷ h.later) in
        let k = h.number in
        omega (arith, e, k)

    pub block_plan : n < length prepared.derivations
    block_plan = let e = h.derivations in let l = block_stands in omega (arith, e, l)

    pub block_flag : n < length prepared.guided
    block_flag = let e = h.flags in let l = block_stands in omega (arith, e, l)

    pub block_normal : (normal : Normal) → normal ≡ get_or prepared.normals n normal → normal ≡ normal_of block
    block_normal normal is = is ∙ ap (λ ns. get_or ns n normal) h.stands
        ∙ ap (λ k. get_or (h.before ++ normal_of block ∷ h.later) k normal) (sym h.number)
        ∙ get_or-append_seam h.before (normal_of block) h.later normal

    shape : BlockIsWellFormed block
    shape = (h.shaped block (inl refl)).0

    wide : length block.output ≡ h.width
    wide = (h.shaped block (inl refl)).1

    module _ (normal : Normal) (is : normal ≡ normal_of block) (steps : List DStep) (steps_are : steps ≡ (plan_of plans n).steps) (own : Guide)
        (own_is : own ≡ guide_of guided n guide) where
      pub block_classes : ClassesInRange normal
      block_classes = subst ClassesInRange (sym is) (classes_in_range block shape)

      pub block_constants : ConstantsInRange normal
      block_constants = subst ConstantsInRange (sym is) (constants_in_range block shape)

      both : GuideFits (normal_of block) (guide_of guided n guide)
          × (length (starts (normal_of block) (guide_of guided n guide)) ≤ start_size guided n h.most)
      both = fits rows accesses guided plans hold n h.most h.width guide block shape wide h.guides h.sound h.guided

      pub block_fits : GuideFits normal own
      block_fits = subst (λ m. GuideFits m own) (sym is) (subst (GuideFits (normal_of block)) (sym own_is) both.0)

      pub block_sound : IsSound normal accesses (start_classes normal (is_some own)) steps
      block_sound =
          let all = started rows accesses guided plans hold n h.most h.width guide block shape wide h.guides h.sound h.guided in
          let a = subst (λ g. IsSound (normal_of block) accesses (start_classes (normal_of block) (is_some g)) (plan_of plans n).steps) (sym own_is) all in
          let b = subst (λ m. IsSound m accesses (start_classes m (is_some own)) (plan_of plans n).steps) (sym is) a in
          subst (IsSound normal accesses (start_classes normal (is_some own))) (sym steps_are) b

      pub block_holds : StepsHold rows accesses steps
      block_holds = subst (StepsHold rows accesses) (sym steps_are) (hold n)

      pub block_room : reads + announced_from accesses (length (starts normal own)) steps < 2 ^ 128
      block_room =
          let same = ap (λ m. length (starts m own)) is ∙ ap (λ g. length (starts (normal_of block) g)) own_is in
          let few_starts = subst (λ k. k ≤ start_size guided n h.most) (sym same) both.1 in
          let more = announced_from_more accesses steps (length (starts normal own)) (start_size guided n h.most) few_starts in
          let moved = ap (announced_from accesses (start_size guided n h.most)) steps_are in
          let room = h.room in
          omega (arith, more, moved, room)

      pub block_rows : answers_of rows normal accesses own steps ≡ answers rows guided n guide (Single block)
      block_rows = ap (λ m. answers_of rows m accesses own steps) is ∙ ap (λ g. answers_of rows (normal_of block) accesses g steps) own_is
          ∙ ap (answers_of rows (normal_of block) accesses (guide_of guided n guide)) steps_are
          ∙ block_answers rows accesses guided plans hold n h.most h.width guide block shape wide h.guides h.sound h.guided

      pub block_reads : reads_of rows normal accesses own steps ≡ reads_in rows accesses guided plans n guide (Single block)
      block_reads = ap (λ m. reads_of rows m accesses own steps) is ∙ ap (λ g. reads_of rows (normal_of block) accesses g steps) own_is
          ∙ ap (reads_of rows (normal_of block) accesses (guide_of guided n guide)) steps_are
          ∙ sym (block_reads_are rows accesses guided plans n guide block)

    -- what is known of its answer
    pub record BlockIs (normal : Normal) (steps : List DStep) (own : Guide) : Type 0 where
      pub classes : ClassesInRange normal
      pub constants : ConstantsInRange normal
      pub fits : GuideFits normal own
      pub sound : IsSound normal accesses (start_classes normal (is_some own)) steps
      pub holds : StepsHold rows accesses steps
      pub room : reads + announced_from accesses (length (starts normal own)) steps < 2 ^ 128
      pub rows_are : answers_of rows normal accesses own steps ≡ answers rows guided n guide (Single block)
      pub reads_are : reads_of rows normal accesses own steps ≡ reads_in rows accesses guided plans n guide (Single block)

    pub block_is : (normal : Normal) → normal ≡ get_or prepared.normals n normal → (plan : Derivation) → plan ≡ get_or plans n plan
        → (steps : List DStep) → steps ≡ plan.steps → (own : Guide) → own ≡ guide_of guided n guide → BlockIs normal steps own
    block_is normal stands plan found steps of_plan own own_is =
        let is = block_normal normal stands in
        let steps_are = of_plan ∙ ap (λ (p : Derivation). p.steps) (at_number plans n plan (record { steps = [] }) block_plan found) in record {
          classes = block_classes normal is steps steps_are own own_is;
          constants = block_constants normal is steps steps_are own own_is;
          fits = block_fits normal is steps steps_are own own_is;
          sound = block_sound normal is steps steps_are own own_is;
          holds = block_holds normal is steps steps_are own own_is;
          room = block_room normal is steps steps_are own own_is;
          rows_are = block_rows normal is steps steps_are own own_is;
          reads_are = block_reads normal is steps steps_are own own_is;
        }

  -- ---- the parts of UNION and of EXCEPT

  module _ (n : ℕ) (guide : Guide) (l r : QueryTree) where
    left_shaped : (width : ℕ) → Shaped width (Either l r) → Shaped width l
    left_shaped width shaped b m = shaped b (Has-append_left (blocks_of l) (blocks_of r) b m)

    right_shaped : (width : ℕ) → Shaped width (Either l r) → Shaped width r
    right_shaped width shaped b m = shaped b (Has-append_right (blocks_of l) (blocks_of r) b m)

    parts : (before later : List Normal) → prepared.normals ≡ before ++ (map normal_of (blocks_of l ++ blocks_of r) ++ later)
        → prepared.normals ≡ before ++ (map normal_of (blocks_of l) ++ (map normal_of (blocks_of r) ++ later))
    parts before later e = e ∙ ap (λ ns. before ++ (ns ++ later)) (map-append normal_of (blocks_of l) (blocks_of r))
        ∙ ap (λ ns. before ++ ns) (append_assoc (map normal_of (blocks_of l)) (map normal_of (blocks_of r)) later)

    moved : (before : List Normal) → length before ≡ n → length (before ++ map normal_of (blocks_of l)) ≡ after n l
    moved before e = length-append before (map normal_of (blocks_of l)) ∙ ap (λ k. length before + k) (length-map (blocks_of l) normal_of)
        ∙ ap (λ k. k + length (blocks_of l)) e

    module _ (reads : ℕ) where
      -- the left part of a tree whose blocks are those of l and then those of r
      left_of : (t : QueryTree) (h : TreeFits accesses prepared n guide t reads)
          → prepared.normals ≡ h.before ++ (map normal_of (blocks_of l ++ blocks_of r) ++ h.later) → Shaped h.width (Either l r)
          → PlansAreSound accesses guided plans n l → GuidedOnlyWithGuide guided n (is_some guide) l
          → reads + announced_in accesses guided plans n h.most l < 2 ^ 128 → TreeFits accesses prepared n guide l reads
      left_of t h stands shaped sound flagged room = record {
        before = h.before;
        later = map normal_of (blocks_of r) ++ h.later;
        stands = parts h.before h.later stands;
        number = h.number;
        derivations = h.derivations;
        flags = h.flags;
        width = h.width;
        shaped = left_shaped h.width shaped;
        most = h.most;
        guides = h.guides;
        sound = sound;
        guided = flagged;
        room = room;
      }

      pub union_left : TreeFits accesses prepared n guide (Either l r) reads → TreeFits accesses prepared n guide l reads
      union_left h = let room = h.room in left_of (Either l r) h h.stands h.shaped h.sound.0 h.guided.0 (omega (arith, room))

      pub except_left : TreeFits accesses prepared n guide (Minus l r) reads → TreeFits accesses prepared n guide l reads
      except_left h = let room = h.room in left_of (Minus l r) h h.stands h.shaped h.sound.0 h.guided.0 (omega (arith, room))

      module _ (next : ℕ) (next_is : next ≡ after n l) (now : ℕ) (now_is : now ≡ reads + reads_in rows accesses guided plans n guide l) where
        -- the right part, guided by rows of which there are no more than most
        right_of : (t : QueryTree) (h : TreeFits accesses prepared n guide t reads) (own : Guide) (most : ℕ)
            → prepared.normals ≡ h.before ++ (map normal_of (blocks_of l ++ blocks_of r) ++ h.later) → Shaped h.width (Either l r)
            → Guides h.width most own → PlansAreSound accesses guided plans (after n l) r → GuidedOnlyWithGuide guided (after n l) (is_some own) r
            → now + announced_in accesses guided plans (after n l) most r < 2 ^ 128 → TreeFits accesses prepared next own r now
        right_of t h own most stands shaped guides sound flagged room = subst (λ k. TreeFits accesses prepared k own r now) (sym next_is) (record {
          before = h.before ++ map normal_of (blocks_of l);
          later = h.later;
          stands = parts h.before h.later stands ∙ sym (append_assoc h.before (map normal_of (blocks_of l)) (map normal_of (blocks_of r) ++ h.later));
          number = moved h.before h.number;
          derivations = h.derivations;
          flags = h.flags;
          width = h.width;
          shaped = right_shaped h.width shaped;
          most = most;
          guides = guides;
          sound = sound;
          guided = flagged;
          room = room;
        })

        pub union_right : TreeFits accesses prepared n guide (Either l r) reads → TreeFits accesses prepared next guide r now
        union_right h =
            let left = few rows accesses guided plans hold h.width n h.most guide l (left_shaped h.width h.shaped) h.guides h.sound.0 h.guided.0 in
            let room = h.room in
            right_of (Either l r) h guide h.most h.stands h.shaped h.guides h.sound.1 h.guided.1 (omega (arith, left.1, room, now_is))

        pub except_right : TreeFits accesses prepared n guide (Minus l r) reads
            → TreeFits accesses prepared next (Some (answers rows guided n guide l)) r now
        except_right h =
            let shaped = left_shaped h.width h.shaped in
            let left = few rows accesses guided plans hold h.width n h.most guide l shaped h.guides h.sound.0 h.guided.0 in
            let room = h.room in
            right_of (Minus l r) h (Some (answers rows guided n guide l)) (size_of accesses guided plans n h.most l) h.stands h.shaped
            (wide_answers rows accesses guided plans hold h.width n guide l shaped, left.0) h.sound.1 h.guided.1 (omega (arith, left.1, room, now_is))

    pub union_reads : reads_in rows accesses guided plans n guide (Either l r)
        ≡ reads_in rows accesses guided plans n guide l + reads_in rows accesses guided plans (after n l) guide r
    union_reads = sum_by-append (reads_at rows accesses plans) (probes_in rows accesses guided plans n guide l)
        (probes_in rows accesses guided plans (after n l) guide r)

    pub except_reads : reads_in rows accesses guided plans n guide (Minus l r)
        ≡ reads_in rows accesses guided plans n guide l
        + reads_in rows accesses guided plans (after n l) (Some (answers rows guided n guide l)) r
    except_reads = sum_by-append (reads_at rows accesses plans) (probes_in rows accesses guided plans n guide l)
        (probes_in rows accesses guided plans (after n l) (Some (answers rows guided n guide l)) r)

    pub after_both : (next last : ℕ) → next ≡ after n l → last ≡ after next r → last ≡ n + length (blocks_of l ++ blocks_of r)
    after_both next last e d =
        let a = length-append (blocks_of l) (blocks_of r) in
        omega (arith, e, d, a)

-- ---- a query as a whole

pub whole_fits : (rows : TableRows) (accesses : List Access) (prepared : Prepared) → Fits accesses rows prepared → prepared.bound < 2 ^ 128
    → TreeFits accesses prepared 0 None prepared.query 0
whole_fits rows accesses prepared h small =
    let formed = h.plan.well_formed in
    let shaped = shaped_query prepared.query formed.query in
    let bound = h.plan.bound in record {
      before = [];
      later = [];
      stands = formed.normals ∙ sym (append-nil (map normal_of (blocks_of prepared.query)));
      number = refl;
      derivations = formed.derivations;
      flags = formed.flags;
      width = shaped.0;
      shaped = shaped.1;
      most = 1;
      guides = omega arith;
      sound = h.plan.plans;
      guided = formed.guided;
      room = omega (arith, bound, small);
    }
