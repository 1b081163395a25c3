-- What a query answers, probes and reads, and whether it fits, depends on the constraints of its derivations and on the rows of its tables alone.
use Rattle.std.proofs.Common.{◌≡◌, ◌==◌, ◌+◌, ◌*◌, ◌<◌, ℕ, zero, suc, Bool, true, cond, nat_lt, List, [], ◌∷◌, ◌++◌, length, map, get_or, sum_by, Some, refl, ap, sym, ◌∙◌, subst, arith}
use Rattle.std.specs.List.{All}
use Rattle.std.proofs.lemmas.Bool.{eqb-true, ltb-true}
use Rattle.std.proofs.lemmas.List.Elements.{All-head, All-tail, All-nil, All-contains, All-from_recursion}
use Rattle.std.proofs.lemmas.List.Sums.{sum_by-append}
use Rattle.beas_core.specs.declared.schema.TableId.{TableId}
use Rattle.beas_core.specs.declared.schema.Access.{Access}
use Rattle.beas_core.specs.declared.query.Atom.{Atom}
use Rattle.beas_core.specs.declared.query.Block.{Block}
use Rattle.beas_core.specs.declared.plan.DStep.{DStep}
use Rattle.beas_core.specs.declared.plan.Normal.{Normal}
use Rattle.beas_core.specs.declared.plan.Derivation.{Derivation}
use Rattle.beas_core.specs.declared.plan.Prepared.{Prepared}
use Rattle.beas_core.specs.Types.{TableRows, ClassSet, Guide}
use Rattle.beas_core.specs.Full.{set_union, set_difference}
use Rattle.beas_core.specs.Trees.{QueryTree, Single, Either, Minus, blocks_of}
use Rattle.beas_core.specs.Shapes.{AccessIsWellFormed, width_of}
use Rattle.beas_core.specs.Classes.{normal_of}
use Rattle.beas_core.specs.Coverage.{start_classes}
use Rattle.beas_core.specs.Derivations.{access_in, is_live, table_of, is_on_table}
use Rattle.beas_core.specs.Numbers.{announced_from, last_size, size_after}
use Rattle.beas_core.specs.Guiding.{after}
use Rattle.beas_core.specs.Queries.{is_guided, plan_of, guide_of, inside, answers, start_size, size_of, announced_in, probes_in, reads_at, reads_in}
use Rattle.beas_core.specs.Fits.{RowsHaveWidth, PlanIsSound, PlansAreSound, Fits, KeepsConstraints, KeepsRows}
use Rattle.beas_core.proofs.Sets.{Has, Has-append_left, Has-append_right, all_from, Contains-from_has}
use Rattle.beas_core.specs.Agreement.{SameStep, SameSteps}
use Rattle.beas_core.proofs.MemberTests.{and_left, and_right, all_has}
use Rattle.beas_core.proofs.SoundParts.{sound_parts}
use Rattle.beas_core.proofs.MoreAccesses.{Agree, agreeing_sound}
use Rattle.beas_core.proofs.AgreementFacts.{probes-agree, reads-agree, block-agrees}
use Rattle.beas_core.proofs.TaskFacts.{plan_at}
use Rattle.beas_core.proofs.QueryBounds.{block_reads_are}

-- the atoms' tables have the same rows
abbrev IsKept : TableRows → TableRows → Block → Type 0
IsKept old new block = All (λ a. new a.table ≡ old a.table) block.atoms

-- the rows of an atom's table, by the atom's number
rows_at : (old new : TableRows) (atoms : List Atom) (k : ℕ) (none : TableId) → k < length atoms → All (λ (a : Atom). new a.table ≡ old a.table) atoms
    → new (get_or (map (λ a. a.table) atoms) k none) ≡ old (get_or (map (λ a. a.table) atoms) k none)
rows_at old new [] k none l same = absurd (omega (arith, l))
rows_at old new (a ∷ atoms) zero none l same = All-head (λ (a : Atom). new a.table ≡ old a.table) a atoms same
rows_at old new (a ∷ atoms) (suc k) none l same =
    rows_at old new atoms k none (omega (arith, l)) (All-tail (λ (a : Atom). new a.table ≡ old a.table) a atoms same)

-- those of two trees are kept where those of both are
rows_left : (old new : TableRows) (l r : QueryTree) → All (IsKept old new) (blocks_of l ++ blocks_of r)
    → KeepsRows old new l
rows_left old new l r kept =
    All-from_recursion (IsKept old new) (blocks_of l) (all_from (IsKept old new) (blocks_of l) (λ b m. All-contains (IsKept old new) (blocks_of l ++ blocks_of r) b kept
    (Contains-from_has (blocks_of l ++ blocks_of r) b (Has-append_left (blocks_of l) (blocks_of r) b m))))

rows_right : (old new : TableRows) (l r : QueryTree) → All (IsKept old new) (blocks_of l ++ blocks_of r)
    → KeepsRows old new r
rows_right old new l r kept =
    All-from_recursion (IsKept old new) (blocks_of r) (all_from (IsKept old new) (blocks_of r) (λ b m. All-contains (IsKept old new) (blocks_of l ++ blocks_of r) b kept
    (Contains-from_has (blocks_of l ++ blocks_of r) b (Has-append_right (blocks_of l) (blocks_of r) b m))))

pub rows_kept : (rows : TableRows) (t : QueryTree) → KeepsRows rows rows t
rows_kept rows t = All-from_recursion (IsKept rows rows) (blocks_of t) (all_from (IsKept rows rows) (blocks_of t) (λ block m.
    All-from_recursion (λ (a : Atom). rows a.table ≡ rows a.table) block.atoms (all_from (λ (a : Atom). rows a.table ≡ rows a.table) block.atoms (λ a k. refl))))

-- ---- over other rows

module _ (old new : TableRows) (guided : List Bool) where
  pub answers_stay : (n : ℕ) (guide : Guide) (t : QueryTree) → KeepsRows old new t → answers new guided n guide t ≡ answers old guided n guide t
  answers_stay n guide (Single block) kept = ap (inside (guide_of guided n guide))
      (block-agrees old new block (All-head (IsKept old new) block [] kept))
  answers_stay n guide (Either l r) kept =
      ap (λ found. set_union found (answers new guided (after n l) guide r)) (answers_stay n guide l (rows_left old new l r kept))
      ∙ ap (set_union (answers old guided n guide l)) (answers_stay (after n l) guide r (rows_right old new l r kept))
  answers_stay n guide (Minus l r) kept =
      ap (λ found. set_difference found (answers new guided (after n l) (Some found) r)) (answers_stay n guide l (rows_left old new l r kept))
      ∙ ap (set_difference (answers old guided n guide l))
      (answers_stay (after n l) (Some (answers old guided n guide l)) r (rows_right old new l r kept))

-- ---- over other constraints

-- the step's constraint is live in the other list, and the same
abbrev IsKeptIn : List Access → List Access → DStep → Type 0
IsKeptIn few many s = (is_live many s.access ≡ true) × (access_in many s.access ≡ access_in few s.access)

module _ (few many : List Access) where
  abbrev Steps : List DStep → Type 0
  Steps steps = All (IsKeptIn few many) steps

  size_after-kept : (s : DStep) (b : ℕ) → IsKeptIn few many s → size_after many b s ≡ size_after few b s
  size_after-kept s b kept = ap (λ (a : Access). cond s.adds (b * a.bound) b) kept.1

  last_size-kept : (steps : List DStep) (b : ℕ) → Steps steps → last_size many b steps ≡ last_size few b steps
  last_size-kept [] b kept = refl
  last_size-kept (s ∷ steps) b kept =
      last_size-kept steps (size_after many b s) (All-tail (IsKeptIn few many) s steps kept)
      ∙ ap (λ n. last_size few n steps) (size_after-kept s b (All-head (IsKeptIn few many) s steps kept))

  announced-kept : (steps : List DStep) (b : ℕ) → Steps steps → announced_from many b steps ≡ announced_from few b steps
  announced-kept [] b kept = refl
  announced-kept (s ∷ steps) b kept =
      let here = All-head (IsKeptIn few many) s steps kept in
      let later = announced-kept steps (size_after many b s) (All-tail (IsKeptIn few many) s steps kept) in
      ap (λ (a : Access). b * a.bound + announced_from many (size_after many b s) steps) here.1
      ∙ ap (λ n. b * (access_in few s.access).bound + n) (later ∙ ap (λ n. announced_from few n steps) (size_after-kept s b here))

  kept_agree : (normal : Normal) (steps : List DStep) → Steps steps → Agree normal few many steps
  kept_agree normal steps kept s m = (All-contains (IsKeptIn few many) steps s kept (Contains-from_has steps s m)).1

  plan_stays : (normal : Normal) (start : ClassSet) (plan : Derivation) → Steps plan.steps → PlanIsSound normal few start plan → PlanIsSound normal many start plan
  plan_stays normal start plan kept sound =
      let formed : List Access → DStep → Type 0 = λ accesses s. AccessIsWellFormed (width_of normal.atoms s.atom) (access_in accesses s.access) in
      let each : (s : DStep) → Has plan.steps s → IsKeptIn few many s = λ s m. All-contains (IsKeptIn few many) plan.steps s kept (Contains-from_has plan.steps s m) in
      record {
        sound = agreeing_sound normal few many start plan.steps (kept_agree normal plan.steps kept)
            (All-from_recursion (λ s. is_live many s.access ≡ true) plan.steps (all_from (λ s. is_live many s.access ≡ true) plan.steps (λ s m. (each s m).0)))
            sound.sound;
        well_formed = All-from_recursion (formed many) plan.steps (all_from (formed many) plan.steps (λ s m.
            subst (AccessIsWellFormed (width_of normal.atoms s.atom)) (sym (each s m).1)
            (All-contains (formed few) plan.steps s sound.well_formed (Contains-from_has plan.steps s m))));
      }

  module _ (guided : List Bool) (plans : List Derivation) (keeps : KeepsConstraints few many plans) where
    kept_at : (n : ℕ) → Steps (plan_of plans n).steps
    kept_at n = plan_at (λ plan. Steps plan.steps) plans (All-nil (IsKeptIn few many)) keeps n

    size_stays : (n b : ℕ) (t : QueryTree) → size_of many guided plans n b t ≡ size_of few guided plans n b t
    size_stays n b (Single block) = last_size-kept (plan_of plans n).steps (start_size guided n b) (kept_at n)
    size_stays n b (Either l r) =
        ap (λ s. s + size_of many guided plans (after n l) b r) (size_stays n b l)
        ∙ ap (λ s. size_of few guided plans n b l + s) (size_stays (after n l) b r)
    size_stays n b (Minus l r) = size_stays n b l

    pub announced_stays : (n b : ℕ) (t : QueryTree) → announced_in many guided plans n b t ≡ announced_in few guided plans n b t
    announced_stays n b (Single block) = announced-kept (plan_of plans n).steps (start_size guided n b) (kept_at n)
    announced_stays n b (Either l r) =
        ap (λ s. s + announced_in many guided plans (after n l) b r) (announced_stays n b l)
        ∙ ap (λ s. announced_in few guided plans n b l + s) (announced_stays (after n l) b r)
    announced_stays n b (Minus l r) =
        ap (λ s. s + announced_in many guided plans (after n l) (size_of many guided plans n b l) r) (announced_stays n b l)
        ∙ ap (λ s. announced_in few guided plans n b l + announced_in many guided plans (after n l) s r) (size_stays n b l)
        ∙ ap (λ s. announced_in few guided plans n b l + s) (announced_stays (after n l) (size_of few guided plans n b l) r)

    plans_stay : (n : ℕ) (t : QueryTree) → PlansAreSound few guided plans n t → PlansAreSound many guided plans n t
    plans_stay n (Single block) sound =
        plan_stays (normal_of block) (start_classes (normal_of block) (is_guided guided n)) (plan_of plans n) (kept_at n) sound
    plans_stay n (Either l r) sound = (plans_stay n l sound.0, plans_stay (after n l) r sound.1)
    plans_stay n (Minus l r) sound = (plans_stay n l sound.0, plans_stay (after n l) r sound.1)

    -- ---- over other constraints and rows
    module _ (old new : TableRows) where
      same_step : (n : ℕ) (block : Block)
          → PlanIsSound (normal_of block) few (start_classes (normal_of block) (is_guided guided n)) (plan_of plans n)
          → All (λ a. new a.table ≡ old a.table) block.atoms → (s : DStep) → Has (plan_of plans n).steps s → SameStep (normal_of block) few many old new s
      unfolding normal_of
      same_step n block sound kept s m =
          let steps = (plan_of plans n).steps in
          let start = start_classes (normal_of block) (is_guided guided n) in
          let parts = sound_parts (normal_of block) few start steps sound.sound.sound in
          let on = all_has (is_on_table (normal_of block) few) steps s parts.each.tables m in
          let below = ltb-true s.atom (length block.atoms)
          (and_left (nat_lt s.atom (length block.atoms)) ((table_of (normal_of block) s.atom).0 == (access_in few s.access).table.0) on) in
          let number = eqb-true (table_of (normal_of block) s.atom).0 (access_in few s.access).table.0
          (and_right (nat_lt s.atom (length block.atoms)) ((table_of (normal_of block) s.atom).0 == (access_in few s.access).table.0) on) in
          let made : ℕ → TableId = λ k. record { 0 = k } in
          let table : table_of (normal_of block) s.atom ≡ (access_in few s.access).table = ap made number in
          let here = rows_at old new block.atoms s.atom (record { 0 = 0 }) below kept in
          record {
            access = kept_agree (normal_of block) steps (kept_at n) s m;
            rows = here;
            group_rows = subst (λ id. new id ≡ old id) table here;
          }

      same_steps : (n : ℕ) (block : Block)
          → PlanIsSound (normal_of block) few (start_classes (normal_of block) (is_guided guided n)) (plan_of plans n)
          → KeepsRows old new (Single block) → SameSteps (normal_of block) few many old new (plan_of plans n).steps
      same_steps n block sound kept =
          let Same = SameStep (normal_of block) few many old new in
          All-from_recursion Same (plan_of plans n).steps (all_from Same (plan_of plans n).steps
          (same_step n block sound (All-head (IsKept old new) block [] kept)))

      pub probes_stay : (n : ℕ) (guide : Guide) (t : QueryTree) → PlansAreSound few guided plans n t → KeepsRows old new t
          → probes_in new many guided plans n guide t ≡ probes_in old few guided plans n guide t
      probes_stay n guide (Single block) sound kept =
          ap (map (λ p. record { block = n; probe = p }))
          (probes-agree (normal_of block) few many old new (guide_of guided n guide) (plan_of plans n).steps (same_steps n block sound kept))
      probes_stay n guide (Either l r) sound kept =
          ap (λ ps. ps ++ probes_in new many guided plans (after n l) guide r) (probes_stay n guide l sound.0 (rows_left old new l r kept))
          ∙ ap (λ ps. probes_in old few guided plans n guide l ++ ps) (probes_stay (after n l) guide r sound.1 (rows_right old new l r kept))
      probes_stay n guide (Minus l r) sound kept =
          ap (λ ps. ps ++ probes_in new many guided plans (after n l) (Some (answers new guided n guide l)) r)
          (probes_stay n guide l sound.0 (rows_left old new l r kept))
          ∙ ap (λ found. probes_in old few guided plans n guide l ++ probes_in new many guided plans (after n l) (Some found) r)
          (answers_stay old new guided n guide l (rows_left old new l r kept))
          ∙ ap (λ ps. probes_in old few guided plans n guide l ++ ps)
          (probes_stay (after n l) (Some (answers old guided n guide l)) r sound.1 (rows_right old new l r kept))

      pub reads_stay : (n : ℕ) (guide : Guide) (t : QueryTree) → PlansAreSound few guided plans n t → KeepsRows old new t
          → reads_in new many guided plans n guide t ≡ reads_in old few guided plans n guide t
      reads_stay n guide (Single block) sound kept =
          block_reads_are new many guided plans n guide block
          ∙ reads-agree (normal_of block) few many old new (guide_of guided n guide) (plan_of plans n).steps (same_steps n block sound kept)
          ∙ sym (block_reads_are old few guided plans n guide block)
      reads_stay n guide (Either l r) sound kept =
          let left = reads_stay n guide l sound.0 (rows_left old new l r kept) in
          let right = reads_stay (after n l) guide r sound.1 (rows_right old new l r kept) in
          let before = sum_by-append (reads_at old few plans) (probes_in old few guided plans n guide l) (probes_in old few guided plans (after n l) guide r) in
          let now = sum_by-append (reads_at new many plans) (probes_in new many guided plans n guide l) (probes_in new many guided plans (after n l) guide r) in
          omega (arith, left, right, before, now)
      reads_stay n guide (Minus l r) sound kept =
          let left = reads_stay n guide l sound.0 (rows_left old new l r kept) in
          let found = answers old guided n guide l in
          let same = answers_stay old new guided n guide l (rows_left old new l r kept) in
          let right = reads_stay (after n l) (Some found) r sound.1 (rows_right old new l r kept) in
          let before = sum_by-append (reads_at old few plans) (probes_in old few guided plans n guide l)
          (probes_in old few guided plans (after n l) (Some found) r) in
          let now = sum_by-append (reads_at new many plans) (probes_in new many guided plans n guide l)
          (probes_in new many guided plans (after n l) (Some found) r) in
          ap (λ rows. sum_by (reads_at new many plans) (probes_in new many guided plans n guide l ++ probes_in new many guided plans (after n l) (Some rows) r)) same
          ∙ omega (arith, left, right, before, now)

-- ---- of a prepared query

widths_stay : (old new : TableRows) (block : Block) → IsKept old new block → RowsHaveWidth old block → RowsHaveWidth new block
widths_stay old new block same wide =
    let Wide : TableRows → Atom → Type 0 = λ rows a. All (λ row. length row ≡ a.width) (rows a.table) in
    All-from_recursion (Wide new) block.atoms (all_from (Wide new) block.atoms (λ a m.
    subst (All (λ row. length row ≡ a.width))
    (sym (All-contains (λ (x : Atom). new x.table ≡ old x.table) block.atoms a same (Contains-from_has block.atoms a m)))
    (All-contains (Wide old) block.atoms a wide (Contains-from_has block.atoms a m))))

pub stays_fit : (few many : List Access) (old new : TableRows) (prepared : Prepared) → KeepsConstraints few many prepared.derivations
    → KeepsRows old new prepared.query → Fits few old prepared → Fits many new prepared
stays_fit few many old new prepared keeps kept fits =
    let blocks = blocks_of prepared.query in
    record {
      plan = record {
        well_formed = fits.plan.well_formed;
        plans = plans_stay few many prepared.guided prepared.derivations keeps 0 prepared.query fits.plan.plans;
        bound = fits.plan.bound ∙ sym (announced_stays few many prepared.guided prepared.derivations keeps 0 1 prepared.query);
      };
      widths = All-from_recursion (RowsHaveWidth new) blocks (all_from (RowsHaveWidth new) blocks (λ b m.
          widths_stay old new b (All-contains (IsKept old new) blocks b kept (Contains-from_has blocks b m))
          (All-contains (RowsHaveWidth old) blocks b fits.widths (Contains-from_has blocks b m))));
    }
