-- The reads of a query are at most what is announced_in, and its answers at most its size.
use Rattle.std.proofs.Common.{◌≡◌, ◌≤◌, ℕ, Bool, true, false, cond, not, List, [], ◌∷◌, ◌++◌, length, map, Some, None, inl, inr, refl, ap, sym, ◌∙◌, subst, arith, length-append}
use Rattle.std.specs.Option.{is_some}
use Rattle.std.specs.List.{All, AllPairs, list_any, filter, zip}
use Rattle.std.proofs.lemmas.List.{length-map}
use Rattle.std.proofs.lemmas.List.Sums.{sum_by-append}
use Rattle.std.proofs.lemmas.List.Elements.{All-contains, All-from_recursion}
use Rattle.beas_core.specs.declared.schema.Access.{Access}
use Rattle.beas_core.specs.declared.query.Block.{Block}
use Rattle.beas_core.specs.declared.plan.DStep.{DStep}
use Rattle.beas_core.specs.declared.plan.Normal.{Normal}
use Rattle.beas_core.specs.declared.plan.Derivation.{Derivation}
use Rattle.beas_core.specs.declared.plan.Prepared.{Prepared}
use Rattle.beas_core.specs.Types.{Row, TableRows, Guide}
use Rattle.beas_core.specs.Order.{row_cmp_total}
use Rattle.beas_core.specs.Groups.{same_row}
use Rattle.beas_core.specs.Full.{full_of_block, choice_value, meets, choices}
use Rattle.beas_core.specs.Trees.{QueryTree, Single, Either, Minus, blocks_of}
use Rattle.beas_core.specs.Shapes.{QueryIsWellFormed, BlockIsWellFormed, AccessIsWellFormed, width_of}
use Rattle.beas_core.specs.Classes.{normal_of}
use Rattle.beas_core.specs.Coverage.{start_classes, output_classes}
use Rattle.beas_core.specs.Derivations.{access_in, bound_after, is_live, steps_are_sound, IsSound}
use Rattle.beas_core.specs.Valuations.{starts, valuations, answers_of, output_row}
use Rattle.beas_core.specs.Reads.{probes, reads_of}
use Rattle.beas_core.specs.Fits.{PlanIsSound, PlansAreSound, GuidedOnlyWithGuide, PreparedIsWellFormed, PlanFits, StepsHold}
use Rattle.beas_core.proofs.Sets.{Has, Has-from_map, Has-from_filter, Has-append_left, Has-append_right, Has-append_cases, Has-from_distinct, Contains-from_has, Has-from_contains, all_from, length-distinct-le}
use Rattle.beas_core.proofs.ValueOrder.{row_cmp_tells}
use Rattle.beas_core.specs.Guides.{GuideFits}
use Rattle.beas_core.proofs.MemberTests.{first_of_pairs}
use Rattle.beas_core.proofs.SetSizes.{length-filter_le}
use Rattle.beas_core.proofs.ClassFacts.{classes_in_range, constants_in_range}
use Rattle.beas_core.proofs.ReadFacts.{sum_mapped}
use Rattle.beas_core.proofs.TaskFacts.{plan_at, plans_are_live}
use Rattle.beas_core.proofs.SoundParts.{sound_parts, steps_from}
use Rattle.beas_core.proofs.FrontBounds.{valuations_few, reads_few}
use Rattle.std.proofs.lemmas.List.{append-nil}
use Rattle.beas_core.specs.Guiding.{after}
use Rattle.beas_core.specs.Queries.{is_guided, plan_of, guide_of, inside, answers, start_size, size_of, announced_in, probes_in, reads_at, reads_in, query_answers, query_size, query_reads}
use Rattle.beas_core.proofs.AnswerFacts.{answers_are_inside}

-- each row has this many values
abbrev pub Wide : ℕ → List Row → Type 0
Wide width found = (row : Row) → Has found row → length row ≡ width

Wide-inside : (width : ℕ) (guide : Guide) (found : List Row) → Wide width found → Wide width (inside guide found)
Wide-inside width None found h row m = h row m
Wide-inside width (Some rows) found h row m = h row (Has-from_filter (λ r. list_any (same_row r) rows) found row m).0

Wide-block : (rows : TableRows) (block : Block) → Wide (length block.output) (full_of_block rows block)
unfolding full_of_block
Wide-block rows block row h =
    let d = Has-from_distinct row_cmp_total row_cmp_tells (map (λ choice. map (choice_value choice) block.output) (filter (meets block) (choices rows block.atoms))) row h in
    let m = Has-from_map (λ choice. map (choice_value choice) block.output) (filter (meets block) (choices rows block.atoms)) row d in
    ap length m.2 ∙ length-map block.output (choice_value m.0)

-- each block is well formed and has this many outputs
abbrev pub Shaped : ℕ → QueryTree → Type 0
Shaped width t = (block : Block) → Has (blocks_of t) block → BlockIsWellFormed block × (length block.output ≡ width)

-- the guide's rows have the outputs' width, and are at most so many
abbrev pub Guides : ℕ → ℕ → Guide → Type 0
Guides width b None = 1 ≤ b
Guides width b (Some rows) = Wide width rows × (length rows ≤ b)

chosen_fits : (normal : Normal) (width b : ℕ) (flag : Bool) (guide : Guide) → length normal.output ≡ width → Guides width b guide
    → GuideFits normal (cond flag guide None) × (length (starts normal (cond flag guide None)) ≤ cond flag b 1)
chosen_fits normal width b false guide e g = (tt, omega arith)
chosen_fits normal width b true None e g = (tt, omega (arith, g))
chosen_fits normal width b true (Some rows) e g = (
  All-from_recursion (λ row. length row ≡ length normal.output) rows (all_from (λ row. length row ≡ length normal.output) rows (λ row m. g.0 row m ∙ sym e)),
  (let c = length-map rows (λ row. normal.constants ++ zip (output_classes normal) row) in omega (arith, c, g.1)),
)

chosen_some : (flag : Bool) (guide : Guide) → (flag ≡ true → is_some guide ≡ true) → is_some (cond flag guide None) ≡ flag
chosen_some true guide h = h refl
chosen_some false guide h = refl

-- the reads of a tree of one block are those of the block
pub block_reads_are : (rows : TableRows) (accesses : List Access) (guided : List Bool) (plans : List Derivation) (n : ℕ) (guide : Guide) (block : Block)
    → reads_in rows accesses guided plans n guide (Single block)
    ≡ reads_of rows (normal_of block) accesses (guide_of guided n guide) (plan_of plans n).steps
unfolding reads_of
block_reads_are rows accesses guided plans n guide block = sum_mapped (reads_at rows accesses plans) (λ p. record { block = n; probe = p })
    (probes rows (normal_of block) accesses (guide_of guided n guide) (plan_of plans n).steps)

module _ (rows : TableRows) (accesses : List Access) (guided : List Bool) (plans : List Derivation)
    (hold : (n : ℕ) → StepsHold rows accesses (plan_of plans n).steps) where
  module _ (n b width : ℕ) (guide : Guide) (block : Block) (shape : BlockIsWellFormed block) (wide : length block.output ≡ width)
      (guides : Guides width b guide)
      (plan : PlanIsSound (normal_of block) accesses (start_classes (normal_of block) (is_guided guided n)) (plan_of plans n))
      (has : is_guided guided n ≡ true → is_some guide ≡ true) where
    abbrev normal : Normal
    normal = normal_of block

    abbrev steps : List DStep
    steps = (plan_of plans n).steps

    abbrev own : Guide
    own = guide_of guided n guide

    pub fits : GuideFits normal own × (length (starts normal own) ≤ start_size guided n b)
    unfolding normal_of
    fits = chosen_fits (normal_of block) width b (is_guided guided n) guide wide guides

    pub started : IsSound normal accesses (start_classes normal (is_some own)) steps
    started = subst (λ f. IsSound normal accesses (start_classes normal f) steps) (sym (chosen_some (is_guided guided n) guide has)) plan.sound

    each : steps_are_sound normal accesses (start_classes normal (is_some own)) steps ≡ true
    each = steps_from normal accesses (start_classes normal (is_some own)) steps
        (sound_parts normal accesses (start_classes normal (is_some own)) steps started.sound).each

    formed : (s : DStep) → Has steps s → AccessIsWellFormed (width_of block.atoms s.atom) (access_in accesses s.access)
    unfolding normal_of
    formed s h = All-contains (λ t. AccessIsWellFormed (width_of block.atoms t.atom) (access_in accesses t.access)) steps s plan.well_formed
        (Contains-from_has steps s h)

    pub block_answers : answers_of rows normal accesses own steps ≡ inside own (full_of_block rows block)
    block_answers = answers_are_inside rows block shape accesses steps own fits.0 started formed

    outputs_few : length (answers_of rows normal accesses own steps) ≤ length (valuations rows normal accesses own steps)
    unfolding answers_of
    outputs_few =
        let set = bound_after normal accesses (start_classes normal (is_some own)) steps in
        let d = length-distinct-le row_cmp_total row_cmp_tells (map (output_row normal set) (valuations rows normal accesses own steps)) in
        let m = length-map (valuations rows normal accesses own steps) (output_row normal set) in
        omega (arith, d, m)

    block_few : length (answers rows guided n guide (Single block)) ≤ size_of accesses guided plans n b (Single block)
    block_few =
        let v = valuations_few rows normal accesses own (classes_in_range block shape) (constants_in_range block shape) fits.0
        (start_size guided n b) fits.1 steps []
        (subst (λ all. steps_are_sound normal accesses (start_classes normal (is_some own)) all ≡ true) (sym (append-nil steps)) each)
        (subst (StepsHold rows accesses) (sym (append-nil steps)) (hold n)) in
        let e = ap length block_answers in
        let o = outputs_few in
        omega (arith, v, e, o)

    block_reads : reads_in rows accesses guided plans n guide (Single block) ≤ announced_in accesses guided plans n b (Single block)
    block_reads =
        let r = reads_few rows normal accesses own (classes_in_range block shape) (constants_in_range block shape) fits.0
        (start_size guided n b) fits.1 steps each (hold n) in
        let e = block_reads_are rows accesses guided plans n guide block in
        omega (arith, r, e)

  pub wide_answers : (width n : ℕ) (guide : Guide) (t : QueryTree) → Shaped width t → Wide width (answers rows guided n guide t)
  wide_answers width n guide (Single block) shaped row h =
      Wide-inside (length block.output) (guide_of guided n guide) (full_of_block rows block) (Wide-block rows block) row h ∙ (shaped block (inl refl)).1
  wide_answers width n guide (Either l r) shaped row h =
      elim (Has-append_cases (answers rows guided n guide l) (answers rows guided (after n l) guide r) row
      (Has-from_distinct row_cmp_total row_cmp_tells (answers rows guided n guide l ++ answers rows guided (after n l) guide r) row h)) [
        | inl k ↦ wide_answers width n guide l (λ b m. shaped b (Has-append_left (blocks_of l) (blocks_of r) b m)) row k
        | inr k ↦ wide_answers width (after n l) guide r (λ b m. shaped b (Has-append_right (blocks_of l) (blocks_of r) b m)) row k
      ]
  wide_answers width n guide (Minus l r) shaped row h =
      wide_answers width n guide l (λ b m. shaped b (Has-append_left (blocks_of l) (blocks_of r) b m)) row
      (Has-from_filter (λ y. not (list_any (same_row y) (answers rows guided (after n l) (Some (answers rows guided n guide l)) r)))
      (answers rows guided n guide l) row h).0

  -- the answers are at most the size, and the reads at most what is announced
  pub few : (width n b : ℕ) (guide : Guide) (t : QueryTree) → Shaped width t → Guides width b guide
      → PlansAreSound accesses guided plans n t → GuidedOnlyWithGuide guided n (is_some guide) t
      → (length (answers rows guided n guide t) ≤ size_of accesses guided plans n b t)
      × (reads_in rows accesses guided plans n guide t ≤ announced_in accesses guided plans n b t)
  few width n b guide (Single block) shaped guides sound only =
      let s = shaped block (inl refl) in (
        block_few n b width guide block s.0 s.1 guides sound only,
        block_reads n b width guide block s.0 s.1 guides sound only,
      )
  few width n b guide (Either l r) shaped guides sound only =
      let left = few width n b guide l (λ c m. shaped c (Has-append_left (blocks_of l) (blocks_of r) c m)) guides sound.0 only.0 in
      let right = few width (after n l) b guide r (λ c m. shaped c (Has-append_right (blocks_of l) (blocks_of r) c m)) guides sound.1 only.1 in
      let all = answers rows guided n guide l ++ answers rows guided (after n l) guide r in
      let d = length-distinct-le row_cmp_total row_cmp_tells all in
      let a = length-append (answers rows guided n guide l) (answers rows guided (after n l) guide r) in
      let s = sum_by-append (reads_at rows accesses plans) (probes_in rows accesses guided plans n guide l)
      (probes_in rows accesses guided plans (after n l) guide r) in
      (omega (arith, left.0, right.0, d, a), omega (arith, left.1, right.1, s))
  few width n b guide (Minus l r) shaped guides sound only =
      let shaped_left : Shaped width l = λ c m. shaped c (Has-append_left (blocks_of l) (blocks_of r) c m) in
      let left = few width n b guide l shaped_left guides sound.0 only.0 in
      let found = answers rows guided n guide l in
      let right = few width (after n l) (size_of accesses guided plans n b l) (Some found) r
      (λ c m. shaped c (Has-append_right (blocks_of l) (blocks_of r) c m)) (wide_answers width n guide l shaped_left, left.0) sound.1 only.1 in
      let f = length-filter_le (λ y. not (list_any (same_row y) (answers rows guided (after n l) (Some found) r))) found in
      let s = sum_by-append (reads_at rows accesses plans) (probes_in rows accesses guided plans n guide l)
      (probes_in rows accesses guided plans (after n l) (Some found) r) in
      (omega (arith, left.0, f), omega (arith, left.1, right.1, s))

-- the outputs of a well-formed query have one length
pub shaped_query : (t : QueryTree) → QueryIsWellFormed t → (width : ℕ) × Shaped width t
shaped_query t formed = by (blocks_of t) formed.shapes (λ b m. All-contains BlockIsWellFormed (blocks_of t) b formed.blocks (Contains-from_has (blocks_of t) b m))
  where
    by : (blocks : List Block) → AllPairs (λ b c. length b.output ≡ length c.output) blocks → ((b : Block) → Has blocks b → BlockIsWellFormed b)
        → (width : ℕ) × ((b : Block) → Has blocks b → BlockIsWellFormed b × (length b.output ≡ width))
    by [] pairs shape = (0, λ b m. absurd m)
    by (first ∷ rest) pairs shape = (
      length first.output,
      λ b m. (
        shape b m,
        elim m [
          | inl e ↦ ap (λ x. length x.output) e
          | inr k ↦ sym (first_of_pairs (λ x y. length x.output ≡ length y.output) first rest pairs b k)
        ],
      ),
    )

-- ---- of a prepared query

-- it has one derivation for each block
pub prepared_length : (prepared : Prepared) → PreparedIsWellFormed prepared → length prepared.derivations ≡ length (blocks_of prepared.query)
prepared_length prepared formed = formed.derivations ∙ ap length formed.normals ∙ length-map (blocks_of prepared.query) normal_of

pub prepared_is_live : (accesses : List Access) (prepared : Prepared) → PlanFits accesses prepared
    → All (λ plan. All (λ s. is_live accesses s.access ≡ true) plan.steps) prepared.derivations
prepared_is_live accesses prepared fits =
    plans_are_live accesses prepared.guided prepared.derivations prepared.query (prepared_length prepared fits.well_formed) fits.plans

-- where the constraints of its steps hold, its answers are at most its size, and its reads at most its bound
pub prepared_few : (rows : TableRows) (accesses : List Access) (prepared : Prepared) → PlanFits accesses prepared
    → ((plan : Derivation) → Has prepared.derivations plan → StepsHold rows accesses plan.steps)
    → (length (query_answers rows prepared.guided prepared.query) ≤ query_size accesses prepared.guided prepared.derivations prepared.query)
    × (query_reads rows accesses prepared.guided prepared.derivations prepared.query ≤ prepared.bound)
prepared_few rows accesses prepared fits hold =
    let shaped = shaped_query prepared.query fits.well_formed.query in
    let Hold = λ (plan : Derivation). StepsHold rows accesses plan.steps in
    let at : (n : ℕ) → StepsHold rows accesses (plan_of prepared.derivations n).steps = plan_at Hold prepared.derivations
    (λ s none. absurd (Has-from_contains [] s none)) (All-from_recursion Hold prepared.derivations (all_from Hold prepared.derivations hold)) in
    let both = few rows accesses prepared.guided prepared.derivations at shaped.0 0 1 None prepared.query shaped.1 (omega arith) fits.plans
    fits.well_formed.guided in
    (both.0, subst (λ n. query_reads rows accesses prepared.guided prepared.derivations prepared.query ≤ n) (sym fits.bound) both.1)
