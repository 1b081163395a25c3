-- What a query depends on: the rows of the tables that it names, and the constraints of its derivations, which are on these tables.
use Rattle.std.proofs.Common.{◌≡◌, ◌==◌, ◌<◌, ◌≤◌, ◌+◌, ◌++◌, ◌∙◌, ℕ, zero, suc, Bool, true, false, List, [], ◌∷◌, length, map, get_or, nat_lt, None, inl, inr, refl, ap, sym, subst, arith, length-append}
use Rattle.std.specs.Prelude.{max}
use Rattle.std.specs.List.{All}
use Rattle.std.proofs.lemmas.Bool.{cases_lt, eqb-true, ltb-true}
use Rattle.std.proofs.lemmas.List.{get_or-map}
use Rattle.std.proofs.lemmas.List.Elements.{All-head, All-tail, All-contains, All-nil, All-from_recursion, All-from_get_or}
use Rattle.beas_core.specs.declared.schema.Access.{Access}
use Rattle.beas_core.specs.declared.schema.TableId.{TableId}
use Rattle.beas_core.specs.declared.query.Atom.{Atom}
use Rattle.beas_core.specs.declared.query.Block.{Block}
use Rattle.beas_core.specs.declared.plan.DStep.{DStep}
use Rattle.beas_core.specs.declared.plan.Derivation.{Derivation}
use Rattle.beas_core.specs.declared.plan.Prepared.{Prepared}
use Rattle.beas_core.specs.Types.{TableRows, ClassSet}
use Rattle.beas_core.specs.Classes.{normal_of}
use Rattle.beas_core.specs.Derivations.{access_in, is_live, is_on_table, table_of}
use Rattle.beas_core.specs.Fits.{PlanIsSound, PlansAreSound, PlanFits, KeepsConstraints, KeepsRows}
use Rattle.beas_core.specs.Full.{full_of, set_union, set_difference}
use Rattle.beas_core.specs.Guiding.{after}
use Rattle.beas_core.specs.Groups.{group_of}
use Rattle.beas_core.specs.Queries.{BlockProbe, plan_of, reads_at}
use Rattle.beas_core.specs.Reads.{access_of_step, probe_reads}
use Rattle.beas_core.specs.Trees.{QueryTree, Single, Either, Minus, blocks_of}
use Rattle.beas_core.proofs.Sets.{Has, Has-append_left, Has-append_right, all_from, Contains-from_has}
use Rattle.beas_core.proofs.AgreementFacts.{block-agrees}
use Rattle.beas_core.proofs.KeptFacts.{probes_stay, reads_stay, rows_kept, stays_fit}
use Rattle.beas_core.proofs.MemberTests.{and_left, and_right, all_has}
use Rattle.beas_core.proofs.QueryBounds.{prepared_length}
use Rattle.beas_core.proofs.SoundParts.{sound_parts}
use Rattle.beas_core.proofs.TaskFacts.{plan_at}
use Rattle.desk_model.specs.Frames.{QueryStays, SameOn, SameForQuery}

module _ (few many : List Access) (old new : TableRows) where
  abbrev Same : TableId → Type 0
  Same t = SameOn few many old new t

  abbrev SameForBlock : Block → Type 0
  SameForBlock block = All (λ a. Same a.table) block.atoms

  same_at : (atoms : List Atom) (k : ℕ) (none : TableId) → k < length atoms → All (λ (a : Atom). Same a.table) atoms
      → Same (get_or (map (λ a. a.table) atoms) k none)
  same_at [] k none l same = absurd (omega (arith, l))
  same_at (a ∷ atoms) zero none l same = All-head (λ (a : Atom). Same a.table) a atoms same
  same_at (a ∷ atoms) (suc k) none l same = same_at atoms k none (omega (arith, l)) (All-tail (λ (a : Atom). Same a.table) a atoms same)

  -- its constraint is live and the same, and so are the rows of the constraint's table
  pub record StepStays (s : DStep) : Type 0 where
    pub live : is_live many s.access ≡ true
    pub access : access_in many s.access ≡ access_in few s.access
    pub rows : new (access_in few s.access).table ≡ old (access_in few s.access).table

  -- a sound step's constraint is on its atom's table
  step_stays : (block : Block) (start : ClassSet) (plan : Derivation) → PlanIsSound (normal_of block) few start plan → SameForBlock block
      → (s : DStep) → Has plan.steps s → StepStays s
  unfolding normal_of
  step_stays block start plan sound same s m =
      let parts = sound_parts (normal_of block) few start plan.steps sound.sound.sound in
      let on = all_has (is_on_table (normal_of block) few) plan.steps s parts.each.tables m in
      let below = ltb-true s.atom (length block.atoms)
      (and_left (nat_lt s.atom (length block.atoms)) ((table_of (normal_of block) s.atom).0 == (access_in few s.access).table.0) on) in
      let number = eqb-true (table_of (normal_of block) s.atom).0 (access_in few s.access).table.0
      (and_right (nat_lt s.atom (length block.atoms)) ((table_of (normal_of block) s.atom).0 == (access_in few s.access).table.0) on) in
      let here = same_at block.atoms s.atom (record { 0 = 0 }) below same in
      let made : ℕ → TableId = λ k. record { 0 = k } in
      let there = here.constraints s.access
      (All-contains (λ t. is_live few t.access ≡ true) plan.steps s sound.sound.live (Contains-from_has plan.steps s m)) (sym number) in
      record { live = there.0; access = there.1; rows = subst (λ t. new t ≡ old t) (ap made number) here.rows }

  module _ (guided : List Bool) (plans : List Derivation) where
    abbrev IsKeptAt : ℕ → Type 0
    IsKeptAt n = All StepStays (plan_of plans n).steps

    kept_in : (n : ℕ) (l r : QueryTree) (k : ℕ) → n ≤ k → k < n + length (blocks_of l ++ blocks_of r) → (n ≤ k → k < after n l → IsKeptAt k)
        → (after n l ≤ k → k < after (after n l) r → IsKeptAt k) → IsKeptAt k
    kept_in n l r k low high left right =
        let both = length-append (blocks_of l) (blocks_of r) in
        elim (cases_lt k (after n l)) [
          | inl less ↦ left low less
          | inr more ↦ right more (omega (arith, high, both))
        ]

    kept_at : (n : ℕ) (t : QueryTree) → PlansAreSound few guided plans n t → ((b : Block) → Has (blocks_of t) b → SameForBlock b)
        → (k : ℕ) → n ≤ k → k < after n t → IsKeptAt k
    kept_at n (Single block) sound same k low high =
        subst IsKeptAt (the_one n k low high) (All-from_recursion StepStays (plan_of plans n).steps (all_from StepStays (plan_of plans n).steps
        (step_stays block _ (plan_of plans n) sound (same block (inl refl)))))
      where
        the_one : (n k : ℕ) → n ≤ k → k < n + 1 → n ≡ k
        the_one n k low high = omega (arith, low, high)
    kept_at n (Either l r) sound same k low high =
        kept_in n l r k low high (kept_at n l sound.0 (λ b m. same b (Has-append_left (blocks_of l) (blocks_of r) b m)) k)
        (kept_at (after n l) r sound.1 (λ b m. same b (Has-append_right (blocks_of l) (blocks_of r) b m)) k)
    kept_at n (Minus l r) sound same k low high =
        kept_in n l r k low high (kept_at n l sound.0 (λ b m. same b (Has-append_left (blocks_of l) (blocks_of r) b m)) k)
        (kept_at (after n l) r sound.1 (λ b m. same b (Has-append_right (blocks_of l) (blocks_of r) b m)) k)

  all_stay : (prepared : Prepared) → PlanFits few prepared → SameForQuery few many old new prepared.query
      → All (λ plan. All StepStays plan.steps) prepared.derivations
  all_stay prepared fits same =
      let long = prepared_length prepared fits.well_formed in
      All-from_get_or (λ plan. All StepStays plan.steps) prepared.derivations (record { steps = [] })
      (λ k below. kept_at prepared.guided prepared.derivations 0 prepared.query fits.plans
      (λ b m. All-contains SameForBlock (blocks_of prepared.query) b same (Contains-from_has (blocks_of prepared.query) b m))
      k (omega arith) (omega (arith, below, long)))

  -- of the block with any number
  pub steps_stay : (prepared : Prepared) → PlanFits few prepared → SameForQuery few many old new prepared.query
      → (n : ℕ) → All StepStays (plan_of prepared.derivations n).steps
  steps_stay prepared fits same n =
      plan_at (λ plan. All StepStays plan.steps) prepared.derivations (All-nil StepStays) (all_stay prepared fits same) n

  pub keeps_constraints : (prepared : Prepared) → PlanFits few prepared → SameForQuery few many old new prepared.query
      → KeepsConstraints few many prepared.derivations
  keeps_constraints prepared fits same = λ i d l j e m.
      let s = all_stay prepared fits same i d l j e m in
      (s.live, s.access)

  pub keeps_rows : (query : QueryTree) → SameForQuery few many old new query → KeepsRows old new query
  keeps_rows query same = λ i d l j e k. (same i d l j e k).rows

-- ---- the full answer

module _ (old new : TableRows) where
  abbrev IsKept : Block → Type 0
  IsKept block = All (λ a. new a.table ≡ old a.table) block.atoms

  answer_from : (t : QueryTree) → ((b : Block) → Has (blocks_of t) b → IsKept b) → full_of new t ≡ full_of old t
  answer_from (Single block) kept = block-agrees old new block (kept block (inl refl))
  answer_from (Either l r) kept =
      ap (λ rows. set_union rows (full_of new r)) (answer_from l (λ b m. kept b (Has-append_left (blocks_of l) (blocks_of r) b m)))
      ∙ ap (set_union (full_of old l)) (answer_from r (λ b m. kept b (Has-append_right (blocks_of l) (blocks_of r) b m)))
  answer_from (Minus l r) kept =
      ap (λ rows. set_difference rows (full_of new r)) (answer_from l (λ b m. kept b (Has-append_left (blocks_of l) (blocks_of r) b m)))
      ∙ ap (set_difference (full_of old l)) (answer_from r (λ b m. kept b (Has-append_right (blocks_of l) (blocks_of r) b m)))

  pub full_stays : (t : QueryTree) → KeepsRows old new t → full_of new t ≡ full_of old t
  full_stays t kept = answer_from t (λ b m. All-contains IsKept (blocks_of t) b kept (Contains-from_has (blocks_of t) b m))

-- ---- all that is said of a query

-- how a plan fits doesn't depend on rows: so it fits as over tables without any
plan_still_fits : (few many : List Access) (prepared : Prepared) → KeepsConstraints few many prepared.derivations → PlanFits few prepared
    → PlanFits many prepared
plan_still_fits few many prepared keeps fits =
    let none : TableRows = λ t. [] in
    (stays_fit few many none none prepared keeps (rows_kept none prepared.query) (record {
      plan = fits;
      widths = λ i d l j e k n r below. absurd (omega (arith, below));
    })).plan

pub query_stays : (few many : List Access) (old new : TableRows) (prepared : Prepared) → PlanFits few prepared
    → KeepsConstraints few many prepared.derivations → KeepsRows old new prepared.query → QueryStays few many old new prepared
query_stays few many old new prepared fits keeps kept = record {
  constraints = keeps;
  rows = kept;
  fits = plan_still_fits few many prepared keeps fits;
  probes = probes_stay few many prepared.guided prepared.derivations keeps old new 0 None prepared.query fits.plans kept;
  reads = reads_stay few many prepared.guided prepared.derivations keeps old new 0 None prepared.query fits.plans kept;
  answer = full_stays old new prepared.query kept;
}

-- a probe counts as much
pub share_stays : (few many : List Access) (old new : TableRows) (prepared : Prepared) → PlanFits few prepared
    → KeepsConstraints few many prepared.derivations → KeepsRows old new prepared.query → (p : BlockProbe)
    → p.probe.step < length (plan_of prepared.derivations p.block).steps
    → reads_at new many prepared.derivations p ≡ reads_at old few prepared.derivations p
share_stays few many old new prepared fits keeps kept p below =
    let steps = (plan_of prepared.derivations p.block).steps in
    let n = p.probe.step in
    let none : DStep = record { atom = 0; access = record { 0 = 0 }; adds = false } in
    let same : SameForQuery few few old new prepared.query =
    λ i d l j e k. record { rows = kept i d l j e k; constraints = λ id live on. (live, refl) } in
    let stays = steps_stay few few old new prepared fits same p.block n none below in
    let IsSame : DStep → Type 0 = λ s. (is_live many s.access ≡ true) × (access_in many s.access ≡ access_in few s.access) in
    let one = plan_at (λ plan. All IsSame plan.steps) prepared.derivations (All-nil IsSame) keeps p.block n none below in
    let before = get_or-map (λ (s : DStep). access_in few s.access) steps n none (access_in few (record { 0 = 0 })) below in
    let after = get_or-map (λ (s : DStep). access_in many s.access) steps n none (access_in many (record { 0 = 0 })) below in
    let rows = subst (λ (a : Access). new a.table ≡ old a.table) (sym before) stays.rows in
    ap (λ a. probe_reads new a p.probe.key) (after ∙ one.1 ∙ sym before)
    ∙ ap (λ found. max 1 (length (group_of found (access_of_step few steps n) p.probe.key))) rows
