-- The lines of a plan, step by step, and that each cost and size of a plan that fits is a number of 128 bits.
use Rattle.std.proofs.Common.{◌≡◌, ◌⊎◌, length-append, ◌≤◌, ◌<◌, ◌+◌, ◌*◌, ◌^◌, ◌++◌, ℕ, zero, suc, Bool, true, false, true≢false, cond, List, [], ◌∷◌, length, get_or, drop, inl, inr, arith, refl, ap, sym, ◌∙◌, append_assoc, append-nil}
use Rattle.std.proofs.Math.Seq.{drop-cons}
use Rattle.std.proofs.Math.Nat.{mul-le-mul_left}
use Rattle.std.proofs.lemmas.List.Elements.{All-append, All-contains, All-head, All-tail, All-weaker}
use Rattle.std.proofs.lemmas.List.Folds.{find-append}
use Rattle.std.proofs.lemmas.List.{length-map}
use Rattle.std.specs.Option.{is_some, option_or, unwrap_or}
use Rattle.std.specs.Prelude.{◌==◌, codes, All, IsTrue, find, Some, None, if◌then◌else◌}
use Rattle.std.specs.List.{range_with_len}
use Rattle.beas_core.specs.declared.schema.Access.{Access}
use Rattle.beas_core.specs.declared.schema.AccessId.{AccessId}
use Rattle.beas_core.specs.declared.query.Block.{Block}
use Rattle.beas_core.specs.declared.plan.DStep.{DStep}
use Rattle.beas_core.specs.declared.plan.Normal.{Normal}
use Rattle.beas_core.specs.declared.plan.Derivation.{Derivation}
use Rattle.beas_core.specs.declared.plan.Prepared.{Prepared}
use Rattle.beas_core.specs.Types.{ClassSet}
use Rattle.beas_core.specs.Coverage.{atoms_of}
use Rattle.beas_core.specs.Derivations.{access_in, is_live, is_served_by, is_sound}
use Rattle.beas_core.specs.Numbers.{announced_from, last_size, size_after}
use Rattle.beas_core.specs.Shapes.{BlockIsWellFormed}
use Rattle.beas_core.specs.Classes.{normal_of}
use Rattle.beas_core.specs.Trees.{QueryTree, Single, Either, Minus, blocks_of}
use Rattle.beas_core.specs.Guiding.{after}
use Rattle.beas_core.specs.Queries.{plan_of, start_size, size_of, announced_in, query_bound}
use Rattle.beas_core.specs.Fits.{PreparedIsWellFormed, PlanFits, PlansAreSound}
use Rattle.beas_core.proofs.Sets.{Has, Has-append_left, Has-append_right, Contains-from_has}
use Rattle.beas_core.proofs.Accesses.{access_in-append, access_in-member}
use Rattle.beas_core.proofs.MemberTests.{all_has}
use Rattle.beas_core.proofs.SoundParts.{sound_parts}
use Rattle.catalogue.specs.Schema.{Schema, SchemaIsSound, AccessIsSound}
use Rattle.catalogue.proofs.ListFacts.{is_some-find}
use Rattle.report.specs.Plans.{AllStepsTold, BlocksAreTold, TablesAreThere, answer_text, blocks_text, plan_lines, plan_text, plan_text_over, step_line, step_text, steps_text, use_text}

-- the lines of the steps left are that of the first and those after it
pub steps_text-next : (schema : Schema) (accesses : List Access) (b j size after : ℕ) (steps : List DStep) (i : ℕ) (d : DStep) → i < length steps
    → after ≡ size_after accesses size (get_or steps i d)
    → steps_text schema accesses b j size (drop i steps)
    ≡ step_line schema accesses b j size (get_or steps i d) ++ steps_text schema accesses b (j + 1) after (drop (i + 1) steps)
steps_text-next schema accesses b j size after steps i d below left =
    let next : i + 1 ≡ suc i = omega arith in
    rw (left, next, drop-cons steps i d below) refl

-- so is what is announced of them
pub announced-next : (accesses : List Access) (size after : ℕ) (steps : List DStep) (i : ℕ) (d : DStep) → i < length steps
    → after ≡ size_after accesses size (get_or steps i d)
    → announced_from accesses size (drop i steps)
    ≡ size * (access_in accesses (get_or steps i d).access).bound + announced_from accesses after (drop (i + 1) steps)
announced-next accesses size after steps i d below left =
    let next : i + 1 ≡ suc i = omega arith in
    rw (left, next, drop-cons steps i d below) refl

-- and the valuations after the last
pub last-next : (accesses : List Access) (size after : ℕ) (steps : List DStep) (i : ℕ) (d : DStep) → i < length steps
    → after ≡ size_after accesses size (get_or steps i d)
    → last_size accesses size (drop i steps) ≡ last_size accesses after (drop (i + 1) steps)
last-next accesses size after steps i d below left =
    let next : i + 1 ≡ suc i = omega arith in
    rw (left, next, drop-cons steps i d below) refl

-- ---- numbers of 128 bits

at_least_itself : (n bound : ℕ) → 1 ≤ bound → n ≤ n * bound
at_least_itself n bound h = let p = mul-le-mul_left n h in omega (arith, p)

-- a step leaves at most as many valuations as it costs
size_within : (accesses : List Access) (s : DStep) (b : ℕ) → 1 ≤ (access_in accesses s.access).bound
    → size_after accesses b s ≤ b * (access_in accesses s.access).bound
size_within accesses s b h = by s.adds
  where
    by : (adds : Bool) → cond adds (b * (access_in accesses s.access).bound) b ≤ b * (access_in accesses s.access).bound
    by true = omega arith
    by false = at_least_itself b (access_in accesses s.access).bound h

-- so the valuations after the last step are at most what the steps cost, where there is a step
last_within : (accesses : List Access) (b : ℕ) (s : DStep) (steps : List DStep)
    → All (λ t. 1 ≤ (access_in accesses t.access).bound) (s ∷ steps) → last_size accesses b (s ∷ steps) ≤ announced_from accesses b (s ∷ steps)
last_within accesses b s [] h = let w = size_within accesses s b (All-head (λ t. 1 ≤ (access_in accesses t.access).bound) s [] h) in omega (arith, w)
last_within accesses b s (t ∷ steps) h =
    let w = last_within accesses (size_after accesses b s) t steps (All-tail (λ t. 1 ≤ (access_in accesses t.access).bound) s (t ∷ steps) h) in omega (arith, w)

-- a block has an atom, so a sound derivation of it has a step
some_step : (normal : Normal) (accesses : List Access) (start : ClassSet) (steps : List DStep) → 1 ≤ length normal.atoms
    → is_sound normal accesses start steps ≡ true → 1 ≤ length steps
some_step normal accesses start (s ∷ steps) some sound = omega arith
some_step normal accesses start [] some sound =
    let served = (sound_parts normal accesses start [] sound).served in
    absurd (true≢false (sym (all_has (is_served_by normal accesses []) (atoms_of normal) 0 served (first (length normal.atoms) some))))
  where
    first : (n : ℕ) → 1 ≤ n → Has (range_with_len 0 n) 0
    first zero h = absurd (omega (arith, h))
    first (suc n) h = inl refl

an_atom : (block : Block) → BlockIsWellFormed block → 1 ≤ length (normal_of block).atoms
unfolding normal_of
an_atom block shape = shape.some_atom

block_within : (accesses : List Access) (b : ℕ) (steps : List DStep) → 1 ≤ length steps
    → All (λ t. 1 ≤ (access_in accesses t.access).bound) steps → last_size accesses b steps ≤ announced_from accesses b steps
block_within accesses b [] some bounds = absurd (omega (arith, some))
block_within accesses b (s ∷ steps) some bounds = last_within accesses b s steps bounds

abbrev WellFormed : QueryTree → Type 0
WellFormed t = (block : Block) → Has (blocks_of t) block → BlockIsWellFormed block

left_of : (l r : QueryTree) → ((block : Block) → Has (blocks_of l ++ blocks_of r) block → BlockIsWellFormed block) → WellFormed l
left_of l r shapes block h = shapes block (Has-append_left (blocks_of l) (blocks_of r) block h)

right_of : (l r : QueryTree) → ((block : Block) → Has (blocks_of l ++ blocks_of r) block → BlockIsWellFormed block) → WellFormed r
right_of l r shapes block h = shapes block (Has-append_right (blocks_of l) (blocks_of r) block h)

module _ (accesses : List Access) (guided : List Bool) (plans : List Derivation) where
  -- a tree has at most as many answers as it is announced to read
  size_announced : (n b : ℕ) (t : QueryTree) → WellFormed t → PlansAreSound accesses guided plans n t
      → size_of accesses guided plans n b t ≤ announced_in accesses guided plans n b t
  size_announced n b (Single block) shapes plan =
      let shape : BlockIsWellFormed block = shapes block (inl refl) in
      let some = some_step (normal_of block) accesses _ (plan_of plans n).steps (an_atom block shape) plan.sound.sound in
      block_within accesses (start_size guided n b) (plan_of plans n).steps some (λ i d h. (plan.well_formed i d h).bound)
  size_announced n b (Either l r) shapes plan =
      let left = size_announced n b l (left_of l r shapes) plan.0 in
      let right = size_announced (after n l) b r (right_of l r shapes) plan.1 in
      omega (arith, left, right)
  size_announced n b (Minus l r) shapes plan =
      let left = size_announced n b l (left_of l r shapes) plan.0 in
      omega (arith, left)

  steps_told : (n b : ℕ) (t : QueryTree) → WellFormed t → PlansAreSound accesses guided plans n t
      → announced_in accesses guided plans n b t < 2 ^ 128 → AllStepsTold accesses guided plans n b t
  steps_told n b (Single block) shapes plan small = record { live = plan.sound.live; cost = small }
  steps_told n b (Either l r) shapes plan small =
      let left = size_announced n b l (left_of l r shapes) plan.0 in
      let right = size_announced (after n l) b r (right_of l r shapes) plan.1 in (
        steps_told n b l (left_of l r shapes) plan.0 (omega (arith, small)),
        steps_told (after n l) b r (right_of l r shapes) plan.1 (omega (arith, small)),
        omega (arith, left, right, small),
      )
  steps_told n b (Minus l r) shapes plan small = (
    steps_told n b l (left_of l r shapes) plan.0 (omega (arith, small)),
    steps_told (after n l) (size_of accesses guided plans n b l) r (right_of l r shapes) plan.1 (omega (arith, small)),
  )

-- what the blocks of a tree need, its parts have
pub told_left : (accesses : List Access) (guided : List Bool) (plans : List Derivation) (n b : ℕ) (l r : QueryTree)
    → BlocksAreTold accesses guided plans n b (Either l r) ⊎ BlocksAreTold accesses guided plans n b (Minus l r)
    → BlocksAreTold accesses guided plans n b l
told_left accesses guided plans n b l r (inl t) = record {
  derivations = let e = length-append (blocks_of l) (blocks_of r) in omega (arith, e, t.derivations);
  flags = let e = length-append (blocks_of l) (blocks_of r) in omega (arith, e, t.flags);
  steps = t.steps.0;
}
told_left accesses guided plans n b l r (inr t) = record {
  derivations = let e = length-append (blocks_of l) (blocks_of r) in omega (arith, e, t.derivations);
  flags = let e = length-append (blocks_of l) (blocks_of r) in omega (arith, e, t.flags);
  steps = t.steps.0;
}

pub told_right : (accesses : List Access) (guided : List Bool) (plans : List Derivation) (n b : ℕ) (l r : QueryTree)
    → BlocksAreTold accesses guided plans n b (Either l r) → BlocksAreTold accesses guided plans (after n l) b r
told_right accesses guided plans n b l r t = record {
  derivations = let e = length-append (blocks_of l) (blocks_of r) in omega (arith, e, t.derivations);
  flags = let e = length-append (blocks_of l) (blocks_of r) in omega (arith, e, t.flags);
  steps = t.steps.1;
}

pub told_guided : (accesses : List Access) (guided : List Bool) (plans : List Derivation) (n b : ℕ) (l r : QueryTree)
    → BlocksAreTold accesses guided plans n b (Minus l r)
    → BlocksAreTold accesses guided plans (after n l) (size_of accesses guided plans n b l) r
told_guided accesses guided plans n b l r t = record {
  derivations = let e = length-append (blocks_of l) (blocks_of r) in omega (arith, e, t.derivations);
  flags = let e = length-append (blocks_of l) (blocks_of r) in omega (arith, e, t.flags);
  steps = t.steps.1;
}

-- there are as many blocks as normal forms
blocks_counted : (prepared : Prepared) → PreparedIsWellFormed prepared → length (blocks_of prepared.query) ≡ length prepared.normals
blocks_counted prepared formed = sym (ap length formed.normals ∙ length-map (blocks_of prepared.query) normal_of)

-- the blocks of a plan that fits can be told
pub told : (accesses : List Access) (prepared : Prepared) → PlanFits accesses prepared → prepared.bound < 2 ^ 128
    → BlocksAreTold accesses prepared.guided prepared.derivations 0 1 prepared.query
told accesses prepared fits below =
    let small : query_bound accesses prepared.guided prepared.derivations prepared.query < 2 ^ 128 = rw fits.bound at below in
    let blocks = blocks_counted prepared fits.well_formed in
    record {
      derivations = omega (arith, blocks, fits.well_formed.derivations);
      flags = omega (arith, blocks, fits.well_formed.flags);
      steps = steps_told accesses prepared.guided prepared.derivations 0 1 prepared.query
          (λ b m. All-contains BlockIsWellFormed (blocks_of prepared.query) b fits.well_formed.query.blocks (Contains-from_has (blocks_of prepared.query) b m)) fits.plans small;
    }

-- ---- the constraint with an id: a live one, or else a scan

abbrev no_access : AccessId → Access
no_access id = record { id = id; name = []; table = record { 0 = 0 }; key = []; fetched = []; bound = 0 }

with_id-live : (accesses : List Access) (id : AccessId) (a : Access) → find (λ c. c.id.0 == id.0) accesses ≡ Some a
    → (is_live accesses id ≡ true) × (access_in accesses id ≡ a)
unfolding access_in
with_id-live accesses id a e =
    (sym (is_some-find (λ (c : Access). c.id.0 == id.0) accesses) ∙ ap is_some e, ap (λ o. unwrap_or o (no_access id)) e)

pub found_live : (accesses scans : List Access) (id : AccessId) (a : Access) → find (λ c. c.id.0 == id.0) accesses ≡ Some a
    → a ≡ access_in (accesses ++ scans) id
found_live accesses scans id a e =
    let found = with_id-live accesses id a e in
    sym (access_in-append accesses scans id found.0 ∙ found.1)

pub found_scan : (accesses scans : List Access) (id : AccessId) (a : Access) → find (λ c. c.id.0 == id.0) accesses ≡ None
    → find (λ c. c.id.0 == id.0) scans ≡ Some a → a ≡ access_in (accesses ++ scans) id
found_scan accesses scans id a none e =
    sym ((with_id-live (accesses ++ scans) id a
    (find-append (λ (c : Access). c.id.0 == id.0) accesses scans ∙ ap (λ o. option_or o (find (λ c. c.id.0 == id.0) scans)) none ∙ e)).1)

pub found_one : (accesses scans : List Access) (id : AccessId) → find (λ c. c.id.0 == id.0) accesses ≡ None
    → find (λ c. c.id.0 == id.0) scans ≡ None → is_live (accesses ++ scans) id ≡ true → ⊥
found_one accesses scans id none nothing live =
    let missing = find-append (λ (c : Access). c.id.0 == id.0) accesses scans
    ∙ ap (λ o. option_or o (find (λ c. c.id.0 == id.0) scans)) none ∙ nothing in
    true≢false (sym live ∙ sym (is_some-find (λ (c : Access). c.id.0 == id.0) (accesses ++ scans)) ∙ ap is_some missing)

-- and its table is one of the schema
pub found_table : (schema : Schema) (scans : List Access) (id : AccessId) → SchemaIsSound schema → TablesAreThere schema scans
    → IsTrue (is_live (schema.accesses ++ scans) id) → (access_in (schema.accesses ++ scans) id).table.0 < length schema.tables
found_table schema scans id sound tables live =
    let all = schema.accesses ++ scans in
    let member = Contains-from_has all (access_in all id) (access_in-member all id live) in
    All-contains (λ (a : Access). a.table.0 < length schema.tables) all (access_in all id)
    (All-append (λ (a : Access). a.table.0 < length schema.tables) schema.accesses scans
    (All-weaker (AccessIsSound schema) (λ (a : Access). a.table.0 < length schema.tables) (λ a s. s.table) schema.accesses sound.accesses) tables)
    member

-- what is written and then what is left is the whole, one line further on
pub advance : (text next : List ℕ) {line item now whole pushed : List ℕ}
    → pushed ≡ text ++ line → line ≡ item → now ≡ item ++ next → text ++ now ≡ whole → pushed ++ next ≡ whole
advance text next {line} {item} p l n w = rw (p, l, append_assoc text item next, ← n) w

-- the valuations after a step, and its line, from what the code works out
pub step_told : (schema : Schema) (accesses : List Access) (b j size : ℕ) (s : DStep) (access : Access) (atom bound after : ℕ) (used : List ℕ)
    → access ≡ access_in accesses s.access → bound ≡ access.bound → after ≡ (if s.adds then size * bound else size)
    → used ≡ use_text schema access s.adds → atom ≡ s.atom
    → (after ≡ size_after accesses size s) × (step_text b j (atom + 1) used (size * bound) after ≡ step_line schema accesses b j size s)
step_told schema accesses b j size s access atom bound after used a n r u t = (rw (r, n, a) refl, rw (r, u, t, n, a) refl)

regrouped : (o a b c d : List ℕ) → (((o ++ a) ++ b) ++ c) ++ d ≡ o ++ (a ++ (b ++ (c ++ d)))
regrouped o a b c d = simp append_assoc

-- the blocks' lines and the line of the answer
pub plan_whole : (schema : Schema) (accesses : List Access) (prepared : Prepared) (old blocks begun told text : List ℕ)
    → blocks ≡ old ++ blocks_text schema accesses prepared.guided prepared.derivations 0 [] 1 prepared.query
    → begun ≡ blocks ++ codes "plan answer " → told ≡ begun ++ answer_text 1 prepared.query → text ≡ told ++ codes "\n"
    → text ≡ old ++ plan_lines schema accesses prepared
unfolding plan_lines
plan_whole schema accesses prepared old blocks begun told text b g o t =
    t ∙ ap (λ (x : List ℕ). x ++ codes "\n") (o ∙ ap (λ (x : List ℕ). x ++ answer_text 1 prepared.query) (g ∙ ap (λ (x : List ℕ). x ++ codes "plan answer ") b))
    ∙ regrouped old (blocks_text schema accesses prepared.guided prepared.derivations 0 [] 1 prepared.query)
    (codes "plan answer ") (answer_text 1 prepared.query) (codes "\n")

-- without scans the plan is over the live constraints
pub no_scans : (schema : Schema) (prepared : Prepared) → plan_text_over schema [] prepared ≡ plan_text schema prepared
no_scans schema prepared = ap (λ accesses. plan_lines schema accesses prepared) (append-nil schema.accesses)
