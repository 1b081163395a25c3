-- What is announced where tables may be scanned; and the store's tables as lists of their rows.
use Rattle.std.proofs.Common.{◌≡◌, ◌≤◌, ◌<◌, ◌+◌, ◌^◌, ◌++◌, ℕ, Bool, true, false, if◌then◌else◌, List, [], ◌∷◌, length, map, refl, ap, ◌∙◌, arith, Option, Some, None, Result, Ok, Err}
use Rattle.std.specs.List.{enumerate_from, flat_map}
use Rattle.std.specs.Prelude.{nat_le, IfOk, OnOk, OnErr}
use Rattle.std.proofs.lemmas.List.{length-map}
use Rattle.beas_core.specs.declared.errors.Fail.{Fail}
use Rattle.beas_core.specs.declared.errors.NoMemory.{NoMemory as Want}
use Rattle.beas_core.specs.declared.limits.Limits.{Limits}
use Rattle.beas_core.specs.declared.plan.Answer.{Answer}
use Rattle.beas_core.specs.declared.refusal.Refusal.{Refusal}
use Rattle.beas_core.specs.declared.refusal.Refusal.TheVariants.{OverBudget}
use Rattle.beas_core.specs.declared.schema.ColType.{ColType}
use Rattle.beas_core.specs.Results.{Gives, IsRefusedAs}
use Rattle.beas_core.specs.Trees.{QueryTree, blocks_of as blocks_in}
use Rattle.beas_core.specs.Types.{Row}
use Rattle.catalogue.specs.declared.tables.TableSchema.{TableSchema}
use Rattle.catalogue.specs.Database.{Table}
use Rattle.catalogue.specs.Schema.{Schema}
use Rattle.catalogue.specs.Stored.{tables_with}
use Rattle.sql_text.specs.Trees.{Tree}
use Rattle.name_resolution.specs.declared.kinds.Kind.TheVariants.{Blocks}
use Rattle.name_resolution.specs.declared.meaning.LookedUp.{LookedUp}
use Rattle.name_resolution.specs.Binding.{blocks_of, kinds, looked_refusals, places_in_all, refusals, shape_of}
use Rattle.name_resolution.specs.LookedUp.{looked_up}
use Rattle.name_resolution.specs.Refusing.{first, places, repeated_aliases, unknown_tables}
use Rattle.name_resolution.proofs.BindFacts.{none_each, none_left, not_over}
use Rattle.partial_plan.specs.declared.plan.ScanPlan.{ScanPlan}
use Rattle.partial_plan.specs.ScanPlans.{scan_preparation}
use Rattle.partial_plan.specs.Scans.{TableSizes, sizes_of_tables}
use Rattle.session.specs.Announced.{and_then, binding, scan_announcement, scans_within_budget}
use Rattle.session.specs.Effects.{sizes_in}
use Rattle.session.specs.Stores.{Store, database_in}
use Rattle.session.proofs.CarryFacts.{failed}
use Rattle.session.proofs.GivenFacts.{given_fails, given_next}
use Rattle.session.proofs.OutputFacts.{none_after}

-- ---- the tables of a store

lists_with : (tables : List TableSchema) (rows : List (List Row)) → length rows ≡ length tables → map (λ (t : Table). t.rows) (tables_with tables rows) ≡ rows
lists_with [] [] e = refl
lists_with [] (r ∷ rows) e = absurd (omega (arith, e))
lists_with (t ∷ tables) [] e = absurd (omega (arith, e))
lists_with (t ∷ tables) (r ∷ rows) e = ap (λ rs. r ∷ rs) (lists_with tables rows (omega (arith, e)))

pub sizes_are : (g : Store) → sizes_in (database_in g) ≡ sizes_of_tables g.rows
sizes_are g = ap sizes_of_tables (lists_with g.catalogue.tables g.rows g.kept.tables)

-- ---- a query that is bound has few blocks

one_block : (limits : Limits) (shape : List ColType) (n : ℕ) (block : LookedUp) → first (places Blocks limits shape (n, block)) ≡ None → n ≤ limits.blocks
unfolding places
one_block limits shape n block none = not_over limits.blocks n _ none

numbered_few : (limits : Limits) (shape : List ColType) (n : ℕ) (blocks : List LookedUp) → first (flat_map (places Blocks limits shape) (enumerate_from n blocks)) ≡ None
    → n ≤ limits.blocks + 1 → n + length blocks ≤ limits.blocks + 1
numbered_few limits shape n [] none below = omega (arith, below)
numbered_few limits shape n (block ∷ blocks) none below =
    let here = one_block limits shape n block (none_left (places Blocks limits shape (n, block)) (flat_map (places Blocks limits shape) (enumerate_from (n + 1) blocks)) none) in
    let later = numbered_few limits shape (n + 1) blocks
    (none_after (places Blocks limits shape (n, block)) (flat_map (places Blocks limits shape) (enumerate_from (n + 1) blocks)) none) (omega (arith, here)) in
    omega (arith, later)

few_looked : (limits : Limits) (blocks : List LookedUp) → first (looked_refusals limits blocks) ≡ None → length blocks ≤ limits.blocks
unfolding looked_refusals
few_looked limits blocks none =
    let by_kind = none_each (places_in_all limits (shape_of blocks) blocks) kinds none in
    let few = numbered_few limits (shape_of blocks) 1 blocks by_kind.1.1.1.1.1.1.0 (omega arith) in
    omega (arith, few)

few_blocks : (limits : Limits) (schema : Schema) (tree : Tree) → first (refusals limits schema tree) ≡ None → length (blocks_of tree) ≤ limits.blocks
unfolding refusals
few_blocks limits schema tree none =
    let few = few_looked limits (map (looked_up schema) (blocks_of tree))
    (none_after (flat_map (unknown_tables schema) (blocks_of tree) ++ flat_map repeated_aliases (blocks_of tree))
    (looked_refusals limits (map (looked_up schema) (blocks_of tree))) none) in
    omega (arith, few, length-map (blocks_of tree) (looked_up schema))

pub few_bound : (limits : Limits) (schema : Schema) (tree : Tree) (r : Result QueryTree Fail) → limits.blocks ≤ 64
    → IsRefusedAs r (first (refusals limits schema tree)) → IfOk r (λ query. length (blocks_in query) ≡ length (blocks_of tree))
    → IfOk r (λ query. length (blocks_in query) < 2 ^ 27)
few_bound limits schema tree (Ok query) small told count = let few = few_blocks limits schema tree told in omega (arith, few, count, small)
few_bound limits schema tree (Err x) small told count = tt

-- ---- what is announced

module _ (limits : Limits) (budget : Option ℕ) (schema : Schema) (sizes : TableSizes) (tree : Tree) where
  abbrev scans_within : QueryTree → Result ScanPlan Refusal
  scans_within query = and_then (scan_preparation schema sizes query) (scans_within_budget budget)

  pub scans_unbound : (x : Fail) → Gives (failed QueryTree x) (binding limits schema tree) → Gives (failed ScanPlan x) (scan_announcement limits budget schema sizes tree)
  unfolding scan_announcement
  scans_unbound x h = given_fails QueryTree ScanPlan (binding limits schema tree) scans_within x h

  module _ (query : QueryTree) (bound : binding limits schema tree ≡ Ok query) where
    pub scans_unprepared : (x : Fail) → Gives (failed ScanPlan x) (scan_preparation schema sizes query)
        → Gives (failed ScanPlan x) (scan_announcement limits budget schema sizes tree)
    unfolding scan_announcement
    scans_unprepared x h =
        given_next (binding limits schema tree) scans_within query (failed ScanPlan x) bound
        (given_fails ScanPlan ScanPlan (scan_preparation schema sizes query) (scans_within_budget budget) x h)

    pub scans_announced : (plan : ScanPlan) (r : Result ScanPlan Fail) → scan_preparation schema sizes query ≡ Ok plan → Gives r (scans_within_budget budget plan)
        → Gives r (scan_announcement limits budget schema sizes tree)
    unfolding scan_announcement
    scans_announced plan r e h =
        given_next (binding limits schema tree) scans_within query r bound
        (given_next (scan_preparation schema sizes query) (scans_within_budget budget) plan r e h)

abbrev scans_if : Bool → ℕ → ScanPlan → Result ScanPlan Refusal
scans_if fits n p = if fits then Ok p else Err (OverBudget p.bound n)

-- a plan within the budget is as it was
pub scans_same : (budget : Option ℕ) (p q : ScanPlan) → scans_within_budget budget p ≡ Ok q → q ≡ p
scans_same None p q e = cc
scans_same (Some n) p q e = by (nat_le p.bound n) e
  where
    by : (fits : Bool) → scans_if fits n p ≡ Ok q → q ≡ p
    by true h = cc
    by false h = cc

-- ---- what was read

pub read_in_all : (r : Result Answer Want) (s t n : ℕ) → IfOk r (λ answer. answer.reads ≡ n) → IfOk r (λ answer. t ≡ s + answer.reads) → OnOk r (t ≡ s + n)
read_in_all (Ok answer) s t n reads cost = cost ∙ ap (λ m. s + m) reads
read_in_all (Err x) s t n reads cost = tt

pub read_at_most : (r : Result Answer Want) (s t n : ℕ) → IfOk r (λ answer. answer.reads ≡ n) → IfOk r (λ answer. t ≡ s + answer.reads) → OnErr r (t ≤ s + n)
    → t ≤ s + n
read_at_most (Ok answer) s t n reads cost spent = omega (arith, reads, cost)
read_at_most (Err x) s t n reads cost spent = spent
