-- What is kept for a query is what it sees.
use Rattle.std.proofs.Common.{◌≡◌, ◌==◌, ◌||◌, ◌∙◌, ℕ, Bool, true, false, List, [], ◌∷◌, map, inl, inr, refl, ap, sym}
use Rattle.std.specs.Prelude.{if◌then◌else◌}
use Rattle.std.specs.List.{All}
use Rattle.std.proofs.lemmas.Bool.{eqb-true, eq-eqb}
use Rattle.std.proofs.lemmas.List.Elements.{All-from_recursion}
use Rattle.beas_core.specs.declared.schema.Access.{Access}
use Rattle.beas_core.specs.declared.schema.AccessId.{AccessId}
use Rattle.beas_core.specs.declared.schema.TableId.{TableId}
use Rattle.beas_core.specs.declared.query.Atom.{Atom}
use Rattle.beas_core.specs.declared.query.Block.{Block}
use Rattle.beas_core.specs.declared.plan.DStep.{DStep}
use Rattle.beas_core.specs.declared.plan.Derivation.{Derivation}
use Rattle.beas_core.specs.Derivations.{access_in, is_live}
use Rattle.beas_core.specs.Fits.{KeepsConstraints, KeepsRows}
use Rattle.beas_core.specs.Trees.{QueryTree, blocks_of}
use Rattle.beas_core.specs.Types.{TableRows}
use Rattle.beas_core.proofs.Accesses.{access_in-first, access_in-rest}
use Rattle.beas_core.proofs.Sets.{Has, Has-map, all_from}
use Rattle.beas_core.proofs.MemberTests.{Has-flat_map}
use Rattle.desk_model.specs.Keeping.{KeptTable, ids_of, kept_accesses, kept_tables, rows_in, tables_of}

-- ---- rows

abbrev with_rows : TableRows → TableId → KeptTable
with_rows rows t = record { table = t; rows = rows t }

rows_kept : (rows : TableRows) (tables : List TableId) (t : TableId) → Has tables t → rows_in (map (with_rows rows) tables) t ≡ rows t
rows_kept rows [] t h = absurd h
rows_kept rows (first ∷ tables) t h = by (first.0 == t.0) refl h (rows_kept rows tables t)
  where
    by : (b : Bool) → (first.0 == t.0) ≡ b → Has (first ∷ tables) t → (Has tables t → rows_in (map (with_rows rows) tables) t ≡ rows t)
        → (if b then rows first else rows_in (map (with_rows rows) tables) t) ≡ rows t
    by true e h later = let made : ℕ → TableId = λ n. record { 0 = n } in ap (λ n. rows (made n)) (eqb-true first.0 t.0 e)
    by false e (inl same) later = let other : (first.0 == t.0) ≡ true = eq-eqb first.0 t.0 (ap (λ (x : TableId). x.0) (sym same)) in cc
    by false e (inr h) later = later h

pub keeps_its_rows : (rows : TableRows) (query : QueryTree) → KeepsRows rows (rows_in (kept_tables rows query)) query
keeps_its_rows rows query =
    let kept = rows_in (kept_tables rows query) in
    let each : (block : Block) → Has (blocks_of query) block → All (λ (a : Atom). kept a.table ≡ rows a.table) block.atoms = λ block m.
    All-from_recursion (λ (a : Atom). kept a.table ≡ rows a.table) block.atoms (all_from (λ (a : Atom). kept a.table ≡ rows a.table) block.atoms (λ a k.
    rows_kept rows (tables_of query) a.table
    (Has-flat_map (λ (b : Block). map (λ (x : Atom). x.table) b.atoms) (blocks_of query) block a.table m (Has-map (λ (x : Atom). x.table) block.atoms a k)))) in
    All-from_recursion (λ (block : Block). All (λ (a : Atom). kept a.table ≡ rows a.table) block.atoms) (blocks_of query)
    (all_from (λ (block : Block). All (λ (a : Atom). kept a.table ≡ rows a.table) block.atoms) (blocks_of query) each)

-- ---- constraints

id_stays : (accesses : List Access) (id : AccessId) → (access_in accesses id).id ≡ id
unfolding access_in
id_stays [] id = refl
id_stays (a ∷ accesses) id = by (a.id.0 == id.0) refl (id_stays accesses id)
  where
    by : (b : Bool) → (a.id.0 == id.0) ≡ b → (access_in accesses id).id ≡ id → (access_in (a ∷ accesses) id).id ≡ id
    by true e later = let made : ℕ → AccessId = λ n. record { 0 = n } in ap (λ (c : Access). c.id) (access_in-first a accesses id e) ∙ ap made (eqb-true a.id.0 id.0 e)
    by false e later = ap (λ (c : Access). c.id) (access_in-rest a accesses id e) ∙ later

module _ (accesses : List Access) where
  abbrev IsIn : List AccessId → AccessId → Type 0
  IsIn ids id = (is_live (map (access_in accesses) ids) id ≡ true) × (access_in (map (access_in accesses) ids) id ≡ access_in accesses id)

  constraint_kept : (ids : List AccessId) (id : AccessId) → Has ids id → IsIn ids id
  constraint_kept [] id h = absurd h
  constraint_kept (first ∷ ids) id h = by ((access_in accesses first).id.0 == id.0) refl h (constraint_kept ids id)
    where
      by : (b : Bool) → ((access_in accesses first).id.0 == id.0) ≡ b → Has (first ∷ ids) id → (Has ids id → IsIn ids id) → IsIn (first ∷ ids) id
      by true e h later =
          let made : ℕ → AccessId = λ n. record { 0 = n } in
          let same : first ≡ id = sym (id_stays accesses first) ∙ ap made (eqb-true (access_in accesses first).id.0 id.0 e) in (
            ap (λ b. b || is_live (map (access_in accesses) ids) id) e,
            access_in-first (access_in accesses first) (map (access_in accesses) ids) id e ∙ ap (access_in accesses) same,
          )
      by false e (inl same) later =
          let other : ((access_in accesses first).id.0 == id.0) ≡ true =
          eq-eqb (access_in accesses first).id.0 id.0 (ap (λ (i : AccessId). i.0) (id_stays accesses first ∙ sym same)) in cc
      by false e (inr h) later = let there = later h in (
        ap (λ b. b || is_live (map (access_in accesses) ids) id) e ∙ there.0,
        access_in-rest (access_in accesses first) (map (access_in accesses) ids) id e ∙ there.1,
      )

  pub keeps_its_constraints : (plans : List Derivation) → KeepsConstraints accesses (kept_accesses accesses plans) plans
  keeps_its_constraints plans =
      let IsKept : DStep → Type 0 = λ s. IsIn (ids_of plans) s.access in
      let each : (plan : Derivation) → Has plans plan → All IsKept plan.steps = λ plan m.
      All-from_recursion IsKept plan.steps (all_from IsKept plan.steps (λ s k.
      constraint_kept (ids_of plans) s.access
      (Has-flat_map (λ (d : Derivation). map (λ (x : DStep). x.access) d.steps) plans plan s.access m (Has-map (λ (x : DStep). x.access) plan.steps s k)))) in
      All-from_recursion (λ (plan : Derivation). All IsKept plan.steps) plans (all_from (λ (plan : Derivation). All IsKept plan.steps) plans each)
