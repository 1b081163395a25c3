-- The names that a plan uses are those of the schema that it fits.
use Rattle.std.proofs.Common.{◌≡◌, ◌<◌, ◌+◌, ◌-◌, ◌∙◌, ◌&&◌, ◌==◌, ◌++◌, ℕ, Bool, true, List, [], ◌∷◌, length, map, get_or, inl, inr, ap, sym, subst, arith}
use Rattle.std.proofs.lemmas.Bool.{cases_lt, eqb-true}
use Rattle.std.proofs.lemmas.List.{length-append, length-map, map-append, get_or-map, get_or_append_left, get_or-append_right}
use Rattle.std.proofs.lemmas.List.Elements.{All-contains, All-from_get_or}
use Rattle.std.specs.Prelude.{IsTrue, nat_lt}
use Rattle.beas_core.specs.declared.schema.Access.{Access}
use Rattle.beas_core.specs.declared.schema.AccessId.{AccessId}
use Rattle.beas_core.specs.declared.schema.TableId.{TableId}
use Rattle.beas_core.specs.declared.query.Atom.{Atom}
use Rattle.beas_core.specs.declared.plan.DStep.{DStep}
use Rattle.beas_core.specs.declared.plan.Normal.{Normal}
use Rattle.beas_core.specs.declared.plan.Derivation.{Derivation}
use Rattle.beas_core.specs.declared.plan.Prepared.{Prepared}
use Rattle.beas_core.specs.Types.{ClassSet}
use Rattle.beas_core.specs.Coverage.{atoms_of, holds_needed}
use Rattle.beas_core.specs.Derivations.{access_in, is_live, is_on_table, is_served_by, table_of, use_of}
use Rattle.beas_core.specs.Classes.{normal_of}
use Rattle.beas_core.specs.Trees.{QueryTree, Single, Either, Minus, blocks_of}
use Rattle.beas_core.specs.Guiding.{after}
use Rattle.beas_core.specs.Queries.{plan_of}
use Rattle.beas_core.specs.Fits.{PlanIsSound, PlansAreSound, PlanFits}
use Rattle.beas_core.proofs.Sets.{Contains-from_has}
use Rattle.beas_core.proofs.Accesses.{access_in-member}
use Rattle.beas_core.proofs.BindingFacts.{Has-range}
use Rattle.beas_core.proofs.MemberTests.{all_has, and_left, and_right, any_has}
use Rattle.beas_core.proofs.SoundParts.{sound_parts}
use Rattle.catalogue.specs.Schema.{Schema, SchemaIsSound, AccessIsSound}
use Rattle.plan_data.specs.Named.{BlockIsNamed}

module _ (schema : Schema) (sound : SchemaIsSound schema) where
  -- the table of a live constraint is there
  table_there : (id : AccessId) → is_live schema.accesses id ≡ true → (access_in schema.accesses id).table.0 < length schema.tables
  table_there id live =
      let access = access_in schema.accesses id in
      (All-contains (AccessIsSound schema) schema.accesses access sound.accesses
      (Contains-from_has schema.accesses access (access_in-member schema.accesses id live))).table

  -- so is that of each atom, since a step is on it
  module _ (normal : Normal) (start : ClassSet) (plan : Derivation) (fits : PlanIsSound normal schema.accesses start plan) where
    atom_there : (atom : ℕ) → atom < length normal.atoms → (table_of normal atom).0 < length schema.tables
    atom_there atom below =
        let parts = sound_parts normal schema.accesses start plan.steps fits.sound.sound in
        let served = all_has (is_served_by normal schema.accesses plan.steps) (atoms_of normal) atom parts.served
        (Has-range (length normal.atoms) 0 atom (omega arith) (omega (arith, below))) in
        let step = any_has (λ (s : DStep). (s.atom == atom) && holds_needed normal (use_of schema.accesses s)) plan.steps served in
        let same = eqb-true step.0.atom atom (and_left (step.0.atom == atom) _ step.2) in
        let on_table = and_right (nat_lt step.0.atom (length normal.atoms)) _
        (all_has (is_on_table normal schema.accesses) plan.steps step.0 parts.each.tables step.1) in
        let live = All-contains (λ (s : DStep). IsTrue (is_live schema.accesses s.access)) plan.steps step.0 fits.sound.live
        (Contains-from_has plan.steps step.0 step.1) in
        let table = eqb-true (table_of normal step.0.atom).0 (access_in schema.accesses step.0.access).table.0 on_table in
        subst (λ a. (table_of normal a).0 < length schema.tables) same (subst (λ t. t < length schema.tables) (sym table) (table_there step.0.access live))

    block_named : BlockIsNamed schema normal plan
    block_named = record {
      tables = All-from_get_or (λ (a : Atom). a.table.0 < length schema.tables) normal.atoms no_atom
          (λ i below. subst (λ t. t < length schema.tables) (table_is i below) (atom_there i below));
      constraints = fits.sound.live;
    }
      where
        no_atom : Atom
        no_atom = record { table = record { 0 = 0 }; width = 0 }

        table_is : (i : ℕ) → i < length normal.atoms → (table_of normal i).0 ≡ (get_or normal.atoms i no_atom).table.0
        table_is i below = ap (λ (t : TableId). t.0) (get_or-map (λ (a : Atom). a.table) normal.atoms i no_atom (record { 0 = 0 }) below)

  module _ (guided : List Bool) (plans : List Derivation) where
    abbrev NamedAt : QueryTree → ℕ → ℕ → Normal → Type 0
    NamedAt t n i none = BlockIsNamed schema (get_or (map normal_of (blocks_of t)) i none) (plan_of plans (n + i))

    -- one of the blocks of two trees
    either_named : (n : ℕ) (l r : QueryTree) (i : ℕ) (none : Normal) → i < length (blocks_of l ++ blocks_of r)
        → (i < length (blocks_of l) → NamedAt l n i none)
        → (i - length (blocks_of l) < length (blocks_of r) → NamedAt r (after n l) (i - length (blocks_of l)) none)
        → BlockIsNamed schema (get_or (map normal_of (blocks_of l ++ blocks_of r)) i none) (plan_of plans (n + i))
    either_named n l r i none below left right =
        let ls = map normal_of (blocks_of l) in
        let rs = map normal_of (blocks_of r) in
        let long = length-map (blocks_of l) normal_of in
        let both = ap (λ xs. get_or xs i none) (map-append normal_of (blocks_of l) (blocks_of r)) in
        elim (cases_lt i (length (blocks_of l))) [
          | inl less ↦
              subst (λ normal. BlockIsNamed schema normal (plan_of plans (n + i)))
              (sym (both ∙ get_or_append_left ls rs none i (omega (arith, less, long)))) (left less)
          | inr more ↦
              let all = length-append (blocks_of l) (blocks_of r) in
              let number : after n l + (i - length (blocks_of l)) ≡ n + i = omega (arith, more) in
              subst (λ normal. BlockIsNamed schema normal (plan_of plans (n + i)))
              (sym (both ∙ get_or-append_right ls rs (length (blocks_of l)) i none long more))
              (subst (λ k. BlockIsNamed schema (get_or rs (i - length (blocks_of l)) none) (plan_of plans k)) number
              (right (omega (arith, below, all, more))))
        ]

    tree_named : (n : ℕ) (t : QueryTree) → PlansAreSound schema.accesses guided plans n t
        → (i : ℕ) (none : Normal) → i < length (blocks_of t) → NamedAt t n i none
    tree_named n (Single block) fits i none below =
        let first : 0 ≡ i = omega (arith, below) in
        let number : n ≡ n + 0 = omega arith in
        subst (λ k. BlockIsNamed schema (get_or (normal_of block ∷ []) k none) (plan_of plans (n + k))) first
        (subst (λ k. BlockIsNamed schema (normal_of block) (plan_of plans k)) number (block_named (normal_of block) _ (plan_of plans n) fits))
    tree_named n (Either l r) fits i none below =
        either_named n l r i none below (tree_named n l fits.0 i none) (tree_named (after n l) r fits.1 (i - length (blocks_of l)) none)
    tree_named n (Minus l r) fits i none below =
        either_named n l r i none below (tree_named n l fits.0 i none) (tree_named (after n l) r fits.1 (i - length (blocks_of l)) none)

-- so each block of a plan that fits can be named
pub named : (schema : Schema) (prepared : Prepared) → SchemaIsSound schema → PlanFits schema.accesses prepared
    → (n : ℕ) (none : Normal) → n < length prepared.normals → BlockIsNamed schema (get_or prepared.normals n none) (plan_of prepared.derivations n)
named schema prepared sound fits n none below =
    let normals = fits.well_formed.normals in
    let long = ap length normals ∙ length-map (blocks_of prepared.query) normal_of in
    let here = tree_named schema sound prepared.guided prepared.derivations 0 prepared.query fits.plans n none (omega (arith, below, long)) in
    let number : 0 + n ≡ n = omega arith in
    subst (λ k. BlockIsNamed schema (get_or prepared.normals n none) (plan_of prepared.derivations k)) number
    (subst (λ xs. BlockIsNamed schema (get_or xs n none) (plan_of prepared.derivations (0 + n))) (sym normals) here)

-- and the blocks of its query are as many as its derivations
pub blocks_counted : (accesses : List Access) (prepared : Prepared) → PlanFits accesses prepared
    → length (blocks_of prepared.query) ≡ length prepared.derivations
blocks_counted accesses prepared fits =
    sym (fits.well_formed.derivations ∙ ap length fits.well_formed.normals ∙ length-map (blocks_of prepared.query) normal_of)
