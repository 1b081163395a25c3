-- An open query in a world, and in another one that has the same of its tables.
use Rattle.std.proofs.Common.{◌≡◌, ◌<◌, ◌∙◌, ℕ, true, false, List, [], ◌∷◌, length, map, get_or, None, inl, inr, refl, ap, sym, subst}
use Rattle.std.specs.Prelude.{Contains}
use Rattle.std.specs.List.{All}
use Rattle.std.proofs.lemmas.List.{get_or-map}
use Rattle.std.proofs.lemmas.List.Elements.{All-contains}
use Rattle.beas_core.specs.declared.schema.Access.{Access}
use Rattle.beas_core.specs.declared.schema.AccessId.{AccessId}
use Rattle.beas_core.specs.declared.schema.TableId.{TableId}
use Rattle.beas_core.specs.declared.query.Atom.{Atom}
use Rattle.beas_core.specs.declared.query.Block.{Block}
use Rattle.beas_core.specs.declared.plan.DStep.{DStep}
use Rattle.beas_core.specs.declared.plan.Derivation.{Derivation}
use Rattle.beas_core.specs.declared.plan.Prepared.{Prepared}
use Rattle.beas_core.specs.Derivations.{access_in, is_live}
use Rattle.beas_core.specs.Fits.{KeepsConstraints, KeepsRows}
use Rattle.beas_core.specs.Full.{full_of}
use Rattle.beas_core.specs.Groups.{group_of}
use Rattle.beas_core.specs.Queries.{BlockProbe}
use Rattle.beas_core.specs.Trees.{QueryTree, blocks_of}
use Rattle.beas_core.specs.Types.{TableRows}
use Rattle.beas_core.proofs.Sets.{Has, Has-from_contains, Has-from_map, Contains-from_has}
use Rattle.beas_core.proofs.KeptFacts.{probes_stay, stays_fit}
use Rattle.beas_core.proofs.MemberTests.{Has-from_flat_map}
use Rattle.block_walk.specs.Worlds.{World, Agrees}
use Rattle.cursor_executor.specs.Fetching.{BlockFetched, Seen, probe_of, probes_due, reads_due, share_of as share_in, steps_of}
use Rattle.desk_model.specs.Frames.{QueryStays, SameForQuery}
use Rattle.desk_model.specs.Keeping.{KeptTable, ids_of, kept_accesses, kept_tables, rows_in, tables_of}
use Rattle.desk_model.specs.OpenQueries.{OpenQuery, answer_of, probes_of, reads_of, share_of}
use Rattle.desk_model.proofs.KeepingFacts.{keeps_its_constraints, keeps_its_rows}
use Rattle.desk_model.proofs.ProbeFacts.{probe_within}
use Rattle.desk_model.proofs.QueryFacts.{keeps_constraints, keeps_rows, query_stays, share_stays, steps_stay}
use Rattle.version_store.specs.Held.{IsKept, held}

map_same : {A B : Type 0} (f g : A → B) (xs : List A) → ((x : A) → Has xs x → f x ≡ g x) → map f xs ≡ map g xs
map_same f g [] same = refl
map_same f g (x ∷ xs) same = ap (λ y. y ∷ map f xs) (same x (inl refl)) ∙ ap (λ ys. g x ∷ ys) (map_same f g xs (λ y m. same y (inr m)))

-- what is kept of equal rows and constraints is equal
tables_stay : (old new : TableRows) (query : QueryTree) → KeepsRows old new query → kept_tables new query ≡ kept_tables old query
tables_stay old new query kept =
    map_same (of_rows new) (of_rows old) (tables_of query) (λ t m. ap (λ rows. let k : KeptTable = record { table = t; rows = rows } in k) (row t m))
  where
    of_rows : TableRows → TableId → KeptTable
    of_rows rows t = record { table = t; rows = rows t }

    row : (t : TableId) → Has (tables_of query) t → new t ≡ old t
    row t m =
        let b = Has-from_flat_map (λ (block : Block). map (λ (a : Atom). a.table) block.atoms) (blocks_of query) t m in
        let a = Has-from_map (λ (x : Atom). x.table) b.0.atoms t b.2 in
        let all = All-contains (λ (block : Block). All (λ (x : Atom). new x.table ≡ old x.table) block.atoms) (blocks_of query) b.0 kept
        (Contains-from_has (blocks_of query) b.0 b.1) in
        subst (λ id. new id ≡ old id) (sym a.2) (All-contains (λ (x : Atom). new x.table ≡ old x.table) b.0.atoms a.0 all (Contains-from_has b.0.atoms a.0 a.1))

abbrev IsSame : List Access → List Access → DStep → Type 0
IsSame few many s = (is_live many s.access ≡ true) × (access_in many s.access ≡ access_in few s.access)

accesses_stay : (few many : List Access) (plans : List Derivation) → KeepsConstraints few many plans → kept_accesses many plans ≡ kept_accesses few plans
accesses_stay few many plans keeps = map_same (access_in many) (access_in few) (ids_of plans) constraint
  where
    constraint : (id : AccessId) → Has (ids_of plans) id → access_in many id ≡ access_in few id
    constraint id m =
        let p = Has-from_flat_map (λ (plan : Derivation). map (λ (s : DStep). s.access) plan.steps) plans id m in
        let s = Has-from_map (λ (x : DStep). x.access) p.0.steps id p.2 in
        let all = All-contains (λ (plan : Derivation). All (IsSame few many) plan.steps) plans p.0 keeps (Contains-from_has plans p.0 p.1) in
        subst (λ i. access_in many i ≡ access_in few i) (sym s.2)
        (All-contains (IsSame few many) p.0.steps s.0 all (Contains-from_has p.0.steps s.0 s.1)).1

-- ---- the tables of the query stay as they were

module _ (w v : World) (cursor : Seen) (kept : IsKept w cursor)
    (same : SameForQuery w.accesses v.accesses w.rows v.rows cursor.prepared.query) where
  abbrev prepared : Prepared
  prepared = cursor.prepared

  keeps : KeepsConstraints w.accesses v.accesses prepared.derivations
  keeps = keeps_constraints w.accesses v.accesses w.rows v.rows prepared kept.fits.plan same

  rows_keep : KeepsRows w.rows v.rows prepared.query
  rows_keep = keeps_rows w.accesses v.accesses w.rows v.rows prepared.query same

  probes_are_kept : probes_due v prepared ≡ probes_due w prepared
  probes_are_kept = probes_stay w.accesses v.accesses prepared.guided prepared.derivations keeps w.rows v.rows 0 None prepared.query
      kept.fits.plan.plans rows_keep

  agrees_still : (f : BlockFetched) → Contains (probes_due w prepared) (probe_of f) → Agrees w (steps_of prepared f.block) f.pair
      → Agrees v (steps_of prepared f.block) f.pair
  agrees_still f asked a =
      let steps = steps_of prepared f.block in
      let n = f.pair.probe.step in
      let none : DStep = record { atom = 0; access = record { 0 = 0 }; adds = false } in
      let below : n < length steps = probe_within w.rows w.accesses prepared.guided prepared.derivations 0 None prepared.query (probe_of f)
      (Has-from_contains (probes_due w prepared) (probe_of f) asked) in
      let stays = steps_stay w.accesses v.accesses w.rows v.rows prepared kept.fits.plan same f.block n none below in
      let before : access_in w.accesses (get_or steps n none).access ≡ f.pair.access =
      sym (get_or-map (λ (s : DStep). access_in w.accesses s.access) steps n none (access_in w.accesses (record { 0 = 0 })) below) ∙ a.access in
      let rows = subst (λ (x : Access). v.rows x.table ≡ w.rows x.table) before stays.rows in
      record {
        access = get_or-map (λ (s : DStep). access_in v.accesses s.access) steps n none (access_in v.accesses (record { 0 = 0 })) below
            ∙ stays.access ∙ before;
        tuples = ap (λ found. group_of found f.pair.access f.pair.probe.key) rows ∙ a.tuples;
      }

  pub kept_still : IsKept v cursor
  kept_still = record {
    fits = stays_fit w.accesses v.accesses w.rows v.rows prepared keeps rows_keep kept.fits;
    agrees = λ going f m. agrees_still f (kept.asked going f m) (kept.agrees going f m);
    asked = λ going f m. subst (λ ps. Contains ps (probe_of f)) (sym probes_are_kept) (kept.asked going f m);
  }

  pub held_still : (session : ℕ) (plan : List ℕ) → held v session cursor plan ≡ held w session cursor plan
  held_still session plan =
      ap (λ tables. let q : OpenQuery = record (held v session cursor plan) { tables = tables } in q) (tables_stay w.rows v.rows prepared.query rows_keep)
      ∙ ap (λ accesses. let q : OpenQuery = record (held w session cursor plan) { accesses = accesses } in q)
      (accesses_stay w.accesses v.accesses prepared.derivations keeps)

-- ---- what it sees is what is kept for it

module _ (w : World) (cursor : Seen) (kept : IsKept w cursor) (session : ℕ) (plan : List ℕ) where
  abbrev q : OpenQuery
  q = held w session cursor plan

  abbrev kept_rows : TableRows
  kept_rows = rows_in (kept_tables w.rows cursor.prepared.query)

  abbrev kept_list : List Access
  kept_list = kept_accesses w.accesses cursor.prepared.derivations

  stays : QueryStays w.accesses kept_list w.rows kept_rows cursor.prepared
  stays = query_stays w.accesses kept_list w.rows kept_rows cursor.prepared kept.fits.plan
      (keeps_its_constraints w.accesses cursor.prepared.derivations) (keeps_its_rows w.rows cursor.prepared.query)

  pub probes_are : probes_of q ≡ probes_due w cursor.prepared
  probes_are = stays.probes

  pub reads_are : reads_of q ≡ reads_due w cursor.prepared
  reads_are = stays.reads

  pub answer_is : answer_of q ≡ full_of w.rows cursor.prepared.query
  answer_is = stays.answer

  pub share_is : (p : BlockProbe) → Contains (probes_due w cursor.prepared) p → share_of q p ≡ share_in w cursor.prepared p
  share_is p wanted =
      share_stays w.accesses kept_list w.rows kept_rows cursor.prepared kept.fits.plan stays.constraints stays.rows p
      (probe_within w.rows w.accesses cursor.prepared.guided cursor.prepared.derivations 0 None cursor.prepared.query p
      (Has-from_contains (probes_due w cursor.prepared) p wanted))
