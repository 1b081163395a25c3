-- A prepared query that fits a store fits it with one constraint more.
use Rattle.std.proofs.Common.{◌≡◌, List, [], ◌∷◌, ◌++◌, ap, sym, subst}
use Rattle.std.specs.Prelude.{Contains, Result, Ok, Err, OnOk, OnErr}
use Rattle.beas_core.specs.declared.schema.Access.{Access}
use Rattle.beas_core.specs.declared.plan.Prepared.{Prepared}
use Rattle.beas_core.specs.Types.{TableRows}
use Rattle.beas_core.specs.Fits.{Fits}
use Rattle.beas_core.proofs.KeptFacts.{rows_kept, stays_fit}
use Rattle.beas_core.proofs.MoreAccesses.{keeps_more}
use Rattle.beas_core.proofs.QueryBounds.{prepared_is_live}
use Rattle.beas_core.proofs.Sets.{Has-append_left, Has-from_contains, Contains-from_has}
use Rattle.catalogue.specs.Database.{Database, rows_at, with_access}
use Rattle.catalogue.specs.Schema.{SchemaIsSound}
use Rattle.plan_builder.proofs.PreparationFacts.{ids_once}
use Rattle.session.specs.Stores.{Store, database_in}

abbrev pub FitsStore : Store → Prepared → Type 0
FitsStore guarded prepared = Fits guarded.catalogue.accesses (rows_at (database_in guarded)) prepared

module _ (old new : Store) (prepared : Prepared) (fits : FitsStore old prepared) where
  abbrev FitsDatabase : Database → Type 0
  FitsDatabase db = Fits db.accesses (rows_at db) prepared

  -- the store is as it was
  pub fits_the_same : database_in new ≡ database_in old → FitsStore new prepared
  fits_the_same e = subst FitsDatabase (sym e) fits

  -- no constraint is lost
  keeps : (access : Access) → new.catalogue.accesses ≡ old.catalogue.accesses ++ access ∷ []
      → (a : Access) → Contains old.catalogue.accesses a → Contains new.catalogue.accesses a
  keeps access longer a there =
      let few = old.catalogue.accesses in
      subst (λ (l : List Access). Contains l a) (sym longer)
      (Contains-from_has (few ++ access ∷ []) a (Has-append_left few (access ∷ []) a (Has-from_contains few a there)))

  pub fits_with_access : (access : Access) → SchemaIsSound new.catalogue → database_in new ≡ with_access (database_in old) access → FitsStore new prepared
  fits_with_access access sound e =
      let few = old.catalogue.accesses in
      let many = new.catalogue.accesses in
      let before : TableRows = rows_at (database_in old) in
      let within = keeps access (ap (λ (db : Database). db.accesses) e) in
      let kept = keeps_more few many (ids_once new.catalogue sound) within prepared.derivations (prepared_is_live few prepared fits.plan) in
      subst (λ (r : TableRows). Fits many r prepared) (sym (ap rows_at e)) (stays_fit few many before before prepared kept (rows_kept before prepared.query) fits)

  -- after a constraint was made, or not
  pub fits_after : {A E : Type 0} (made : Result A E) (access : Access) → SchemaIsSound new.catalogue
      → OnOk made (database_in new ≡ with_access (database_in old) access) → OnErr made (database_in new ≡ database_in old) → FitsStore new prepared
  fits_after (Ok _) access sound longer same = fits_with_access access sound longer
  fits_after (Err _) access sound longer same = fits_the_same same
