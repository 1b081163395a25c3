-- A query that is opened.
use Rattle.std.proofs.Common.{◌≡◌, ◌≤◌, ◌++◌, ◌∙◌, ℕ, true, false, List, [], ◌∷◌, map, Some, None, Result, Ok, Err, refl, ap, sym, subst, arith}
use Rattle.std.specs.Prelude.{All, filter, Contains, IfOk, OnOk, sum}
use Rattle.std.proofs.lemmas.List.Elements.{All-nil, All-push}
use Rattle.beas_core.specs.declared.errors.Fail.{Fail}
use Rattle.beas_core.specs.declared.errors.Fail.TheVariants.{NoMemory, Refused}
use Rattle.beas_core.specs.declared.errors.NoMemory.{NoMemory as Want}
use Rattle.beas_core.specs.Results.{Gives}
use Rattle.beas_core.specs.declared.plan.Prepared.{Prepared}
use Rattle.beas_core.specs.declared.refusal.Refusal.{Refusal}
use Rattle.beas_core.specs.declared.schema.Access.{Access}
use Rattle.beas_core.specs.Fits.{Fits}
use Rattle.beas_core.specs.Queries.{BlockProbe}
use Rattle.beas_core.proofs.Sets.{Has-from_contains}
use Rattle.block_walk.specs.Worlds.{World}
use Rattle.catalogue.specs.Database.{Database, rows_at, schema_of}
use Rattle.catalogue.specs.Schema.{SchemaIsSound}
use Rattle.cursor_executor.specs.Fetching.{Seen as CursorSeen, reads_fetched}
use Rattle.report.specs.declared.reports.Report.{Report}
use Rattle.report.specs.declared.reports.Report.TheVariants as report
use Rattle.session.specs.declared.session.Session.{Session}
use Rattle.session.specs.Applying.{database_of, settings_of}
use Rattle.session.specs.Carrying.{reported}
use Rattle.session.specs.Effects.{plan_shown, reads_in}
use Rattle.session.specs.Turns.{IsWithin}
use Rattle.sql_text.specs.declared.tree.Statement.TheVariants.{Select}
use Rattle.desk_model.specs.Keeping.{kept_accesses, kept_tables}
use Rattle.desk_model.specs.OpenQueries.{OpenQuery, reads_of}
use Rattle.desk_model.specs.Kept.{AreApart}
use Rattle.version_store.specs.Held.{IsKept, held, world_of}
use Rattle.piece_reader.specs.declared.event.Event.TheVariants.{Said}
use Rattle.desk_model.specs.Desks.{OneEach, State, new_query, opened_effect, query_of}
use Rattle.desk_model.proofs.OneEachFacts.{opened-apart}
use Rattle.desk_model.proofs.PlainFacts.{reads_are}
use Rattle.version_store.specs.declared.store.KeptTable.{KeptTable}
use Rattle.sql_text.specs.Trees.{Tree}
use Rattle.version_store.specs.Desks.{Begins, GoesOn, Seen}
use Rattle.version_store.specs.Events.{Happens}
use Rattle.version_store.specs.Stored.{AreCounted, AreKept, IsNew, IsOpenAt, Open, Opens, constraints_in, held_at, probes_in, rows_in, seen_in, share_in, state_in, table_in}
use Rattle.version_store.proofs.SeenFacts as seen

-- no part is of any table
all_left : (own : List Access) → filter (λ a. true) own ≡ own
all_left [] = refl
all_left (a ∷ own) = ap (λ more. a ∷ more) (all_left own)

abbrev world_in : Database → List KeptTable → World
world_in db parts = world_of table_in rows_in constraints_in (rows_at db) db.accesses parts

abbrev first : Prepared → CursorSeen
first prepared = record { prepared = prepared; fetched = []; reads = 0; failed = false; answer = None }

module _ (session : Session) (k : ℕ) (prepared : Prepared) (query : Open) (h : IsNew session k prepared query) where
  abbrev db : Database
  db = database_of session

  constraints_are : (world_in db []).accesses ≡ db.accesses
  constraints_are = all_left db.accesses

  pub new_is : held_at db query ≡ new_query session.explain db k prepared
  new_is =
      let made : List KeptTable → ℕ → CursorSeen → List ℕ → OpenQuery = λ parts s c plan. held (world_in db parts) s c plan in
      let with_accesses : List Access → OpenQuery = λ accesses. record {
        session = k;
        prepared = prepared;
        plan = plan_shown session.explain db prepared;
        tables = kept_tables (rows_at db) prepared.query;
        accesses = kept_accesses accesses prepared.derivations;
        made = Some 0;
      } in
      ap (λ parts. made parts query.session query.cursor query.plan) h.no_parts
      ∙ ap (λ s. made [] s query.cursor query.plan) h.session_is
      ∙ ap (λ c. made [] k c query.plan) h.cursor_is
      ∙ ap (made [] k (first prepared)) h.plan_is
      ∙ ap with_accesses constraints_are

  nothing_there : {A : Type 0} (x : A) → Contains [] x → ⊥
  nothing_there x m = Has-from_contains [] x m

  first_kept : Fits db.accesses (rows_at db) prepared → IsKept (world_in db []) (first prepared)
  first_kept fits = record {
    fits = subst (λ accesses. Fits accesses (rows_at db) prepared) (sym constraints_are) fits;
    agrees = λ live f m. absurd (nothing_there f m);
    asked = λ live f m. absurd (nothing_there f m);
  }

  pub new_open : Fits db.accesses (rows_at db) prepared → IsOpenAt db query
  new_open fits = record {
    header = h.header_is ∙ ap (λ (c : CursorSeen). c.prepared.header) (sym h.cursor_is);
    apart = subst (λ parts. AreApart table_in parts) (sym h.no_parts) (λ i j d less below. absurd (omega (arith, below)));
    kept = subst (λ parts. IsKept (world_in db parts) query.cursor) (sym h.no_parts)
        (subst (IsKept (world_in db [])) (sym h.cursor_is) (first_kept fits));
  }

  pub new_counted : Fits db.accesses (rows_at db) prepared → reads_in db prepared ≤ prepared.bound → AreCounted (held_at db query) query.cursor
  new_counted fits few =
      let state : State = record { db = db; queries = [] } in
      let reads = reads_are session.explain state k prepared fits.plan in
      let none = ap (λ (c : CursorSeen). c.reads) h.cursor_is in
      record {
        reads = λ live. ap (λ (c : CursorSeen). c.reads) h.cursor_is ∙ ap (λ (c : CursorSeen). reads_fetched c.fetched) (sym h.cursor_is);
        most = λ live. omega (arith, none);
        bound = subst (λ (q : OpenQuery). reads_of q ≤ q.prepared.bound) (sym new_is) (omega (arith, few, reads));
      }

  pub new_share : share_in query.cursor ≡ 0
  new_share = ap share_in h.cursor_is

  pub new_probes : probes_in query.cursor ≡ []
  new_probes = ap probes_in h.cursor_is

-- ---- at a desk without open queries

pub none_kept : (db : Database) → SchemaIsSound (schema_of db) → AreKept db []
none_kept db sound = record {
  sound = sound;
  one_each = λ i j d less below. absurd (omega (arith, below));
  open_queries = All-nil (IsOpenAt db);
  counts = All-nil (λ (o : Open). AreCounted (held_at db o) o.cursor);
}

-- ---- at a desk

abbrev share : Open → ℕ
share query = share_in query.cursor

abbrev probes : Open → List BlockProbe
probes query = probes_in query.cursor

module _ (session : Session) (k : ℕ) (prepared : Prepared) (old new : List Open) (h : Opens session k prepared old new) where
  abbrev before : Seen
  before = seen_in session old

  abbrev after : Seen
  after = seen_in session new

  abbrev see : Open → OpenQuery
  see = held_at (database_of session)

  state_after : after.state ≡ (opened_effect session.explain before.state k (Ok prepared)).state
  state_after =
      ap (state_in session) h.stands
      ∙ seen.state_push see share probes (settings_of session) (database_of session) old h.query
      ∙ ap (λ q. let s : State = record before.state { queries = map see old ++ q ∷ [] } in s) (new_is session k prepared h.query h.begins)

  pub opened_happens : (s : ℕ) → Happens (opened_effect session.explain before.state k (Ok prepared)) (report.Opened k prepared.bound) before after s s
  opened_happens s =
      let whole = ap (λ qs. sum (map share qs)) h.stands in
      let sums = seen.sum_push see share probes (settings_of session) (database_of session) old h.query in
      let none = new_share session k prepared h.query h.begins in
      record { report_is = refl; state_is = state_after; settings_stay = refl; counts = omega (arith, whole, sums, none) }

  pub opened_begins : (s : ℕ) → Begins before after s s
  opened_begins s = record {
    probes = ap (map probes) h.stands ∙ seen.probes_push see share probes (settings_of session) (database_of session) old h.query
        ∙ ap (λ ps. map probes old ++ ps ∷ []) (new_probes session k prepared h.query h.begins);
    shares = ap (map share) h.stands ∙ seen.shares_push see share probes (settings_of session) (database_of session) old h.query
        ∙ ap (λ n. map share old ++ n ∷ []) (new_share session k prepared h.query h.begins);
    steps = refl;
  }

  pub opened_kept : Fits (database_of session).accesses (rows_at (database_of session)) prepared
      → reads_in (database_of session) prepared ≤ prepared.bound → query_of k before.state ≡ None
      → AreKept (database_of session) old → AreKept (database_of session) new
  opened_kept fits few idle kept = record {
    sound = kept.sound;
    one_each = subst OneEach (sym state_after) (opened-apart before.state kept.one_each session.explain k (Ok prepared) idle);
    open_queries = subst (All (IsOpenAt (database_of session))) (sym h.stands)
        (All-push (IsOpenAt (database_of session)) old h.query kept.open_queries (new_open session k prepared h.query h.begins fits));
    counts = subst (All (λ (o : Open). AreCounted (see o) o.cursor)) (sym h.stands)
        (All-push (λ (o : Open). AreCounted (see o) o.cursor) old h.query kept.counts (new_counted session k prepared h.query h.begins fits few));
  }

-- ---- by what is announced of a query

pub opened_did : (session : Session) (k : ℕ) (prepared : Prepared) (old new : List Open) (r : Result Report Want) (w : Result Prepared Refusal)
    → w ≡ Ok prepared → IfOk r (λ given. given ≡ report.Opened k prepared.bound) → OnOk r (Opens session k prepared old new)
    → (s : ℕ) → IfOk r (λ given. Happens (opened_effect session.explain (state_in session old) k w) given (seen_in session old) (seen_in session new) s s)
opened_did session k prepared old new (Err e) w is did opens s = tt
opened_did session k prepared old new (Ok given) w is did opens s =
    subst (λ x. Happens (opened_effect session.explain (state_in session old) k x) given (seen_in session old) (seen_in session new) s s) (sym is)
    (subst (λ x. Happens (opened_effect session.explain (state_in session old) k (Ok prepared)) x (seen_in session old) (seen_in session new) s s) (sym did)
    (opened_happens session k prepared old new opens s))

pub refused_did : (session : Session) (k : ℕ) (queries : List Open) (why : Refusal) (w : Result Prepared Refusal) → w ≡ Err why
    → (s : ℕ) → Happens (opened_effect session.explain (state_in session queries) k w) (report.Refused why) (seen_in session queries) (seen_in session queries) s s
refused_did session k queries why w is s =
    subst (λ x. Happens (opened_effect session.explain (state_in session queries) k x) (report.Refused why) (seen_in session queries) (seen_in session queries) s s)
    (sym is) (record { report_is = refl; state_is = refl; settings_stay = refl; counts = omega arith })

pub opened_goes : (session : Session) (k : ℕ) (prepared : Prepared) (tree : Tree) (old new : List Open) (r : Result Report Want)
    → IfOk r (λ given. given ≡ report.Opened k prepared.bound) → OnOk r (Opens session k prepared old new)
    → (s : ℕ) → IfOk r (λ given. GoesOn (Said k (Select tree)) given (seen_in session old) (seen_in session new) s s)
opened_goes session k prepared tree old new (Err e) did opens s = tt
opened_goes session k prepared tree old new (Ok given) did opens s =
    subst (λ x. GoesOn (Said k (Select tree)) x (seen_in session old) (seen_in session new) s s) (sym did) (opened_begins session k prepared old new opens s)

-- ---- by why it isn't announced

pub fail_did : (session : Session) (k : ℕ) (queries : List Open) (fail : Fail) (v w : Result Prepared Refusal) → w ≡ v → Gives {A = Prepared} (Err fail) v
    → (s : ℕ) → IfOk (reported (Err fail)) (λ given. Happens (opened_effect session.explain (state_in session queries) k w) given
    (seen_in session queries) (seen_in session queries) s s)
fail_did session k queries NoMemory v w is given s = tt
fail_did session k queries (Refused why) v w is given s = refused_did session k queries why w (is ∙ given) s

pub fail_goes : (session : Session) (k : ℕ) (queries : List Open) (fail : Fail) (tree : Tree)
    → (s : ℕ) → IfOk (reported (Err fail)) (λ given. GoesOn (Said k (Select tree)) given (seen_in session queries) (seen_in session queries) s s)
fail_goes session k queries NoMemory tree s = tt
fail_goes session k queries (Refused why) tree s = record { probes = refl; shares = refl }

pub fail_within : (fail : Fail) → IfOk (reported (Err fail)) IsWithin
fail_within NoMemory = tt
fail_within (Refused why) = tt
