-- What an event does at a desk, by what its parts do.
use Rattle.std.proofs.Common.{◌≡◌, ◌<◌, ◌∙◌, ℕ, Bool, true, false, List, [], ◌∷◌, length, map, get_or, Option, Some, None, Result, Ok, Err, refl, ap, sym, subst, arith}
use Rattle.std.specs.Prelude.{◌==◌, All, Contains, IfOk, OnErr, if◌then◌else◌, is_some, position, sum, sum_by, option_map}
use Rattle.std.proofs.lemmas.List.{get_or-map, length-map}
use Rattle.outside.specs.Seen.{IsLater, Seen as Files}
use Rattle.outside.proofs.Counts.{raised_none}
use Rattle.beas_core.specs.Queries.{BlockProbe}
use Rattle.beas_core.proofs.Sets.{Contains-from_has, Has-from_map, Has-from_contains}
use Rattle.catalogue.specs.Database.{Database}
use Rattle.cursor_executor.specs.Fetching.{Seen as CursorSeen, probe_of, probed}
use Rattle.beas_core.specs.declared.errors.NoMemory.{NoMemory}
use Rattle.beas_core.specs.declared.refusal.Refusal.{Refusal}
use Rattle.beas_core.specs.declared.refusal.Refusal.TheVariants.{SessionBusy}
use Rattle.report.specs.declared.reports.Report.{Report}
use Rattle.report.specs.declared.reports.Report.TheVariants.{Refused}
use Rattle.session.specs.declared.loading.LoadOutcome.TheVariants.{Failed}
use Rattle.session.specs.declared.session.Session.{Session}
use Rattle.session.specs.Applying.{IsApplied, MayCost, MayLoad, database_of, settings_of}
use Rattle.session.specs.Effects.{Action, Does, Loads, Effect, Settings, action_of}
use Rattle.session.proofs.AppliedFacts.{later_same}
use Rattle.session.proofs.TieFacts.{tied_none}
use Rattle.sql_text.specs.declared.tree.Statement.{Statement}
use Rattle.sql_text.specs.declared.tree.Statement.TheVariants.{CreateTable, CreateAccess, DropAccess, Load, Insert, Delete, DiscoverGroup, DiscoverPairs, Select, Explain, ScanOk, Grouped, Specialise}
use Rattle.desk_model.specs.OpenQueries.{OpenQuery, probes_of, share_of}
use Rattle.version_store.specs.Held.{cursor_of}
use Rattle.version_store.proofs.WorldFacts.{probes_are}
use Rattle.piece_reader.specs.declared.event.Event.TheVariants.{Said}
use Rattle.desk_model.specs.Desks.{AtOnce, DeskEffect, State, at_desk, is_of, query_of, refused, said_action, statement_action}
use Rattle.version_store.specs.Desks.{GoesOn, IsDesk, MayCost as MayTakeOf, MayLoad as MayLoadOf, ProbesFit, Seen, Stays, Takes, TakesSome, waits_for_file}
use Rattle.version_store.specs.Events.{Happens, HappensSome, IsNoSelect}
use Rattle.version_store.specs.Stored.{AreCounted, AreKept, IsOpenAt, Open, held_at, probes_in, seen_in, share_in, state_in, world_at}
use Rattle.version_store.proofs.Places.{place_is_found, position-map}
use Rattle.version_store.proofs.CountFacts.{going, going_probes, going_share, has_failed, lost_probes, lost_share, one_each, shares_are}

-- ---- what is done at once

pub takes_at_once : (limit : ℕ) (effect : DeskEffect) (report : Report) (before after : Seen) (s t : ℕ) (x y : Files) → IsLater x y → y.loads ≡ x.loads
    → Happens effect report before after s t → Takes limit (AtOnce effect) report before after s t x y
takes_at_once limit effect report before after s t x y later same h = record {
  outcome = Failed;
  report_is = h.report_is;
  state_is = h.state_is;
  settings_stay = h.settings_stay;
  counts = h.counts;
  tied = tied_none limit x y later;
  counted = same ∙ sym (raised_none x.loads);
}

pub takes_some : (limit : ℕ) (o : Option DeskEffect) (report : Report) (before after : Seen) (s t : ℕ) (x : Files)
    → HappensSome o report before after s t → TakesSome limit (option_map AtOnce o) report before after s t x x
takes_some limit None report before after s t x h = h
takes_some limit (Some effect) report before after s t x h = takes_at_once limit effect report before after s t x x (later_same x) refl h

pub takes_step : (limit : ℕ) (o : Option DeskEffect) (r : Result Report NoMemory) (before after : Seen) (s t : ℕ) (x : Files)
    → IfOk r (λ given. HappensSome o given before after s t) → IfOk r (λ given. TakesSome limit (option_map AtOnce o) given before after s t x x)
takes_step limit o (Ok given) before after s t x h = takes_some limit o given before after s t x h
takes_step limit o (Err e) before after s t x h = tt

pub loads_none : (o : Option DeskEffect) (x : Files) → MayLoadOf (option_map AtOnce o) x x
loads_none None x = refl
loads_none (Some effect) x = refl

-- ---- what is done to the database

module _ (state : State) (action : Action) where
  pub may_take : (s t : ℕ) → MayCost action s t → MayTakeOf (at_desk state action) s t
  may_take s t may = by action may
    where
      by : (a : Action) → MayCost a s t → MayTakeOf (at_desk state a) s t
      by (Does effect) h = h
      by (Loads name effect) h = h

  pub may_load : (x y : Files) → MayLoad action x y → MayLoadOf (Some (at_desk state action)) x y
  may_load x y may = by action may
    where
      by : (a : Action) → MayLoad a x y → MayLoadOf (Some (at_desk state a)) x y
      by (Does effect) h = h
      by (Loads name effect) h = h

  pub may_read : (P : Type 0) → ((effect : Effect) → action ≡ Does effect → P) → waits_for_file (Some (at_desk state action)) ≡ false → P
  may_read P unread = by action refl
    where
      by : (a : Action) → action ≡ a → waits_for_file (Some (at_desk state a)) ≡ false → P
      by (Does effect) e h = unread effect e
      by (Loads name effect) e h = cc

  pub takes_applied : (limit : ℕ) (report : Report) (db : Database) (before after : Seen) (s t : ℕ) (x y : Files) → before.state ≡ state
      → after.state ≡ record state { db = db } → after.settings ≡ before.settings → after.shares ≡ before.shares
      → IsApplied limit action report db s t x y → Takes limit (at_desk state action) report before after s t x y
  takes_applied limit report db before after s t x y is next settings shares = by action
    where
      sums : sum after.shares ≡ sum before.shares
      sums = ap sum shares

      by : (a : Action) → IsApplied limit a report db s t x y → Takes limit (at_desk state a) report before after s t x y
      by (Does effect) h = let cost = h.cost_is in record {
        outcome = h.outcome;
        report_is = h.report_is;
        state_is = next ∙ ap (λ d. let st : State = record state { db = d } in st) h.db_is;
        settings_stay = settings;
        counts = omega (arith, cost, sums);
        tied = h.tied;
        counted = h.counted;
      }
      by (Loads name effect) h = let cost = h.cost_is in record {
        outcome = h.outcome;
        report_is = h.report_is;
        state_is = next ∙ ap (λ d. let st : State = record state { db = d } in st) h.db_is;
        settings_stay = settings;
        counts = omega (arith, cost, sums);
        tied = h.tied;
        counted = h.counted;
      }

-- ---- a statement that isn't a SELECT

pub at_desk_is : (s : Settings) (state : State) (k : ℕ) (statement : Statement) → IsNoSelect statement
    → statement_action s state k statement ≡ at_desk state (action_of s state.db statement)
at_desk_is s state k (Select tree) other = absurd (other tree refl)
at_desk_is s state k (CreateTable name columns) other = refl
at_desk_is s state k (CreateAccess spec) other = refl
at_desk_is s state k (DropAccess name) other = refl
at_desk_is s state k (Load table file) other = refl
at_desk_is s state k (Insert table tuples) other = refl
at_desk_is s state k (Delete table conditions) other = refl
at_desk_is s state k (DiscoverGroup table key fetched) other = refl
at_desk_is s state k (DiscoverPairs table limit) other = refl
at_desk_is s state k (Explain tree) other = refl
at_desk_is s state k (ScanOk tree) other = refl
at_desk_is s state k (Grouped items keys inner) other = refl
at_desk_is s state k (Specialise tree) other = refl

pub stays_there : (k : ℕ) (statement : Statement) → IsNoSelect statement → (report : Report) (before after : Seen) (s t : ℕ) → Stays before after
    → GoesOn (Said k statement) report before after s t
stays_there k (Select tree) other report before after s t h = absurd (other tree refl)
stays_there k (CreateTable name columns) other report before after s t h = h
stays_there k (CreateAccess spec) other report before after s t h = h
stays_there k (DropAccess name) other report before after s t h = h
stays_there k (Load table file) other report before after s t h = h
stays_there k (Insert table tuples) other report before after s t h = h
stays_there k (Delete table conditions) other report before after s t h = h
stays_there k (DiscoverGroup table key fetched) other report before after s t h = h
stays_there k (DiscoverPairs table limit) other report before after s t h = h
stays_there k (Explain tree) other report before after s t h = h
stays_there k (ScanOk tree) other report before after s t h = h
stays_there k (Grouped items keys inner) other report before after s t h = h
stays_there k (Specialise tree) other report before after s t h = h

pub refused_goes : (k : ℕ) (statement : Statement) (why : Refusal) (before : Seen) (s : ℕ) → GoesOn (Said k statement) (Refused why) before before s s
refused_goes k (Select tree) why before s = record { probes = refl; shares = refl }
refused_goes k (CreateTable name columns) why before s = record { probes = refl; shares = refl }
refused_goes k (CreateAccess spec) why before s = record { probes = refl; shares = refl }
refused_goes k (DropAccess name) why before s = record { probes = refl; shares = refl }
refused_goes k (Load table file) why before s = record { probes = refl; shares = refl }
refused_goes k (Insert table tuples) why before s = record { probes = refl; shares = refl }
refused_goes k (Delete table conditions) why before s = record { probes = refl; shares = refl }
refused_goes k (DiscoverGroup table key fetched) why before s = record { probes = refl; shares = refl }
refused_goes k (DiscoverPairs table limit) why before s = record { probes = refl; shares = refl }
refused_goes k (Explain tree) why before s = record { probes = refl; shares = refl }
refused_goes k (ScanOk tree) why before s = record { probes = refl; shares = refl }
refused_goes k (Grouped items keys inner) why before s = record { probes = refl; shares = refl }
refused_goes k (Specialise tree) why before s = record { probes = refl; shares = refl }

pub on_err : {T E : Type 0} (r : Result T E) (P : Type 0) → P → OnErr r P
on_err (Ok x) P p = tt
on_err (Err e) P p = p

pub all_ok : {T E : Type 0} (r : Result T E) (P : T → Type 0) → ((x : T) → P x) → IfOk r P
all_ok (Ok x) P f = f x
all_ok (Err e) P f = tt

-- ---- whether the session's query is open

pub open_is : (session : Session) (queries lent : List Open) (k : ℕ) (place : Option ℕ) → lent ≡ queries → place ≡ position (λ q. q.session == k) lent
    → is_some (query_of k (state_in session queries)) ≡ is_some place
open_is session queries lent k place same found =
    let see = held_at (database_of session) in
    sym (place_is_found (is_of k) (map see queries)) ∙ ap is_some (position-map (is_of k) see queries)
    ∙ ap (λ qs. is_some (position (λ (q : Open). q.session == k) qs)) (sym same) ∙ sym (ap is_some found)

pub busy_is : (s : Settings) (state : State) (k : ℕ) (statement : Statement) → is_some (query_of k state) ≡ true
    → said_action s state k (query_of k state) statement ≡ AtOnce (refused state (SessionBusy k))
busy_is s state k statement busy = by (query_of k state) busy
  where
    by : (o : Option OpenQuery) → is_some o ≡ true → said_action s state k o statement ≡ AtOnce (refused state (SessionBusy k))
    by None h = cc
    by (Some q) h = refl

pub none_is : (k : ℕ) (state : State) → is_some (query_of k state) ≡ false → query_of k state ≡ None
none_is k state idle = by (query_of k state) idle
  where
    by : (o : Option OpenQuery) → is_some o ≡ false → o ≡ None
    by None h = refl
    by (Some q) h = cc

pub idle_is : (s : Settings) (state : State) (k : ℕ) (statement : Statement) → is_some (query_of k state) ≡ false
    → said_action s state k (query_of k state) statement ≡ statement_action s state k statement
idle_is s state k statement idle = ap (λ o. said_action s state k o statement) (none_is k state idle)

pub refused_takes : (limit : ℕ) (state : State) (why : Refusal) (seen : Seen) (s : ℕ) (x : Files) → seen.state ≡ state
    → Takes limit (AtOnce (refused state why)) (Refused why) seen seen s s x x
refused_takes limit state why seen s x is =
    takes_at_once limit (refused state why) (Refused why) seen seen s s x x (later_same x) refl
    (record { report_is = refl; state_is = is; settings_stay = refl; counts = omega arith })

-- ---- what is seen, where the queries and their cursors stay

map_twice : {A : Type 0} (f : CursorSeen → A) (qs : List Open) → map (λ q. f q.cursor) qs ≡ map f (map cursor_of qs)
map_twice f [] = refl
map_twice f (q ∷ qs) = ap (λ xs. f q.cursor ∷ xs) (map_twice f qs)

module _ (old new : Session) (before after : List Open)
    (see : map (held_at (database_of new)) after ≡ map (held_at (database_of old)) before) (cursors : map cursor_of after ≡ map cursor_of before) where
  pub state_stays : state_in new after ≡ record (state_in old before) { db = database_of new }
  state_stays = ap (λ queries. let st : State = record { db = database_of new; queries = queries } in st) see

  pub shares_stay : (seen_in new after).shares ≡ (seen_in old before).shares
  shares_stay = map_twice share_in after ∙ ap (map share_in) cursors ∙ sym (map_twice share_in before)

  pub probes_stay : (seen_in new after).probes ≡ (seen_in old before).probes
  probes_stay = map_twice probes_in after ∙ ap (map probes_in) cursors ∙ sym (map_twice probes_in before)

  pub seen_stays : database_of new ≡ database_of old → settings_of new ≡ settings_of old → seen_in new after ≡ seen_in old before
  seen_stays same settings =
      let made : Settings → State → List ℕ → List (List BlockProbe) → Seen = λ se st shares ps.
      record { settings = se; state = st; shares = shares; probes = ps } in
      ap (λ se. made se (state_in new after) (seen_in new after).shares (seen_in new after).probes) settings
      ∙ ap (λ st. made (settings_of old) st (seen_in new after).shares (seen_in new after).probes)
      (state_stays ∙ ap (λ d. let st : State = record (state_in old before) { db = d } in st) same)
      ∙ ap (λ shares. made (settings_of old) (state_in old before) shares (seen_in new after).probes) shares_stay
      ∙ ap (made (settings_of old) (state_in old before) (seen_in old before).shares) probes_stay

-- ---- what is true of every desk

probes_fit : (db : Database) (query : Open) → IsOpenAt db query → AreCounted (held_at db query) query.cursor
    → ProbesFit (held_at db query) (share_in query.cursor) (probes_in query.cursor)
probes_fit db query is counted = by query.cursor.failed refl
  where
    own : (probe : BlockProbe) → query.cursor.failed ≡ false → Contains (probed query.cursor.fetched) probe
        → Contains (probes_of (held_at db query)) probe
    own probe live m =
        let found = Has-from_map probe_of query.cursor.fetched probe (Has-from_contains (probed query.cursor.fetched) probe m) in
        subst (λ ps. Contains ps probe) (sym (probes_are (world_at db query) query.cursor is.kept query.session query.plan))
        (subst (Contains _) (sym found.2) (is.kept.asked live found.0 (Contains-from_has query.cursor.fetched found.0 found.1)))

    by : (b : Bool) → query.cursor.failed ≡ b → ProbesFit (held_at db query) (share_in query.cursor) (probes_in query.cursor)
    by true e = record {
      count = λ made h. absurd (let live = going query.cursor made h in let no : true ≡ false = sym e ∙ live in cc);
      own = λ probe m. absurd (Has-from_contains [] probe (subst (λ ps. Contains ps probe) (lost_probes query.cursor e) m));
      adds_up = lost_share query.cursor e ∙ sym (ap (sum_by (share_of (held_at db query))) (lost_probes query.cursor e));
      least = let n = ap length (lost_probes query.cursor e) in omega (arith, n);
      most = let n = lost_share query.cursor e in omega (arith, n);
      bound = counted.bound;
      lost = λ h. (lost_share query.cursor e, lost_probes query.cursor e);
    }
    by false e =
        let ps = going_probes query.cursor e in
        let n = going_share query.cursor e in
        let long = ap length ps ∙ length-map query.cursor.fetched probe_of in
        let reads = counted.reads e in
        let most = counted.most e in
        let few = one_each query.cursor.fetched in
        record {
          count = λ made h. long ∙ count_is made (sym (ap (λ b. if b then None else Some (length query.cursor.fetched)) e) ∙ h);
          own = λ probe m. own probe e (subst (λ xs. Contains xs probe) ps m);
          adds_up = n ∙ reads ∙ shares_are (world_at db query) query.cursor is.kept query.session query.plan e
              ∙ sym (ap (sum_by (share_of (held_at db query))) ps);
          least = omega (arith, long, n, reads, few);
          most = omega (arith, n, most);
          bound = counted.bound;
          lost = λ h. absurd (let no : true ≡ false = sym (has_failed query.cursor h) ∙ e in cc);
        }
      where
        count_is : (made : ℕ) → Some (length query.cursor.fetched) ≡ Some made → length query.cursor.fetched ≡ made
        count_is made h = cc

module _ (db : Database) where
  abbrev see : Open → OpenQuery
  see = held_at db

  at : (qs : List Open) → All (IsOpenAt db) qs → All (λ q. AreCounted (see q) q.cursor) qs → (k : ℕ) (none : OpenQuery) → k < length qs
      → ProbesFit (get_or (map see qs) k none) (get_or (map (λ q. share_in q.cursor) qs) k 0) (get_or (map (λ q. probes_in q.cursor) qs) k [])
  at [] open_queries counts k none below = absurd (omega (arith, below))
  at (first ∷ more) open_queries counts k none below =
      let qs = first ∷ more in
      let q = get_or qs k first in
      let fits = probes_fit db q (open_queries k first below) (counts k first below) in
      subst (λ x. ProbesFit x (get_or (map (λ (o : Open). share_in o.cursor) qs) k 0) (get_or (map (λ (o : Open). probes_in o.cursor) qs) k []))
      (sym (get_or-map see qs k first none below))
      (subst (λ n. ProbesFit (see q) n (get_or (map (λ (o : Open). probes_in o.cursor) qs) k []))
      (sym (get_or-map (λ (o : Open). share_in o.cursor) qs k first 0 below))
      (subst (ProbesFit (see q) (share_in q.cursor)) (sym (get_or-map (λ (o : Open). probes_in o.cursor) qs k first [] below)) fits))

pub told : (session : Session) (queries : List Open) → AreKept (database_of session) queries → IsDesk (seen_in session queries)
told session queries kept =
    let see = held_at (database_of session) in
    let long = length-map queries see in
    record {
      sound = kept.sound;
      one_each = kept.one_each;
      as_many_shares = length-map queries (λ (q : Open). share_in q.cursor) ∙ sym long;
      as_many_probes = length-map queries (λ (q : Open). probes_in q.cursor) ∙ sym long;
      fit = λ k none below. at (database_of session) queries kept.open_queries kept.counts k none (omega (arith, below, long));
    }
