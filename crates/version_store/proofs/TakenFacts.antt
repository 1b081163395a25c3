-- What an event tells at a desk, by what its parts do.
use Rattle.std.proofs.Common.{◌≡◌, ◌≤◌, ◌∙◌, ℕ, true, List, Result, Ok, Err, Option, Some, None, refl, ap, sym, subst, arith}
use Rattle.std.specs.Prelude.{IfOk, OnErr, is_some, map}
use Rattle.std.proofs.lemmas.Result.{IfOk-weaker, on_err_weaker}
use Rattle.beas_core.specs.declared.errors.NoMemory.{NoMemory}
use Rattle.beas_core.specs.declared.refusal.Refusal.TheVariants.{SessionBusy}
use Rattle.catalogue.specs.Database.{schema_of}
use Rattle.outside.specs.Seen.{IsLater, Seen as Files}
use Rattle.report.specs.declared.reports.Report.{Report}
use Rattle.report.specs.declared.reports.Report.TheVariants.{Refused}
use Rattle.session.specs.declared.session.Session.{Session}
use Rattle.session.specs.Announced.{announcement}
use Rattle.session.specs.Applying.{IsApplied, MayCost, MayLoad, database_of, settings_of}
use Rattle.session.specs.Effects.{Settings, action_of}
use Rattle.session.specs.Turns.{IsWithin}
use Rattle.session.proofs.AppliedFacts.{later_same}
use Rattle.sql_text.specs.declared.tree.Statement.{Statement}
use Rattle.sql_text.specs.declared.tree.Statement.TheVariants.{Select}
use Rattle.sql_text.specs.Trees.{Tree}
use Rattle.piece_reader.specs.declared.event.Event.TheVariants.{Said, Stepped}
use Rattle.desk_model.specs.OpenQueries.{OpenQuery}
use Rattle.desk_model.specs.Desks.{DeskAction, State, action_of_event, at_desk, opened_effect, query_of, said_action, stepped_effect}
use Rattle.version_store.specs.Desks.{GoesOn, IsTaken, MayCost as MayTakeOf, MayLoad as MayLoadOf, MayTake, Takes, TakesSome, desk_wanting}
use Rattle.version_store.specs.Events.{Happens, HappensSome, IsNoSelect}
use Rattle.version_store.specs.Held.{cursor_of}
use Rattle.version_store.specs.Stored.{AreKept, Open, held_at, seen_in, state_in}
use Rattle.version_store.proofs.EventFacts as fact

-- ---- a session without an open query says a SELECT

pub opened_taken : (session : Session) (queries left : List Open) (k : ℕ) (tree : Tree) (r : Result Report NoMemory)
    → query_of k (state_in session queries) ≡ None → AreKept (database_of session) queries → AreKept (database_of session) left
    → ((s : ℕ) → IfOk r (λ report. Happens (opened_effect session.explain (state_in session queries) k
    (announcement session.limits session.budget (schema_of (database_of session)) tree)) report (seen_in session queries) (seen_in session left) s s))
    → ((s : ℕ) → IfOk r (λ report. GoesOn (Said k (Select tree)) report (seen_in session queries) (seen_in session left) s s))
    → IfOk r IsWithin → OnErr r (seen_in session left ≡ seen_in session queries)
    → (s : ℕ) (x : Files) → IsTaken (Said k (Select tree)) r (seen_in session queries) (seen_in session left) s s x x
opened_taken session queries left k tree r idle kept stays did goes within err s x =
    let settings = settings_of session in
    let state = state_in session queries in
    let before = seen_in session queries in
    let after = seen_in session left in
    let effect = opened_effect session.explain state k (announcement session.limits session.budget (schema_of (database_of session)) tree) in
    let says = ap (λ (o : Option OpenQuery). said_action settings state k o (Select tree)) idle in
    record {
      did = IfOk-weaker r (λ report. Happens effect report before after s s)
          (λ report. TakesSome session.limits.file (action_of_event settings state (Said k (Select tree))) report before after s s x x)
          (λ report h. subst (λ (a : DeskAction). Takes session.limits.file a report before after s s x x) (sym says)
          (fact.takes_at_once session.limits.file effect report before after s s x x (later_same x) refl h)) (did s);
      goes_on = goes s;
      within = within;
      told = (fact.told session queries kept, fact.told session left stays);
      settings = refl;
      err = err;
      at_most = fact.on_err r (MayTake (Said k (Select tree)) before s s) (λ outcome. omega arith);
      no_fewer = omega arith;
      loaded = subst (λ (a : DeskAction). MayLoadOf (Some a) x x) (sym says) refl;
      later = later_same x;
    }

-- ---- it says anything else

pub said_is : (settings : Settings) (state : State) (k : ℕ) (statement : Statement) → IsNoSelect statement → query_of k state ≡ None
    → said_action settings state k (query_of k state) statement ≡ at_desk state (action_of settings state.db statement)
said_is settings state k statement other idle =
    ap (λ (o : Option OpenQuery). said_action settings state k o statement) idle ∙ fact.at_desk_is settings state k statement other

pub applied_taken : (old new : Session) (queries left : List Open) (k : ℕ) (statement : Statement) → IsNoSelect statement
    → query_of k (state_in old queries) ≡ None → AreKept (database_of old) queries → AreKept (database_of new) left
    → map (held_at (database_of new)) left ≡ map (held_at (database_of old)) queries → map cursor_of left ≡ map cursor_of queries
    → (r : Result Report NoMemory) (s t : ℕ) (x y : Files)
    → IfOk r (λ report. IsApplied old.limits.file (action_of (settings_of old) (database_of old) statement) report (database_of new) s t x y)
    → IfOk r IsWithin → settings_of new ≡ settings_of old → OnErr r (database_of new ≡ database_of old)
    → MayCost (action_of (settings_of old) (database_of old) statement) s t → s ≤ t
    → MayLoad (action_of (settings_of old) (database_of old) statement) x y → IsLater x y
    → IsTaken (Said k statement) r (seen_in old queries) (seen_in new left) s t x y
applied_taken old new queries left k statement other idle kept stays see cursors r s t x y applied within same unchanged most fewer loads later =
    let settings = settings_of old in
    let state = state_in old queries in
    let before = seen_in old queries in
    let after = seen_in new left in
    let action = action_of settings (database_of old) statement in
    let says = said_is settings state k statement other idle in
    let shares = fact.shares_stay old new queries left see cursors in
    record {
      did = IfOk-weaker r (λ report. IsApplied old.limits.file action report (database_of new) s t x y)
          (λ report. TakesSome old.limits.file (action_of_event settings state (Said k statement)) report before after s t x y)
          (λ report h. subst (λ (a : DeskAction). Takes old.limits.file a report before after s t x y) (sym says)
          (fact.takes_applied state action old.limits.file report (database_of new) before after s t x y refl
          (fact.state_stays old new queries left see cursors) same shares h)) applied;
      goes_on = fact.all_ok r (λ report. GoesOn (Said k statement) report before after s t)
          (λ report. fact.stays_there k statement other report before after s t
          (record { probes = fact.probes_stay old new queries left see cursors; shares = shares }));
      within = within;
      told = (fact.told old queries kept, fact.told new left stays);
      settings = same;
      err = on_err_weaker r (λ still. fact.seen_stays old new queries left see cursors still same) unchanged;
      at_most = fact.on_err r (MayTake (Said k statement) before s t)
          (subst (λ (a : DeskAction). MayTakeOf a s t) (sym says) (fact.may_take state action s t most));
      no_fewer = fewer;
      loaded = subst (λ (a : DeskAction). MayLoadOf (Some a) x y) (sym says) (fact.may_load state action x y loads);
      later = later;
    }

-- ---- its query is open

pub busy_taken : (session : Session) (queries : List Open) (k : ℕ) (statement : Statement) → is_some (query_of k (state_in session queries)) ≡ true
    → AreKept (database_of session) queries → (s : ℕ) (x : Files)
    → IsTaken (Said k statement) (Ok (Refused (SessionBusy k))) (seen_in session queries) (seen_in session queries) s s x x
busy_taken session queries k statement busy kept s x =
    let state = state_in session queries in
    let seen = seen_in session queries in
    let says = fact.busy_is (settings_of session) state k statement busy in
    record {
      did = subst (λ (a : DeskAction). Takes session.limits.file a (Refused (SessionBusy k)) seen seen s s x x) (sym says)
          (fact.refused_takes session.limits.file state (SessionBusy k) seen s x refl);
      goes_on = fact.refused_goes k statement (SessionBusy k) seen s;
      within = tt;
      told = (fact.told session queries kept, fact.told session queries kept);
      settings = refl;
      err = tt;
      at_most = tt;
      no_fewer = omega arith;
      loaded = subst (λ (a : DeskAction). MayLoadOf (Some a) x x) (sym says) refl;
      later = later_same x;
    }

-- ---- a turn, which reads no file

pub stepped_taken : (session : Session) (queries left : List Open) (k : ℕ) (r : Result Report NoMemory) (s t : ℕ)
    → AreKept (database_of session) queries → AreKept (database_of session) left
    → IfOk r (λ report. HappensSome (stepped_effect (state_in session queries) k (query_of k (state_in session queries))) report
    (seen_in session queries) (seen_in session left) s t)
    → IfOk r (λ report. GoesOn (Stepped k) report (seen_in session queries) (seen_in session left) s t)
    → IfOk r IsWithin → OnErr r (seen_in session left ≡ desk_wanting (Stepped k) (seen_in session queries))
    → OnErr r (MayTake (Stepped k) (seen_in session queries) s t) → s ≤ t
    → (x : Files) → IsTaken (Stepped k) r (seen_in session queries) (seen_in session left) s t x x
stepped_taken session queries left k r s t kept stays did goes within err most fewer x =
    let effect = stepped_effect (state_in session queries) k (query_of k (state_in session queries)) in
    record {
      did = fact.takes_step session.limits.file effect r (seen_in session queries) (seen_in session left) s t x did;
      goes_on = goes;
      within = within;
      told = (fact.told session queries kept, fact.told session left stays);
      settings = refl;
      err = err;
      at_most = most;
      no_fewer = fewer;
      loaded = fact.loads_none effect x;
      later = later_same x;
    }

-- out of memory
pub lost_taken : (session : Session) (queries left : List Open) (k : ℕ) (why : NoMemory) (s t : ℕ)
    → AreKept (database_of session) queries → AreKept (database_of session) left → seen_in session left ≡ desk_wanting (Stepped k) (seen_in session queries)
    → MayTake (Stepped k) (seen_in session queries) s t → s ≤ t
    → (x : Files) → IsTaken (Stepped k) (Err why) (seen_in session queries) (seen_in session left) s t x x
lost_taken session queries left k why s t kept stays err most fewer = stepped_taken session queries left k (Err why) s t kept stays tt tt tt err most fewer
