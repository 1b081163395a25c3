-- No event gives a session a second open query.
use Rattle.std.proofs.Common.{◌≡◌, ◌≢◌, ◌<◌, ◌+◌, ◌∙◌, ℕ, Bool, true, false, List, length, map, get_or, nat_lt, Option, Some, None, Result, Ok, Err, refl, ap, sym, subst, arith}
use Rattle.std.specs.Prelude.{if◌then◌else◌, option_map}
use Rattle.std.specs.List.{AllPairs}
use Rattle.std.proofs.lemmas.Bool.{eq-eqb}
use Rattle.std.proofs.lemmas.List.{get_or-map, length-map}
use Rattle.std.proofs.lemmas.List.Folds.{find_at}
use Rattle.std.proofs.lemmas.List.Quantifiers.{all_pairs_push, all_pairs_remove}
use Rattle.std.proofs.lemmas.Option.{slice_get_within}
use Rattle.beas_core.specs.declared.plan.Prepared.{Prepared}
use Rattle.beas_core.specs.declared.refusal.Refusal.{Refusal}
use Rattle.catalogue.specs.Database.{schema_of}
use Rattle.catalogue.proofs.ListFacts.{find_none}
use Rattle.sql_text.specs.declared.tree.Statement.{Statement}
use Rattle.sql_text.specs.declared.tree.Statement.TheVariants.{CreateTable, CreateAccess, DropAccess, Load, Insert, Delete, DiscoverGroup, DiscoverPairs, Select, Explain, ScanOk, Grouped, Specialise}
use Rattle.session.specs.declared.loading.LoadOutcome.{LoadOutcome}
use Rattle.session.specs.Announced.{announcement}
use Rattle.session.specs.Effects.{Action, Does, Loads, Settings, action_of}
use Rattle.desk_model.specs.OpenQueries.{OpenQuery, probes_of}
use Rattle.piece_reader.specs.declared.event.Event.{Event}
use Rattle.piece_reader.specs.declared.event.Event.TheVariants.{Said, Stepped}
use Rattle.desk_model.specs.Answers.{effect_by}
use Rattle.desk_model.specs.Desks.{AtOnce, DeskAction, OneEach, State, action_of_event, answered_effect, at_desk, is_of, lost, new_query, opened_effect, place_of, probed_effect, query_effect, query_of, said_action, statement_action, stepped_effect, wanting, with_query, without_query}
use Rattle.desk_model.proofs.Places.{map-set-found}

abbrev AreApart : List OpenQuery → Type 0
AreApart queries = AllPairs (λ q r. q.session ≢ r.session) queries

abbrev session_of : OpenQuery → ℕ
session_of q = q.session

-- it depends on the sessions alone
apart_by : (old new : List OpenQuery) → map session_of new ≡ map session_of old → AreApart old → AreApart new
apart_by old new same apart = λ i j d less below alike.
    let long : length new ≡ length old = sym (length-map new session_of) ∙ ap length same ∙ length-map old session_of in
    let at : (k : ℕ) → k < length new → (get_or new k d).session ≡ (get_or old k d).session = λ k l.
    sym (get_or-map session_of new k d 0 l) ∙ ap (λ ss. get_or ss k 0) same ∙ get_or-map session_of old k d 0 (omega (arith, l, long)) in
    apart i j d less (omega (arith, below, long)) (sym (at i (omega (arith, less, below))) ∙ alike ∙ at j below)

module _ (state : State) (apart : OneEach state) where
  -- ---- a statement

  pub opened-apart : (explain : Bool) (k : ℕ) (r : Result Prepared Refusal) → query_of k state ≡ None → OneEach (opened_effect explain state k r).state
  opened-apart explain k (Err why) idle = apart
  opened-apart explain k (Ok prepared) idle =
      all_pairs_push (λ (q r : OpenQuery). q.session ≢ r.session) state.queries (new_query explain state.db k prepared) apart
      (λ i d below same.
      let there : true ≡ false = sym (eq-eqb (get_or state.queries i d).session k same) ∙ find_none (is_of k) state.queries idle i d below in cc)

  desk-apart : (action : Action) (outcome : LoadOutcome) → OneEach (effect_by (at_desk state action) outcome).state
  desk-apart (Does effect) outcome = apart
  desk-apart (Loads name effect) outcome = apart

  statement-apart : (s : Settings) (k : ℕ) (statement : Statement) (outcome : LoadOutcome) → query_of k state ≡ None
      → OneEach (effect_by (statement_action s state k statement) outcome).state
  statement-apart s k (Select tree) outcome idle =
      opened-apart s.explain k (announcement s.limits s.budget (schema_of state.db) tree) idle
  statement-apart s k (CreateTable name columns) outcome idle = desk-apart (action_of s state.db (CreateTable name columns)) outcome
  statement-apart s k (CreateAccess spec) outcome idle = desk-apart (action_of s state.db (CreateAccess spec)) outcome
  statement-apart s k (DropAccess name) outcome idle = desk-apart (action_of s state.db (DropAccess name)) outcome
  statement-apart s k (Load table file) outcome idle = desk-apart (action_of s state.db (Load table file)) outcome
  statement-apart s k (Insert table tuples) outcome idle = desk-apart (action_of s state.db (Insert table tuples)) outcome
  statement-apart s k (Delete table conditions) outcome idle = desk-apart (action_of s state.db (Delete table conditions)) outcome
  statement-apart s k (DiscoverGroup table key fetched) outcome idle = desk-apart (action_of s state.db (DiscoverGroup table key fetched)) outcome
  statement-apart s k (DiscoverPairs table limit) outcome idle = desk-apart (action_of s state.db (DiscoverPairs table limit)) outcome
  statement-apart s k (Explain tree) outcome idle = desk-apart (action_of s state.db (Explain tree)) outcome
  statement-apart s k (ScanOk tree) outcome idle = desk-apart (action_of s state.db (ScanOk tree)) outcome
  statement-apart s k (Grouped items keys inner) outcome idle = desk-apart (action_of s state.db (Grouped items keys inner)) outcome
  statement-apart s k (Specialise tree) outcome idle = desk-apart (action_of s state.db (Specialise tree)) outcome

  said-apart : (s : Settings) (k : ℕ) (statement : Statement) (outcome : LoadOutcome) (o : Option OpenQuery) → query_of k state ≡ o
      → OneEach (effect_by (said_action s state k o statement) outcome).state
  said-apart s k statement outcome None idle = statement-apart s k statement outcome idle
  said-apart s k statement outcome (Some q) there = apart

  -- ---- going on with a query

  pub set-apart : (k : ℕ) (q next : OpenQuery) → query_of k state ≡ Some q → next.session ≡ q.session → OneEach (with_query k next state)
  set-apart k q next there same =
      apart_by state.queries (with_query k next state).queries (map-set-found session_of (is_of k) state.queries q next there same) apart

  pub removed-apart : (k : ℕ) (q : OpenQuery) → query_of k state ≡ Some q → OneEach (without_query k state)
  removed-apart k q there =
      all_pairs_remove (λ (q r : OpenQuery). q.session ≢ r.session) state.queries (place_of k state.queries)
      (slice_get_within state.queries (place_of k state.queries) q (sym (find_at (is_of k) state.queries) ∙ there)) apart

  going-apart : (k : ℕ) (q : OpenQuery) → query_of k state ≡ Some q → (made : ℕ) (b : Bool)
      → OneEach (if b then probed_effect state k q made else answered_effect state k q).state
  going-apart k q there made true = set-apart k q (record q { made = Some (made + 1) }) there refl
  going-apart k q there made false = removed-apart k q there

  the_action : (outcome : LoadOutcome) (is action : DeskAction) → Some is ≡ Some action → OneEach (effect_by is outcome).state
      → OneEach (effect_by action outcome).state
  the_action outcome is action e h = let same : is ≡ action = cc in subst (λ a. OneEach (effect_by a outcome).state) same h

  query-apart : (k : ℕ) (q : OpenQuery) (outcome : LoadOutcome) (action : DeskAction) → query_of k state ≡ Some q → (made : Option ℕ)
      → option_map AtOnce (query_effect state k q made) ≡ Some action → OneEach (effect_by action outcome).state
  query-apart k q outcome action there None e = cc
  query-apart k q outcome action there (Some made) e =
      the_action outcome _ action e (going-apart k q there made (nat_lt made (length (probes_of q))))

  stepped-apart : (k : ℕ) (outcome : LoadOutcome) (action : DeskAction) (o : Option OpenQuery) → query_of k state ≡ o
      → option_map AtOnce (stepped_effect state k o) ≡ Some action → OneEach (effect_by action outcome).state
  stepped-apart k outcome action None there e = the_action outcome _ action e apart
  stepped-apart k outcome action (Some q) there e = query-apart k q outcome action there q.made e

  -- ---- each event

  pub event-apart : (s : Settings) (event : Event) (outcome : LoadOutcome) (action : DeskAction) → action_of_event s state event ≡ Some action
      → OneEach (effect_by action outcome).state
  event-apart s (Said k statement) outcome action e =
      the_action outcome _ action e (said-apart s k statement outcome (query_of k state) refl)
  event-apart s (Stepped k) outcome action e = stepped-apart k outcome action (query_of k state) refl e

  lost-apart : (k : ℕ) (o : Option OpenQuery) → query_of k state ≡ o → OneEach (lost state k o)
  lost-apart k None there = apart
  lost-apart k (Some q) there = set-apart k q (record q { made = None }) there refl

  pub wanting-apart : (event : Event) → OneEach (wanting state event)
  wanting-apart (Said k statement) = apart
  wanting-apart (Stepped k) = lost-apart k (query_of k state) refl
