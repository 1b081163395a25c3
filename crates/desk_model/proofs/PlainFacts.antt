-- A statement that names no session, and a query that is opened and answered in one piece.
use Rattle.std.proofs.Common.{◌≡◌, ◌<◌, ◌+◌, ◌++◌, ◌∙◌, ℕ, zero, suc, Bool, true, false, not, nat_lt, List, [], ◌∷◌, length, map, Option, Some, None, Result, Ok, Err, inl, inr, refl, ap, sym, arith}
use Rattle.std.specs.Prelude.{if◌then◌else◌, ◌&&◌, find, is_some}
use Rattle.std.specs.Option.{option_map_or}
use Rattle.std.proofs.lemmas.Bool.{eq-eqb, lt-ltb, le-ltb}
use Rattle.beas_core.specs.declared.plan.Prepared.{Prepared}
use Rattle.beas_core.specs.declared.refusal.Refusal.{Refusal}
use Rattle.beas_core.specs.Fits.{PlanFits}
use Rattle.beas_core.specs.Full.{full_of}
use Rattle.beas_core.specs.Types.{TableRows}
use Rattle.beas_core.proofs.Sets.{Has}
use Rattle.catalogue.specs.Database.{rows_at, schema_of}
use Rattle.catalogue.specs.Schema.{SchemaIsSound}
use Rattle.sql_text.specs.declared.tree.Statement.{Statement}
use Rattle.sql_text.specs.declared.tree.Statement.TheVariants.{CreateTable, CreateAccess, DropAccess, Load, Insert, Delete, DiscoverGroup, DiscoverPairs, Select, Explain, ScanOk, Grouped, Specialise}
use Rattle.sql_text.specs.Trees.{Tree}
use Rattle.report.specs.declared.reports.Report.{Report}
use Rattle.report.specs.declared.reports.Report.TheVariants.{Answered}
use Rattle.session.specs.declared.loading.LoadOutcome.{LoadOutcome}
use Rattle.session.specs.declared.loading.LoadOutcome.TheVariants.{Failed}
use Rattle.session.specs.Announced.{announcement}
use Rattle.session.specs.Effects.{Action, Does, Loads, Settings, action_of, answer_effect, reads_in, with_answer as answer_or_refusal}
use Rattle.session.specs.Statements.{StatementIsWellFormed, TreeIsWellFormed}
use Rattle.session.specs.Turns.{Turn, turn_of}
use Rattle.beas_core.proofs.KeptFacts.{reads_stay}
use Rattle.desk_model.specs.Keeping.{kept_accesses, kept_tables, rows_in}
use Rattle.desk_model.proofs.KeepingFacts.{keeps_its_constraints, keeps_its_rows}
use Rattle.desk_model.proofs.QueryFacts.{full_stays}
use Rattle.desk_model.specs.OpenQueries.{OpenQuery, answer_of, probes_of, reads_of}
use Rattle.desk_model.specs.Desks.{AtOnce, DeskAction, DeskEffect, State, answered_effect, at_desk, is_of, new_query, opened_effect, probed_effect, query_effect, query_of, refused, said_action, statement_action, stepped_effect, with_effect, with_query, without_query}
use Rattle.piece_reader.specs.declared.event.Event.TheVariants.{Said}
use Rattle.piece_reader.specs.Sayings.{as_plain}
use Rattle.desk_model.specs.Pieces.{DeskTurn, Next, after_cost, and_step, and_steps, answered_if_opened, next, opens, piece_action, probes_due, seen_turns, turns, with_answer}
use Rattle.desk_model.specs.PlainScripts.{NextTurn, beside, next_turn, reading_action, statement_turns}
use Rattle.desk_model.proofs.AnnouncedFits.{announced_fits}
use Rattle.desk_model.proofs.Places.{find-last, remove-last, set-last}
use Rattle.desk_model.proofs.SoundFacts.{stays_sound}

-- ---- a query that was opened, and of which so many probes were made

module _ (state : State) (k : ℕ) (q : OpenQuery) (own : q.session ≡ k) (idle : query_of k state ≡ None) where
  abbrev at : ℕ → OpenQuery
  at made = record q { made = Some made }

  abbrev going : ℕ → State
  going made = record state { queries = state.queries ++ at made ∷ [] }

  mine : (made : ℕ) → is_of k (at made) ≡ true
  mine made = eq-eqb q.session k own

  there : (made : ℕ) → query_of k (going made) ≡ Some (at made)
  there made = find-last (is_of k) state.queries (at made) idle (mine made)

  probed : (made : ℕ) → with_query k (at (made + 1)) (going made) ≡ going (made + 1)
  probed made = ap (λ qs. let s : State = record state { queries = qs } in s)
      (set-last (is_of k) state.queries (at made) (at (made + 1)) idle (mine made))

  closed : (made : ℕ) → without_query k (going made) ≡ state
  closed made = ap (λ qs. let s : State = record state { queries = qs } in s) (remove-last (is_of k) state.queries (at made) idle (mine made))

  abbrev effect_at : Report → ℕ → ℕ → DeskEffect
  effect_at report cost made = record { report = report; cost = cost; state = going made }

  abbrev answered_at : ℕ → DeskEffect
  answered_at cost = record {
    report = Answered q.prepared.bound q.plan q.prepared.header (answer_of q) (reads_of q);
    cost = cost + reads_of q;
    state = state;
  }

  stepped : (made : ℕ) → stepped_effect (going made) k (query_of k (going made)) ≡ query_effect (going made) k (at made) (Some made)
  stepped made = ap (stepped_effect (going made) k) (there made)

  one_probe : (report : Report) (cost made : ℕ) → made < length (probes_of q)
      → and_step k (effect_at report cost made) ≡ effect_at (probed_effect (going made) k (at made) made).report cost (made + 1)
  one_probe report cost made due =
      ap (λ o. option_map_or (after_cost cost) o (effect_at report cost made))
      (stepped made ∙ ap (λ b. Some (if b then probed_effect (going made) k (at made) made else answered_effect (going made) k (at made)))
      (lt-ltb made (length (probes_of q)) due))
      ∙ ap (λ st. let e : DeskEffect = record { report = (probed_effect (going made) k (at made) made).report; cost = cost + 0; state = st } in e) (probed made)
      ∙ (let free : cost + 0 ≡ cost = omega arith in
      ap (λ c. effect_at (probed_effect (going made) k (at made) made).report c (made + 1)) free)

  last_step : (report : Report) (cost made : ℕ) → nat_lt made (length (probes_of q)) ≡ false → and_step k (effect_at report cost made) ≡ answered_at cost
  last_step report cost made none =
      ap (λ o. option_map_or (after_cost cost) o (effect_at report cost made))
      (stepped made ∙ ap (λ b. Some (if b then probed_effect (going made) k (at made) made else answered_effect (going made) k (at made))) none)
      ∙ ap (λ st. let e : DeskEffect = record (answered_at cost) { state = st } in e) (closed made)

  all_steps : (n : ℕ) (report : Report) (cost made : ℕ) → made + n ≡ length (probes_of q)
      → and_steps k (suc n) (effect_at report cost made) ≡ answered_at cost
  all_steps zero report cost made whole = last_step report cost made (le-ltb made (length (probes_of q)) (omega (arith, whole)))
  all_steps (suc n) report cost made whole =
      ap (and_steps k (suc n)) (one_probe report cost made (omega (arith, whole)))
      ∙ all_steps n (probed_effect (going made) k (at made) made).report cost (made + 1) (omega (arith, whole))

-- ---- what is answered is what it would have been

module _ (explain : Bool) (state : State) (k : ℕ) (prepared : Prepared) (fits : PlanFits state.db.accesses prepared) where
  abbrev opened : OpenQuery
  opened = new_query explain state.db k prepared

  abbrev kept_rows : TableRows
  kept_rows = rows_in (kept_tables (rows_at state.db) prepared.query)

  pub rows_are : answer_of opened ≡ full_of (rows_at state.db) prepared.query
  rows_are = full_stays (rows_at state.db) kept_rows prepared.query (keeps_its_rows (rows_at state.db) prepared.query)

  pub reads_are : reads_of opened ≡ reads_in state.db prepared
  reads_are = reads_stay state.db.accesses (kept_accesses state.db.accesses prepared.derivations) prepared.guided prepared.derivations
      (keeps_its_constraints state.db.accesses prepared.derivations) (rows_at state.db) kept_rows 0 None prepared.query fits.plans
      (keeps_its_rows (rows_at state.db) prepared.query)

  pub answer_is : (let r : Report = Answered prepared.bound opened.plan prepared.header (answer_of opened) (reads_of opened) in r)
      ≡ (answer_effect explain state.db prepared).report
  answer_is =
      ap (λ rows. Answered prepared.bound opened.plan prepared.header rows (reads_of opened)) rows_are
      ∙ ap (λ reads. Answered prepared.bound opened.plan prepared.header (full_of (rows_at state.db) prepared.query) reads) reads_are

-- a query of session 0 that is opened and answered in one piece
module _ (explain : Bool) (state : State) (prepared : Prepared) (fits : PlanFits state.db.accesses prepared) (idle : query_of 0 state ≡ None) where
  abbrev q : OpenQuery
  q = new_query explain state.db 0 prepared

  abbrev effect_with : Report → ℕ → DeskEffect
  effect_with report cost = record { report = report; cost = cost; state = state }

  pub answered_in_one : answered_if_opened state (opened_effect explain state 0 (Ok prepared)) ≡ with_effect state (answer_effect explain state.db prepared)
  answered_in_one =
      let n = length (probes_of q) in
      let effect = opened_effect explain state 0 (Ok prepared) in
      let due : probes_due 0 effect.state ≡ n = ap (λ o. option_map_or (λ r. length (probes_of r)) o 0) (there state 0 q refl idle 0) in
      let one : n + 1 ≡ suc n = omega arith in
      let whole : 0 + n ≡ n = omega arith in
      let none : 0 + reads_of q ≡ reads_of q = omega arith in
      let opened : opens 0 state effect.state ≡ true =
      ap (λ o. is_some o && not (is_some (query_of 0 state))) (there state 0 q refl idle 0) ∙ ap (λ o. not (is_some o)) idle in
      ap (λ b. if b then and_steps 0 (probes_due 0 effect.state + 1) effect else effect) opened
      ∙ ap (λ m. and_steps 0 (m + 1) effect) due
      ∙ ap (λ m. and_steps 0 m effect) one
      ∙ all_steps state 0 q refl idle n effect.report 0 0 whole
      ∙ ap (λ r. effect_with r (0 + reads_of q)) (answer_is explain state 0 prepared fits)
      ∙ ap (effect_with (answer_effect explain state.db prepared).report) (none ∙ reads_are explain state 0 prepared fits)

-- ---- a statement that names no session

-- where the session had no open query, it has none after what leaves the open queries
not_opened : (state after : State) → query_of 0 state ≡ None → after.queries ≡ state.queries → opens 0 state after ≡ false
not_opened state after idle same =
    ap (λ qs. is_some (find (is_of 0) qs) && not (is_some (query_of 0 state))) same ∙ ap (λ o. is_some o && not (is_some o)) idle

same_effect : (state : State) (effect : DeskEffect) → query_of 0 state ≡ None → effect.state.queries ≡ state.queries
    → answered_if_opened state effect ≡ effect
same_effect state effect idle same =
    ap (λ b. if b then and_steps 0 (probes_due 0 effect.state + 1) effect else effect) (not_opened state effect.state idle same)

same_answer : (state : State) (action : Action) → query_of 0 state ≡ None → with_answer state (at_desk state action) ≡ at_desk state action
same_answer state (Does effect) idle = ap AtOnce (same_effect state (with_effect state effect) idle refl)
same_answer state (Loads name effect) idle = refl

module _ (s : Settings) (state : State) (sound : SchemaIsSound (schema_of state.db)) (idle : query_of 0 state ≡ None) where
  abbrev Plainly : Statement → Type 0
  Plainly statement = piece_action s state (Ok (Said 0 statement)) ≡ Some (at_desk state (action_of s state.db statement))

  said : (statement : Statement) → piece_action s state (Ok (Said 0 statement)) ≡ Some (with_answer state (statement_action s state 0 statement))
  said statement = ap (λ o. Some (with_answer state (said_action s state 0 o statement))) idle

  other : (statement : Statement) → statement_action s state 0 statement ≡ at_desk state (action_of s state.db statement) → Plainly statement
  other statement same =
      said statement ∙ ap (λ a. Some (with_answer state a)) same ∙ ap (λ a. Some a) (same_answer state (action_of s state.db statement) idle)

  select : (tree : Tree) → TreeIsWellFormed tree → Plainly (Select tree)
  select tree formed = said (Select tree) ∙ by (announcement s.limits s.budget (schema_of state.db) tree) refl
    where
      by : (r : Result Prepared Refusal) → announcement s.limits s.budget (schema_of state.db) tree ≡ r
          → (let o : Option DeskAction = Some (AtOnce (answered_if_opened state (opened_effect s.explain state 0 r))) in o)
          ≡ Some (AtOnce (with_effect state (answer_or_refusal r state.db (answer_effect s.explain state.db))))
      by (Err why) e = ap (λ x. let o : Option DeskAction = Some (AtOnce x) in o) (same_effect state (refused state why) idle refl)
      by (Ok prepared) e = ap (λ x. let o : Option DeskAction = Some (AtOnce x) in o)
          (answered_in_one s.explain state prepared (announced_fits s.limits s.budget (schema_of state.db) tree sound formed prepared e) idle)

  pub plain_piece : (statement : Statement) → StatementIsWellFormed statement → Plainly statement
  plain_piece (Select tree) formed = select tree formed
  plain_piece (CreateTable name columns) formed = other (CreateTable name columns) refl
  plain_piece (CreateAccess spec) formed = other (CreateAccess spec) refl
  plain_piece (DropAccess name) formed = other (DropAccess name) refl
  plain_piece (Load table file) formed = other (Load table file) refl
  plain_piece (Insert table tuples) formed = other (Insert table tuples) refl
  plain_piece (Delete table conditions) formed = other (Delete table conditions) refl
  plain_piece (DiscoverGroup table key fetched) formed = other (DiscoverGroup table key fetched) refl
  plain_piece (DiscoverPairs table limit) formed = other (DiscoverPairs table limit) refl
  plain_piece (Explain tree) formed = other (Explain tree) refl
  plain_piece (ScanOk tree) formed = other (ScanOk tree) refl
  plain_piece (Grouped items keys inner) formed = other (Grouped items keys inner) refl
  plain_piece (Specialise tree) formed = other (Specialise tree) refl

-- ---- a script that names no session

module _ (s : Settings) where
  abbrev Alike : List (Result Statement Refusal) → Type 0
  Alike readings = (state : State) (outcomes : List LoadOutcome) → query_of 0 state ≡ None → SchemaIsSound (schema_of state.db)
      → turns s state (map as_plain readings) outcomes ≡ map (beside state.queries) (statement_turns s state.db readings outcomes)

  abbrev turns_from : List (Result Statement Refusal) → Option Next → List DeskTurn
  turns_from readings next = option_map_or (λ n. n.turn ∷ turns s n.turn.effect.state (map as_plain readings) n.left) next []

  abbrev statements_from : List (Result Statement Refusal) → Option NextTurn → List Turn
  statements_from readings next = option_map_or (λ n. n.turn ∷ statement_turns s n.turn.effect.db readings n.left) next []

  -- the turns after an action that leaves the catalogue sound
  after_next : (readings : List (Result Statement Refusal)) → Alike readings → (state : State) → query_of 0 state ≡ None
      → (action : Action) → ((outcome : LoadOutcome) → SchemaIsSound (schema_of (turn_of action outcome).effect.db))
      → (outcomes : List LoadOutcome)
      → turns_from readings (next (Some (at_desk state action)) outcomes)
      ≡ map (beside state.queries) (statements_from readings (next_turn action outcomes))
  after_next readings later state idle (Does effect) sound outcomes =
      let turn : Turn = record { effect = effect; load = None } in
      ap (λ ts. beside state.queries turn ∷ ts) (later (with_effect state effect).state outcomes idle (sound Failed))
  after_next readings later state idle (Loads name effect) sound [] = refl
  after_next readings later state idle (Loads name effect) sound (outcome ∷ outcomes) =
      let turn = turn_of (Loads name effect) outcome in
      ap (λ ts. beside state.queries turn ∷ ts) (later (with_effect state (effect outcome)).state outcomes idle (sound outcome))

  abbrev AreFormed : List (Result Statement Refusal) → Type 0
  AreFormed readings = (statement : Statement) → Has readings (Ok statement) → StatementIsWellFormed statement

  module _ (state : State) (sound : SchemaIsSound (schema_of state.db)) where
    reading_is : (reading : Result Statement Refusal) → query_of 0 state ≡ None
        → ((statement : Statement) → reading ≡ Ok statement → StatementIsWellFormed statement)
        → piece_action s state (as_plain reading) ≡ Some (at_desk state (reading_action s state.db reading))
    reading_is (Err why) idle formed = refl
    reading_is (Ok statement) idle formed = plain_piece s state sound idle statement (formed statement refl)

    reading-sound : (reading : Result Statement Refusal) → ((statement : Statement) → reading ≡ Ok statement → StatementIsWellFormed statement)
        → (outcome : LoadOutcome) → SchemaIsSound (schema_of (turn_of (reading_action s state.db reading) outcome).effect.db)
    reading-sound (Err why) formed outcome = sound
    reading-sound (Ok statement) formed outcome = (stays_sound state.db sound s statement outcome (formed statement refl)).stays

  pub plain_script : (readings : List (Result Statement Refusal)) → AreFormed readings → Alike readings
  plain_script [] formed state outcomes idle sound = refl
  plain_script (reading ∷ readings) formed state outcomes idle sound =
      let own : (statement : Statement) → reading ≡ Ok statement → StatementIsWellFormed statement = λ statement e. formed statement (inl (sym e)) in
      ap (λ a. turns_from readings (next a outcomes)) (reading_is state sound reading idle own)
      ∙ after_next readings (plain_script readings (λ statement m. formed statement (inr m))) state idle (reading_action s state.db reading)
      (reading-sound state sound reading own) outcomes

-- so they are seen as they are
pub seen_beside : (queries : List OpenQuery) (turns : List Turn) → seen_turns (map (beside queries) turns) ≡ turns
seen_beside queries [] = refl
seen_beside queries (turn ∷ turns) = ap (λ ts. turn ∷ ts) (seen_beside queries turns)
