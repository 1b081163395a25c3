-- A query that was opened is answered over what it saw where it was opened.
use Rattle.std.proofs.Common.{◌≡◌, ◌==◌, ◌+◌, ◌∙◌, ℕ, Bool, true, false, List, [], ◌∷◌, length, find, nat_lt, Option, Some, None, Result, Ok, Err, refl, ap, sym, subst}
use Rattle.std.specs.Prelude.{if◌then◌else◌, option_map}
use Rattle.std.specs.Option.{option_map_or, option_or}
use Rattle.std.proofs.lemmas.Bool.{eqb-true, eq-eqb}
use Rattle.std.proofs.lemmas.List.Folds.{find_at, find-append, find-set}
use Rattle.std.proofs.lemmas.Option.{slice_get_within}
use Rattle.beas_core.specs.declared.plan.Prepared.{Prepared}
use Rattle.beas_core.specs.declared.refusal.Refusal.{Refusal}
use Rattle.beas_core.specs.Fits.{PlanFits}
use Rattle.catalogue.specs.Database.{schema_of}
use Rattle.sql_text.specs.declared.tree.Statement.{Statement}
use Rattle.sql_text.specs.declared.tree.Statement.TheVariants.{CreateTable, CreateAccess, DropAccess, Load, Insert, Delete, DiscoverGroup, DiscoverPairs, Select, Explain, ScanOk, Grouped, Specialise}
use Rattle.report.specs.declared.reports.Report.{Report}
use Rattle.report.specs.declared.reports.Report.TheVariants.{Answered}
use Rattle.session.specs.declared.loading.LoadOutcome.{LoadOutcome}
use Rattle.session.specs.Announced.{announcement}
use Rattle.session.specs.Effects.{Action, Does, Loads, Settings, action_of, answer_effect}
use Rattle.piece_reader.specs.declared.event.Event.{Event}
use Rattle.piece_reader.specs.declared.event.Event.TheVariants.{Said, Stepped}
use Rattle.desk_model.specs.Answers.{Happening, answer_to, as_answer, effect_by, first_answer}
use Rattle.desk_model.specs.OpenQueries.{OpenQuery, answer_of, probes_of, reads_of}
use Rattle.desk_model.specs.Desks.{AtOnce, DeskEffect, State, action_of_event, answered_effect, at_desk, is_of, new_query, opened_effect, place_of, probed_effect, query_effect, query_of, said_action, statement_action, stepped_effect, with_query, without_query}
use Rattle.desk_model.proofs.Places.{find_passes, find-last, find-remove-other, find-set-other}
use Rattle.desk_model.proofs.PlainFacts.{answer_is}

abbrev answer_report : OpenQuery → Report
answer_report q = Answered q.prepared.bound q.plan q.prepared.header (answer_of q) (reads_of q)

-- a query of another session
apart : (j k : ℕ) → (j == k) ≡ false → (q : OpenQuery) → is_of j q ≡ true → is_of k q ≡ false
apart j k other q own = subst (λ n. (n == k) ≡ false) (sym (eqb-true q.session j own)) other

-- ---- a statement leaves an open query open

module _ (s : Settings) (state : State) (k : ℕ) (q : OpenQuery) (there : query_of k state ≡ Some q) where
  at_desk_stays : (action : Action) (outcome : LoadOutcome) → query_of k (effect_by (at_desk state action) outcome).state ≡ Some q
  at_desk_stays (Does effect) outcome = there
  at_desk_stays (Loads name effect) outcome = there

  opened_stays : (j : ℕ) (r : Result Prepared Refusal) → query_of k (opened_effect s.explain state j r).state ≡ Some q
  opened_stays j (Err why) = there
  opened_stays j (Ok prepared) =
      find-append (is_of k) state.queries (new_query s.explain state.db j prepared ∷ [])
      ∙ ap (λ o. option_or o (find (is_of k) (new_query s.explain state.db j prepared ∷ []))) there

  statement_stays : (j : ℕ) (statement : Statement) (outcome : LoadOutcome)
      → query_of k (effect_by (statement_action s state j statement) outcome).state ≡ Some q
  statement_stays j (Select tree) outcome = opened_stays j (announcement s.limits s.budget (schema_of state.db) tree)
  statement_stays j (CreateTable name columns) outcome = at_desk_stays (action_of s state.db (CreateTable name columns)) outcome
  statement_stays j (CreateAccess spec) outcome = at_desk_stays (action_of s state.db (CreateAccess spec)) outcome
  statement_stays j (DropAccess name) outcome = at_desk_stays (action_of s state.db (DropAccess name)) outcome
  statement_stays j (Load table file) outcome = at_desk_stays (action_of s state.db (Load table file)) outcome
  statement_stays j (Insert table tuples) outcome = at_desk_stays (action_of s state.db (Insert table tuples)) outcome
  statement_stays j (Delete table conditions) outcome = at_desk_stays (action_of s state.db (Delete table conditions)) outcome
  statement_stays j (DiscoverGroup table key fetched) outcome = at_desk_stays (action_of s state.db (DiscoverGroup table key fetched)) outcome
  statement_stays j (DiscoverPairs table limit) outcome = at_desk_stays (action_of s state.db (DiscoverPairs table limit)) outcome
  statement_stays j (Explain tree) outcome = at_desk_stays (action_of s state.db (Explain tree)) outcome
  statement_stays j (ScanOk tree) outcome = at_desk_stays (action_of s state.db (ScanOk tree)) outcome
  statement_stays j (Grouped items keys inner) outcome = at_desk_stays (action_of s state.db (Grouped items keys inner)) outcome
  statement_stays j (Specialise tree) outcome = at_desk_stays (action_of s state.db (Specialise tree)) outcome

  said_stays : (j : ℕ) (o : Option OpenQuery) (statement : Statement) (outcome : LoadOutcome)
      → query_of k (effect_by (said_action s state j o statement) outcome).state ≡ Some q
  said_stays j None statement outcome = statement_stays j statement outcome
  said_stays j (Some other) statement outcome = there

-- ---- an event that goes on with a query

module _ (s : Settings) (k : ℕ) (happenings : List Happening) (report : Report) where
  -- where the session's query is open, it is what these events answer
  abbrev Answers : Type 0
  Answers = (state : State) (q : OpenQuery) → query_of k state ≡ Some q → first_answer s k state happenings ≡ Some report → report ≡ answer_report q

  abbrev after : LoadOutcome → Bool → Option DeskEffect → Option Report
  after outcome own o = option_map_or (λ action. option_or (if own then as_answer (effect_by action outcome).report else None)
      (first_answer s k (effect_by action outcome).state happenings)) (option_map AtOnce o) None

  module _ (later : Answers) (outcome : LoadOutcome) (state : State) (q : OpenQuery) (there : query_of k state ≡ Some q) where
    own_turn : (made : Option ℕ) → after outcome true (query_effect state k q made) ≡ Some report → report ≡ answer_report q
    own_turn None g = cc
    own_turn (Some made) g = split (nat_lt made (length (probes_of q))) g
      where
        split : (b : Bool) → after outcome true (Some (if b then probed_effect state k q made else answered_effect state k q)) ≡ Some report
            → report ≡ answer_report q
        split true f =
            later (with_query k (record q { made = Some (made + 1) }) state) (record q { made = Some (made + 1) })
            (find-set (is_of k) state.queries (place_of k state.queries) (record q { made = Some (made + 1) }) refl
            (slice_get_within state.queries (place_of k state.queries) q (sym (find_at (is_of k) state.queries) ∙ there))
            (find_passes (is_of k) state.queries q there)) f
        split false f = cc

    other_turn : (j : ℕ) (r : OpenQuery) → query_of j state ≡ Some r → (j == k) ≡ false → (made : Option ℕ)
        → after outcome false (query_effect state j r made) ≡ Some report → report ≡ answer_report q
    other_turn j r its different None g = cc
    other_turn j r its different (Some made) g = split (nat_lt made (length (probes_of r))) g
      where
        split : (b : Bool) → after outcome false (Some (if b then probed_effect state j r made else answered_effect state j r)) ≡ Some report
            → report ≡ answer_report q
        split true f =
            later (with_query j (record r { made = Some (made + 1) }) state) q
            (find-set-other (is_of k) (is_of j) state.queries (record r { made = Some (made + 1) }) (apart j k different)
            (apart j k different r (find_passes (is_of j) state.queries r its)) ∙ there) f
        split false f =
            later (without_query j state) q (find-remove-other (is_of k) (is_of j) state.queries (apart j k different) ∙ there) f

    other : (j : ℕ) (o : Option OpenQuery) → query_of j state ≡ o → (j == k) ≡ false → after outcome false (stepped_effect state j o) ≡ Some report
        → report ≡ answer_report q
    other j None e different g = later state q there g
    other j (Some r) e different g = other_turn j r e different r.made g

    stepped : (j : ℕ) (own : Bool) → (j == k) ≡ own → after outcome own (stepped_effect state j (query_of j state)) ≡ Some report
        → report ≡ answer_report q
    stepped j true e g =
        let same : j ≡ k = eqb-true j k e in
        let here : after outcome true (stepped_effect state k (query_of k state)) ≡ Some report =
        subst (λ i. after outcome true (stepped_effect state i (query_of i state)) ≡ Some report) same g in
        own_turn q.made (ap (λ o. after outcome true (stepped_effect state k o)) (sym there) ∙ here)
    stepped j false e g = other j (query_of j state) refl e g

    turned : (event : Event) → option_map_or (λ action. option_or (answer_to k event (effect_by action outcome).report)
        (first_answer s k (effect_by action outcome).state happenings)) (action_of_event s state event) None ≡ Some report
        → report ≡ answer_report q
    turned (Said j statement) g =
        later (effect_by (said_action s state j (query_of j state) statement) outcome).state q
        (said_stays s state k q there j (query_of j state) statement outcome) g
    turned (Stepped j) g = stepped j (j == k) refl g

-- whatever comes between
pub answered_over : (s : Settings) (k : ℕ) (happenings : List Happening) (report : Report) → Answers s k happenings report
answered_over s k [] report state q there h = cc
answered_over s k (h ∷ happenings) report state q there g =
    turned s k happenings report (answered_over s k happenings report) h.outcome state q there h.event g

pub answered_as_opened : (s : Settings) (state : State) (k : ℕ) (prepared : Prepared) → PlanFits state.db.accesses prepared → query_of k state ≡ None
    → (happenings : List Happening) (report : Report) → first_answer s k (opened_effect s.explain state k (Ok prepared)).state happenings ≡ Some report
    → report ≡ (answer_effect s.explain state.db prepared).report
answered_as_opened s state k prepared fits idle happenings report h =
    let q = new_query s.explain state.db k prepared in
    answered_over s k happenings report (opened_effect s.explain state k (Ok prepared)).state q
    (find-last (is_of k) state.queries q idle (eq-eqb k k refl)) h
    ∙ answer_is s.explain state k prepared fits
