-- What is spared where a session's query changes: the desk but for that query.
use Rattle.std.proofs.Common.{◌≡◌, ◌⊎◌, ◌+◌, ◌++◌, ◌∙◌, inl, inr, ap, sym, refl, ℕ, true, false, List, [], ◌∷◌, None, Some, arith, length, remove}
use Rattle.std.specs.Prelude.{slice_set}
use Rattle.std.proofs.lemmas.List.{length-append}
use Rattle.beas_core.specs.Queries.{BlockProbe}
use Rattle.desk_model.specs.OpenQueries.{OpenQuery, share_of}
use Rattle.report.specs.declared.reports.Report.{Report}
use Rattle.report.specs.declared.reports.Report.TheVariants.{Opened}
use Rattle.session.specs.Effects.{Settings}
use Rattle.sql_text.specs.declared.tree.Statement.{Statement}
use Rattle.sql_text.specs.declared.tree.Statement.TheVariants.{Select}
use Rattle.piece_reader.specs.declared.event.Event.TheVariants.{Said, Stepped}
use Rattle.desk_model.specs.Desks.{State, is_of, lost, place_of, query_of, with_query, without_query}
use Rattle.version_store.specs.Desks.{Begins, Finishes, GoesOn, IsDesk, ProbesOnce, Seen as DeskSeen, Stays, desk_wanting, place_in, share_at, without_query_of}
use Rattle.version_store.proofs.Places.{remove-set}
use Rattle.beas_run.specs.Pieces.{is_opened}
use Rattle.beas_run.proofs.FoundFacts.{place-last, place-none, place-set-found, remove-at-last, remove-past, remove-set-found}

abbrev pub seen : Settings → State → List ℕ → List (List BlockProbe) → DeskSeen
seen settings state shares probes = record { settings = settings; state = state; shares = shares; probes = probes }

-- what is left of a desk with these parts
abbrev pub rest : ℕ → Settings → State → List ℕ → List (List BlockProbe) → DeskSeen
rest k settings state shares probes = without_query_of k (seen settings state shares probes)

module _ (k : ℕ) (now : DeskSeen) (q : OpenQuery) (is : query_of k now.state ≡ Some q) where
  -- its query is another one now
  module _ (f : OpenQuery) (own : is_of k f ≡ true) where
    abbrev qs : List OpenQuery
    qs = slice_set now.state.queries (place_in k now) f

    state_spared : without_query k (with_query k f now.state) ≡ without_query k now.state
    state_spared = ap (λ l. let st : State = record { db = now.state.db; queries = l } in st) (remove-set-found (is_of k) now.state.queries q f is own)

    part_spared : {X : Type 0} (xs : List X) (x : X) → remove (slice_set xs (place_in k now) x) (place_of k qs) ≡ remove xs (place_in k now)
    part_spared xs x =
        ap (remove (slice_set xs (place_in k now) x)) (place-set-found (is_of k) now.state.queries q f is own) ∙ remove-set xs (place_in k now) x

    pub spared_set : (share : ℕ) (probes : List BlockProbe)
        → without_query_of k (seen now.settings (with_query k f now.state) (slice_set now.shares (place_in k now) share) (slice_set now.probes (place_in k now) probes))
        ≡ without_query_of k now
    spared_set share probes =
        ap (λ st. seen now.settings st (remove (slice_set now.shares (place_in k now) share) (place_of k qs))
        (remove (slice_set now.probes (place_in k now) probes) (place_of k qs))) state_spared
        ∙ ap (λ ss. seen now.settings (without_query k now.state) ss (remove (slice_set now.probes (place_in k now) probes) (place_of k qs)))
        (part_spared now.shares share)
        ∙ ap (seen now.settings (without_query k now.state) (remove now.shares (place_in k now))) (part_spared now.probes probes)

  -- by a probe
  pub spared_probed : (after : DeskSeen) (t u : ℕ) (f : OpenQuery) → is_of k f ≡ true → after.settings ≡ now.settings
      → after.state ≡ with_query k f now.state → ProbesOnce k now after t u → without_query_of k after ≡ without_query_of k now
  spared_probed after t u f own settings state once =
      let share = share_at k now + share_of once.query once.probe in
      ap (λ s. rest k s after.state after.shares after.probes) settings ∙ ap (λ st. rest k now.settings st after.shares after.probes) state
      ∙ ap (λ ss. rest k now.settings (with_query k f now.state) ss after.probes) once.shares
      ∙ ap (rest k now.settings (with_query k f now.state) (slice_set now.shares (place_in k now) share)) once.probes
      ∙ spared_set f own share once.made

  -- or since memory ran out
  pub spared_lost : is_of k q ≡ true → without_query_of k (desk_wanting (Stepped k) now) ≡ without_query_of k now
  spared_lost own =
      ap (λ o. without_query_of k (seen now.settings (lost now.state k o) (slice_set now.shares (place_in k now) 0) (slice_set now.probes (place_in k now) []))) is
      ∙ spared_set (record q { made = None }) own 0 []

  -- or it is answered, and so closed
  pub dropped : (after : DeskSeen) (t u : ℕ) → after.settings ≡ now.settings → after.state ≡ without_query k now.state
      → Finishes k now after t u → after ≡ without_query_of k now
  dropped after t u settings state ends =
      ap (λ s. seen s after.state after.shares after.probes) settings ∙ ap (λ st. seen now.settings st after.shares after.probes) state
      ∙ ap (λ ss. seen now.settings (without_query k now.state) ss after.probes) ends.shares
      ∙ ap (seen now.settings (without_query k now.state) (remove now.shares (place_in k now))) ends.probes

-- a session that has no query loses none
pub none_dropped : (k : ℕ) (before after : DeskSeen) → IsDesk before → query_of k before.state ≡ None → after ≡ without_query_of k before
    → Stays before after
none_dropped k before after told idle e =
    let n = length before.state.queries in
    let none = place-none (is_of k) before.state.queries idle in
    record {
      probes = ap (λ (d : DeskSeen). d.probes) e ∙ ap (remove before.probes) none ∙ remove-past before.probes n told.as_many_probes;
      shares = ap (λ (d : DeskSeen). d.shares) e ∙ ap (remove before.shares) none ∙ remove-past before.shares n told.as_many_shares;
    }

-- ---- a query was opened, or none

-- no other statement begins a query
begun : (statement : Statement) (k j bound : ℕ) (before after : DeskSeen) (s t : ℕ) → GoesOn (Said k statement) (Opened j bound) before after s t
    → Begins before after s t ⊎ Stays before after
begun (Select tree) k j bound before after s t h = inl h
begun _ k j bound before after s t h = inr h

-- where none is opened
pub stays : (statement : Statement) (k : ℕ) (report : Report) (before after : DeskSeen) (s t : ℕ) → is_opened report ≡ false
    → GoesOn (Said k statement) report before after s t → Stays before after
stays (Select tree) k (Opened j bound) before after s t none h = let other : true ≡ false = none in cc
stays (Select tree) k _ before after s t none h = h
stays _ k report before after s t none h = h

module _ (k : ℕ) (before after : DeskSeen) (q : OpenQuery) (idle : query_of k before.state ≡ None) (own : is_of k q ≡ true)
    (state : after.state ≡ record before.state { queries = before.state.queries ++ q ∷ [] }) (settings : after.settings ≡ before.settings) where
  place : place_in k after ≡ length before.state.queries
  place = ap (λ (st : State). place_of k st.queries) state ∙ place-last (is_of k) before.state.queries q idle own

  spared_begun : (s t : ℕ) → IsDesk before → Begins before after s t → without_query_of k after ≡ without_query_of k before
  spared_begun s t told begins =
      let n = length before.state.queries in
      let none = place-none (is_of k) before.state.queries idle in
      let queries : without_query k after.state ≡ without_query k before.state =
      ap (without_query k) state
      ∙ ap (λ i. let st : State = record { db = before.state.db; queries = remove (before.state.queries ++ q ∷ []) i } in st) (place-last (is_of k) before.state.queries q idle own)
      ∙ ap (λ l. let st : State = record { db = before.state.db; queries = l } in st)
      (remove-at-last before.state.queries q n refl ∙ sym (remove-past before.state.queries n refl) ∙ sym (ap (remove before.state.queries) none)) in
      let shares : remove after.shares (place_in k after) ≡ remove before.shares (place_in k before) =
      ap (λ l. remove l (place_in k after)) begins.shares ∙ ap (remove (before.shares ++ 0 ∷ [])) place
      ∙ remove-at-last before.shares 0 n told.as_many_shares ∙ sym (remove-past before.shares n told.as_many_shares) ∙ sym (ap (remove before.shares) none) in
      let probes : remove after.probes (place_in k after) ≡ remove before.probes (place_in k before) =
      ap (λ l. remove l (place_in k after)) begins.probes ∙ ap (remove (before.probes ++ [] ∷ [])) place
      ∙ remove-at-last before.probes [] n told.as_many_probes ∙ sym (remove-past before.probes n told.as_many_probes) ∙ sym (ap (remove before.probes) none) in
      ap (λ s. seen s (without_query k after.state) (remove after.shares (place_in k after)) (remove after.probes (place_in k after))) settings
      ∙ ap (λ st. seen before.settings st (remove after.shares (place_in k after)) (remove after.probes (place_in k after))) queries
      ∙ ap (λ ss. seen before.settings (without_query k before.state) ss (remove after.probes (place_in k after))) shares
      ∙ ap (seen before.settings (without_query k before.state) (remove before.shares (place_in k before))) probes

  -- there are as many shares as queries, so they didn't stay
  never : IsDesk before → IsDesk after → Stays before after → ⊥
  never told told_after stays =
      let less = told.as_many_shares in
      let more = told_after.as_many_shares in
      let same : length after.shares ≡ length before.shares = ap length stays.shares in
      let one : length after.state.queries ≡ length before.state.queries + 1 =
      ap (λ (st : State). length st.queries) state ∙ length-append before.state.queries (q ∷ []) in
      omega (arith, less, more, same, one)

  pub spared_opened : (statement : Statement) (j bound : ℕ) (s t : ℕ) → IsDesk before → IsDesk after
      → GoesOn (Said k statement) (Opened j bound) before after s t → without_query_of k after ≡ without_query_of k before
  spared_opened statement j bound s t told told_after h = by (begun statement k j bound before after s t h)
    where
      by : Begins before after s t ⊎ Stays before after → without_query_of k after ≡ without_query_of k before
      by (inl begins) = spared_begun s t told begins
      by (inr stays) = absurd (never told told_after stays)
