-- What is left of a piece that memory ran out for.
use Rattle.std.proofs.Common.{◌≡◌, ◌≤◌, ◌+◌, ◌⊎◌, ◌∙◌, inl, inr, ap, subst, sym, refl, ℕ, zero, suc, [], Option, None, Some, Result, Ok, Err, arith}
use Rattle.std.specs.Prelude.{IfOk, OnErr, option_map, sum}
use Rattle.std.proofs.lemmas.List.Sums.{sum_by_push}
use Rattle.beas_core.specs.declared.errors.NoMemory.{NoMemory as Out}
use Rattle.beas_core.specs.declared.refusal.Refusal.{Refusal}
use Rattle.outside.specs.Counts.{raised}
use Rattle.outside.specs.Seen.{Seen}
use Rattle.desk_model.specs.OpenQueries.{OpenQuery, reads_of}
use Rattle.report.specs.declared.reports.Report.{Report}
use Rattle.session.specs.declared.loading.LoadOutcome.TheVariants.{Failed}
use Rattle.session.specs.Effects.{Settings}
use Rattle.sql_text.specs.declared.tree.Statement.{Statement}
use Rattle.piece_reader.specs.declared.event.Event.TheVariants.{Said, Stepped}
use Rattle.desk_model.specs.Desks.{DeskAction, AtOnce, ByLoad, DeskEffect, State, action_of_event, lost, new_query, opened_effect, query_of, said_action, stepped_effect}
use Rattle.desk_model.specs.Pieces.{next, piece_action, with_answer}
use Rattle.piece_reader.specs.Sayings.{Reading}
use Rattle.version_store.specs.Desks.{GoesOn, IsDesk, MayCost, MayLoad, MayTake, Seen as DeskSeen, desk_wanting}
use Rattle.beas_run.specs.Pieces.{GoesOnBy, IsLeft, LeavesDesk, reads_by}
use Rattle.beas_run.specs.Shares.{AreShares, open_reads}
use Rattle.beas_run.proofs.ReadsFacts.{alone_grows, answered_reads, same_reads, stepped_reads}
use Rattle.beas_run.proofs.SaidFacts.{SaidIs, said_is}
use Rattle.beas_run.proofs.ShareFacts.{may_take, shares_fit, shares_within}

-- before anything was done
pub left_alone : (s : Settings) (reading : Reading) (desk : DeskSeen) (m : ℕ) (x : Seen) → IsLeft s reading desk desk m m x x
left_alone s reading desk m x = record {
  no_fewer = omega arith;
  at_most = λ fit.
      let few = shares_within desk.state desk.shares fit in
      let grows = alone_grows s desk.state reading in
      omega (arith, few, grows);
  loaded = inl refl;
  db = refl;
}

-- where a piece comes next, no less is read than is open
module _ (s : Settings) (state : State) where
  -- a statement, or a statement whose query is answered
  may_cost : (k m n shares : ℕ) (action : DeskAction) → SaidIs s.explain state k action → MayCost action m n → shares ≤ open_reads state
      → n + shares ≤ m + reads_by state (next (Some action) [])
  may_cost k m n shares (AtOnce effect) (inl keeps) may few =
      let h = may Failed in
      let same = same_reads state effect.state (keeps.queries Failed) in
      omega (arith, h, same, few)
  may_cost k m n shares (AtOnce effect) (inr new) may few =
      let query : OpenQuery = new_query s.explain state.db k new.prepared in
      let is : effect ≡ opened_effect s.explain state k (Ok new.prepared) = let e = new.is in cc in
      let more = sum_by_push reads_of state.queries query in
      let grows : open_reads state ≤ open_reads effect.state =
      subst (λ (e : DeskEffect). open_reads state ≤ open_reads e.state) (sym is) (omega (arith, more)) in
      let h = may Failed in
      omega (arith, h, grows, few)
  may_cost k m n shares (ByLoad name effect) (inl keeps) may few =
      let h = may Failed in
      let free = keeps.free in
      omega (arith, h, free, few)
  may_cost k m n shares (ByLoad name effect) (inr new) may few =
      let other : ByLoad name effect ≡ AtOnce (opened_effect s.explain state k (Ok new.prepared)) = new.is in cc

  pub answer_reads : (action : DeskAction) → reads_by state (next (Some (with_answer state action)) []) ≡ reads_by state (next (Some action) [])
  answer_reads (AtOnce effect) = answered_reads state effect
  answer_reads (ByLoad name effect) = refl

  pub answer_none : (action : DeskAction) → next (Some action) [] ≡ None → next (Some (with_answer state action)) [] ≡ None
  answer_none (AtOnce effect) none = cc
  answer_none (ByLoad name effect) none = refl

  stepped_by : (k : ℕ) (o : Option DeskEffect) → stepped_effect state k (query_of k state) ≡ o
      → reads_by state (next (option_map AtOnce o) []) ≡ open_reads state
  stepped_by k None is = refl
  stepped_by k (Some effect) is = stepped_reads state k effect is

-- a file was loaded at most once, where the action waits for one
may_load : (o : Option DeskAction) (x y : Seen) → MayLoad o x y → (y.loads ≡ x.loads) ⊎ ((next o [] ≡ None) × (y.loads ≡ raised 1 x.loads))
may_load None x y h = inl h
may_load (Some (AtOnce effect)) x y h = inl h
may_load (Some (ByLoad name effect)) x y (inl same) = inl same
may_load (Some (ByLoad name effect)) x y (inr more) = inr (refl, more)

-- no event that goes on with a query waits for one
step_loads : (o : Option DeskEffect) (x y : Seen) → MayLoad (option_map AtOnce o) x y → y.loads ≡ x.loads
step_loads None x y h = h
step_loads (Some effect) x y h = h

lost_db : (state : State) (k : ℕ) (o : Option OpenQuery) → (lost state k o).db ≡ state.db
lost_db state k None = refl
lost_db state k (Some query) = refl

pub wanting_db : (k : ℕ) (before after : DeskSeen) → after ≡ desk_wanting (Stepped k) before → after.state.db ≡ before.state.db
wanting_db k before after e = ap (λ (d : DeskSeen). d.state.db) e ∙ lost_db before.state k (query_of k before.state)

-- what is left where the action comes next
pub record LeftBy (o : Option DeskAction) (before after : DeskSeen) (m n : ℕ) (x y : Seen) : Type 0 where
  pub no_fewer : m ≤ n
  pub at_most : AreShares before.state.queries before.shares → n + sum before.shares ≤ m + reads_by before.state (next o [])
  pub loaded : (y.loads ≡ x.loads) ⊎ ((next o [] ≡ None) × (y.loads ≡ raised 1 x.loads))
  pub db : after.state.db ≡ before.state.db

-- so it is of the piece whose action it is
left_piece : (s : Settings) (reading : Reading) (before after : DeskSeen) (m n : ℕ) (x y : Seen)
    → LeftBy (piece_action s before.state reading) before after m n x y → IsLeft s reading before after m n x y
left_piece s reading before after m n x y left =
    record { no_fewer = left.no_fewer; at_most = left.at_most; loaded = left.loaded; db = left.db }

-- a statement of a session that has a name is the piece's one event
pub named_piece : (s : Settings) (state : State) (k : ℕ) (statement : Statement) → (k ≡ 0 → ⊥)
    → piece_action s state (Ok (Said k statement)) ≡ action_of_event s state (Said k statement)
named_piece s state zero statement named = absurd (named refl)
named_piece s state (suc k) statement named = refl

pub left_by_statement : (s : Settings) (k : ℕ) (statement : Statement) (before after : DeskSeen) (m n : ℕ) (x y : Seen)
    → before.settings ≡ s → IsDesk before
    → after ≡ desk_wanting (Said k statement) before → MayTake (Said k statement) before m n → m ≤ n
    → MayLoad (action_of_event s before.state (Said k statement)) x y
    → LeftBy (action_of_event s before.state (Said k statement)) before after m n x y
left_by_statement s k statement before after m n x y same told e may no_fewer loaded =
    let action = said_action s before.state k (query_of k before.state) statement in
    let cost : MayCost action m n = subst (λ (t : Settings). MayCost (said_action t before.state k (query_of k before.state) statement) m n) same may in
    record {
      no_fewer = no_fewer;
      at_most = λ _. may_cost s before.state k m n (sum before.shares) action (said_is s before.state k statement) cost
          (shares_within before.state before.shares (shares_fit before told));
      loaded = may_load (Some action) x y loaded;
      db = ap (λ (d : DeskSeen). d.state.db) e;
    }

pub left_by_step : (s : Settings) (k : ℕ) (before after : DeskSeen) (m n : ℕ) (x y : Seen) → IsDesk before
    → after ≡ desk_wanting (Stepped k) before → MayTake (Stepped k) before m n → m ≤ n
    → MayLoad (action_of_event s before.state (Stepped k)) x y
    → IsLeft s (Ok (Stepped k)) before after m n x y
left_by_step s k before after m n x y told e may no_fewer loaded =
    let le = may_take k before m n told may in
    let same = stepped_by s before.state k (stepped_effect before.state k (query_of k before.state)) refl in
    record {
      no_fewer = no_fewer;
      at_most = λ _. omega (arith, le, same);
      loaded = inl (step_loads (stepped_effect before.state k (query_of k before.state)) x y loaded);
      db = wanting_db k before after e;
    }

-- ---- whatever the event answers

pub event_left_said : (s : Settings) (k : ℕ) (statement : Statement) (r : Result Report Out) (before after : DeskSeen) (m n : ℕ) (x y : Seen)
    → (k ≡ 0 → ⊥) → before.settings ≡ s → IsDesk before
    → OnErr r (after ≡ desk_wanting (Said k statement) before) → OnErr r (MayTake (Said k statement) before m n) → m ≤ n
    → MayLoad (action_of_event s before.state (Said k statement)) x y
    → OnErr r (IsLeft s (Ok (Said k statement)) before after m n x y)
event_left_said s k statement (Ok report) before after m n x y named same told e may no_fewer loaded = tt
event_left_said s k statement (Err none) before after m n x y named same told e may no_fewer loaded =
    left_piece s (Ok (Said k statement)) before after m n x y
    (subst (λ o. LeftBy o before after m n x y) (sym (named_piece s before.state k statement named))
    (left_by_statement s k statement before after m n x y same told e may no_fewer loaded))

pub event_left_step : (s : Settings) (k : ℕ) (r : Result Report Out) (before after : DeskSeen) (m n : ℕ) (x y : Seen) → IsDesk before
    → OnErr r (after ≡ desk_wanting (Stepped k) before) → OnErr r (MayTake (Stepped k) before m n) → m ≤ n
    → MayLoad (action_of_event s before.state (Stepped k)) x y
    → OnErr r (IsLeft s (Ok (Stepped k)) before after m n x y)
event_left_step s k (Ok report) before after m n x y told e may no_fewer loaded = tt
event_left_step s k (Err none) before after m n x y told e may no_fewer loaded = left_by_step s k before after m n x y told e may no_fewer loaded

-- ---- what is left of the desk

pub desk_left_alone : (reading : Reading) (desk : DeskSeen) (m : ℕ) → LeavesDesk reading desk desk m m
desk_left_alone (Ok (Said zero statement)) desk m = (refl, λ outcome. omega arith)
desk_left_alone (Ok (Said (suc session) statement)) desk m = (refl, λ outcome. omega arith)
desk_left_alone (Ok (Stepped session)) desk m = inl (refl, refl)
desk_left_alone (Err why) desk m = (refl, refl)

pub desk_left_said : (k : ℕ) (statement : Statement) (r : Result Report Out) (before after : DeskSeen) (m n : ℕ) → (k ≡ 0 → ⊥)
    → OnErr r (after ≡ desk_wanting (Said k statement) before) → OnErr r (MayTake (Said k statement) before m n)
    → OnErr r (LeavesDesk (Ok (Said k statement)) before after m n)
desk_left_said zero statement r before after m n named e may = absurd (named refl)
desk_left_said (suc k) statement (Ok report) before after m n named e may = tt
desk_left_said (suc k) statement (Err none) before after m n named e may = (e, may)

pub desk_left_step : (k : ℕ) (r : Result Report Out) (before after : DeskSeen) (m n : ℕ)
    → OnErr r (after ≡ desk_wanting (Stepped k) before) → OnErr r (MayTake (Stepped k) before m n)
    → OnErr r (LeavesDesk (Ok (Stepped k)) before after m n)
desk_left_step k (Ok report) before after m n e may = tt
desk_left_step k (Err none) before after m n e may = inr (e, may)

-- ---- the probes and the shares

pub goes_on_said : (k : ℕ) (statement : Statement) (r : Result Report Out) (before after : DeskSeen) (m n : ℕ) → (k ≡ 0 → ⊥)
    → IfOk r (λ report. GoesOn (Said k statement) report before after m n) → IfOk r (λ report. GoesOnBy (Ok (Said k statement)) report before after m n)
goes_on_said zero statement r before after m n named h = absurd (named refl)
goes_on_said (suc k) statement r before after m n named h = h

pub goes_on_refused : (reading : Reading) (why : Refusal) (report : Report) (desk : DeskSeen) (m : ℕ) → reading ≡ Err why
    → GoesOnBy reading report desk desk m m
goes_on_refused reading why report desk m e = subst (λ r. GoesOnBy r report desk desk m m) (sym e) (refl, refl)
