-- What is done for a statement that names no session: it is said by session 0, and a query that it opens is answered.
use Rattle.std.proofs.Common.{◌≡◌, ◌≤◌, ◌+◌, ◌++◌, ◌⊎◌, ◌∙◌, inl, inr, ap, subst, sym, refl, ℕ, Bool, true, false, [], ◌∷◌, Option, None, Some, Result, Ok, Err, arith, find}
use Rattle.std.specs.Prelude.{IfOk, OnErr, IsSomeAnd, if◌then◌else◌, is_some, not, sum, ◌&&◌}
use Rattle.beas_core.specs.declared.errors.NoMemory.{NoMemory as Out}
use Rattle.outside.specs.Counts.{raised}
use Rattle.outside.specs.Seen.{Seen}
use Rattle.outside.proofs.Counts.{raised_none}
use Rattle.desk_model.specs.OpenQueries.{OpenQuery, reads_of}
use Rattle.report.specs.declared.reports.Report.{Report}
use Rattle.report.specs.declared.reports.Report.TheVariants.{Opened}
use Rattle.session.specs.declared.loading.LoadOutcome.{LoadOutcome}
use Rattle.session.specs.Effects.{Settings}
use Rattle.session.specs.Turns.{IsWithin}
use Rattle.sql_text.specs.declared.tree.Statement.{Statement}
use Rattle.desk_model.specs.Answers.{effect_by}
use Rattle.desk_model.specs.Desks.{DeskAction, AtOnce, ByLoad, DeskEffect, State, is_of, new_query, opened_effect, query_of, said_action}
use Rattle.desk_model.specs.Pieces.{next, opens, piece_action, with_answer}
use Rattle.piece_reader.specs.declared.event.Event.TheVariants.{Said}
use Rattle.version_store.specs.Desks.{GoesOn, IsDesk, MayCost, Seen as DeskSeen, Takes, share_at, without_query_of}
use Rattle.beas_run.specs.Pieces.{GoesOnBy, IsDone, IsLeft, LeavesDesk, MayTakeUnnamed, Reaches, answered_from, is_opened, reads_by, turn_alone}
use Rattle.beas_run.specs.Shares.{open_reads}
use Rattle.desk_model.proofs.Places.{find-last}
use Rattle.beas_run.proofs.AnswerFacts.{answered_cost}
use Rattle.beas_run.proofs.SaidFacts.{KeepsQueries, SaidIs, said_is}
use Rattle.beas_run.proofs.ShareFacts.{own_counts, shares_fit}
use Rattle.beas_run.proofs.SparedFacts.{none_dropped, spared_opened, stays}
use Rattle.beas_run.proofs.DoneFacts.{done_by_action}
use Rattle.beas_run.proofs.LeftFacts.{LeftBy, answer_none, answer_reads}

module _ (s : Settings) (statement : Statement) (before : DeskSeen) where
  abbrev said : DeskAction
  said = said_action s before.state 0 (query_of 0 before.state) statement

  -- as an event of session 0 it was left, so it was left as a piece
  pub left_unnamed : (after : DeskSeen) (m n : ℕ) (x y : Seen) → LeftBy (Some said) before after m n x y
      → IsLeft s (Ok (Said 0 statement)) before after m n x y
  left_unnamed after m n x y left = record {
    no_fewer = left.no_fewer;
    at_most = λ fit. let same = answer_reads s before.state said in let most = left.at_most fit in omega (arith, most, same);
    loaded = by left.loaded;
    db = left.db;
  }
    where
      by : (y.loads ≡ x.loads) ⊎ ((next (Some said) [] ≡ None) × (y.loads ≡ raised 1 x.loads))
          → (y.loads ≡ x.loads) ⊎ ((next (Some (with_answer before.state said)) [] ≡ None) × (y.loads ≡ raised 1 x.loads))
      by (inl same) = inl same
      by (inr more) = inr (answer_none s before.state said more.0, more.1)

  never : (b : Bool) → (b && not b) ≡ false
  never true = refl
  never false = refl

  unopened : (outcome : LoadOutcome) → KeepsQueries before.state said → opens 0 before.state (effect_by said outcome).state ≡ false
  unopened outcome keeps =
      ap (λ qs. is_some (find (is_of 0) qs) && not (is_some (query_of 0 before.state))) (keeps.queries outcome)
      ∙ never (is_some (query_of 0 before.state))

  -- no query was opened
  not_answered : (action : DeskAction) (outcome : LoadOutcome) → opens 0 before.state (effect_by action outcome).state ≡ false
      → with_answer before.state action ≡ action
  not_answered (AtOnce effect) outcome none = ap (λ b. AtOnce (if b then answered_from effect else effect)) none
  not_answered (ByLoad name effect) outcome none = refl

  pub done_unopened : (report : Report) (after : DeskSeen) (m n : ℕ) (x y : Seen)
      → is_opened report ≡ false → IsDesk after → IsWithin report
      → Takes s.limits.file said report before after m n x y → IsDone s (Ok (Said 0 statement)) report before after m n x y
  done_unopened report after m n x y none told within took =
      done_by_action s (Ok (Said 0 statement)) said report before after m n x y
      (ap (λ a. Some a) (not_answered said took.outcome (by (said_is s before.state 0 statement)))) told within took
    where
      by : SaidIs s.explain before.state 0 said → opens 0 before.state (effect_by said took.outcome).state ≡ false
      by (inl keeps) = unopened took.outcome keeps
      by (inr opens) =
          let other : true ≡ false = ap (λ a. is_opened (effect_by a took.outcome).report) (sym opens.is) ∙ ap is_opened (sym took.report_is) ∙ none in cc

  -- its one event counted no more than the piece costs
  pub take_unnamed : (m n : ℕ) → MayCost said m n → MayCost (with_answer before.state said) m n
  take_unnamed m n may outcome = by (said_is s before.state 0 statement)
    where
      by : SaidIs s.explain before.state 0 said → n ≤ m + (effect_by (with_answer before.state said) outcome).cost
      by (inl keeps) =
          subst (λ a. n ≤ m + (effect_by a outcome).cost) (sym (not_answered said outcome (unopened outcome keeps))) (may outcome)
      by (inr opens) =
          let free : n ≤ m + 0 = subst (λ a. n ≤ m + (effect_by a outcome).cost) opens.is (may outcome) in
          omega (arith, free)

-- what a statement opens where it reports so
pub record HasOpened (s : Settings) (statement : Statement) (report : Report) (before after : DeskSeen) : Type 0 where
  pub first : DeskEffect
  pub is : said s statement before ≡ AtOnce first
  pub state : after.state ≡ first.state
  pub free : first.cost ≡ 0
  pub new : IsSomeAnd (query_of 0 after.state) (λ query. query.made ≡ Some 0)
  pub db : after.state.db ≡ before.state.db
  pub opened : opens 0 before.state first.state ≡ true
  -- the query, which stands after the others
  pub idle : query_of 0 before.state ≡ None
  pub query : OpenQuery
  pub own : is_of 0 query ≡ true
  pub last : after.state ≡ record before.state { queries = before.state.queries ++ query ∷ [] }
  pub bound : ℕ
  pub report_is : report ≡ Opened 0 bound

module _ (s : Settings) (statement : Statement) (before after : DeskSeen) where
  opened_by : (report : Report) (m n : ℕ) (x y : Seen) → Takes s.limits.file (said s statement before) report before after m n x y
      → is_opened report ≡ true → SaidIs s.explain before.state 0 (said s statement before) → HasOpened s statement report before after
  opened_by report m n x y took reported (inl keeps) =
      let other : true ≡ false = sym reported ∙ ap is_opened took.report_is ∙ keeps.report took.outcome in cc
  opened_by report m n x y took reported (inr opens) =
      let new : OpenQuery = new_query s.explain before.state.db 0 opens.prepared in
      let first : DeskEffect = opened_effect s.explain before.state 0 (Ok opens.prepared) in
      let state : after.state ≡ first.state = took.state_is ∙ ap (λ a. (effect_by a took.outcome).state) opens.is in
      let there : query_of 0 first.state ≡ Some new = find-last (is_of 0) before.state.queries new opens.idle refl in
      record {
        first = first;
        is = opens.is;
        state = state;
        free = refl;
        new = subst (λ o. IsSomeAnd o (λ (q : OpenQuery). q.made ≡ Some 0)) (sym (ap (λ st. query_of 0 st) state ∙ there)) refl;
        db = ap (λ (st : State). st.db) state;
        opened = ap (λ o. is_some o && not (is_some (query_of 0 before.state))) there ∙ ap (λ o. not (is_some o)) opens.idle;
        idle = opens.idle;
        query = new;
        own = refl;
        last = state;
        bound = opens.prepared.bound;
        report_is = took.report_is ∙ ap (λ a. (effect_by a took.outcome).report) opens.is;
      }

  pub has_opened : (report : Report) (m n : ℕ) (x y : Seen) → Takes s.limits.file (said s statement before) report before after m n x y
      → is_opened report ≡ true → HasOpened s statement report before after
  has_opened report m n x y took reported = opened_by report m n x y took reported (said_is s before.state 0 statement)

-- but for this query the desk is as it was
pub opened_spared : (s : Settings) (statement : Statement) (report : Report) (before mid : DeskSeen) (m l : ℕ) → HasOpened s statement report before mid
    → IsDesk before → IsDesk mid → mid.settings ≡ before.settings → GoesOn (Said 0 statement) report before mid m l
    → without_query_of 0 mid ≡ without_query_of 0 before
opened_spared s statement report before mid m l o told told_mid settings h =
    spared_opened 0 before mid o.query o.idle o.own o.last settings statement 0 o.bound m l told told_mid
    (subst (λ r. GoesOn (Said 0 statement) r before mid m l) o.report_is h)

-- it was opened, and then answered
module _ (s : Settings) (statement : Statement) (before mid after : DeskSeen) (opening : Report) (o : HasOpened s statement opening before mid) (m l n : ℕ) (x y : Seen) where
  at_once : DeskAction
  at_once = AtOnce o.first

  answer_is : with_answer before.state (said s statement before) ≡ AtOnce (answered_from o.first)
  answer_is = ap (with_answer before.state) o.is ∙ ap (λ b. AtOnce (if b then answered_from o.first else o.first)) o.opened

  action_is : piece_action s before.state (Ok (Said 0 statement)) ≡ Some (AtOnce (answered_from o.first))
  action_is = ap (λ a. Some a) answer_is

  pub done_answered : (earlier report : Report) → Takes s.limits.file (said s statement before) earlier before mid m l x y → IsDesk mid → IsWithin report
      → Reaches (answered_from o.first) report mid after l n → IsDone s (Ok (Said 0 statement)) report before after m n x y
  done_answered earlier report took told within reached =
      let first : Takes s.limits.file (AtOnce o.first) earlier before mid m l x y =
      subst (λ a. Takes s.limits.file a earlier before mid m l x y) o.is took in
      record {
        turn = record { effect = answered_from o.first; load = None };
        report_is = reached.report_is;
        is = record {
          outcomes = [];
          comes = λ later. ap (λ a. next a later) action_is;
          state = reached.state_is;
          shares = λ _. reached.shares (shares_fit mid told);
          steps = omega (arith, first.counts, o.free, reached.counts);
          within = subst IsWithin reached.report_is within;
          tied = first.tied;
          loads = first.counted;
        };
      }

  pub left_answered : (earlier : Report) → Takes s.limits.file (said s statement before) earlier before mid m l x y → m ≤ l → l ≤ n
      → n + sum mid.shares ≤ l + open_reads mid.state → after.state.db ≡ mid.state.db → IsLeft s (Ok (Said 0 statement)) before after m n x y
  left_answered earlier took begun later most db =
      let first : Takes s.limits.file (AtOnce o.first) earlier before mid m l x y =
      subst (λ a. Takes s.limits.file a earlier before mid m l x y) o.is took in
      let reads : reads_by before.state (turn_alone s before.state (Ok (Said 0 statement))) ≡ o.first.cost + open_reads o.first.state =
      answer_reads s before.state (said s statement before) ∙ ap (λ a. reads_by before.state (next (Some a) [])) o.is in
      let open_then : open_reads mid.state ≡ open_reads o.first.state = ap open_reads o.state in
      record {
        no_fewer = omega (arith, begun, later);
        at_most = λ _. omega (arith, reads, open_then, most, first.counts, o.free);
        loaded = inl (first.counted ∙ raised_none x.loads);
        db = db ∙ o.db;
      }

  -- the query was opened without a read, and counted no more than its own reads
  take_answered : (earlier : Report) → Takes s.limits.file (said s statement before) earlier before mid m l x y
      → without_query_of 0 mid ≡ without_query_of 0 before
      → IsSomeAnd (query_of 0 mid.state) (λ (query : OpenQuery). n + share_at 0 mid ≤ l + reads_of query)
      → MayCost (with_answer before.state (said s statement before)) m n
  take_answered earlier took spared own outcome = by (query_of 0 mid.state) refl own
    where
      by : (p : Option OpenQuery) → query_of 0 mid.state ≡ p → IsSomeAnd p (λ (query : OpenQuery). n + share_at 0 mid ≤ l + reads_of query)
          → n ≤ m + (effect_by (with_answer before.state (said s statement before)) outcome).cost
      by None is none = absurd none
      by (Some q) is most =
          let first : Takes s.limits.file (AtOnce o.first) earlier before mid m l x y =
          subst (λ a. Takes s.limits.file a earlier before mid m l x y) o.is took in
          let counted : l + sum before.shares ≡ m + o.first.cost + sum mid.shares = first.counts in
          let free = o.free in
          let own : l + share_at 0 before ≡ m + share_at 0 mid = own_counts 0 before mid m l spared (omega (arith, counted, free)) in
          let there : query_of 0 o.first.state ≡ Some q = ap (λ st. query_of 0 st) (sym o.state) ∙ is in
          let made : q.made ≡ Some 0 = subst (λ p. IsSomeAnd p (λ (r : OpenQuery). r.made ≡ Some 0)) is o.new in
          let cost : (answered_from o.first).cost ≡ o.first.cost + reads_of q = answered_cost o.first q there made in
          let all : n ≤ m + (answered_from o.first).cost = omega (arith, own, cost, most, free) in
          subst (λ a. n ≤ m + (effect_by a outcome).cost) (sym answer_is) all

  -- whatever its last event answers
  pub answer_done : (earlier : Report) (r : Result Report Out) → Takes s.limits.file (said s statement before) earlier before mid m l x y → IsDesk mid
      → IfOk r IsWithin → IfOk r (λ report. (first : DeskEffect) → first.state ≡ mid.state → first.cost ≡ 0 → Reaches (answered_from first) report mid after l n)
      → IfOk r (λ report. IsDone s (Ok (Said 0 statement)) report before after m n x y)
  answer_done earlier (Ok report) took told within reached =
      done_answered earlier report took told within (reached o.first (sym o.state) o.free)
  answer_done earlier (Err e) took told within reached = tt

  pub answer_left : (earlier : Report) (r : Result Report Out) → Takes s.limits.file (said s statement before) earlier before mid m l x y → m ≤ l → l ≤ n
      → OnErr r (n + sum mid.shares ≤ l + open_reads mid.state) → OnErr r (after.state.db ≡ mid.state.db)
      → OnErr r (IsLeft s (Ok (Said 0 statement)) before after m n x y)
  answer_left earlier (Ok report) took begun later most db = tt
  answer_left earlier (Err e) took begun later most db = left_answered earlier took begun later most db

  pub answer_take : (earlier : Report) (r : Result Report Out) → Takes s.limits.file (said s statement before) earlier before mid m l x y
      → without_query_of 0 mid ≡ without_query_of 0 before
      → OnErr r (IsSomeAnd (query_of 0 mid.state) (λ (query : OpenQuery). n + share_at 0 mid ≤ l + reads_of query))
      → OnErr r (MayCost (with_answer before.state (said s statement before)) m n)
  answer_take earlier (Ok report) took spared own = tt
  answer_take earlier (Err e) took spared own = take_answered earlier took spared own

-- ---- what becomes of the desk

pub unopened_stays : (statement : Statement) (report : Report) (before after : DeskSeen) (m n : ℕ) → is_opened report ≡ false
    → GoesOn (Said 0 statement) report before after m n → GoesOnBy (Ok (Said 0 statement)) report before after m n
unopened_stays statement report before after m n none h = stays statement 0 report before after m n none h

pub answer_stays : (statement : Statement) (before mid after : DeskSeen) (r : Result Report Out) (m n : ℕ) → IsDesk before
    → query_of 0 before.state ≡ None → without_query_of 0 mid ≡ without_query_of 0 before
    → IfOk r (λ _. after ≡ without_query_of 0 mid) → IfOk r (λ report. GoesOnBy (Ok (Said 0 statement)) report before after m n)
answer_stays statement before mid after (Ok report) m n told idle opened e = none_dropped 0 before after told idle (e ∙ opened)
answer_stays statement before mid after (Err none) m n told idle opened e = tt

pub answer_spared : (statement : Statement) (before mid after : DeskSeen) (r : Result Report Out) (m n : ℕ)
    → without_query_of 0 mid ≡ without_query_of 0 before → OnErr r (without_query_of 0 after ≡ without_query_of 0 mid)
    → OnErr r (MayTakeUnnamed statement before m n) → OnErr r (LeavesDesk (Ok (Said 0 statement)) before after m n)
answer_spared statement before mid after (Ok report) m n opened e may = tt
answer_spared statement before mid after (Err none) m n opened e may = (e ∙ opened, may)
