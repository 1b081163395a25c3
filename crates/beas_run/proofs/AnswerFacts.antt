-- How a query of session 0 that was opened comes to its answer, event by event.
use Rattle.std.proofs.Common.{◌≡◌, ◌≤◌, ◌<◌, ◌+◌, ◌-◌, ◌∙◌, ap, subst, sym, refl, ℕ, zero, suc, Bool, true, false, Option, None, Some, Result, Ok, Err, arith, length}
use Rattle.std.specs.Prelude.{if◌then◌else◌, nat_lt, sum, unwrap_or, IfOk, IsSomeAnd, OnErr, option_map}
use Rattle.std.specs.Option.{option_map_or}
use Rattle.std.proofs.lemmas.Bool.{lt-ltb, le-ltb, ltb-true}
use Rattle.beas_core.specs.declared.errors.NoMemory.{NoMemory as Out}
use Rattle.outside.specs.Seen.{Seen}
use Rattle.desk_model.specs.OpenQueries.{OpenQuery, answer_of, probes_of, reads_of}
use Rattle.report.specs.declared.reports.Report.{Report}
use Rattle.report.specs.declared.reports.Report.TheVariants.{Answered}
use Rattle.session.specs.Effects.{Settings}
use Rattle.piece_reader.specs.declared.event.Event.{Event}
use Rattle.piece_reader.specs.declared.event.Event.TheVariants.{Stepped}
use Rattle.desk_model.specs.Desks.{AtOnce, DeskEffect, State, action_of_event, answered_effect, is_of, probed_effect, query_effect, query_of, stepped_effect, with_query}
use Rattle.desk_model.specs.Pieces.{after_cost, and_step, and_steps, probes_due}
use Rattle.desk_model.proofs.Places.{find_passes}
use Rattle.version_store.specs.Desks.{GoesOn, IsDesk, MayTake, Seen as DeskSeen, Takes, TakesSome, desk_wanting, share_at, waits_for_file, without_query_of}
use Rattle.beas_run.specs.Pieces.{Reaches, answered_from, has_probed}
use Rattle.beas_run.specs.Shares.{open_reads}
use Rattle.beas_run.proofs.FoundFacts.{find-set-found, remove-set-found, sum_by-set-found}
use Rattle.beas_run.proofs.LeftFacts.{wanting_db}
use Rattle.beas_run.proofs.SparedFacts.{dropped, spared_lost, spared_probed}
use Rattle.beas_run.proofs.ShareFacts.{may_take, own_counts, own_take, shares_fit}

abbrev is_probed : Report → Bool
is_probed report = has_probed (Ok report)

-- ---- event by event

stepped_is : (state : State) (k : ℕ) (q : OpenQuery) (made : ℕ) → query_of k state ≡ Some q → q.made ≡ Some made → (b : Bool)
    → nat_lt made (length (probes_of q)) ≡ b
    → stepped_effect state k (query_of k state) ≡ Some (if b then probed_effect state k q made else answered_effect state k q)
stepped_is state k q made is was b e =
    ap (stepped_effect state k) is ∙ ap (query_effect state k q) was
    ∙ ap (λ c. Some (if c then probed_effect state k q made else answered_effect state k q)) e

step_is : (k : ℕ) (effect : DeskEffect) (q : OpenQuery) (made : ℕ) → query_of k effect.state ≡ Some q → q.made ≡ Some made → (b : Bool)
    → nat_lt made (length (probes_of q)) ≡ b
    → and_step k effect ≡ after_cost effect.cost (if b then probed_effect effect.state k q made else answered_effect effect.state k q)
step_is k effect q made is was b e =
    ap (λ o. option_map_or (after_cost effect.cost) o effect) (stepped_is effect.state k q made is was b e)

-- a probe more leaves the answer as it is
answer_stays : (state : State) (k : ℕ) (q : OpenQuery) (made : Option ℕ) → query_of k state ≡ Some q
    → answered_effect (with_query k (record q { made = made }) state) k (record q { made = made }) ≡ answered_effect state k q
answer_stays state k q made is =
    ap (λ queries. let e : DeskEffect = record {
      report = Answered q.prepared.bound q.plan q.prepared.header (answer_of q) (reads_of q);
      cost = reads_of q;
      state = record { db = state.db; queries = queries };
    } in e) (remove-set-found (is_of k) state.queries q (record q { made = made }) is (find_passes (is_of k) state.queries q is))

reached : (left k : ℕ) (effect : DeskEffect) (q : OpenQuery) (made : ℕ) → query_of k effect.state ≡ Some q → q.made ≡ Some made
    → made + left ≡ length (probes_of q) → and_steps k (suc left) effect ≡ after_cost effect.cost (answered_effect effect.state k q)
reached zero k effect q made is was e =
    step_is k effect q made is was false (le-ltb made (length (probes_of q)) (omega (arith, e)))
reached (suc left) k effect q made is was e =
    let next : OpenQuery = record q { made = Some (made + 1) } in
    let one : DeskEffect = after_cost effect.cost (probed_effect effect.state k q made) in
    let free : effect.cost + 0 ≡ effect.cost = omega arith in
    let fewer : made + 1 + left ≡ length (probes_of q) = omega (arith, e) in
    let there : query_of k one.state ≡ Some next =
    find-set-found (is_of k) effect.state.queries q next is (find_passes (is_of k) effect.state.queries q is) in
    ap (and_steps k (suc left)) (step_is k effect q made is was true (lt-ltb made (length (probes_of q)) (omega (arith, e))))
    ∙ reached left k one next (made + 1) there refl fewer
    ∙ ap (λ n. after_cost n (answered_effect one.state k next)) free
    ∙ ap (after_cost effect.cost) (answer_stays effect.state k q (Some (made + 1)) is)

-- the cost of them all
pub answered_cost : (first : DeskEffect) (q : OpenQuery) → query_of 0 first.state ≡ Some q → q.made ≡ Some 0
    → (answered_from first).cost ≡ first.cost + reads_of q
answered_cost first q is made =
    let due : probes_due 0 first.state ≡ length (probes_of q) = ap (λ p. option_map_or (λ (r : OpenQuery). length (probes_of r)) p 0) is in
    let one : probes_due 0 first.state + 1 ≡ suc (length (probes_of q)) = omega (arith, due) in
    ap (λ m. (and_steps 0 m first).cost) one ∙ ap (λ (e : DeskEffect). e.cost) (reached (length (probes_of q)) 0 first q 0 is made (omega arith))

-- ---- the events of a query that was opened

-- how many of its probes haven't been made
abbrev pub probes_left : State → ℕ
probes_left state = option_map_or (λ (query : OpenQuery). length (probes_of query) - unwrap_or query.made 0) (query_of 0 state) 0

-- so it stands between two events: some of its probes were made, and its answer is what it was where it was opened
pub record OnTheWay (start now : DeskSeen) (s t : ℕ) : Type 0 where
  pub opened : OpenQuery
  pub was : query_of 0 start.state ≡ Some opened
  pub query : OpenQuery
  pub is : query_of 0 now.state ≡ Some query
  pub made : ℕ
  pub how_far : query.made ≡ Some made
  pub few : made ≤ length (probes_of query)
  pub last : answered_effect now.state 0 query ≡ answered_effect start.state 0 opened
  pub reads : open_reads now.state ≡ open_reads start.state
  pub db : now.state.db ≡ start.state.db
  pub settings : now.settings ≡ start.settings
  pub others : without_query_of 0 now ≡ without_query_of 0 start
  pub counts : t + sum start.shares ≡ s + sum now.shares
  pub later : s ≤ t

pub on_the_way : (desk : DeskSeen) (s : ℕ) → IsSomeAnd (query_of 0 desk.state) (λ query. query.made ≡ Some 0) → OnTheWay desk desk s s
on_the_way desk s new = by (query_of 0 desk.state) refl new
  where
    by : (o : Option OpenQuery) → query_of 0 desk.state ≡ o → IsSomeAnd o (λ (query : OpenQuery). query.made ≡ Some 0) → OnTheWay desk desk s s
    by None is new = absurd new
    by (Some q) is new = record {
      opened = q;
      was = is;
      query = q;
      is = is;
      made = 0;
      how_far = new;
      few = omega arith;
      last = refl;
      reads = refl;
      db = refl;
      settings = refl;
      others = refl;
      counts = refl;
      later = omega arith;
    }

-- one event more
module _ (start now after : DeskSeen) (s t u : ℕ) (x y : Seen) (way : OnTheWay start now s t) (report : Report)
    (took : TakesSome now.settings.limits.file (action_of_event now.settings now.state (Stepped 0)) report now after t u x y) where
  abbrev q : OpenQuery
  q = way.query

  abbrev n : ℕ
  n = length (probes_of q)

  taken_as : (b : Bool) → nat_lt way.made n ≡ b
      → Takes now.settings.limits.file (AtOnce (if b then probed_effect now.state 0 q way.made else answered_effect now.state 0 q)) report
      now after t u x y
  taken_as b e = subst (λ o. TakesSome now.settings.limits.file (option_map AtOnce o) report now after t u x y)
      (stepped_is now.state 0 q way.made way.is way.how_far b e) took

  -- a probe was made
  module _ (probed : is_probed report ≡ true) where
    due : nat_lt way.made n ≡ true
    due = by (nat_lt way.made n) refl
      where
        by : (b : Bool) → nat_lt way.made n ≡ b → nat_lt way.made n ≡ true
        by true e = e
        by false e = let other : true ≡ false = sym probed ∙ ap is_probed (taken_as false e).report_is in cc

    took_one : Takes now.settings.limits.file (AtOnce (probed_effect now.state 0 q way.made)) report now after t u x y
    took_one = taken_as true due

    abbrev further : OpenQuery
    further = record q { made = Some (way.made + 1) }

    there : query_of 0 after.state ≡ Some further
    there = ap (λ st. query_of 0 st) took_one.state_is
        ∙ find-set-found (is_of 0) now.state.queries q further way.is (find_passes (is_of 0) now.state.queries q way.is)

    goes_on : GoesOn (Stepped 0) report now after t u → after.settings ≡ now.settings → t ≤ u → OnTheWay start after s u
    goes_on once settings later =
        let less = ltb-true way.made n due in
        let counted : u + sum now.shares ≡ t + 0 + sum after.shares = took_one.counts in
        let before = way.counts in
        let begun = way.later in
        record {
          opened = way.opened;
          was = way.was;
          query = further;
          is = there;
          made = way.made + 1;
          how_far = refl;
          few = omega (arith, less);
          last = ap (λ st. answered_effect st 0 further) took_one.state_is ∙ answer_stays now.state 0 q (Some (way.made + 1)) way.is ∙ way.last;
          reads = ap open_reads took_one.state_is ∙ sum_by-set-found (is_of 0) reads_of now.state.queries q further way.is refl ∙ way.reads;
          db = ap (λ (st : State). st.db) took_one.state_is ∙ way.db;
          settings = settings ∙ way.settings;
          others = spared_probed 0 now q way.is after t u further (find_passes (is_of 0) now.state.queries q way.is) settings took_one.state_is
              (subst (λ (r : Report). GoesOn (Stepped 0) r now after t u) took_one.report_is once) ∙ way.others;
          counts = omega (arith, counted, before);
          later = omega (arith, begun, later);
        }

    fewer_left : probes_left after.state < probes_left now.state
    fewer_left =
        let less = ltb-true way.made n due in
        let after_it : probes_left after.state ≡ n - (way.made + 1) =
        ap (λ o. option_map_or (λ (query : OpenQuery). length (probes_of query) - unwrap_or query.made 0) o 0) there in
        let before_it : probes_left now.state ≡ n - way.made =
        ap (λ o. option_map_or (λ (query : OpenQuery). length (probes_of query) - unwrap_or query.made 0) o 0) way.is
        ∙ ap (λ o. n - unwrap_or o 0) way.how_far in
        omega (arith, less, after_it, before_it)

  -- it was answered
  module _ (ended : is_probed report ≡ false) where
    none_due : nat_lt way.made n ≡ false
    none_due = by (nat_lt way.made n) refl
      where
        by : (b : Bool) → nat_lt way.made n ≡ b → nat_lt way.made n ≡ false
        by true e = let other : true ≡ false = sym (ap is_probed (taken_as true e).report_is) ∙ ended in cc
        by false e = e

    took_last : Takes now.settings.limits.file (AtOnce (answered_effect now.state 0 q)) report now after t u x y
    took_last = taken_as false none_due

    answered : IsSomeAnd (query_of 0 start.state) (λ query. query.made ≡ Some 0) → IsDesk after
        → (first : DeskEffect) → first.state ≡ start.state → first.cost ≡ 0 → Reaches (answered_from first) report start after s u
    answered new told first same free =
        let o = way.opened in
        let is : query_of 0 first.state ≡ Some o = ap (λ st. query_of 0 st) same ∙ way.was in
        let made : o.made ≡ Some 0 = subst (λ p. IsSomeAnd p (λ (query : OpenQuery). query.made ≡ Some 0)) way.was new in
        let due : probes_due 0 first.state ≡ length (probes_of o) = ap (λ p. option_map_or (λ (r : OpenQuery). length (probes_of r)) p 0) is in
        let one : probes_due 0 first.state + 1 ≡ suc (length (probes_of o)) = omega (arith, due) in
        let last : answered_from first ≡ after_cost first.cost (answered_effect start.state 0 o) =
        ap (λ m. and_steps 0 m first) one ∙ reached (length (probes_of o)) 0 first o 0 is made (omega arith)
        ∙ ap (λ st. after_cost first.cost (answered_effect st 0 o)) same in
        let cost : (answered_from first).cost ≡ first.cost + reads_of o = ap (λ (e : DeskEffect). e.cost) last in
        let counted : u + sum now.shares ≡ t + reads_of q + sum after.shares = took_last.counts in
        let same_reads : reads_of q ≡ reads_of o = ap (λ (e : DeskEffect). e.cost) way.last in
        let before = way.counts in
        record {
          report_is = took_last.report_is ∙ ap (λ (e : DeskEffect). e.report) way.last ∙ sym (ap (λ (e : DeskEffect). e.report) last);
          state_is = took_last.state_is ∙ ap (λ (e : DeskEffect). e.state) way.last ∙ sym (ap (λ (e : DeskEffect). e.state) last);
          shares = λ _. shares_fit after told;
          counts = omega (arith, counted, same_reads, before, cost, free);
        }

    closed : GoesOn (Stepped 0) report now after t u → after.settings ≡ now.settings → after ≡ without_query_of 0 start
    closed once settings =
        dropped 0 now q way.is after t u settings took_last.state_is
        (subst (λ (r : Report). GoesOn (Stepped 0) r now after t u) took_last.report_is once) ∙ way.others

-- out of memory in one of them
lost_reads : (start now : DeskSeen) (s t u : ℕ) → OnTheWay start now s t → IsDesk now → MayTake (Stepped 0) now t u
    → u + sum start.shares ≤ s + open_reads start.state
lost_reads start now s t u way told may =
    let most = may_take 0 now t u told may in
    let before = way.counts in
    let same = way.reads in
    omega (arith, most, before, same)

-- what the query itself may have read, and nothing of the others
abbrev OwnReads : DeskSeen → ℕ → ℕ → Type 0
OwnReads start s u = IsSomeAnd (query_of 0 start.state) (λ query. u + share_at 0 start ≤ s + reads_of query)

lost_own : (start now : DeskSeen) (s t u : ℕ) → OnTheWay start now s t → IsDesk now → MayTake (Stepped 0) now t u → OwnReads start s u
lost_own start now s t u way told may =
    let most = own_take 0 now t u way.query told way.is may in
    let before = own_counts 0 start now s t way.others way.counts in
    let same : reads_of way.query ≡ reads_of way.opened = ap (λ (e : DeskEffect). e.cost) way.last in
    let own : u + share_at 0 start ≤ s + reads_of way.opened = omega (arith, most, before, same) in
    subst (λ o. IsSomeAnd o (λ (query : OpenQuery). u + share_at 0 start ≤ s + reads_of query)) (sym way.was) own

lost_others : (start now after : DeskSeen) (s t : ℕ) → OnTheWay start now s t → after ≡ desk_wanting (Stepped 0) now
    → without_query_of 0 after ≡ without_query_of 0 start
lost_others start now after s t way e =
    ap (without_query_of 0) e ∙ spared_lost 0 now way.query way.is (find_passes (is_of 0) now.state.queries way.query way.is) ∙ way.others

-- ---- by an event that goes on with the query, whatever it answers

abbrev Steps : Event → DeskSeen → DeskSeen → ℕ → ℕ → Seen → Seen → Report → Type 0
Steps event now after t u x y report = TakesSome now.settings.limits.file (action_of_event now.settings now.state event) report now after t u x y

no_wait : (o : Option DeskEffect) → waits_for_file (option_map AtOnce o) ≡ false
no_wait None = refl
no_wait (Some effect) = refl

module _ (event : Event) (is : event ≡ Stepped 0) where
  pub none_waits : (settings : Settings) (state : State) → waits_for_file (action_of_event settings state event) ≡ false
  none_waits settings state =
      ap (λ e. waits_for_file (action_of_event settings state e)) is ∙ no_wait (stepped_effect state 0 (query_of 0 state))

  module _ (start now after : DeskSeen) (s t u : ℕ) (x y : Seen) (way : OnTheWay start now s t) where
    steps : (report : Report) → Steps event now after t u x y report → Steps (Stepped 0) now after t u x y report
    steps report took = subst (λ e. Steps e now after t u x y report) is took

    goes : (report : Report) → GoesOn event report now after t u → GoesOn (Stepped 0) report now after t u
    goes report once = subst (λ e. GoesOn e report now after t u) is once

    pub on_by : (r : Result Report Out) → has_probed r ≡ true → IfOk r (Steps event now after t u x y)
        → IfOk r (λ report. GoesOn event report now after t u) → after.settings ≡ now.settings → t ≤ u → OnTheWay start after s u
    on_by (Ok report) probed took once settings later =
        goes_on start now after s t u x y way report (steps report took) probed (goes report once) settings later
    on_by (Err none) probed took once settings later = let other : true ≡ false = sym probed in cc

    pub fewer_by : (r : Result Report Out) → has_probed r ≡ true → IfOk r (Steps event now after t u x y) → probes_left after.state < probes_left now.state
    fewer_by (Ok report) probed took = fewer_left start now after s t u x y way report (steps report took) probed
    fewer_by (Err none) probed took = let other : true ≡ false = sym probed in cc

    pub answered_by : (r : Result Report Out) → has_probed r ≡ false → IsSomeAnd (query_of 0 start.state) (λ query. query.made ≡ Some 0) → IsDesk after
        → IfOk r (Steps event now after t u x y)
        → IfOk r (λ report. (first : DeskEffect) → first.state ≡ start.state → first.cost ≡ 0 → Reaches (answered_from first) report start after s u)
    answered_by (Ok report) ended new told took = answered start now after s t u x y way report (steps report took) ended new told
    answered_by (Err none) ended new told took = tt

    pub closed_by : (r : Result Report Out) → has_probed r ≡ false → IfOk r (Steps event now after t u x y)
        → IfOk r (λ report. GoesOn event report now after t u) → after.settings ≡ now.settings → IfOk r (λ _. after ≡ without_query_of 0 start)
    closed_by (Ok report) ended took once settings = closed start now after s t u x y way report (steps report took) ended (goes report once) settings
    closed_by (Err none) ended took once settings = tt

  lost : (now after : DeskSeen) → after ≡ desk_wanting event now → after ≡ desk_wanting (Stepped 0) now
  lost now after e = e ∙ ap (λ v. desk_wanting v now) is

  module _ (start now : DeskSeen) (s t : ℕ) (way : OnTheWay start now s t) where
    pub lost_db_by : (after : DeskSeen) (r : Result Report Out) → OnErr r (after ≡ desk_wanting event now) → OnErr r (after.state.db ≡ start.state.db)
    lost_db_by after (Ok report) e = tt
    lost_db_by after (Err none) e = wanting_db 0 now after (lost now after e) ∙ way.db

    pub lost_others_by : (after : DeskSeen) (r : Result Report Out) → OnErr r (after ≡ desk_wanting event now)
        → OnErr r (without_query_of 0 after ≡ without_query_of 0 start)
    lost_others_by after (Ok report) e = tt
    lost_others_by after (Err none) e = lost_others start now after s t way (lost now after e)

    pub lost_reads_by : (u : ℕ) (r : Result Report Out) → IsDesk now → OnErr r (MayTake event now t u)
        → OnErr r (u + sum start.shares ≤ s + open_reads start.state)
    lost_reads_by u (Ok report) told may = tt
    lost_reads_by u (Err none) told may = lost_reads start now s t u way told (subst (λ e. MayTake e now t u) is may)

    pub lost_own_by : (u : ℕ) (r : Result Report Out) → IsDesk now → OnErr r (MayTake event now t u)
        → OnErr r (IsSomeAnd (query_of 0 start.state) (λ (query : OpenQuery). u + share_at 0 start ≤ s + reads_of query))
    lost_own_by u (Ok report) told may = tt
    lost_own_by u (Err none) told may = lost_own start now s t u way told (subst (λ e. MayTake e now t u) is may)
