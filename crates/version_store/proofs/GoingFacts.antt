-- What a turn of one of its open queries makes of a desk.
use Rattle.std.proofs.Common.{◌≡◌, ◌<◌, ◌≤◌, ◌==◌, ◌+◌, ◌∙◌, ℕ, Bool, true, false, List, length, get_or, set, remove, nat_lt, position, is_some, Option, Some, None, inl, inr, refl, ap, sym, subst, arith}
use Rattle.std.specs.Prelude.{if◌then◌else◌, Contains}
use Rattle.std.proofs.lemmas.Bool.{lt-ltb, le-ltb}
use Rattle.std.proofs.lemmas.List.{get_or-set_same, length-set}
use Rattle.std.proofs.lemmas.List.Elements.{All-set}
use Rattle.beas_core.specs.declared.plan.Prepared.{Prepared}
use Rattle.beas_core.specs.Queries.{BlockProbe}
use Rattle.beas_core.specs.Types.{Row}
use Rattle.catalogue.specs.Database.{Database}
use Rattle.block_walk.specs.Turns.{Fetches}
use Rattle.block_walk.specs.Worlds.{World}
use Rattle.cursor_executor.specs.Fetching.{BlockFetched, Seen as CursorSeen, probed}
use Rattle.cursor_executor.specs.declared.cursors.Turn.{Turn}
use Rattle.cursor_executor.specs.declared.cursors.Turn.TheVariants.{Probed, Done}
use Rattle.cursor_executor.specs.Turns.{QuerySpent, TurnIs}
use Rattle.report.specs.declared.reports.Report.{Report}
use Rattle.report.specs.declared.reports.Report.TheVariants as report
use Rattle.session.specs.declared.session.Session.{Session}
use Rattle.session.specs.Applying.{database_of, settings_of}
use Rattle.session.specs.Turns.{IsWithin}
use Rattle.desk_model.specs.OpenQueries.{OpenQuery, answer_of, probes_of, reads_of, share_of}
use Rattle.version_store.specs.Turns.{Goes, IsAnswered, MakesProbe}
use Rattle.version_store.proofs.WorldFacts.{probes_are as own_probes, reads_are as own_reads, share_is as own_share}
use Rattle.piece_reader.specs.declared.event.Event.TheVariants.{Stepped}
use Rattle.desk_model.specs.Desks.{OneEach, State, answered_effect, lost, probed_effect, query_effect, query_of, refused, stepped_effect, with_query}
use Rattle.desk_model.proofs.OneEachFacts.{removed-apart, set-apart}
use Rattle.version_store.specs.Desks.{Finishes, MayTake, ProbesOnce, Seen, desk_wanting, place_in, share_at}
use Rattle.version_store.specs.Events.{HappensSome}
use Rattle.version_store.specs.Stored.{AreCounted, AreKept, IsOpenAt, Open, held_at, probes_in, seen_in, share_in, world_at}
use Rattle.version_store.proofs.CountFacts.{counted_lost, counted_probed, going, going_probes, going_share, has_failed, lost_probes, lost_share}
use Rattle.version_store.proofs.Places.{All-remove, remove-set}
use Rattle.version_store.proofs.SeenFacts as seen

abbrev share : Open → ℕ
share query = share_in query.cursor

abbrev probes : Open → List BlockProbe
probes query = probes_in query.cursor

-- ---- a session without an open query

module _ (session : Session) (queries : List Open) (k : ℕ) (none : position (λ q. q.session == k) queries ≡ None) where
  abbrev unchanged : Seen
  unchanged = seen_in session queries

  pub none_open : query_of k unchanged.state ≡ None
  none_open = seen.none_is (held_at (database_of session)) share probes (settings_of session) (database_of session) queries k none

  pub idle_happens : (why : _) (s : ℕ) → stepped_effect unchanged.state k None ≡ Some (refused unchanged.state why)
      → HappensSome (stepped_effect unchanged.state k (query_of k unchanged.state)) (report.Refused why) unchanged unchanged s s
  idle_happens why s is =
      subst (λ o. HappensSome o (report.Refused why) unchanged unchanged s s) (sym (ap (stepped_effect unchanged.state k) none_open ∙ is))
      (record { report_is = refl; state_is = refl; settings_stay = refl; counts = omega arith })

-- ---- the query at place i, which was old and is new

module _ (session : Session) (queries : List Open) (k i : ℕ) (old new : Open) (found : position (λ q. q.session == k) queries ≡ Some i)
    (was : old ≡ get_or queries i old) where
  abbrev db : Database
  db = database_of session

  abbrev see : Open → OpenQuery
  see = held_at db

  abbrev q : OpenQuery
  q = see old

  abbrev before : Seen
  before = seen_in session queries

  abbrev changed : Seen
  changed = seen_in session (set queries i new)

  abbrev shorter : Seen
  shorter = seen_in session (remove queries i)

  query_is : query_of k before.state ≡ Some q
  query_is = seen.query_is see share probes (settings_of session) db queries k i old found was

  place_is : place_in k before ≡ i
  place_is = seen.place_is see share probes (settings_of session) db queries k i old found was

  share_is : share_at k before ≡ share old
  share_is = seen.share_is see share probes (settings_of session) db queries k i old found was

  changed_state : changed.state ≡ with_query k (see new) before.state
  changed_state = seen.state_set see share probes (settings_of session) db queries k i old found was new

  stepped_is : (made : ℕ) → q.made ≡ Some made → (b : Bool) → nat_lt made (length (probes_of q)) ≡ b
      → stepped_effect before.state k (query_of k before.state)
      ≡ Some (if b then probed_effect before.state k q made else answered_effect before.state k q)
  stepped_is made how_far b e =
      ap (stepped_effect before.state k) query_is ∙ ap (query_effect before.state k q) how_far
      ∙ ap (λ c. Some (if c then probed_effect before.state k q made else answered_effect before.state k q)) e

  -- ---- one more probe
  module _ (s t : ℕ) (h : MakesProbe q old.cursor new.cursor (see new) s t) where
    old_goes : old.cursor.failed ≡ false
    old_goes = going old.cursor h.made h.was

    new_goes : new.cursor.failed ≡ false
    new_goes = going new.cursor (h.made + 1) (ap (λ (r : OpenQuery). r.made) h.is)

    share_more : share new ≡ share old + share_of q h.probe
    share_more =
        going_share new.cursor new_goes ∙ h.reads ∙ ap (λ n. n + share_of q h.probe) (sym (going_share old.cursor old_goes))

    pub probed_happens : HappensSome (stepped_effect before.state k (query_of k before.state)) (report.Probed k) before changed s t
    probed_happens =
        let sums = seen.sum_set see share probes (settings_of session) db queries k i old found was new in
        let steps = h.steps in
        subst (λ o. HappensSome o (report.Probed k) before changed s t)
        (sym (stepped_is h.made h.was true (lt-ltb h.made (length (probes_of q)) h.due))) (record {
          report_is = refl;
          state_is = changed_state ∙ ap (λ r. with_query k r before.state) h.is;
          settings_stay = refl;
          counts = omega (arith, sums, share_more, steps);
        })

    pub probed_once : ProbesOnce k before changed s t
    probed_once =
        let same = seen.probes_are see share probes (settings_of session) db queries k i old found was ∙ going_probes old.cursor old_goes in
        record {
          query = q;
          is = query_is;
          probe = h.probe;
          due = record { wanted = h.wanted; not_made = subst (λ ps. Contains ps h.probe → ⊥) (sym same) h.not_made };
          made = probed new.cursor.fetched;
          makes = subst (λ ps. Fetches BlockProbe h.probe ps (probed new.cursor.fetched)) (sym same) h.makes;
          probes = seen.probes_set see share probes (settings_of session) db queries k i old found was new
              ∙ ap (set before.probes (place_in k before)) (going_probes new.cursor new_goes);
          shares = seen.shares_set see share probes (settings_of session) db queries k i old found was new
              ∙ ap (set before.shares (place_in k before)) (share_more ∙ ap (λ n. n + share_of q h.probe) (sym share_is));
          steps = h.steps;
        }

  -- ---- it stands there after its turn
  in_range : i < length queries
  in_range = (seen.place see share probes (settings_of session) db queries k i old found was).within

  pub in_range_still : i < length (set queries i new)
  in_range_still = (let l = in_range in let same = length-set queries i new in omega (arith, l, same))

  pub stands_there : new ≡ get_or (set queries i new) i new
  stands_there = sym (get_or-set_same queries i new new in_range)

  stands_alone : (query : Open) → query ≡ get_or (set queries i new) i query → query ≡ new
  stands_alone query is = is ∙ get_or-set_same queries i new query in_range

  -- what is reported of it where its answer is there
  reported : new.cursor.prepared ≡ q.prepared → new.plan ≡ q.plan → new.cursor.answer ≡ Some (answer_of q) → new.cursor.reads ≡ reads_of q
      → (given : Report) → new.header ≡ new.cursor.prepared.header
      → ((rows : List Row) → new.cursor.answer ≡ Some rows
      → given ≡ report.Answered new.cursor.prepared.bound new.plan new.header rows new.cursor.reads)
      → given ≡ (answered_effect before.state k q).report
  reported prepared plan answer reads given header gives =
      gives (answer_of q) answer
      ∙ ap (λ hs. report.Answered new.cursor.prepared.bound new.plan hs (answer_of q) new.cursor.reads) header
      ∙ ap (λ (p : Prepared). report.Answered p.bound new.plan p.header (answer_of q) new.cursor.reads) prepared
      ∙ ap (λ lines. report.Answered q.prepared.bound lines q.prepared.header (answer_of q) new.cursor.reads) plan
      ∙ ap (report.Answered q.prepared.bound q.plan q.prepared.header (answer_of q)) reads

  -- ---- its answer
  module _ (s t : ℕ) (h : IsAnswered q old.cursor new.cursor (see new) s t) where
    all_read : share old ≡ reads_of q
    all_read = going_share old.cursor (going old.cursor h.made h.was) ∙ sym h.same ∙ h.reads

    pub answered_happens : (given : Report) → given ≡ (answered_effect before.state k q).report
        → HappensSome (stepped_effect before.state k (query_of k before.state)) given before shorter s t
    answered_happens given is =
        let sums = seen.sum_remove see share probes (settings_of session) db queries k i old found was in
        let steps = h.steps in
        subst (λ o. HappensSome o given before shorter s t)
        (sym (stepped_is h.made h.was false (le-ltb h.made (length (probes_of q)) h.none_due))) (record {
          report_is = is;
          state_is = seen.state_remove see share probes (settings_of session) db queries k i old found was;
          settings_stay = refl;
          counts = omega (arith, sums, all_read, steps);
        })

    pub answered_finishes : IsOpenAt db old → TurnIs (world_at db old) Done old.cursor new.cursor s t → Finishes k before shorter s t
    answered_finishes is_open turn = record {
      query = q;
      is = query_is;
      all_made = seen.probes_are see share probes (settings_of session) db queries k i old found was
          ∙ going_probes old.cursor (going old.cursor h.made h.was) ∙ sym turn.did.none_due
          ∙ sym (own_probes (world_at db old) old.cursor is_open.kept old.session old.plan);
      reads = share_is ∙ all_read;
      probes = seen.probes_remove see share probes (settings_of session) db queries k i old found was;
      shares = seen.shares_remove see share probes (settings_of session) db queries k i old found was;
      steps = h.steps;
    }

    -- what is reported of it
    pub answered_report : (given : Report) → new.header ≡ new.cursor.prepared.header
        → ((rows : List Row) → new.cursor.answer ≡ Some rows
        → given ≡ report.Answered new.cursor.prepared.bound new.plan new.header rows new.cursor.reads)
        → given ≡ (answered_effect before.state k q).report
    answered_report = reported (ap (λ (r : OpenQuery). r.prepared) h.is) (ap (λ (r : OpenQuery). r.plan) h.is) h.answer h.reads

    pub has_answer : (query : Open) → query ≡ get_or (set queries i new) i query → is_some query.cursor.answer ≡ true
    has_answer query is = ap (λ (o : Open). is_some o.cursor.answer) (stands_alone query is) ∙ ap is_some h.answer

  -- ---- out of memory
  module _ (h : see new ≡ record q { made = None }) where
    new_failed : new.cursor.failed ≡ true
    new_failed = has_failed new.cursor (ap (λ (r : OpenQuery). r.made) h)

    pub lost_there : changed ≡ desk_wanting (Stepped k) before
    lost_there =
        let made : State → List ℕ → List (List BlockProbe) → Seen = λ st shares ps.
        record { settings = settings_of session; state = st; shares = shares; probes = ps } in
        ap (λ st. made st changed.shares changed.probes)
        (changed_state ∙ ap (λ r. with_query k r before.state) h ∙ ap (lost before.state k) (sym query_is))
        ∙ ap (λ shares. made (lost before.state k (query_of k before.state)) shares changed.probes)
        (seen.shares_set see share probes (settings_of session) db queries k i old found was new
        ∙ ap (set before.shares (place_in k before)) (lost_share new.cursor new_failed))
        ∙ ap (made (lost before.state k (query_of k before.state)) (set before.shares (place_in k before) 0))
        (seen.probes_set see share probes (settings_of session) db queries k i old found was new
        ∙ ap (set before.probes (place_in k before)) (lost_probes new.cursor new_failed))

  pub lost_may : IsOpenAt db old → AreCounted q old.cursor → (s t : ℕ)
      → QuerySpent (world_at db old) old.cursor.prepared old.cursor.fetched s t → (old.cursor.failed ≡ true → t ≡ s) → MayTake (Stepped k) before s t
  lost_may is_open counted s t spent failed = by old.cursor.failed refl
    where
      by : (b : Bool) → old.cursor.failed ≡ b → MayTake (Stepped k) before s t
      by true e = inl (failed e)
      by false e = elim spent [
        | inl same ↦ inl same
        | inr h ↦
            let w = world_at db old in
            let own = own_probes w old.cursor is_open.kept old.session old.plan in
            let count = ap length own in
            let reads = own_reads w old.cursor is_open.kept old.session old.plan in
            let part = own_share w old.cursor is_open.kept old.session old.plan h.probe h.due.wanted in
            let mine = share_is ∙ going_share old.cursor e ∙ counted.reads e in
            let same = seen.probes_are see share probes (settings_of session) db queries k i old found was ∙ going_probes old.cursor e in
            let few = h.fewer in
            let within = h.within in
            inr (record {
              query = q;
              is = query_is;
              made = length old.cursor.fetched;
              was = ap (λ c. if c then None else Some (length old.cursor.fetched)) e;
              fewer = omega (arith, few, count);
              probe = h.probe;
              due = record {
                wanted = subst (λ ps. Contains ps h.probe) (sym own) h.due.wanted;
                not_made = subst (λ ps. Contains ps h.probe → ⊥) (sym same) h.due.not_made;
              };
              within = omega (arith, within, mine, part, reads);
              steps = h.cost ∙ ap (λ n. s + n) (sym part);
            })
      ]

  -- ---- what stays so
  pub kept_changed : AreKept db queries → IsOpenAt db new → AreCounted (see new) new.cursor → new.session ≡ old.session → AreKept db (set queries i new)
  kept_changed kept is_open counted same = record {
    sound = kept.sound;
    one_each = subst OneEach (sym changed_state) (set-apart before.state kept.one_each k q (see new) query_is same);
    open_queries = All-set (IsOpenAt db) queries i new is_open kept.open_queries;
    counts = All-set (λ (o : Open). AreCounted (see o) o.cursor) queries i new counted kept.counts;
  }

  pub kept_shorter : AreKept db queries → AreKept db (remove queries i)
  kept_shorter kept = record {
    sound = kept.sound;
    one_each = subst OneEach (sym (seen.state_remove see share probes (settings_of session) db queries k i old found was))
        (removed-apart before.state kept.one_each k q query_is);
    open_queries = All-remove (IsOpenAt db) queries i kept.open_queries;
    counts = All-remove (λ (o : Open). AreCounted (see o) o.cursor) queries i kept.counts;
  }

  pub open_there : AreKept db queries → IsOpenAt db old
  open_there kept = subst (IsOpenAt db) (sym was)
      (kept.open_queries i old (seen.place see share probes (settings_of session) db queries k i old found was).within)

  pub counted_there : AreKept db queries → AreCounted q old.cursor
  counted_there kept = subst (λ (o : Open). AreCounted (see o) o.cursor) (sym was)
      (kept.counts i old (seen.place see share probes (settings_of session) db queries k i old found was).within)

  module _ (kept : AreKept db queries) (is_open : IsOpenAt db new) (same : new.session ≡ old.session) where
    pub kept_probed : (s t : ℕ) → MakesProbe q old.cursor new.cursor (see new) s t → TurnIs (world_at db old) Probed old.cursor new.cursor s t
        → AreKept db (set queries i new)
    kept_probed s t h turn =
        kept_changed kept is_open (counted_probed (world_at db old) old.cursor new.cursor (open_there kept).kept old.session old.plan (counted_there kept)
        (see new) (Some (h.made + 1)) h.is (going old.cursor h.made h.was) s t turn) same

    pub kept_lost : see new ≡ record q { made = None } → AreKept db (set queries i new)
    kept_lost h =
        kept_changed kept is_open (counted_lost (world_at db old) old.cursor new.cursor (open_there kept).kept old.session old.plan (counted_there kept)
        (see new) None h (new_failed h)) same

  pub kept_answered : AreKept db queries → (left : List Open) → left ≡ remove (set queries i new) i → AreKept db left
  kept_answered kept left gone = subst (AreKept db) (sym (gone ∙ remove-set queries i new)) (kept_shorter kept)

  pub answer_within : AreKept db queries → (given : Report) → given ≡ (answered_effect before.state k q).report → IsWithin given
  answer_within kept given is = subst IsWithin (sym is) (counted_there kept).bound

  pub left_is : (left : List Open) → left ≡ remove (set queries i new) i → seen_in session left ≡ shorter
  left_is left gone = ap (seen_in session) (gone ∙ remove-set queries i new)

-- ---- what the steps of a call tell

pub where_found : (queries lent : List Open) (k : ℕ) (r o : Option ℕ) → lent ≡ queries → r ≡ position (λ q. q.session == k) lent → r ≡ o
    → position (λ q. q.session == k) queries ≡ o
where_found queries lent k r o same found is = ap (position (λ (q : Open). q.session == k)) (sym same) ∙ sym found ∙ is

pub made_there : (turn : Turn) (q next : OpenQuery) (old new : CursorSeen) (s t : ℕ) → turn ≡ Probed → Goes turn q old new next s t → MakesProbe q old new next s t
made_there turn q next old new s t is went = subst (λ w. Goes w q old new next s t) is went

pub answered_there : (turn : Turn) (q next : OpenQuery) (old new : CursorSeen) (s t : ℕ) → turn ≡ Done → Goes turn q old new next s t
    → IsAnswered q old new next s t
answered_there turn q next old new s t is went = subst (λ w. Goes w q old new next s t) is went

pub no_fewer_spent : (w : World) (prepared : Prepared) (fetched : List BlockFetched) (s t : ℕ) → QuerySpent w prepared fetched s t → s ≤ t
no_fewer_spent w prepared fetched s t spent = elim spent [ inl same ↦ omega (arith, same) | inr h ↦ let cost = h.cost in omega (arith, cost) ]
