-- Where a run is in the turns of its script, and what is true where it ends there.
use Rattle.std.proofs.Common.{◌≡◌, ◌≢◌, ◌<◌, ◌≤◌, ◌+◌, ◌++◌, ◌||◌, ◌⊎◌, ◌∙◌, sym, ap, subst, refl, inl, inr, ℕ, Bool, true, false, List, [], ◌∷◌, Option, None, Some, Err, length, take, arith, append_assoc, append-nil, length-append}
use Rattle.std.specs.Prelude.{if◌then◌else◌, sum}
use Rattle.std.specs.Option.{option_map_or}
use Rattle.std.proofs.lemmas.List.Elements.{All-append, All-cons, All-nil}
use Rattle.outside.specs.Counts.{raised}
use Rattle.outside.specs.Parts.{SentPart}
use Rattle.outside.proofs.Counts.{raised_none}
use Rattle.outside.specs.Seen.{IsLater}
use Rattle.report.specs.declared.reports.Report.{Report}
use Rattle.report.specs.Reports.{report_text}
use Rattle.session.specs.declared.loading.LoadOutcome.{LoadOutcome}
use Rattle.session.specs.Effects.{Settings}
use Rattle.session.specs.Ties.{AreTied}
use Rattle.session.specs.Turns.{is_refusal, out_of, cost_of, any_refused, loads_of, IsWithin}
use Rattle.desk_model.specs.Desks.{State}
use Rattle.desk_model.specs.Pieces.{DeskTurn, Next, next, seen_turns, turns}
use Rattle.piece_reader.specs.Sayings.{Reading}
use Rattle.beas_run.specs.declared.ending.Ending.{Ending}
use Rattle.beas_run.specs.declared.ending.Ending.TheVariants.{Fault, NoMemory}
use Rattle.beas_run.specs.Endings.{status_of}
use Rattle.beas_run.specs.Pieces.{IsReported, IsTurn, IsUndone, IsUnreported, Scene, moment_of, reads_by, turn_alone}
use Rattle.beas_run.specs.Shares.{AreShares, greatest_cost, open_reads}
use Rattle.beas_run.specs.States.{state_after}
use Rattle.beas_run.specs.Walks.{Moment, AreWithin, Did, whole_status, Follows, Walked}
use Rattle.beas_run.proofs.LeftFacts.{left_alone}
use Rattle.beas_run.proofs.ShareFacts.{shares_within}
use Rattle.beas_run.proofs.ReadsFacts.{greatest-cons, turns_grow}
use Rattle.beas_run.proofs.TieFacts.{later_twice, same_later, tied_none, tied_twice, tied_later}
use Rattle.beas_run.proofs.TurnFacts.{out_from, out-append, out-more, cost-append, refused-append, state-append, loads-append, length_loads-append, loads_more, puts_more, turns_next, no_loads}

abbrev loads_in : List DeskTurn → ℕ
loads_in ts = length (loads_of (seen_turns ts))

-- these turns are done, and their reports written
pub record HasDone (done : List DeskTurn) (before : Moment) (now : Scene) : Type 0 where
  pub sent : before.out.told ≡ true → now.out.bytes ≡ before.out.bytes ++ out_of (seen_turns done)
  pub state : now.desk.state ≡ state_after before.state done
  pub shares : AreShares now.desk.state.queries now.desk.shares
  pub steps : now.steps ≡ before.steps + cost_of (seen_turns done) + sum now.desk.shares
  pub within : AreWithin done
  pub puts : now.out.puts ≡ raised (length done) before.out.puts
  pub loads : now.files.loads ≡ raised (length (loads_of (seen_turns done))) before.files.loads

-- These turns are done. Whatever the loads to come give, the turns of the script are these and then those of the rest.
pub record Reached (s : Settings) (all rest : List Reading) (place : ℕ) (refused : Bool) (before : Moment) (now : Scene) : Type 0 where
  pub outcomes : List LoadOutcome
  pub done : List DeskTurn
  pub joined : (later : List LoadOutcome) → turns s before.state all (outcomes ++ later) ≡ done ++ turns s now.desk.state rest later
  pub count : length done ≡ place
  pub places : place + length rest ≡ length all
  pub did : HasDone done before now
  pub refused_is : refused ≡ any_refused (seen_turns done)
  pub tied : AreTied s.limits.file (loads_of (seen_turns done)) before.files now.files
  pub later : IsLater before.files now.files
  pub told : now.out.told ≡ before.out.told

-- before the first piece no query is open
pub begun : (s : Settings) (readings : List Reading) (now : Scene) → now.desk.state.queries ≡ [] → now.desk.shares ≡ []
    → Reached s readings readings 0 false (moment_of now) now
begun s readings now idle none = record {
  outcomes = [];
  done = [];
  joined = λ later. ap (λ st. turns s st readings later) state;
  count = refl;
  places = omega arith;
  did = record {
    sent = λ _. sym (append-nil now.out.bytes);
    state = sym state;
    shares = rw (idle, none) tt;
    steps = let zero : sum now.desk.shares ≡ 0 = ap sum none in omega (arith, zero);
    within = All-nil (λ t. IsWithin t.effect.report);
    puts = sym (raised_none now.out.puts);
    loads = sym (raised_none now.files.loads);
  };
  refused_is = refl;
  tied = tied_none s.limits.file now.files now.files (same_later now.files);
  later = same_later now.files;
  told = refl;
}
  where
    state : (moment_of now).state ≡ now.desk.state
    state = ap (λ qs. let st : State = record { db = now.desk.state.db; queries = qs } in st) (sym idle)

pub begun_done : (s : Settings) (readings : List Reading) (now : Scene) (idle : now.desk.state.queries ≡ []) (none : now.desk.shares ≡ [])
    → (begun s readings now idle none).done ≡ []
unfolding begun
begun_done s readings now idle none = refl

within_one : (t : DeskTurn) → IsWithin t.effect.report → AreWithin (t ∷ [])
within_one t h = All-cons (λ t. IsWithin t.effect.report) t [] h (All-nil (λ t. IsWithin t.effect.report))

cost_one : (t : DeskTurn) → cost_of (seen_turns (t ∷ [])) ≡ t.effect.cost
cost_one t = omega arith

-- ---- one piece more

module _ (s : Settings) (reading : Reading) (turn : DeskTurn) (place : ℕ) (done : List DeskTurn) (before : Moment) (now after : Scene)
    (did : HasDone done before now) (count : length done ≡ place) (told : now.out.told ≡ before.out.told)
    (is : IsTurn s reading turn now.desk after.desk now.steps after.steps now.files after.files) where
  steps_more : after.steps ≡ before.steps + cost_of (seen_turns (done ++ turn ∷ [])) + sum after.desk.shares
  steps_more =
      let costs = cost-append done (turn ∷ []) in
      omega (arith, costs, cost_one turn, did.steps, is.steps)

  state_more : after.desk.state ≡ state_after before.state (done ++ turn ∷ [])
  state_more = is.state ∙ sym (state-append before.state done (turn ∷ []))

  within_more : AreWithin (done ++ turn ∷ [])
  within_more = All-append (λ t. IsWithin t.effect.report) done (turn ∷ []) did.within (within_one turn is.within)

  loads_then : after.files.loads ≡ raised (length (loads_of (seen_turns (done ++ turn ∷ [])))) before.files.loads
  loads_then = loads_more done turn before.files.loads now.files.loads after.files.loads did.loads is.loads

  did_more : (now.out.told ≡ true → after.out.bytes ≡ now.out.bytes ++ report_text (place + 1) turn.effect.report)
      → after.out.puts ≡ raised 1 now.out.puts → HasDone (done ++ turn ∷ []) before after
  did_more sent puts = record {
    sent = λ on.
        sent (told ∙ on) ∙ ap (λ xs. xs ++ report_text (place + 1) turn.effect.report) (did.sent on)
        ∙ append_assoc before.out.bytes (out_of (seen_turns done)) (report_text (place + 1) turn.effect.report)
        ∙ ap (λ k. before.out.bytes ++ (out_of (seen_turns done) ++ report_text (k + 1) turn.effect.report)) (sym count)
        ∙ ap (λ xs. before.out.bytes ++ xs) (sym (out-more done turn));
    state = state_more;
    shares = is.shares did.shares;
    steps = steps_more;
    within = within_more;
    puts = puts_more (length done) before.out.puts now.out.puts after.out.puts did.puts puts
        ∙ ap (λ n. raised n before.out.puts) (sym (length-append done (turn ∷ [])));
    loads = loads_then;
  }

or_false : (b : Bool) → (b || false) ≡ b
or_false true = refl
or_false false = refl

module _ (s : Settings) (all rest : List Reading) (reading : Reading) (place : ℕ) (refused is : Bool) (took took_after : List Report → Type 0)
    (before : Moment) (now after : Scene) (r : Reached s all (reading ∷ rest) place refused before now)
    (p : IsReported s reading (place + 1) is took took_after now after) where
  joined_more : (later : List LoadOutcome)
      → turns s before.state all ((r.outcomes ++ p.is.outcomes) ++ later) ≡ (r.done ++ p.turn ∷ []) ++ turns s after.desk.state rest later
  joined_more later =
      ap (turns s before.state all) (append_assoc r.outcomes p.is.outcomes later)
      ∙ r.joined (p.is.outcomes ++ later)
      ∙ ap (λ ts. r.done ++ ts) (turns_next s now.desk.state reading rest p.is.outcomes later p.turn (p.is.comes later))
      ∙ ap (λ st. r.done ++ (p.turn ∷ turns s st rest later)) (sym p.is.state)
      ∙ sym (append_assoc r.done (p.turn ∷ []) (turns s after.desk.state rest later))

  pub more : IsLater now.files after.files → after.out.told ≡ now.out.told → Reached s all rest (place + 1) (refused || is) before after
  more later told = record {
    outcomes = r.outcomes ++ p.is.outcomes;
    done = r.done ++ p.turn ∷ [];
    joined = joined_more;
    count = let c = r.count in let l = length-append r.done (p.turn ∷ []) in omega arith;
    places = let c = r.places in omega arith;
    did = did_more s reading p.turn place r.done before now after r.did r.count r.told p.is p.sent p.puts;
    refused_is = ap (λ b. b || is) r.refused_is ∙ ap (λ b. any_refused (seen_turns r.done) || b) (p.refused_is ∙ sym (or_false (is_refusal p.turn.effect.report)))
        ∙ sym (refused-append r.done (p.turn ∷ []));
    tied = subst (λ loads. AreTied s.limits.file loads before.files after.files) (sym (loads-append r.done (p.turn ∷ [])))
        (tied_twice s.limits.file (loads_of (seen_turns r.done)) (loads_of (seen_turns (p.turn ∷ []))) before.files now.files after.files r.later r.tied p.is.tied);
    later = later_twice before.files now.files after.files r.later later;
    told = told ∙ r.told;
  }

  pub more_done : (later : IsLater now.files after.files) (told : after.out.told ≡ now.out.told) → (more later told).done ≡ r.done ++ p.turn ∷ []
  unfolding more
  more_done later told = refl

-- ---- the end

did_all : (done : List DeskTurn) (before : Moment) (now : Scene) → HasDone done before now → Did done before (moment_of now)
did_all done before now did = record {
  sent = did.sent;
  shares = now.desk.shares;
  are_shares = subst (λ (st : State). AreShares st.queries now.desk.shares) did.state did.shares;
  steps = did.steps;
  db = ap (λ (st : State). st.db) did.state;
  within = did.within;
  puts = did.puts;
  loads = did.loads;
}

follows_all : (limit : ℕ) (done : List DeskTurn) (status : ℕ) (before : Moment) (now : Scene) → HasDone done before now
    → AreTied limit (loads_of (seen_turns done)) before.files now.files
    → status ≡ whole_status done → status < 2 → Follows limit done status before (moment_of now)
follows_all limit done status before now did tied status_is below =
    let open_then : open_reads now.desk.state ≡ open_reads (state_after before.state done) = ap open_reads did.state in
    let few = shares_within now.desk.state now.desk.shares did.shares in
    record {
      whole = λ _. did_all done before now did;
      refusals = λ _. status_is;
      stopped = λ two. absurd (omega arith);
      part = λ told. record { part = out_of (seen_turns done); left = []; sent = did.sent told; cut = append-nil (out_of (seen_turns done)) };
      no_fewer = omega (arith, did.steps);
      at_most = omega (arith, did.steps, open_then, few);
      tied = tied;
    }

-- turns without a load load nothing more
loads_in-none : (done left all : List DeskTurn) → all ≡ done ++ left → loads_of (seen_turns left) ≡ [] → loads_in all ≡ loads_in done
loads_in-none done left all is none =
    let joined : loads_in all ≡ loads_in (done ++ left) = ap loads_in is in
    let both : loads_in (done ++ left) ≡ loads_in done + loads_in left = length_loads-append done left in
    let zero : loads_in left ≡ 0 = ap length none in
    omega (arith, joined, both, zero)

-- no more files were loaded than these turns have loads, where all turns have as many
loads_within : (done all : List DeskTurn) (before after : ℕ) → loads_in all ≡ loads_in done → after ≡ raised (loads_in done) before
    → after ≤ raised (loads_in all) before
loads_within done all before after same is = omega (arith, same, is)

-- the status where all was done
abbrev pub status_for : Bool → ℕ
status_for refused = if refused then 1 else 0

below_two : (refused : Bool) → status_for refused < 2
below_two true = omega arith
below_two false = omega arith

pub ended : (s : Settings) (all : List Reading) (place : ℕ) (refused : Bool) (before : Moment) (now : Scene) (status : ℕ)
    → Reached s all [] place refused before now
    → status ≡ status_for refused → Walked s all status before (moment_of now)
ended s all place refused before now status r status_is =
    let e : turns s before.state all (r.outcomes ++ []) ≡ r.done = r.joined [] ∙ append-nil r.done in
    let P : ℕ → Type 0 = λ n. n < 2 in
    record {
      outcomes = r.outcomes ++ [];
      whole = λ _. let l = ap length e in let c = r.count in let p = r.places in omega arith;
      no_other_load = λ _. loads_within r.done (turns s before.state all (r.outcomes ++ [])) before.files.loads now.files.loads (ap loads_in e) r.did.loads;
      follows =
          subst (λ ts. Follows s.limits.file ts status before (moment_of now)) (sym e)
          (follows_all s.limits.file r.done status before now r.did r.tied (status_is ∙ ap status_for r.refused_is)
          (subst P (sym status_is) (below_two refused)));
    }

pub ended_turns : (s : Settings) (all : List Reading) (place : ℕ) (refused : Bool) (before : Moment) (now : Scene) (status : ℕ)
    → (r : Reached s all [] place refused before now)
    → (status_is : status ≡ status_for refused) → turns s before.state all (ended s all place refused before now status r status_is).outcomes ≡ r.done
unfolding ended
ended_turns s all place refused before now status r status_is = r.joined [] ∙ append-nil r.done

-- ---- the cost of turns that are done, and of more

greatest-append : (state : State) (done left : List DeskTurn)
    → greatest_cost state (done ++ left) ≡ cost_of (seen_turns done) + greatest_cost (state_after state done) left
greatest-append state done left =
    let costs = cost-append done left in
    let after : open_reads (state_after state (done ++ left)) ≡ open_reads (state_after (state_after state done) left) =
    ap open_reads (state-append state done left) in
    omega (arith, costs, after)

abbrev turns_from : Settings → List Reading → Option Next → List DeskTurn
turns_from s rest turn = option_map_or (λ n. n.turn ∷ turns s n.turn.effect.state rest n.left) turn []

-- the first of the turns that come without a load
first_cost : (s : Settings) (rest : List Reading) (state : State) (turn : Option Next) → greatest_cost state (take 1 (turns_from s rest turn)) ≡ reads_by state turn
first_cost s rest state None = omega arith
first_cost s rest state (Some n) = let whole = greatest-cons state n.turn [] in omega (arith, whole)

first_le : (s : Settings) (rest : List Reading) (state : State) (turn : Option Next)
    → greatest_cost state (take 1 (turns_from s rest turn)) ≤ greatest_cost state (turns_from s rest turn)
first_le s rest state None = omega arith
first_le s rest state (Some n) =
    let grows = turns_grow s rest n.turn.effect.state n.left in
    let whole = greatest-cons state n.turn (turns s n.turn.effect.state rest n.left) in
    let one = first_cost s rest state (Some n) in
    omega (arith, grows, whole, one)

-- ---- an end before the next report

loads_paused : (done left : List DeskTurn) (before now after : ℕ) → now ≡ raised (length (loads_of (seen_turns done))) before
    → (after ≡ now) ⊎ ((left ≡ []) × (after ≡ raised 1 now))
    → (after ≡ raised (length (loads_of (seen_turns done))) before) ⊎ ((left ≡ []) × (after ≡ raised (length (loads_of (seen_turns done)) + 1) before))
loads_paused done left before now after first (inl same) = inl (same ∙ first)
loads_paused done left before now after first (inr more) = inr (more.0, puts_more (length (loads_of (seen_turns done))) before now after first more.1)

-- what is left of a piece that memory ran out for, where its turn would be the first of these
pub record IsPaused (left : List DeskTurn) (now after : Scene) : Type 0 where
  pub sent : now.out.told ≡ true → after.out.bytes ≡ now.out.bytes
  pub no_fewer : now.steps ≤ after.steps
  pub at_most : after.steps + sum now.desk.shares ≤ now.steps + greatest_cost now.desk.state (take 1 left)
  pub db : after.desk.state.db ≡ now.desk.state.db
  pub puts : after.out.puts ≡ now.out.puts
  pub loads : (after.files.loads ≡ now.files.loads) ⊎ ((left ≡ []) × (after.files.loads ≡ raised 1 now.files.loads))

follows_paused : (limit : ℕ) (done left : List DeskTurn) (status : ℕ) (before : Moment) (now after : Scene) → HasDone done before now
    → now.out.told ≡ before.out.told
    → AreTied limit (loads_of (seen_turns done)) before.files after.files → loads_of (seen_turns left) ≡ []
    → greatest_cost now.desk.state (take 1 left) ≤ greatest_cost now.desk.state left
    → IsPaused left now after → 2 ≤ status → status ≢ 4 → Follows limit (done ++ left) status before (moment_of after)
follows_paused limit done left status before now after did told tied none grows p early fault =
    let same : (ts : List DeskTurn) → greatest_cost (state_after before.state done) ts ≡ greatest_cost now.desk.state ts =
    λ ts. ap (λ st. greatest_cost st ts) (sym did.state) in
    let first = greatest-append before.state done (take 1 left) in
    let whole = greatest-append before.state done left in
    record {
      whole = λ below. absurd (omega arith);
      refusals = λ below. absurd (omega arith);
      stopped = λ _. inl (record {
        done = done;
        left = left;
        turns_are = refl;
        no_fault = fault;
        sent = λ on. p.sent (told ∙ on) ∙ did.sent on;
        no_fewer = omega (arith, p.no_fewer, did.steps);
        at_most = omega (arith, p.at_most, did.steps, first, same (take 1 left));
        db = p.db ∙ ap (λ (st : State). st.db) did.state;
        within = did.within;
        puts = p.puts ∙ did.puts;
        loads = loads_paused done left before.files.loads now.files.loads after.files.loads did.loads p.loads;
      });
      part = λ on. record {
        part = out_of (seen_turns done);
        left = out_from (length done + 1) left;
        sent = p.sent (told ∙ on) ∙ did.sent on;
        cut = sym (out-append done left);
      };
      no_fewer = omega (arith, p.no_fewer, did.steps);
      at_most = omega (arith, p.at_most, did.steps, whole, same left, grows);
      tied = subst (λ loads. AreTied limit loads before.files after.files)
          (sym (loads-append done left ∙ ap (λ loads. loads_of (seen_turns done) ++ loads) none ∙ append-nil (loads_of (seen_turns done)))) tied;
    }

-- a load that has no turn is that of a piece that has none
loads_unless_all : (done left all : List DeskTurn) (place rest pieces before now after : ℕ) → all ≡ done ++ left → loads_of (seen_turns left) ≡ []
    → length done ≡ place → place + rest ≡ pieces → 0 < rest → now ≡ raised (loads_in done) before
    → (after ≡ now) ⊎ ((left ≡ []) × (after ≡ raised 1 now))
    → length all ≡ pieces → after ≤ raised (loads_in all) before
loads_unless_all done left all place rest pieces before now after is none count places some first (inl same) each =
    loads_within done all before after (loads_in-none done left all is none) (same ∙ first)
loads_unless_all done left all place rest pieces before now after is none count places some first (inr more) each =
    absurd (
    let joined : length all ≡ length (done ++ left) = ap length is in
    let both = length-append done left in
    let zero : length left ≡ 0 = ap length more.0 in
    omega (arith, joined, both, zero, count, places, each, some))

paused : (s : Settings) (all rest : List Reading) (place : ℕ) (refused : Bool) (before : Moment) (now after : Scene) (status : ℕ)
    → Reached s all rest place refused before now → 0 < length rest
    → greatest_cost now.desk.state (take 1 (turns s now.desk.state rest [])) ≤ greatest_cost now.desk.state (turns s now.desk.state rest [])
    → IsPaused (turns s now.desk.state rest []) now after
    → IsLater now.files after.files → 2 ≤ status → status ≢ 4 → Walked s all status before (moment_of after)
paused s all rest place refused before now after status r some grows p later early fault =
    record {
      outcomes = r.outcomes ++ [];
      whole = λ below. absurd (omega arith);
      no_other_load = loads_unless_all r.done (turns s now.desk.state rest []) (turns s before.state all (r.outcomes ++ [])) place (length rest) (length all)
          before.files.loads now.files.loads after.files.loads (r.joined []) (no_loads s rest now.desk.state) r.count r.places some r.did.loads p.loads;
      follows =
          subst (λ ts. Follows s.limits.file ts status before (moment_of after)) (sym (r.joined []))
          (follows_paused s.limits.file r.done (turns s now.desk.state rest []) status before now after r.did r.told
          (tied_later s.limits.file (loads_of (seen_turns r.done)) before.files now.files after.files r.tied later) (no_loads s rest now.desk.state)
          grows p early fault);
    }

pub stopped_in_piece : (s : Settings) (all rest : List Reading) (reading : Reading) (place : ℕ) (refused : Bool) (before : Moment) (now after : Scene)
    (status : ℕ)
    → Reached s all (reading ∷ rest) place refused before now
    → IsUndone s reading now after → IsLater now.files after.files → 2 ≤ status → status ≢ 4 → Walked s all status before (moment_of after)
stopped_in_piece s all rest reading place refused before now after status r undone later early fault =
    let alone = turn_alone s now.desk.state reading in
    let left = undone.left in
    let first = first_cost s rest now.desk.state alone in
    paused s all (reading ∷ rest) place refused before now after status r (omega arith) (first_le s rest now.desk.state alone)
    (record {
      sent = undone.sent;
      no_fewer = left.no_fewer;
      at_most = let most = left.at_most r.did.shares in omega (arith, most, first);
      db = left.db;
      puts = undone.puts;
      loads = by alone left.loaded;
    })
    later early fault
  where
    by : (turn : Option Next) → (after.files.loads ≡ now.files.loads) ⊎ ((turn ≡ None) × (after.files.loads ≡ raised 1 now.files.loads))
        → (after.files.loads ≡ now.files.loads) ⊎ ((turns_from s rest turn ≡ []) × (after.files.loads ≡ raised 1 now.files.loads))
    by turn (inl same) = inl same
    by turn (inr more) = inr (ap (turns_from s rest) more.0, more.1)

-- where nothing was done since the last report
alone : (now : Scene) → AreShares now.desk.state.queries now.desk.shares → IsPaused [] now now
alone now shares =
    let few = shares_within now.desk.state now.desk.shares shares in
    record {
      sent = λ _. refl;
      no_fewer = omega arith;
      at_most = omega (arith, few);
      db = refl;
      puts = refl;
      loads = inl refl;
    }

-- out of memory before the next piece is cut out, where there may be none
pub stopped_before : (s : Settings) (all rest : List Reading) (place : ℕ) (refused : Bool) (before : Moment) (now : Scene) (status : ℕ)
    → Reached s all rest place refused before now → 2 ≤ status → status ≢ 4 → Walked s all status before (moment_of now)
stopped_before s all [] place refused before now status r early fault =
    record {
      outcomes = r.outcomes ++ [];
      whole = λ below. absurd (omega arith);
      no_other_load = λ _. loads_within r.done (turns s before.state all (r.outcomes ++ [])) before.files.loads now.files.loads
          (loads_in-none r.done [] (turns s before.state all (r.outcomes ++ [])) (r.joined []) refl) r.did.loads;
      follows =
          subst (λ ts. Follows s.limits.file ts status before (moment_of now)) (sym (r.joined []))
          (follows_paused s.limits.file r.done [] status before now now r.did r.told r.tied refl (omega arith) (alone now r.did.shares) early fault);
    }
stopped_before s all (reading ∷ rest) place refused before now status r early fault =
    stopped_in_piece s all rest reading place refused before now now status r
    (record { left = left_alone s reading now.desk now.steps now.files; sent = λ _. refl; puts = refl }) (same_later now.files) early fault

-- out of memory before there was a desk
pub unstarted : (s : Settings) (readings : List Reading) (before after : Moment) (status : ℕ)
    → (before.out.told ≡ true → after.out.bytes ≡ before.out.bytes) → after.steps ≡ before.steps → after.state ≡ before.state
    → after.out.puts ≡ before.out.puts → after.files.loads ≡ before.files.loads → IsLater before.files after.files
    → 2 ≤ status → status ≢ 4 → Walked s readings status before after
unstarted s readings before after status sent steps state puts loads later early fault =
    let ts = turns s before.state readings [] in
    record {
      outcomes = [];
      whole = λ below. absurd (omega arith);
      no_other_load = λ _. omega (arith, loads);
      follows = record {
        whole = λ below. absurd (omega arith);
        refusals = λ below. absurd (omega arith);
        stopped = λ _. inl (record {
          done = [];
          left = ts;
          turns_are = refl;
          no_fault = fault;
          sent = λ on. sent on ∙ sym (append-nil before.out.bytes);
          no_fewer = omega (arith, steps);
          at_most = omega (arith, steps);
          db = ap (λ (st : State). st.db) state;
          within = All-nil (λ t. IsWithin t.effect.report);
          puts = puts ∙ sym (raised_none before.out.puts);
          loads = inl (loads ∙ sym (raised_none before.files.loads));
        });
        part = λ on. record {
          part = [];
          left = out_of (seen_turns ts);
          sent = sent on ∙ sym (append-nil before.out.bytes);
          cut = refl;
        };
        no_fewer = omega (arith, steps);
        at_most = omega (arith, steps);
        tied = subst (λ found. AreTied s.limits.file found before.files after.files) (sym (no_loads s readings before.state))
            (tied_none s.limits.file before.files after.files later);
      };
    }

-- ---- an end in a report

part_after : (before now after first next : List ℕ) → now ≡ before ++ first → SentPart now after next → SentPart (before ++ first) after next
part_after before now after first next e part = subst (λ xs. SentPart xs after next) e part

puts_stopped : (count before now after : ℕ) (C : Type 0) → now ≡ raised count before → (after ≡ raised 1 now) ⊎ (C × (after ≡ now))
    → (after ≡ raised (count + 1) before) ⊎ (C × (after ≡ raised count before))
puts_stopped count before now after C first (inl more) = inl (puts_more count before now after first more)
puts_stopped count before now after C first (inr same) = inr (same.0, same.1 ∙ first)

module _ (s : Settings) (reading : Reading) (turn : DeskTurn) (place status : ℕ) (done left : List DeskTurn) (before : Moment) (now after : Scene)
    (did : HasDone done before now) (count : length done ≡ place) (told : now.out.told ≡ before.out.told)
    (is : IsTurn s reading turn now.desk after.desk now.steps after.steps now.files after.files) where
  abbrev text : List ℕ
  text = report_text (length done + 1) turn.effect.report

  tied_all : IsLater before.files now.files → AreTied s.limits.file (loads_of (seen_turns done)) before.files now.files → loads_of (seen_turns left) ≡ []
      → AreTied s.limits.file (loads_of (seen_turns (done ++ turn ∷ left))) before.files after.files
  tied_all later tied none =
      let both : AreTied s.limits.file (loads_of (seen_turns done) ++ loads_of (seen_turns (turn ∷ []))) before.files after.files =
      tied_twice s.limits.file (loads_of (seen_turns done)) (loads_of (seen_turns (turn ∷ []))) before.files now.files after.files later tied is.tied in
      let loads : loads_of (seen_turns done) ++ loads_of (seen_turns (turn ∷ [])) ≡ loads_of (seen_turns (done ++ turn ∷ left)) =
      ap (λ ls. loads_of (seen_turns done) ++ ls)
      (sym (loads-append (turn ∷ []) left ∙ ap (λ ls. loads_of (seen_turns (turn ∷ [])) ++ ls) none ∙ append-nil (loads_of (seen_turns (turn ∷ [])))))
      ∙ sym (loads-append done (turn ∷ left)) in
      subst (λ ls. AreTied s.limits.file ls before.files after.files) loads both

  cost_all : open_reads turn.effect.state ≤ greatest_cost turn.effect.state left
      → after.steps ≤ before.steps + greatest_cost before.state (done ++ turn ∷ left)
  cost_all grows =
      let steps = steps_more s reading turn place done before now after did count told is in
      let few = shares_within after.desk.state after.desk.shares (is.shares did.shares) in
      let open_then : open_reads after.desk.state ≡ open_reads turn.effect.state = ap open_reads is.state in
      let costs = cost-append done (turn ∷ []) in
      let whole = greatest-append before.state done (turn ∷ left) in
      let rest = greatest-cons (state_after before.state done) turn left in
      omega (arith, steps, few, open_then, costs, cost_one turn, whole, rest, grows)

  follows_unreported : IsLater before.files now.files → AreTied s.limits.file (loads_of (seen_turns done)) before.files now.files
      → (now.out.told ≡ true → SentPart now.out.bytes after.out.bytes (report_text (place + 1) turn.effect.report))
      → (status ≢ 4 → now.out.told ≡ true → after.out.bytes ≡ now.out.bytes)
      → (after.out.puts ≡ raised 1 now.out.puts) ⊎ ((status ≢ 4) × (after.out.puts ≡ now.out.puts))
      → loads_of (seen_turns left) ≡ [] → open_reads turn.effect.state ≤ greatest_cost turn.effect.state left
      → 2 ≤ status → Follows s.limits.file (done ++ turn ∷ left) status before (moment_of after)
  follows_unreported later tied sent unsent puts none grows early =
      let sent_at : before.out.told ≡ true → SentPart (before.out.bytes ++ out_of (seen_turns done)) after.out.bytes text =
      λ on. subst (λ k. SentPart (before.out.bytes ++ out_of (seen_turns done)) after.out.bytes (report_text (k + 1) turn.effect.report)) (sym count)
      (part_after before.out.bytes now.out.bytes after.out.bytes (out_of (seen_turns done)) _ (did.sent on) (sent (told ∙ on))) in
      let steps = steps_more s reading turn place done before now after did count told is in
      record {
        whole = λ below. absurd (omega arith);
        refusals = λ below. absurd (omega arith);
        stopped = λ _. inr (record {
          done = done;
          turn = turn;
          left = left;
          turns_are = refl;
          sent = sent_at;
          unsent = λ fault on. unsent fault (told ∙ on) ∙ did.sent on;
          shares = after.desk.shares;
          are_shares = subst (λ (st : State). AreShares st.queries after.desk.shares) is.state (is.shares did.shares);
          steps = steps;
          db = ap (λ (st : State). st.db) is.state;
          within = within_more s reading turn place done before now after did count told is;
          puts = puts_stopped (length done) before.out.puts now.out.puts after.out.puts (status ≢ 4) did.puts puts;
          loads = loads_then s reading turn place done before now after did count told is;
        });
        part = λ on.
            let p = sent_at on in
            record {
              part = out_of (seen_turns done) ++ p.part;
              left = p.left ++ out_from (length done + 1 + 1) left;
              sent = p.sent ∙ append_assoc before.out.bytes (out_of (seen_turns done)) p.part;
              cut =
                  append_assoc (out_of (seen_turns done)) p.part (p.left ++ out_from (length done + 1 + 1) left)
                  ∙ ap (λ xs. out_of (seen_turns done) ++ xs) (sym (append_assoc p.part p.left (out_from (length done + 1 + 1) left))
                  ∙ ap (λ xs. xs ++ out_from (length done + 1 + 1) left) p.cut)
                  ∙ sym (out-append done (turn ∷ left));
            };
        no_fewer = omega (arith, steps);
        at_most = cost_all grows;
        tied = tied_all later tied none;
      }

early : (why : Ending) → 2 ≤ status_of (Err why)
early Fault = omega arith
early NoMemory = omega arith

no_memory : (why : Ending) (status : ℕ) → status ≡ status_of (Err why) → status ≢ 4 → why ≡ NoMemory
no_memory Fault status is fault = absurd (fault is)
no_memory NoMemory status is fault = refl

wanting : (why : Ending) (status : ℕ) → status ≡ status_of (Err why) → why ≡ NoMemory → status ≢ 4
wanting Fault status is none = absurd (let bad : Fault ≡ NoMemory = none in cc)
wanting NoMemory status is none = omega arith

put_or_none : (why : Ending) (status before after : ℕ) → status ≡ status_of (Err why)
    → (after ≡ raised 1 before) ⊎ ((why ≡ NoMemory) × (after ≡ before)) → (after ≡ raised 1 before) ⊎ ((status ≢ 4) × (after ≡ before))
put_or_none why status before after is (inl more) = inl more
put_or_none why status before after is (inr same) = inr (wanting why status is same.0, same.1)

pub stopped_in_report : (s : Settings) (all rest : List Reading) (reading : Reading) (place : ℕ) (refused : Bool) (before : Moment) (now after : Scene)
    (status : ℕ) (why : Ending)
    → Reached s all (reading ∷ rest) place refused before now
    → IsUnreported s reading (place + 1) why now after → status ≡ status_of (Err why)
    → Walked s all status before (moment_of after)
stopped_in_report s all rest reading place refused before now after status why r p status_is =
    let least : 2 ≤ status_of (Err why) = early why in
    let left = turns s p.turn.effect.state rest [] in
    let e : turns s before.state all (r.outcomes ++ (p.is.outcomes ++ [])) ≡ r.done ++ (p.turn ∷ left) =
    r.joined (p.is.outcomes ++ [])
    ∙ ap (λ ts. r.done ++ ts) (turns_next s now.desk.state reading rest p.is.outcomes [] p.turn (p.is.comes [])) in
    record {
      outcomes = r.outcomes ++ (p.is.outcomes ++ []);
      whole = λ below. absurd (omega (arith, least));
      no_other_load = λ _. loads_within (r.done ++ p.turn ∷ []) (turns s before.state all (r.outcomes ++ (p.is.outcomes ++ [])))
          before.files.loads after.files.loads
          (loads_in-none (r.done ++ p.turn ∷ []) left (turns s before.state all (r.outcomes ++ (p.is.outcomes ++ [])))
          (e ∙ sym (append_assoc r.done (p.turn ∷ []) left)) (no_loads s rest p.turn.effect.state))
          (loads_then s reading p.turn place r.done before now after r.did r.count r.told p.is);
      follows =
          subst (λ ts. Follows s.limits.file ts status before (moment_of after)) (sym e)
          (follows_unreported s reading p.turn place status r.done left before now after r.did r.count r.told p.is r.later r.tied p.sent
          (λ fault. p.unsent (no_memory why status status_is fault))
          (put_or_none why status now.out.puts after.out.puts status_is p.puts) (no_loads s rest p.turn.effect.state)
          (turns_grow s rest p.turn.effect.state []) (omega (arith, least)));
    }
