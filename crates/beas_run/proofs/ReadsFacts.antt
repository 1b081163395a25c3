-- The reads of the queries that are open: a query that goes on takes them along until they are its cost, and nothing else makes them less.
use Rattle.std.proofs.Common.{◌≡◌, ◌≤◌, ◌+◌, ◌∙◌, inl, inr, ap, subst, sym, refl, ℕ, zero, suc, Bool, true, false, List, [], ◌∷◌, Option, None, Some, Ok, Err, arith}
use Rattle.std.specs.Prelude.{if◌then◌else◌, length, nat_lt, option_map, sum_by}
use Rattle.std.specs.Option.{option_map_or}
use Rattle.std.proofs.lemmas.List.Sums.{sum_by-cons, sum_by_push}
use Rattle.beas_core.specs.declared.refusal.Refusal.TheVariants.{SessionIdle}
use Rattle.session.specs.declared.loading.LoadOutcome.{LoadOutcome}
use Rattle.session.specs.declared.loading.LoadOutcome.TheVariants.{Failed}
use Rattle.session.specs.Effects.{Settings}
use Rattle.session.specs.Turns.{Turn}
use Rattle.desk_model.specs.OpenQueries.{OpenQuery, probes_of, reads_of}
use Rattle.desk_model.specs.Answers.{effect_by}
use Rattle.desk_model.specs.Desks.{DeskAction, AtOnce, ByLoad, DeskEffect, State, answered_effect, is_of, new_query, probed_effect, query_effect, query_of, refused, said_action, stepped_effect, with_query}
use Rattle.desk_model.specs.Pieces.{DeskTurn, Next, after_cost, and_step, and_steps, answered_if_opened, next, opens, piece_action, probes_due, seen_turn, seen_turns, turns, with_answer}
use Rattle.piece_reader.specs.declared.event.Event.TheVariants.{Said, Stepped}
use Rattle.piece_reader.specs.Sayings.{Reading}
use Rattle.beas_run.specs.Pieces.{reads_by, turn_alone}
use Rattle.beas_run.specs.Shares.{greatest_cost, open_reads}
use Rattle.beas_run.proofs.FoundFacts.{sum_by-remove-found, sum_by-set-found}
use Rattle.beas_run.proofs.SaidFacts.{SaidIs, said_is}

-- ---- going on with a query

abbrev CarriesReads : State → DeskEffect → Type 0
CarriesReads state effect = effect.cost + open_reads effect.state ≡ open_reads state

pub probed_reads : (state : State) (k : ℕ) (q : OpenQuery) → query_of k state ≡ Some q → (made : Option ℕ)
    → open_reads (with_query k (record q { made = made }) state) ≡ open_reads state
probed_reads state k q there made = sum_by-set-found (is_of k) reads_of state.queries q (record q { made = made }) there refl

module _ (state : State) (k : ℕ) (q : OpenQuery) (there : query_of k state ≡ Some q) where
  going_reads : (made : ℕ) (b : Bool) → CarriesReads state (if b then probed_effect state k q made else answered_effect state k q)
  going_reads made true = let h = probed_reads state k q there (Some (made + 1)) in omega (arith, h)
  going_reads made false = sum_by-remove-found (is_of k) reads_of state.queries q there

  query_reads : (made : Option ℕ) (e : DeskEffect) → query_effect state k q made ≡ Some e → CarriesReads state e
  query_reads None e is = cc
  query_reads (Some made) e is =
      let goes : DeskEffect = if nat_lt made (length (probes_of q)) then probed_effect state k q made else answered_effect state k q in
      let same : goes ≡ e = cc in
      subst (CarriesReads state) same (going_reads made (nat_lt made (length (probes_of q))))

stepped_by : (state : State) (k : ℕ) (o : Option OpenQuery) → query_of k state ≡ o → (e : DeskEffect) → stepped_effect state k o ≡ Some e
    → CarriesReads state e
stepped_by state k None there e is =
    let idle : DeskEffect = refused state (SessionIdle k) in
    let same : idle ≡ e = cc in
    subst (CarriesReads state) same (omega arith)
stepped_by state k (Some q) there e is = query_reads state k q there q.made e is

pub stepped_reads : (state : State) (k : ℕ) (e : DeskEffect) → stepped_effect state k (query_of k state) ≡ Some e → CarriesReads state e
stepped_reads state k e is = stepped_by state k (query_of k state) refl e is

-- ---- after an effect

abbrev reads_with : DeskEffect → ℕ
reads_with effect = effect.cost + open_reads effect.state

step_reads : (k : ℕ) (effect : DeskEffect) → reads_with (and_step k effect) ≡ reads_with effect
step_reads k effect = by (stepped_effect effect.state k (query_of k effect.state)) refl
  where
    by : (o : Option DeskEffect) → stepped_effect effect.state k (query_of k effect.state) ≡ o
        → reads_with (option_map_or (after_cost effect.cost) o effect) ≡ reads_with effect
    by None is = refl
    by (Some e) is = let h = stepped_reads effect.state k e is in omega (arith, h)

steps_reads : (k n : ℕ) (effect : DeskEffect) → reads_with (and_steps k n effect) ≡ reads_with effect
steps_reads k zero effect = refl
steps_reads k (suc n) effect = steps_reads k n (and_step k effect) ∙ step_reads k effect

pub answered_reads : (before : State) (effect : DeskEffect) → reads_with (answered_if_opened before effect) ≡ reads_with effect
answered_reads before effect = by (opens 0 before effect.state)
  where
    by : (b : Bool) → reads_with (if b then and_steps 0 (probes_due 0 effect.state + 1) effect else effect) ≡ reads_with effect
    by true = steps_reads 0 (probes_due 0 effect.state + 1) effect
    by false = refl

-- ---- each piece

abbrev Grows : State → DeskAction → Type 0
Grows state action = (outcome : LoadOutcome) → open_reads state ≤ reads_with (effect_by action outcome)

pub same_reads : (state after : State) → after.queries ≡ state.queries → open_reads after ≡ open_reads state
same_reads state after same = ap (sum_by reads_of) same

pub said_grows : (explain : Bool) (state : State) (k : ℕ) (action : DeskAction) → SaidIs explain state k action → Grows state action
said_grows explain state k action (inl keeps) outcome =
    let same = same_reads state (effect_by action outcome).state (keeps.queries outcome) in omega (arith, same)
said_grows explain state k action (inr opens) outcome =
    let new : OpenQuery = new_query explain state.db k opens.prepared in
    let more = sum_by_push reads_of state.queries new in
    subst (λ a. open_reads state ≤ reads_with (effect_by a outcome)) (sym opens.is) (omega (arith, more))

answer_grows : (state : State) (action : DeskAction) → Grows state action → Grows state (with_answer state action)
answer_grows state (AtOnce effect) grows outcome = let same = answered_reads state effect in let h = grows outcome in omega (arith, same, h)
answer_grows state (ByLoad name effect) grows outcome = grows outcome

the_action : (state : State) (is action : DeskAction) → Some is ≡ Some action → Grows state is → Grows state action
the_action state is action e h = let same : is ≡ action = cc in subst (Grows state) same h

stepped_grows : (state : State) (k : ℕ) (o : Option DeskEffect) → stepped_effect state k (query_of k state) ≡ o → (action : DeskAction)
    → option_map AtOnce o ≡ Some action → Grows state action
stepped_grows state k None is action e = cc
stepped_grows state k (Some effect) is action e =
    the_action state (AtOnce effect) action e (λ outcome. let h = stepped_reads state k effect is in omega (arith, h))

piece_grows : (s : Settings) (state : State) (reading : Reading) (action : DeskAction) → piece_action s state reading ≡ Some action → Grows state action
piece_grows s state (Err why) action e = the_action state _ action e (λ outcome. omega arith)
piece_grows s state (Ok (Said zero statement)) action e =
    let said = said_action s state 0 (query_of 0 state) statement in
    the_action state (with_answer state said) action e
    (answer_grows state said (said_grows s.explain state 0 said (said_is s state 0 statement)))
piece_grows s state (Ok (Said (suc k) statement)) action e =
    let said = said_action s state (suc k) (query_of (suc k) state) statement in
    the_action state said action e (said_grows s.explain state (suc k) said (said_is s state (suc k) statement))
piece_grows s state (Ok (Stepped k)) action e = stepped_grows state k (stepped_effect state k (query_of k state)) refl action e

-- ---- a list of turns

turn_grows : (state : State) (o : Option DeskAction) (outcomes : List LoadOutcome) (n : Next) → ((action : DeskAction) → o ≡ Some action → Grows state action)
    → next o outcomes ≡ Some n → open_reads state ≤ reads_with n.turn.effect
turn_grows state None outcomes n grows is = cc
turn_grows state (Some (AtOnce effect)) outcomes n grows is =
    let own : Next = record { turn = record { effect = effect; load = None }; left = outcomes } in
    let same : own ≡ n = cc in
    subst (λ (m : Next). open_reads state ≤ reads_with m.turn.effect) same (grows (AtOnce effect) refl Failed)
turn_grows state (Some (ByLoad name effect)) [] n grows is = cc
turn_grows state (Some (ByLoad name effect)) (outcome ∷ outcomes) n grows is =
    let own : Next = record { turn = record { effect = effect outcome; load = Some (record { name = name; outcome = outcome }) }; left = outcomes } in
    let same : own ≡ n = cc in
    subst (λ (m : Next). open_reads state ≤ reads_with m.turn.effect) same (grows (ByLoad name effect) refl outcome)

pub greatest-cons : (state : State) (turn : DeskTurn) (turns : List DeskTurn)
    → greatest_cost state (turn ∷ turns) ≡ turn.effect.cost + greatest_cost turn.effect.state turns
greatest-cons state turn turns =
    let c = sum_by-cons (λ (t : Turn). t.effect.cost) (seen_turn turn) (seen_turns turns) in omega (arith, c)

-- what is open is read at most in the turns that come, or stays open
pub turns_grow : (s : Settings) (readings : List Reading) (state : State) (outcomes : List LoadOutcome)
    → open_reads state ≤ greatest_cost state (turns s state readings outcomes)
turns_grow s [] state outcomes = omega arith
turns_grow s (reading ∷ rest) state outcomes = by (turns_grow s rest) (next (piece_action s state reading) outcomes) refl
  where
    by : ((after : State) (left : List LoadOutcome) → open_reads after ≤ greatest_cost after (turns s after rest left))
        → (o : Option Next) → next (piece_action s state reading) outcomes ≡ o
        → open_reads state ≤ greatest_cost state (option_map_or (λ n. n.turn ∷ turns s n.turn.effect.state rest n.left) o [])
    by rest_grows None is = omega arith
    by rest_grows (Some n) is =
        let first = turn_grows state (piece_action s state reading) outcomes n (piece_grows s state reading) is in
        let later = rest_grows n.turn.effect.state n.left in
        let sum = greatest-cons state n.turn (turns s n.turn.effect.state rest n.left) in
        omega (arith, first, later, sum)

-- so it is in the turn that comes next, where no load gives an outcome
pub alone_grows : (s : Settings) (state : State) (reading : Reading) → open_reads state ≤ reads_by state (turn_alone s state reading)
alone_grows s state reading = by (next (piece_action s state reading) []) refl
  where
    by : (o : Option Next) → next (piece_action s state reading) [] ≡ o → open_reads state ≤ reads_by state o
    by None is = omega arith
    by (Some n) is = turn_grows state (piece_action s state reading) [] n (piece_grows s state reading) is
