-- A script that names no session is what its statements are.
use Rattle.std.proofs.Common.{◌≡◌, ◌<◌, ◌≤◌, ◌+◌, ◌-◌, ◌^◌, ◌∙◌, inl, inr, ap, subst, sym, refl, ℕ, zero, suc, Bool, true, false, cond, List, [], ◌∷◌, None, Ok, arith, length, map, take}
use Rattle.std.specs.Prelude.{All, nat_lt, sum}
use Rattle.beas_core.proofs.Sets.{Has}
use Rattle.std.specs.List.{AllZip, onto_first, slice_split}
use Rattle.std.proofs.lemmas.List.Elements.{All-cons, All-filter, All-nil, All-weaker}
use Rattle.catalogue.specs.Database.{schema_of}
use Rattle.catalogue.specs.Schema.{SchemaIsSound}
use Rattle.sql_tokens.specs.declared.token.Token.{Token}
use Rattle.sql_tokens.specs.Pieces.{is_semicolon}
use Rattle.sql_tokens.specs.Tokens.{tokens_of}
use Rattle.sql_tokens.proofs.Spans.{length-tokens_of}
use Rattle.sql_text.specs.declared.tree.Statement.{Statement}
use Rattle.sql_text.specs.Symbols.{symbols}
use Rattle.sql_parser.specs.Outcome.{Parses, Reading as StatementReading, found_reading}
use Rattle.sql_parser.proofs.Parsing.{parsed-parses}
use Rattle.session.specs.declared.loading.LoadOutcome.{LoadOutcome}
use Rattle.session.specs.Effects.{Settings}
use Rattle.session.specs.Statements.{StatementIsWellFormed}
use Rattle.session.specs.Turns.{Turn, cost_of, database_after}
use Rattle.desk_model.proofs.WellFormedFacts.{parsed_well}
use Rattle.desk_model.specs.OpenQueries.{OpenQuery}
use Rattle.piece_reader.specs.Sayings.{BeginsWithAt, IsReadAs, Reading, as_plain, plain}
use Rattle.piece_reader.proofs.SayingFacts.{one_saying}
use Rattle.desk_model.specs.Desks.{State, query_of}
use Rattle.desk_model.specs.Pieces.{DeskTurn, seen_turns, turns}
use Rattle.desk_model.specs.PlainScripts.{beside, statement_turns}
use Rattle.desk_model.proofs.PlainFacts.{plain_script, seen_beside}
use Rattle.beas_run.specs.NoSessions.{MeansStatements, NamesNoSession, statement_readings}
use Rattle.beas_run.specs.Readings.{Readings, pieces, readings_of}
use Rattle.beas_run.specs.Runs.{longest_script}
use Rattle.beas_run.specs.Shares.{AreShares, greatest_cost, open_reads}
use Rattle.beas_run.specs.States.{state_after}
use Rattle.beas_run.specs.Walks.{Did, Moment}
use Rattle.beas_run.proofs.ReadingFacts.{found}

-- ---- how its pieces are read

abbrev as_statement : List Token → StatementReading
as_statement tokens = found_reading (symbols tokens)

plainly_read : (tokens : List Token) (reading : Reading) → (BeginsWithAt (symbols tokens) → ⊥) → IsReadAs tokens reading
    → reading ≡ as_plain (as_statement tokens)
plainly_read tokens reading none says =
    sym (one_saying (symbols tokens) reading says)
    ∙ one_saying (symbols tokens) (as_plain (as_statement tokens)) (plain (as_statement tokens) none (parsed-parses (symbols tokens)))

all_plain : (parts : List (List Token)) (readings : List Reading) → All (λ tokens. BeginsWithAt (symbols tokens) → ⊥) parts
    → AllZip IsReadAs parts readings → readings ≡ map as_plain (map as_statement parts)
all_plain [] [] none read = refl
all_plain [] (reading ∷ readings) none read = absurd read
all_plain (tokens ∷ parts) [] none read = absurd read
all_plain (tokens ∷ parts) (reading ∷ readings) none read =
    let first = plainly_read tokens reading (none 0 tokens (omega arith)) read.0 in
    ap (λ r. r ∷ readings) first
    ∙ ap (λ rs. as_plain (as_statement tokens) ∷ rs) (all_plain parts readings (λ k d below. none (suc k) d (omega (arith, below))) read.1)

-- ---- how long its pieces are

abbrev AreShort : ℕ → List (List Token) → Type 0
AreShort n parts = All (λ part. length part ≤ n) parts

longer : (n : ℕ) (parts : List (List Token)) → AreShort n parts → AreShort (n + 1) parts
longer n parts h = All-weaker (λ part. length part ≤ n) (λ part. length part ≤ n + 1) (λ part le. omega (arith, le)) parts h

put_first : (n : ℕ) (x : Token) (parts : List (List Token)) → AreShort n parts → AreShort (n + 1) (onto_first x parts)
put_first n x [] h = All-cons (λ part. length part ≤ n + 1) (x ∷ []) [] (omega arith) (All-nil (λ part. length part ≤ n + 1))
put_first n x (part ∷ parts) h =
    let first : length part ≤ n = h 0 part (omega arith) in
    All-cons (λ part. length part ≤ n + 1) (x ∷ part) parts (omega (arith, first))
    (longer n parts (λ k d below. h (suc k) d (omega (arith, below))))

split_short : (p : Token → Bool) (tokens : List Token) → AreShort (length tokens) (slice_split p tokens)
split_short p [] = All-cons (λ part. length part ≤ 0) [] [] (omega arith) (All-nil (λ part. length part ≤ 0))
split_short p (x ∷ xs) =
    let n = length xs in
    let more : n + 1 ≡ length (x ∷ xs) = omega arith in
    subst (λ m. AreShort m (slice_split p (x ∷ xs))) more (by (p x) (split_short p xs))
  where
    by : (b : Bool) → AreShort (length xs) (slice_split p xs) → AreShort (length xs + 1) (cond b ([] ∷ slice_split p xs) (onto_first x (slice_split p xs)))
    by true h = All-cons (λ part. length part ≤ length xs + 1) [] (slice_split p xs) (omega arith) (longer (length xs) (slice_split p xs) h)
    by false h = put_first (length xs) x (slice_split p xs) h

pieces_short : (script : List ℕ) → AreShort (length script) (pieces script)
pieces_short script =
    let tokens = tokens_of script in
    let few = length-tokens_of script in
    All-weaker (λ part. length part ≤ length tokens) (λ part. length part ≤ length script) (λ part le. omega (arith, le, few)) (pieces script)
    (All-filter (λ statement. nat_lt 0 (length statement)) (λ part. length part ≤ length tokens) (slice_split is_semicolon tokens)
    (split_short is_semicolon tokens))

-- ---- its statements are well formed

formed_in : (parts : List (List Token)) (n : ℕ) → AreShort n parts → n < 2 ^ 32 - 1 → (statement : Statement)
    → Has (map as_statement parts) (Ok statement) → StatementIsWellFormed statement
formed_in [] n short few statement h = absurd h
formed_in (tokens ∷ parts) n short few statement (inl is) =
    let le : length tokens ≤ n = short 0 tokens (omega arith) in
    parsed_well tokens statement (subst (λ r. Parses (symbols tokens) r) (sym is) (parsed-parses (symbols tokens))) (omega (arith, le, few))
formed_in (tokens ∷ parts) n short few statement (inr later) =
    formed_in parts n (λ k d below. short (suc k) d (omega (arith, below))) few statement later

-- ---- its turns

module _ (s : Settings) (before : Moment) (script : List ℕ) (readings : List Reading) (outcomes : List LoadOutcome)
    (sound : SchemaIsSound (schema_of before.state.db)) (idle : before.state.queries ≡ []) (fits : length script ≤ longest_script)
    (none : NamesNoSession script) (read : Readings script readings) where
  abbrev statements : List Turn
  statements = statement_turns s before.state.db (statement_readings script) outcomes

  no_query : query_of 0 before.state ≡ None
  no_query = ap (λ qs. let st : State = record { db = before.state.db; queries = qs } in query_of 0 st) idle

  pub turns_are : turns s before.state readings outcomes ≡ map (beside []) statements
  turns_are =
      ap (λ rs. turns s before.state rs outcomes) (all_plain (pieces script) readings none read)
      ∙ plain_script s (statement_readings script)
      (formed_in (pieces script) (length script) (pieces_short script) (omega (arith, fits))) before.state outcomes no_query sound
      ∙ ap (λ qs. map (beside qs) statements) idle

-- ---- no query is open after them

abbrev resting : State → List Turn → State
resting state ts = record { db = database_after state.db ts; queries = [] }

state_then : (state : State) (ts : List Turn) → state.queries ≡ [] → state_after state (map (beside []) ts) ≡ resting state ts
state_then state [] idle = ap (λ qs. let st : State = record { db = state.db; queries = qs } in st) idle
state_then state (t ∷ ts) idle = state_then (record { db = t.effect.db; queries = [] }) ts refl

no_shares : (queries : List OpenQuery) (shares : List ℕ) → queries ≡ [] → AreShares queries shares → sum shares ≡ 0
no_shares [] [] idle fit = refl
no_shares [] (n ∷ ns) idle fit = absurd fit
no_shares (q ∷ qs) shares idle fit = cc

take-map : {X Y : Type 0} (f : X → Y) (n : ℕ) (xs : List X) → take n (map f xs) ≡ map f (take n xs)
take-map f zero xs = refl
take-map f (suc n) [] = refl
take-map f (suc n) (x ∷ xs) = ap (λ l. f x ∷ l) (take-map f n xs)

-- the turns read what they cost, and leave nothing open that has read more
pub record CostsAlone (all : List DeskTurn) (before : Moment) : Type 0 where
  pub steps : (after : Moment) → Did all before after → after.steps ≡ before.steps + cost_of (seen_turns all)
  pub at_most : greatest_cost before.state all ≡ cost_of (seen_turns all)

module _ (before : Moment) (all : List DeskTurn) (ts : List Turn) (idle : before.state.queries ≡ []) (are : all ≡ map (beside []) ts) where
  seen_of : seen_turns all ≡ ts
  seen_of = ap seen_turns are ∙ seen_beside [] ts

  first : (n : ℕ) → take n all ≡ map (beside []) (take n ts)
  first n = ap (take n) are ∙ take-map (beside []) n ts

  state_is : (n : ℕ) → state_after before.state (take n all) ≡ resting before.state (take n ts)
  state_is n = ap (state_after before.state) (first n) ∙ state_then before.state (take n ts) idle

  steps_are : (after : Moment) → Did all before after → after.steps ≡ before.steps + cost_of ts
  steps_are after did =
      let cost : cost_of (seen_turns all) ≡ cost_of ts = ap cost_of seen_of in
      let at : state_after before.state all ≡ resting before.state ts = ap (state_after before.state) are ∙ state_then before.state ts idle in
      let none = no_shares (state_after before.state all).queries did.shares (ap (λ (st : State). st.queries) at) did.are_shares in
      omega (arith, did.steps, cost, none)

  greatest_is : (n : ℕ) → greatest_cost before.state (take n all) ≡ cost_of (take n ts)
  greatest_is n =
      let cost : cost_of (seen_turns (take n all)) ≡ cost_of (take n ts) = ap (λ l. cost_of (seen_turns l)) (first n) ∙ ap cost_of (seen_beside [] (take n ts)) in
      let reads : open_reads (state_after before.state (take n all)) ≡ 0 = ap open_reads (state_is n) in
      omega (arith, cost, reads)

  whole_is : greatest_cost before.state all ≡ cost_of ts
  whole_is =
      let cost : cost_of (seen_turns all) ≡ cost_of ts = ap cost_of seen_of in
      let at : state_after before.state all ≡ resting before.state ts = ap (state_after before.state) are ∙ state_then before.state ts idle in
      let reads : open_reads (state_after before.state all) ≡ 0 = ap open_reads at in
      omega (arith, cost, reads)

  costs_alone : CostsAlone all before
  costs_alone =
      let cost : cost_of (seen_turns all) ≡ cost_of ts = ap cost_of seen_of in
      record { steps = λ after did. steps_are after did ∙ ap (λ n. before.steps + n) (sym cost); at_most = whole_is ∙ sym cost }

  pub means : MeansStatements all ts before
  means = record { turns_are = are; seen = seen_of; state = state_is; at_most = greatest_is; steps = steps_are }

-- so a script that names no session reads what its turns cost
pub reads_alone : (s : Settings) (before : Moment) (script : List ℕ) → SchemaIsSound (schema_of before.state.db) → before.state.queries ≡ []
    → length script ≤ longest_script → NamesNoSession script → (outcomes : List LoadOutcome)
    → CostsAlone (turns s before.state (readings_of script) outcomes) before
reads_alone s before script sound idle fits none outcomes =
    let all = turns s before.state (readings_of script) outcomes in
    let ts = statement_turns s before.state.db (statement_readings script) outcomes in
    costs_alone before all ts idle (turns_are s before script (readings_of script) outcomes sound idle fits none (found script))
