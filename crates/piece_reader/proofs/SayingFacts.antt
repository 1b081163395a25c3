-- Each piece has one reading, and a statement that it says is spelled by some of its tokens.
use Rattle.std.proofs.Common.{◌≡◌, ◌≤◌, ◌∙◌, ℕ, Bool, true, false, List, [], ◌∷◌, length, Option, Some, None, Result, Ok, Err, inl, inr, arith, refl, sym, ap, subst}
use Rattle.std.specs.Prelude.{◌⊎◌, IfOk, IsErrOf, codes}
use Rattle.std.proofs.lemmas.Bool.{false≢true}
use Rattle.std.proofs.lemmas.Slice.Eq.{bytes_eq-Decides}
use Rattle.beas_core.specs.declared.errors.Fail.{Fail}
use Rattle.beas_core.specs.declared.errors.Fail.TheVariants.{Refused, NoMemory}
use Rattle.beas_core.specs.declared.refusal.Refusal.{Refusal}
use Rattle.beas_core.specs.Results.{Gives}
use Rattle.sql_text.specs.declared.tree.Statement.{Statement}
use Rattle.sql_text.specs.Symbols.{Symbol, word, number, quoted, mark, bad}
use Rattle.token_reader.specs.Reading.{expect, read_number, rest_of, starts}
use Rattle.sql_parser.specs.Outcome.{Parses, found_reading}
use Rattle.sql_parser.proofs.Parsing.{one_reading, parsed-parses}
use Rattle.sql_parser.proofs.ReadIsSpelled.{starts-inv}
use Rattle.piece_reader.specs.declared.event.Event.{Event}
use Rattle.piece_reader.specs.declared.event.Event.TheVariants.{Said, Stepped}
use Rattle.piece_reader.specs.Sayings.{AT, STEP, BeginsWithAt, BeginsWithNumber, Reading, Says, plain, step, said, unnumbered, after_at, after_number, found_saying, is_step, of_session, as_plain, said_after, session_of, statement_in}

-- ---- how the tokens begin

record AfterAt (tokens rest : List Symbol) : Type 0 where
  is : tokens ≡ AT ∷ rest
  found : expect AT tokens ≡ Some rest

record NoAt (tokens : List Symbol) : Type 0 where
  none : BeginsWithAt tokens → ⊥
  found : expect AT tokens ≡ None

at-first : (rest : List Symbol) → expect AT (AT ∷ rest) ≡ Some rest
unfolding starts rest_of
at-first rest = refl

at_or_not : (tokens : List Symbol) → ((rest : List Symbol) × AfterAt tokens rest) ⊎ NoAt tokens
at_or_not tokens = by (starts AT tokens) refl
  where
    by : (b : Bool) → starts AT tokens ≡ b → ((rest : List Symbol) × AfterAt tokens rest) ⊎ NoAt tokens
    by true e = inl (rest_of tokens, record { is = starts-inv AT tokens e; found = rw e refl })
    by false e = inr (record {
      none = λ b. let f : None ≡ Some b.0 = sym (rw e refl) ∙ ap (expect AT) b.1 ∙ at-first b.0 in cc;
      found = rw e refl;
    })

record AfterNumber (tokens : List Symbol) (digits : List ℕ) (rest : List Symbol) : Type 0 where
  is : tokens ≡ number digits ∷ rest
  found : read_number tokens ≡ Some (digits, rest)

record NoNumber (tokens : List Symbol) : Type 0 where
  none : BeginsWithNumber tokens → ⊥
  found : read_number tokens ≡ None

number-first : (digits : List ℕ) (rest : List Symbol) → read_number (number digits ∷ rest) ≡ Some (digits, rest)
unfolding read_number
number-first digits rest = refl

number_or_not : (tokens : List Symbol) → ((digits : List ℕ) × (rest : List Symbol) × AfterNumber tokens digits rest) ⊎ NoNumber tokens
unfolding read_number
number_or_not [] = inr (record { none = λ b. let e = b.2 in cc; found = refl })
number_or_not (number digits ∷ rest) = inl (digits, rest, record { is = refl; found = refl })
number_or_not (word t ∷ rest) = inr (record { none = λ b. let e = b.2 in cc; found = refl })
number_or_not (quoted t ∷ rest) = inr (record { none = λ b. let e = b.2 in cc; found = refl })
number_or_not (mark t ∷ rest) = inr (record { none = λ b. let e = b.2 in cc; found = refl })
number_or_not (bad t ∷ rest) = inr (record { none = λ b. let e = b.2 in cc; found = refl })

step_is : (tokens : List Symbol) → is_step tokens ≡ true → tokens ≡ STEP ∷ []
step_is [] e = absurd (false≢true e)
step_is (word t ∷ []) e = ap (λ s. word s ∷ []) (sym ((bytes_eq-Decides (codes "step") t).0 e))
step_is (number t ∷ []) e = absurd (false≢true e)
step_is (quoted t ∷ []) e = absurd (false≢true e)
step_is (mark t ∷ []) e = absurd (false≢true e)
step_is (bad t ∷ []) e = absurd (false≢true e)
step_is (s ∷ next ∷ rest) e = absurd (false≢true e)

no_step : (tokens : List Symbol) → (tokens ≡ STEP ∷ [] → ⊥) → is_step tokens ≡ false
no_step tokens none = by (is_step tokens) refl
  where
    by : (b : Bool) → is_step tokens ≡ b → is_step tokens ≡ false
    by true e = absurd (none (step_is tokens e))
    by false e = e

-- ---- it is a reading by the grammar

after-number : (digits : List ℕ) (a : List Symbol) → Says (AT ∷ number digits ∷ a) (after_number digits a)
after-number digits a = by (is_step a) refl
  where
    by : (b : Bool) → is_step a ≡ b → Says (AT ∷ number digits ∷ a) (after_number digits a)
    by true e = rw (e, step_is a e) step
    by false e = rw e (said (found_reading a) (λ s. let t : is_step a ≡ true = ap is_step s in absurd (false≢true (sym e ∙ t))) (parsed-parses a))

after-at : (a : List Symbol) → Says (AT ∷ a) (after_at a)
after-at a = elim (number_or_not a) [
  | inl n ↦ rw (n.2.found, n.2.is) (after-number n.0 n.1)
  | inr n ↦ rw n.found (unnumbered n.none)
]

pub found-says : (a : List Symbol) → Says a (found_saying a)
found-says a = elim (at_or_not a) [
  | inl n ↦ rw (n.1.found, n.1.is) (after-at n.0)
  | inr n ↦ rw n.found (plain (found_reading a) n.none (parsed-parses a))
]

-- ---- and there is no other

pub one_saying : (a : List Symbol) (reading : Reading) → Says a reading → found_saying a ≡ reading
one_saying a reading (plain r none p) = elim (at_or_not a) [
  | inl n ↦ absurd (none (n.0, n.1.is))
  | inr n ↦ rw n.found (ap as_plain (one_reading a r p))
]
one_saying a reading (step {digits = digits}) =
    rw (at-first (number digits ∷ STEP ∷ []), number-first digits (STEP ∷ [])) refl
one_saying a reading (said {digits = digits} {a = rest} r none p) =
    rw (at-first (number digits ∷ rest), number-first digits rest, no_step rest none) (ap (said_after digits) (one_reading rest r p))
one_saying a reading (unnumbered {a = rest} none) = elim (number_or_not rest) [
  | inl n ↦ absurd (none (n.0, n.1, n.2.is))
  | inr n ↦ rw (at-first rest, n.found) refl
]

-- ---- what an answer tells, where it is the reading

pub answer_says : (tokens : List Symbol) (answer : Result Event Fail) → Gives answer (found_saying tokens) → IfOk answer (λ s. Says tokens (Ok s))
answer_says tokens (Ok s) e = subst (Says tokens) e (found-says tokens)
answer_says tokens (Err why) e = tt

pub refusal_says : (tokens : List Symbol) (answer : Result Event Fail) → Gives answer (found_saying tokens) → (why : Refusal) → IsErrOf answer (Refused why)
    → Says tokens (Err why)
refusal_says tokens (Ok s) e why h = cc
refusal_says tokens (Err NoMemory) e why h = cc
refusal_says tokens (Err (Refused w)) e why h = let same : w ≡ why = cc in subst (Says tokens) (e ∙ ap (λ (r : Refusal). Err r) same) (found-says tokens)

pub reading_given : (tokens : List Symbol) (answer : Result Event Fail) → Gives answer (found_saying tokens) → (reading : Reading) → Says tokens reading
    → Gives answer reading
reading_given tokens answer e reading h = subst (Gives answer) (one_saying tokens reading h) e

-- ---- a statement that a piece says has some of its tokens

pub record IsSpelledIn (a : List Symbol) (s : Statement) : Type 0 where
  pub part : List Symbol
  pub parses : Parses part (Ok s)
  pub few : length part ≤ length a

abbrev pub StatementIsIn : List Symbol → Reading → Type 0
StatementIsIn a (Err why) = Unit {0}
StatementIsIn a (Ok saying) = (s : Statement) → statement_in saying ≡ Some s → IsSpelledIn a s

abbrev some_statement : Statement → Option Statement
some_statement s = Some s

stated_is : (s t : Statement) → some_statement s ≡ Some t → s ≡ t
stated_is s t e = cc

no_statement : (a : List Symbol) (session : Result ℕ Refusal) → StatementIsIn a (of_session Stepped session)
no_statement a (Ok session) = λ s e. absurd cc
no_statement a (Err why) = tt

in_rest : (digits : List ℕ) (a : List Symbol) (t : Statement) → Parses a (Ok t) → (session : Result ℕ Refusal)
    → StatementIsIn (AT ∷ number digits ∷ a) (of_session (λ k. Said k t) session)
in_rest digits a t p (Ok session) = λ s e. record { part = a; parses = subst (λ u. Parses a (Ok u)) (stated_is t s e) p; few = omega arith }
in_rest digits a t p (Err why) = tt

pub statement_is_in : (a : List Symbol) (reading : Reading) → Says a reading → StatementIsIn a reading
statement_is_in a reading (plain (Ok t) none p) =
    λ s e. record { part = a; parses = subst (λ u. Parses a (Ok u)) (stated_is t s e) p; few = omega arith }
statement_is_in a reading (plain (Err why) none p) = tt
statement_is_in a reading (step {digits = digits}) = no_statement (AT ∷ number digits ∷ STEP ∷ []) (session_of digits)
statement_is_in a reading (said {digits = digits} {a = rest} (Ok t) none p) = in_rest digits rest t p (session_of digits)
statement_is_in a reading (said {digits = digits} {a = rest} (Err why) none p) = tt
statement_is_in a reading (unnumbered none) = tt
