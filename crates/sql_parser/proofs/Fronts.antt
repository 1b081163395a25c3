-- Reading conditions, sources, joins and terms in a loop.
use Rattle.std.proofs.Common.{◌≡◌, ℕ, zero, suc, ◌-◌, ◌<◌, true, false, List, [], ◌++◌, Option, Some, None, Err, refl, sym, ap, ◌∙◌, append_assoc, arith}
use Rattle.std.proofs.lemmas.List.{append-nil}
use Rattle.sql_text.specs.declared.tree.Cond.{Cond}
use Rattle.sql_text.specs.declared.tree.FromItem.{FromItem}
use Rattle.sql_text.specs.Grammar.{Source}
use Rattle.sql_text.specs.Symbols.{Symbol}
use Rattle.sql_text.specs.Trees.{Tree}
use Rattle.token_reader.specs.declared.reader.ReadError.{ReadError}
use Rattle.token_reader.specs.declared.reader.ReadError.TheVariants as errors
use Rattle.sql_parser.specs.declared.queries.Front.{Front}
use Rattle.sql_parser.specs.declared.queries.Front.TheVariants.{Nothing, BeforeUnion, BeforeExcept}
use Rattle.sql_parser.specs.Fronts.{joined_to}
use Rattle.sql_text.specs.Words.{COMMA, AND, UNION, EXCEPT}
use Rattle.token_reader.specs.Reading.{◌>>=◌, starts, rest_of}
use Rattle.sql_parser.specs.Reading.{Adds, after, after_both, read_condition, read_conditions, read_source, read_sources, starts_join, read_join, read_joins, read_term, read_query}

-- a call that fails, where the whole fails with it
pub adding_fails : {X Y : Type 0} (e : ReadError) (new : X) (after : Y) (rest : List Symbol) (part : Option (X × List Symbol))
    (whole : Option (Y × List Symbol)) → Adds {X = Unit {0}} (Err e) new rest part → (part ≡ None → whole ≡ None) → Adds {X = Unit {0}} (Err e) after rest whole
adding_fails errors.Syntax new after rest part whole h f = f h
adding_fails errors.NoMemory new after rest part whole h f = tt

after-inv : {X : Type 0} (front found : List X) (rest : List Symbol) (r : Option (List X × List Symbol)) → after front r ≡ Some (found, rest)
    → (xs : List X) × (r ≡ Some (xs, rest)) × (front ++ xs ≡ found)
unfolding after
after-inv front found rest (Some p) e =
    let whole : (front ++ p.0, p.1) ≡ (found, rest) = cc in
    (p.0, ap (λ t. Some (p.0, t)) (ap (λ (q : List _ × List Symbol). q.1) whole), ap (λ (q : List _ × List Symbol). q.0) whole)
after-inv front found rest None e = absurd cc

after-none : {X : Type 0} (front : List X) (r : Option (List X × List Symbol)) → after front r ≡ None → r ≡ None
unfolding after
after-none front (Some p) e = absurd cc
after-none front None e = refl

after-append : {X : Type 0} (front xs : List X) (r : Option (List X × List Symbol)) → after front (r >>= λ q. Some (xs ++ q.0, q.1)) ≡ after (front ++ xs) r
unfolding after
after-append front xs (Some p) = ap (λ ys. Some (ys, p.1)) (sym (append_assoc front xs p.0))
after-append front xs None = refl

-- ---- conditions

conditions-then : (n : ℕ) (tokens : List Symbol) (cs : List Cond) (rest : List Symbol) → read_condition (read_conditions n) tokens ≡ Some (cs, rest)
    → starts AND rest ≡ true → read_conditions (suc n) tokens ≡ (read_conditions n (rest_of rest) >>= λ q. Some (cs ++ q.0, q.1))
unfolding read_conditions
conditions-then n tokens cs rest e t = rw (e, t) refl

conditions-last : (n : ℕ) (tokens : List Symbol) (cs : List Cond) (rest : List Symbol) → read_condition (read_conditions n) tokens ≡ Some (cs, rest)
    → starts AND rest ≡ false → read_conditions (suc n) tokens ≡ Some (cs, rest)
unfolding read_conditions
conditions-last n tokens cs rest e t = rw (e, t) refl

module _ (n : ℕ) (some : 0 < n) (front found : List Cond) (tokens rest : List Symbol) where
  pub conditions-go_on : after front (read_condition (read_conditions (n - 1)) tokens) ≡ Some (found, rest) → starts AND rest ≡ true
      → after front (read_conditions n tokens) ≡ after found (read_conditions (n - 1) (rest_of rest))
  unfolding read_conditions
  conditions-go_on e t =
      let k : n ≡ suc (n - 1) = omega arith in
      let b = after-inv front found rest (read_condition (read_conditions (n - 1)) tokens) e in
      let one : read_conditions (suc (n - 1)) tokens ≡ (read_conditions (n - 1) (rest_of rest) >>= λ q. Some (b.0 ++ q.0, q.1)) = conditions-then (n - 1) tokens
      b.0 rest b.1 t in
      ap (λ m. after front (read_conditions m tokens)) k ∙ ap (after front) one ∙ after-append front b.0 (read_conditions (n - 1) (rest_of rest))
      ∙ ap (λ cs. after cs (read_conditions (n - 1) (rest_of rest))) b.2

  pub conditions-end : after front (read_condition (read_conditions (n - 1)) tokens) ≡ Some (found, rest) → starts AND rest ≡ false
      → after front (read_conditions n tokens) ≡ Some (found, rest)
  unfolding read_conditions after
  conditions-end e t =
      let k : n ≡ suc (n - 1) = omega arith in
      let b = after-inv front found rest (read_condition (read_conditions (n - 1)) tokens) e in
      let one : read_conditions (suc (n - 1)) tokens ≡ Some (b.0, rest) = conditions-last (n - 1) tokens b.0 rest b.1 t in
      ap (λ m. after front (read_conditions m tokens)) k ∙ ap (after front) one ∙ ap (λ cs. Some (cs, rest)) b.2

pub conditions-none : (n : ℕ) → 0 < n → (front : List Cond) (tokens : List Symbol) (whole : Option (List Cond × List Symbol))
    → after front (read_conditions n tokens) ≡ whole → after front (read_condition (read_conditions (n - 1)) tokens) ≡ None → whole ≡ None
unfolding read_conditions after
conditions-none n some front tokens whole so_far e =
    let k : n ≡ suc (n - 1) = omega arith in
    let b = after-none front (read_condition (read_conditions (n - 1)) tokens) e in
    let one : read_conditions (suc (n - 1)) tokens ≡ None = rw b refl in
    sym so_far ∙ ap (λ m. after front (read_conditions m tokens)) k ∙ ap (after front) one

pub conditions-over : (n : ℕ) (front : List Cond) (tokens : List Symbol) → n ≡ 0 → after front (read_conditions n tokens) ≡ None
unfolding read_conditions after
conditions-over n front tokens e = rw e refl

-- ---- sources and joins

both-inv : (front found : Source) (rest : List Symbol) (r : Option (Source × List Symbol)) → after_both front r ≡ Some (found, rest)
    → (s : Source) × (r ≡ Some (s, rest)) × ((front.0 ++ s.0, front.1 ++ s.1) ≡ found)
unfolding after_both
both-inv front found rest (Some p) e =
    let whole : ((front.0 ++ p.0.0, front.1 ++ p.0.1), p.1) ≡ (found, rest) = cc in
    (p.0, ap (λ t. Some (p.0, t)) (ap (λ (q : Source × List Symbol). q.1) whole), ap (λ (q : Source × List Symbol). q.0) whole)
both-inv front found rest None e = absurd cc

both-none : (front : Source) (r : Option (Source × List Symbol)) → after_both front r ≡ None → r ≡ None
unfolding after_both
both-none front (Some p) e = absurd cc
both-none front None e = refl

both-append : (front s : Source) (r : Option (Source × List Symbol))
    → after_both front (r >>= λ q. Some ((s.0 ++ q.0.0, s.1 ++ q.0.1), q.1)) ≡ after_both (front.0 ++ s.0, front.1 ++ s.1) r
unfolding after_both
both-append front s (Some p) =
    ap (λ (t : Source). Some (t, p.1)) (ap (λ (is : List FromItem). (is, front.1 ++ (s.1 ++ p.0.1))) (sym (append_assoc front.0 s.0 p.0.0))
    ∙ ap (λ (cs : List Cond). ((front.0 ++ s.0) ++ p.0.0, cs)) (sym (append_assoc front.1 s.1 p.0.1)))
both-append front s None = refl

both-nothing : (front : Source) (rest : List Symbol) → after_both front (Some (([], []), rest)) ≡ Some (front, rest)
unfolding after_both
both-nothing front rest = ap (λ (s : Source). Some (s, rest))
    (ap (λ (is : List FromItem). (is, front.1 ++ [])) (append-nil front.0) ∙ ap (λ (cs : List Cond). (front.0, cs)) (append-nil front.1))

sources-then : (n : ℕ) (tokens : List Symbol) (s : Source) (rest : List Symbol) → read_source tokens ≡ Some (s, rest) → starts COMMA rest ≡ true
    → read_sources (suc n) tokens ≡ (read_sources n (rest_of rest) >>= λ q. Some ((s.0 ++ q.0.0, s.1 ++ q.0.1), q.1))
unfolding read_sources
sources-then n tokens s rest e t = rw (e, t) refl

sources-last : (n : ℕ) (tokens : List Symbol) (s : Source) (rest : List Symbol) → read_source tokens ≡ Some (s, rest) → starts COMMA rest ≡ false
    → read_sources (suc n) tokens ≡ Some (s, rest)
unfolding read_sources
sources-last n tokens s rest e t = rw (e, t) refl

joins-then : (n : ℕ) (tokens : List Symbol) (s : Source) (rest : List Symbol) → starts_join tokens ≡ true → read_join tokens ≡ Some (s, rest)
    → read_joins (suc n) tokens ≡ (read_joins n rest >>= λ q. Some ((s.0 ++ q.0.0, s.1 ++ q.0.1), q.1))
unfolding read_joins
joins-then n tokens s rest t e = rw (t, e) refl

module _ (n : ℕ) (some : 0 < n) (front found : Source) (tokens rest : List Symbol) where
  pub sources-go_on : after_both front (read_source tokens) ≡ Some (found, rest) → starts COMMA rest ≡ true
      → after_both front (read_sources n tokens) ≡ after_both found (read_sources (n - 1) (rest_of rest))
  unfolding read_sources
  sources-go_on e t =
      let k : n ≡ suc (n - 1) = omega arith in
      let b = both-inv front found rest (read_source tokens) e in
      let one : read_sources (suc (n - 1)) tokens ≡ (read_sources (n - 1) (rest_of rest) >>= λ q. Some ((b.0.0 ++ q.0.0, b.0.1 ++ q.0.1), q.1)) = sources-then
      (n - 1) tokens b.0 rest b.1 t in
      ap (λ m. after_both front (read_sources m tokens)) k ∙ ap (after_both front) one ∙ both-append front b.0 (read_sources (n - 1) (rest_of rest))
      ∙ ap (λ (s : Source). after_both s (read_sources (n - 1) (rest_of rest))) b.2

  pub sources-end : after_both front (read_source tokens) ≡ Some (found, rest) → starts COMMA rest ≡ false
      → after_both front (read_sources n tokens) ≡ Some (found, rest)
  unfolding read_sources after_both
  sources-end e t =
      let k : n ≡ suc (n - 1) = omega arith in
      let b = both-inv front found rest (read_source tokens) e in
      let one : read_sources (suc (n - 1)) tokens ≡ Some (b.0, rest) = sources-last (n - 1) tokens b.0 rest b.1 t in
      ap (λ m. after_both front (read_sources m tokens)) k ∙ ap (after_both front) one ∙ ap (λ (s : Source). Some (s, rest)) b.2

  pub joins-go_on : starts_join tokens ≡ true → after_both front (read_join tokens) ≡ Some (found, rest)
      → after_both front (read_joins n tokens) ≡ after_both found (read_joins (n - 1) rest)
  unfolding read_joins
  joins-go_on t e =
      let k : n ≡ suc (n - 1) = omega arith in
      let b = both-inv front found rest (read_join tokens) e in
      let one : read_joins (suc (n - 1)) tokens ≡ (read_joins (n - 1) rest >>= λ q. Some ((b.0.0 ++ q.0.0, b.0.1 ++ q.0.1), q.1)) = joins-then (n - 1) tokens
      b.0 rest t b.1 in
      ap (λ m. after_both front (read_joins m tokens)) k ∙ ap (after_both front) one ∙ both-append front b.0 (read_joins (n - 1) rest)
      ∙ ap (λ (s : Source). after_both s (read_joins (n - 1) rest)) b.2

module _ (n : ℕ) (some : 0 < n) (front : Source) (tokens : List Symbol) (whole : Option (Source × List Symbol)) where
  pub sources-none : after_both front (read_sources n tokens) ≡ whole → after_both front (read_source tokens) ≡ None → whole ≡ None
  unfolding read_sources after_both
  sources-none so_far e =
      let k : n ≡ suc (n - 1) = omega arith in
      let b = both-none front (read_source tokens) e in
      let one : read_sources (suc (n - 1)) tokens ≡ None = rw b refl in
      sym so_far ∙ ap (λ m. after_both front (read_sources m tokens)) k ∙ ap (after_both front) one

  pub joins-none : after_both front (read_joins n tokens) ≡ whole → starts_join tokens ≡ true → after_both front (read_join tokens) ≡ None → whole ≡ None
  unfolding read_joins after_both
  joins-none so_far t e =
      let k : n ≡ suc (n - 1) = omega arith in
      let b = both-none front (read_join tokens) e in
      let one : read_joins (suc (n - 1)) tokens ≡ None = rw (t, b) refl in
      sym so_far ∙ ap (λ m. after_both front (read_joins m tokens)) k ∙ ap (after_both front) one

pub sources-over : (n : ℕ) (front : Source) (tokens : List Symbol) → n ≡ 0 → after_both front (read_sources n tokens) ≡ None
unfolding read_sources after_both
sources-over n front tokens e = rw e refl

pub joins-over : (n : ℕ) (front : Source) (tokens : List Symbol) → n ≡ 0 → starts_join tokens ≡ true → after_both front (read_joins n tokens) ≡ None
unfolding read_joins after_both
joins-over n front tokens e t = rw (e, t) refl

joins-are_over : (n : ℕ) (tokens : List Symbol) → starts_join tokens ≡ false → read_joins n tokens ≡ Some (([], []), tokens)
unfolding read_joins
joins-are_over zero tokens t = rw t refl
joins-are_over (suc n) tokens t = rw t refl

pub joins-end : (n : ℕ) (front : Source) (tokens : List Symbol) → starts_join tokens ≡ false → after_both front (read_joins n tokens) ≡ Some (front, tokens)
joins-end n front tokens t = ap (after_both front) (joins-are_over n tokens t) ∙ both-nothing front tokens

-- ---- terms

module _ (n : ℕ) (some : 0 < n) (front : Front) (tokens : List Symbol) where
  pub terms-union : (tree : Tree) (rest : List Symbol) → read_term (read_query (n - 1) Nothing) tokens ≡ Some (tree, rest) → starts UNION rest ≡ true
      → read_query n front tokens ≡ read_query (n - 1) (BeforeUnion (joined_to front tree)) (rest_of rest)
  unfolding read_query
  terms-union tree rest e t =
      let k : n ≡ suc (n - 1) = omega arith in
      let one : read_query (suc (n - 1)) front tokens ≡ read_query (n - 1) (BeforeUnion (joined_to front tree)) (rest_of rest) = rw (e, t) refl in
      ap (λ m. read_query m front tokens) k ∙ one

  pub terms-except : (tree : Tree) (rest : List Symbol) → read_term (read_query (n - 1) Nothing) tokens ≡ Some (tree, rest) → starts UNION rest ≡ false
      → starts EXCEPT rest ≡ true → read_query n front tokens ≡ read_query (n - 1) (BeforeExcept (joined_to front tree)) (rest_of rest)
  unfolding read_query
  terms-except tree rest e t u =
      let k : n ≡ suc (n - 1) = omega arith in
      let one : read_query (suc (n - 1)) front tokens ≡ read_query (n - 1) (BeforeExcept (joined_to front tree)) (rest_of rest) = rw (e, t, u) refl in
      ap (λ m. read_query m front tokens) k ∙ one

  pub terms-end : (tree : Tree) (rest : List Symbol) → read_term (read_query (n - 1) Nothing) tokens ≡ Some (tree, rest) → starts UNION rest ≡ false
      → starts EXCEPT rest ≡ false → read_query n front tokens ≡ Some (joined_to front tree, rest)
  unfolding read_query
  terms-end tree rest e t u =
      let k : n ≡ suc (n - 1) = omega arith in
      let one : read_query (suc (n - 1)) front tokens ≡ Some (joined_to front tree, rest) = rw (e, t, u) refl in
      ap (λ m. read_query m front tokens) k ∙ one

  pub terms-none : read_term (read_query (n - 1) Nothing) tokens ≡ None → read_query n front tokens ≡ None
  unfolding read_query
  terms-none e =
      let k : n ≡ suc (n - 1) = omega arith in
      let one : read_query (suc (n - 1)) front tokens ≡ None = rw e refl in
      ap (λ m. read_query m front tokens) k ∙ one

pub terms-over : (n : ℕ) (front : Front) (tokens : List Symbol) → n ≡ 0 → read_query n front tokens ≡ None
unfolding read_query
terms-over n front tokens e = rw e refl
