-- Reading in a loop: what was read before, and what is still read.
use Rattle.std.proofs.Common.{◌≡◌, ℕ, suc, ◌-◌, ◌<◌, true, false, List, [], ◌∷◌, ◌++◌, length, Option, Some, None, Err, refl, sym, ap, ◌∙◌, append_assoc, arith}
use Rattle.sql_text.specs.Symbols.{Symbol}
use Rattle.token_reader.specs.declared.reader.ReadError.{ReadError}
use Rattle.token_reader.specs.declared.reader.ReadError.TheVariants as errors
use Rattle.sql_text.specs.Words.{COMMA}
use Rattle.token_reader.specs.Reading.{◌>>=◌, GivesWithRest, starts, rest_of}
use Rattle.sql_parser.specs.Reading.{after, read_commas}

after-some : {X : Type 0} (front xs : List X) (rest : List Symbol) → after front (Some (xs, rest)) ≡ Some (front ++ xs, rest)
unfolding after
after-some front xs rest = refl

pub after-cons : {X : Type 0} (front : List X) (x : X) (read : Option (List X × List Symbol))
    → after front (read >>= λ q. Some (x ∷ q.0, q.1)) ≡ after (front ++ x ∷ []) read
unfolding after
after-cons front x (Some p) = ap (λ xs. Some (xs, p.1)) (sym (append_assoc front (x ∷ []) p.0))
after-cons front x None = refl

module _ {X : Type 0} (read : List Symbol → Option (X × List Symbol)) (front : List X) (n : ℕ) (some : 0 < n) (tokens : List Symbol) where
  pub commas-go_on : (x : X) (rest : List Symbol) → read tokens ≡ Some (x, rest) → starts COMMA rest ≡ true
      → after front (read_commas read n tokens) ≡ after (front ++ x ∷ []) (read_commas read (n - 1) (rest_of rest))
  unfolding read_commas
  commas-go_on x rest e t =
      let k : n ≡ suc (n - 1) = omega arith in
      let one : read_commas read (suc (n - 1)) tokens ≡ (read_commas read (n - 1) (rest_of rest) >>= λ q. Some (x ∷ q.0, q.1)) = rw (e, t) refl in
      ap (λ m. after front (read_commas read m tokens)) k ∙ ap (after front) one ∙ after-cons front x (read_commas read (n - 1) (rest_of rest))

  pub commas-end : (x : X) (rest : List Symbol) → read tokens ≡ Some (x, rest) → starts COMMA rest ≡ false
      → after front (read_commas read n tokens) ≡ Some (front ++ x ∷ [], rest)
  unfolding read_commas
  commas-end x rest e t =
      let k : n ≡ suc (n - 1) = omega arith in
      let one : read_commas read (suc (n - 1)) tokens ≡ Some (x ∷ [], rest) = rw (e, t) refl in
      ap (λ m. after front (read_commas read m tokens)) k ∙ ap (after front) one ∙ after-some front (x ∷ []) rest

  pub commas-none : read tokens ≡ None → after front (read_commas read n tokens) ≡ None
  unfolding read_commas after
  commas-none e =
      let k : n ≡ suc (n - 1) = omega arith in
      let one : read_commas read (suc (n - 1)) tokens ≡ None = rw e refl in
      ap (λ m. after front (read_commas read m tokens)) k ∙ ap (after front) one

pub after-nil : {X : Type 0} (read : Option (List X × List Symbol)) → after [] read ≡ read
unfolding after
after-nil (Some p) = refl
after-nil None = refl

pub commas-begin : {X : Type 0} (read : List Symbol → Option (X × List Symbol)) (front : List X) (n : ℕ) (tokens : List Symbol) → front ≡ [] → n ≡ length tokens
    → after front (read_commas read n tokens) ≡ read_commas read (length tokens) tokens
commas-begin read front n tokens e k = rw (e, k) (after-nil (read_commas read (length tokens) tokens))

pub commas-over : {X : Type 0} (read : List Symbol → Option (X × List Symbol)) (front : List X) (n : ℕ) (tokens : List Symbol) → n ≡ 0
    → after front (read_commas read n tokens) ≡ None
unfolding read_commas after
commas-over read front n tokens e = rw e refl

-- a call that fails, where the whole fails with it
pub fails_on : {X Y : Type 0} (e : ReadError) (rest after : List Symbol) (part : Option (X × List Symbol)) (whole : Option (Y × List Symbol))
    → GivesWithRest {X = X} (Err e) rest part → (part ≡ None → whole ≡ None) → GivesWithRest {X = Y} (Err e) after whole
fails_on errors.Syntax rest after part whole h f = f h
fails_on errors.NoMemory rest after part whole h f = tt
