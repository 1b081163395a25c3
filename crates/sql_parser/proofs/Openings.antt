-- The walk over the openings, step by step.
use Rattle.std.proofs.Common.{◌≡◌, ◌≤◌, ◌<◌, ℕ, ◌+◌, true, false, List, [], ◌∷◌, get_or, drop, length, refl, ap, subst, ◌∙◌}
use Rattle.std.specs.Prelude.{codes}
use Rattle.std.proofs.lemmas.Slice.Eq.{bytes_eq-Decides}
use Rattle.std.proofs.lemmas.List.{at_drop_more, drop_all}
use Rattle.sql_text.specs.Symbols.{Symbol, word, number, quoted, mark, bad}
use Rattle.sql_text.specs.Words.{SELECT}
use Rattle.sql_parser.specs.declared.statements.Opening.{Opening}
use Rattle.token_reader.specs.Reading.{starts, begins_with, after_all}
use Rattle.sql_parser.specs.Reading.{words_of, read_opened, read_first, read_selection, read_statement}

pub first-passes : (o : Opening) (os : List Opening) (tokens : List Symbol) → begins_with (words_of o) tokens ≡ false
    → read_first (o ∷ os) tokens ≡ read_first os tokens
unfolding read_first
first-passes o os tokens e = rw e refl

first-stands : (o : Opening) (os : List Opening) (tokens : List Symbol) → begins_with (words_of o) tokens ≡ true
    → read_first (o ∷ os) tokens ≡ read_opened o (after_all (words_of o) tokens)
unfolding read_first
first-stands o os tokens e = rw e refl

module _ (os : List Opening) (i : ℕ) (other : Opening) (tokens : List Symbol) (within : i < length os) where
  pub passed : begins_with (words_of (get_or os i other)) tokens ≡ false → read_first (drop i os) tokens ≡ read_first (drop (i + 1) os) tokens
  passed e = at_drop_more (λ ys. read_first ys tokens) os i other within ∙ first-passes (get_or os i other) (drop (i + 1) os) tokens e

  pub taken : begins_with (words_of (get_or os i other)) tokens ≡ true
      → read_first (drop i os) tokens ≡ read_opened (get_or os i other) (after_all (words_of (get_or os i other)) tokens)
  taken e = at_drop_more (λ ys. read_first ys tokens) os i other within ∙ first-stands (get_or os i other) (drop (i + 1) os) tokens e

pub none_left : (os : List Opening) (i : ℕ) (tokens : List Symbol) → length os ≤ i → read_first (drop i os) tokens ≡ read_selection tokens
unfolding read_first
none_left os i tokens le = ap (λ ys. read_first ys tokens) (drop_all i os le)

select_alone : (rest : List Symbol) → read_statement (SELECT ∷ rest) ≡ read_selection (SELECT ∷ rest)
unfolding read_first begins_with starts
select_alone rest = refl

-- no opening begins with SELECT
pub at_select : (tokens : List Symbol) → starts SELECT tokens ≡ true → read_statement tokens ≡ read_selection tokens
unfolding starts
at_select [] e = cc
at_select (word n ∷ rest) e =
    subst (λ text. read_statement (word text ∷ rest) ≡ read_selection (word text ∷ rest)) ((bytes_eq-Decides (codes "select") n).0 e) (select_alone rest)
at_select (number n ∷ rest) e = cc
at_select (quoted n ∷ rest) e = cc
at_select (mark n ∷ rest) e = cc
at_select (bad n ∷ rest) e = cc
