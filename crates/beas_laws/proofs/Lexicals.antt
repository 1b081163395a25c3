-- What the lexical rules give: words in lower case, and numbers of one or more digits.
use Rattle.std.proofs.Common.{◌≡◌, ℕ, zero, suc, ◌+◌, ◌-◌, ◌≤◌, Bool, true, List, [], ◌∷◌, ◌++◌, length, get_or, refl, sym, ap, subst, ◌∙◌, arith}
use Rattle.std.proofs.lemmas.List.{length-map}
use Rattle.std.specs.Prelude.{codes, eqb, map, nat_lt, take_while, All, Contains, Option, Some, None, find}
use Rattle.std.specs.List.{list_all, AllByRecursion as Each, starts_with}
use Rattle.std.specs.Char.{is_ascii_digit, is_ascii_whitespace, to_ascii_lowercase}
use Rattle.std.proofs.lemmas.Bool.{cond_both, and_from, and_parts, cond-true, ltb-false, or_left}
use Rattle.std.proofs.lemmas.Bool.Decides.{nat_tests}
use Rattle.std.proofs.lemmas.List.Elements.{All-contains, All-weaker, All-from_recursion, recursion_from_All}
use Rattle.std.proofs.lemmas.List.Sums.{take_while-cons}
use Rattle.sql_tokens.specs.declared.token.Token.{Token}
use Rattle.sql_tokens.specs.declared.token.TokenKind.TheVariants.{Word, Bad}
use Rattle.beas_core.specs.Spelling.{begins_word, continues_word}
use Rattle.sql_tokens.specs.Tokens.{lead, plain, word as word_lead, quoted_or_bad, mark_or_bad, first_then, tokens_from, tokens_of, longest_word, quoted_text, quote, marks, continues_char, Lead}
use Rattle.sql_tokens.specs.Tokens.Lead.{Gap, Lexeme}
use Rattle.sql_text.specs.Symbols.{Symbol, word, number, quoted, mark, bad, symbol_of, symbols}

-- a word of letters, digits and underscores that begins with no digit and isn't too long
pub record IsWordText (text : List ℕ) : Type 0 where
  pub first : begins_word (get_or text 0 0) ≡ true
  pub each : list_all continues_word text ≡ true
  pub short : length text ≤ longest_word

pub record IsNameText (text : List ℕ) : Type 0 where
  pub spelled : IsWordText text
  pub folded : map to_ascii_lowercase text ≡ text

pub record IsDigitText (text : List ℕ) : Type 0 where
  pub first : is_ascii_digit (get_or text 0 0) ≡ true
  pub each : list_all is_ascii_digit text ≡ true

abbrev pub IsLexical : Symbol → Type 0
IsLexical (word text) = IsNameText text
IsLexical (number text) = IsDigitText text
IsLexical (quoted text) = Unit {0}
IsLexical (mark text) = Unit {0}
IsLexical (bad text) = Unit {0}

abbrev pub AreLexical : List Symbol → Type 0
AreLexical symbols = Each IsLexical symbols

pub front : {X : Type 0} (P : X → Type 0) (xs ys : List X) → Each P (xs ++ ys) → Each P xs
front P [] ys h = tt
front P (x ∷ xs) ys h = (h.0, front P xs ys h.1)

pub back : {X : Type 0} (P : X → Type 0) (xs ys : List X) → Each P (xs ++ ys) → Each P ys
back P [] ys h = h
back P (x ∷ xs) ys h = back P xs ys h.1

-- the longest front that passes
run-passes : (p : ℕ → Bool) (xs : List ℕ) → list_all p (take_while p xs) ≡ true
run-passes p [] = refl
run-passes p (x ∷ xs) =
    subst (λ ys. list_all p ys ≡ true) (sym (take_while-cons p x xs))
    (cond_both (p x) (x ∷ take_while p xs) [] (λ ys. list_all p ys ≡ true) (λ e. rw (e, run-passes p xs) refl) (λ e. refl))

pub run_first : (p : ℕ → Bool) (x : ℕ) (xs : List ℕ) → p x ≡ true → take_while p (x ∷ xs) ≡ x ∷ take_while p xs
run_first p x xs e = take_while-cons p x xs ∙ cond-true (p x) (x ∷ take_while p xs) [] e

-- in lower case
folded-begins : (b : ℕ) → begins_word b ≡ true → begins_word (to_ascii_lowercase b) ≡ true
folded-begins b h = grind (arith, nat_tests)

folded-in_word : (b : ℕ) → continues_word b ≡ true → continues_word (to_ascii_lowercase b) ≡ true
folded-in_word b h = grind (arith, nat_tests)

folded-twice : (b : ℕ) → to_ascii_lowercase (to_ascii_lowercase b) ≡ to_ascii_lowercase b
folded-twice b = grind (arith, nat_tests)

folded-text : (text : List ℕ) → list_all continues_word text ≡ true → list_all continues_word (map to_ascii_lowercase text) ≡ true
folded-text [] h = refl
folded-text (b ∷ bs) h =
    let parts = and_parts (continues_word b) (list_all continues_word bs) h in
    and_from (continues_word (to_ascii_lowercase b)) (list_all continues_word (map to_ascii_lowercase bs)) (folded-in_word b parts.0) (folded-text bs parts.1)

folded-again : (text : List ℕ) → map to_ascii_lowercase (map to_ascii_lowercase text) ≡ map to_ascii_lowercase text
folded-again [] = refl
folded-again (b ∷ bs) = rw (folded-twice b) (ap (λ more. to_ascii_lowercase b ∷ more) (folded-again bs))

name-folded : (b : ℕ) (bs : List ℕ) → IsWordText (b ∷ bs) → IsNameText (map to_ascii_lowercase (b ∷ bs))
name-folded b bs h = record {
  spelled = record {
    first = folded-begins b h.first;
    each = folded-text (b ∷ bs) h.each;
    short = omega (arith, h.short, length-map (b ∷ bs) to_ascii_lowercase);
  };
  folded = folded-again (b ∷ bs);
}

-- what a text begins with
abbrev LeadIsLexical : Lead → Type 0
LeadIsLexical (Gap len) = Unit {0}
LeadIsLexical (Lexeme kind len text) = IsLexical (symbol_of kind text)

word-lexical : (b : ℕ) (bs : List ℕ) → begins_word b ≡ true → list_all continues_word (b ∷ bs) ≡ true → LeadIsLexical (word_lead (b ∷ bs))
word-lexical b bs h e =
    cond_both (nat_lt longest_word (length (b ∷ bs))) (plain Bad (b ∷ bs)) (Lexeme Word (length (b ∷ bs)) (map to_ascii_lowercase (b ∷ bs))) LeadIsLexical
    (λ l. tt)
    (λ l. name-folded b bs (record { first = h; each = e; short = ltb-false longest_word (length (b ∷ bs)) l }))

words-lexical : (b : ℕ) (rest : List ℕ) → begins_word b ≡ true → LeadIsLexical (word_lead (take_while continues_word (b ∷ rest)))
words-lexical b rest h =
    let run = run_first continues_word b rest (or_left (begins_word b) (is_ascii_digit b) h) in
    subst (λ bs. LeadIsLexical (word_lead bs)) (sym run)
    (word-lexical b (take_while continues_word rest) h (subst (λ bs. list_all continues_word bs ≡ true) run (run-passes continues_word (b ∷ rest))))

number-lexical : (b : ℕ) (rest : List ℕ) → is_ascii_digit b ≡ true → IsDigitText (take_while is_ascii_digit (b ∷ rest))
number-lexical b rest h =
    subst IsDigitText (sym (run_first is_ascii_digit b rest h)) (record {
      first = h;
      each = subst (λ bs. list_all is_ascii_digit bs ≡ true) (run_first is_ascii_digit b rest h) (run-passes is_ascii_digit (b ∷ rest));
    })

quoted-lexical : (rest : List ℕ) (text : Option (List ℕ)) → LeadIsLexical (quoted_or_bad rest text)
quoted-lexical rest None = tt
quoted-lexical rest (Some text) = tt

mark-lexical : (char : List ℕ) (found : Option (List ℕ)) → LeadIsLexical (mark_or_bad char found)
mark-lexical char None = tt
mark-lexical char (Some text) = tt

lead-lexical : (bytes : List ℕ) → LeadIsLexical (lead bytes)
unfolding lead
lead-lexical [] = tt
lead-lexical (b ∷ rest) =
    cond_both (is_ascii_whitespace b) _ _ LeadIsLexical (λ w. tt) (λ w.
    cond_both (starts_with eqb (b ∷ rest) (codes "--")) _ _ LeadIsLexical (λ c. tt) (λ c.
    cond_both (begins_word b) _ _ LeadIsLexical (λ h. words-lexical b rest h) (λ h.
    cond_both (is_ascii_digit b) _ _ LeadIsLexical (λ d. number-lexical b rest d) (λ d.
    cond_both (eqb b quote) _ _ LeadIsLexical (λ q. quoted-lexical (b ∷ rest) (quoted_text rest)) (λ q.
    mark-lexical (b ∷ take_while continues_char rest) (find (starts_with eqb (b ∷ rest)) marks))))))

abbrev TokenIsLexical : Token → Type 0
TokenIsLexical token = IsLexical (symbol_of token.kind token.text)

first-lexical : (first : Lead) (at : ℕ) (after : ℕ → List Token) → LeadIsLexical first → ((len : ℕ) → Each TokenIsLexical (after len))
    → Each TokenIsLexical (first_then first at after)
first-lexical (Gap len) at after h more = more len
first-lexical (Lexeme kind len text) at after h more = (h, more len)

tokens-lexical : (at skip : ℕ) (bytes : List ℕ) → Each TokenIsLexical (tokens_from at skip bytes)
unfolding tokens_from
tokens-lexical at skip [] = tt
tokens-lexical at (suc skip) (b ∷ rest) = tokens-lexical (at + 1) skip rest
tokens-lexical at zero (b ∷ rest) = first-lexical (lead (b ∷ rest)) at (λ len. tokens_from (at + 1) (len - 1) rest) (lead-lexical (b ∷ rest))
    (λ len. tokens-lexical (at + 1) (len - 1) rest)

each-symbol : (tokens : List Token) → Each TokenIsLexical tokens → AreLexical (symbols tokens)
each-symbol [] h = tt
each-symbol (token ∷ tokens) h = (h.0, each-symbol tokens h.1)

-- Tokens of sources are lexical.
pub lexical_from_tokens : (tokens : List Token) → All (λ token. (source : List ℕ) × Contains (tokens_of source) token) tokens → AreLexical (symbols tokens)
lexical_from_tokens tokens h =
    each-symbol tokens (recursion_from_All TokenIsLexical tokens (All-weaker (λ token. (source : List ℕ) × Contains (tokens_of source) token) TokenIsLexical
    (λ token c. All-contains TokenIsLexical (tokens_of c.0) token (All-from_recursion TokenIsLexical (tokens_of c.0) (tokens-lexical 0 0 c.0)) c.1) tokens h))
