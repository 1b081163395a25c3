-- The tokens of the text of lexemes are those lexemes.
use Rattle.std.proofs.Common.{◌≡◌, ℕ, zero, suc, ◌+◌, ◌-◌, Bool, true, false, List, [], ◌∷◌, ◌++◌, length, refl, ap, ◌∙◌, arith, append_assoc}
use Rattle.std.specs.Prelude.{codes, eqb, ◌||◌, ◌==◌, map}
use Rattle.std.specs.Char.{to_ascii_lowercase}
use Rattle.std.proofs.lemmas.Bool.{false≢true}
use Rattle.std.proofs.lemmas.Bool.Decides.{nat_tests}
use Rattle.sql_tokens.specs.declared.token.Token.{Token}
use Rattle.sql_tokens.specs.declared.token.TokenKind.{TokenKind}
use Rattle.sql_tokens.specs.declared.token.TokenKind.TheVariants.{Word, Number, Quoted, Mark}
use Rattle.sql_tokens.specs.Tokens.{lead, in_quotes as quoted_bytes, quote, with_quotes_doubled, first_then, tokens_from, tokens_of, Lead}
use Rattle.sql_tokens.specs.Tokens.Lead.{Gap, Lexeme as Found}
use Rattle.sql_text.specs.Canonical.{Lexeme, sign, holds_left, holds_right, gap, text_of_lexemes}
use Rattle.sql_text.specs.Symbols.{Symbol, word, number, quoted, mark, symbol_of, symbols}
use Rattle.beas_laws.proofs.Clean.{symbol, IsMarkText, open_mark, close_mark, comma_mark, point_mark, star_mark, equal_mark, differs_mark, less_mark, at_most_mark, more_mark, at_least_mark, AreClean, none, keyword_then, name_then, digits_then, minus_then, content_then, sign_then}
use Rattle.beas_laws.proofs.Leading.{ends, lead-of_word, lead-of_number, lead-of_quoted, digit-no_minus}
use Rattle.beas_laws.proofs.Lexicals.{IsWordText, IsDigitText}

abbrev pub read : List ℕ → List Symbol
read bytes = symbols (tokens_of bytes)

-- symbols have no places
first-same : (first : Lead) (at other : ℕ) (after behind : ℕ → List Token) → ((len : ℕ) → symbols (after len) ≡ symbols (behind len))
    → symbols (first_then first at after) ≡ symbols (first_then first other behind)
first-same (Gap len) at other after behind h = h len
first-same (Found kind len text) at other after behind h = ap (λ more. symbol_of kind text ∷ more) (h len)

same_symbols : (at other skip : ℕ) (bytes : List ℕ) → symbols (tokens_from at skip bytes) ≡ symbols (tokens_from other skip bytes)
unfolding tokens_from
same_symbols at other skip [] = refl
same_symbols at other (suc skip) (b ∷ rest) = same_symbols (at + 1) (other + 1) skip rest
same_symbols at other zero (b ∷ rest) =
    first-same (lead (b ∷ rest)) at other (λ len. tokens_from (at + 1) (len - 1) rest) (λ len. tokens_from (other + 1) (len - 1) rest)
    (λ len. same_symbols (at + 1) (other + 1) (len - 1) rest)

skipped : (at : ℕ) (front rest : List ℕ) → symbols (tokens_from at (length front) (front ++ rest)) ≡ read rest
unfolding tokens_from
skipped at [] rest = same_symbols at 0 0 rest
skipped at (b ∷ bs) rest = skipped (at + 1) bs rest

one_token : (kind : TokenKind) (text : List ℕ) (b : ℕ) (bs rest : List ℕ) → lead (b ∷ (bs ++ rest)) ≡ Found kind (length (b ∷ bs)) text
    → read (b ∷ (bs ++ rest)) ≡ symbol_of kind text ∷ read rest
unfolding tokens_from
one_token kind text b bs rest e =
    let less_one : suc (length bs) - 1 ≡ length bs = omega arith in
    ap (λ first. symbols (first_then first 0 (λ len. tokens_from 1 (len - 1) (bs ++ rest)))) e
    ∙ ap (λ skip. symbol_of kind text ∷ symbols (tokens_from 1 skip (bs ++ rest))) less_one
    ∙ ap (λ others. symbol_of kind text ∷ others) (skipped 1 bs rest)

nothing-read : read [] ≡ []
unfolding tokens_from
nothing-read = refl

space-skipped : (held : Bool) (bytes : List ℕ) → read (gap held ++ bytes) ≡ read bytes
unfolding tokens_from lead
space-skipped true bytes = refl
space-skipped false bytes = same_symbols 1 0 0 bytes

gap-skipped : (held : Bool) (text rest : List ℕ) → read ((gap held ++ text) ++ rest) ≡ read (text ++ rest)
gap-skipped held text rest = ap read (append_assoc (gap held) text rest) ∙ space-skipped held (text ++ rest)

word-read : (text rest : List ℕ) → IsWordText text → ends rest ≡ true → read (text ++ rest) ≡ word (map to_ascii_lowercase text) ∷ read rest
word-read [] rest h e = absurd (false≢true h.first)
word-read (b ∷ bs) rest h e = one_token Word (map to_ascii_lowercase (b ∷ bs)) b bs rest (lead-of_word b bs rest h e)

number-read : (text rest : List ℕ) → IsDigitText text → ends rest ≡ true → read (text ++ rest) ≡ number text ∷ read rest
number-read [] rest h e = absurd (false≢true h.first)
number-read (b ∷ bs) rest h e = one_token Number (b ∷ bs) b bs rest (lead-of_number b bs rest h e)

quoted-read : (text rest : List ℕ) → ends rest ≡ true → read (quoted_bytes text ++ rest) ≡ quoted text ∷ read rest
quoted-read text rest e = one_token Quoted text quote (with_quotes_doubled text ++ quote ∷ []) rest (lead-of_quoted text rest e)

minus-lead : (b : ℕ) (bs : List ℕ) → eqb 45 b ≡ false → lead (45 ∷ b ∷ bs) ≡ Found Mark 1 (codes "-")
unfolding lead
minus-lead b bs e = rw e refl

minus-read : (text rest : List ℕ) → IsDigitText text → read (codes "-" ++ (text ++ rest)) ≡ mark (codes "-") ∷ read (text ++ rest)
minus-read [] rest h = absurd (false≢true h.first)
minus-read (b ∷ bs) rest h = one_token Mark (codes "-") 45 [] (b ∷ (bs ++ rest)) (minus-lead b (bs ++ rest) (digit-no_minus b h.first))

ends-no_more : (b : ℕ) → (b == 32 || b == 41 || b == 44 || b == 46) ≡ true → eqb 62 b ≡ false
ends-no_more b h = grind (arith, nat_tests)

ends-no_equal : (b : ℕ) → (b == 32 || b == 41 || b == 44 || b == 46) ≡ true → eqb 61 b ≡ false
ends-no_equal b h = grind (arith, nat_tests)

less-lead : (rest : List ℕ) → ends rest ≡ true → lead (codes "<" ++ rest) ≡ Found Mark 1 (codes "<")
unfolding lead
less-lead [] e = refl
less-lead (b ∷ bs) e = rw (ends-no_more b e, ends-no_equal b e) refl

more-lead : (rest : List ℕ) → ends rest ≡ true → lead (codes ">" ++ rest) ≡ Found Mark 1 (codes ">")
unfolding lead
more-lead [] e = refl
more-lead (b ∷ bs) e = rw (ends-no_equal b e) refl

-- what follows a lexeme that lets a space follow it ends it
sign-ends : {text : List ℕ} → IsMarkText text → (rest : List Lexeme) → ends (text_of_lexemes false (sign text ∷ rest)) ≡ true
sign-ends open_mark rest = refl
sign-ends close_mark rest = refl
sign-ends comma_mark rest = refl
sign-ends point_mark rest = refl
sign-ends star_mark rest = refl
sign-ends equal_mark rest = refl
sign-ends differs_mark rest = refl
sign-ends less_mark rest = refl
sign-ends at_most_mark rest = refl
sign-ends more_mark rest = refl
sign-ends at_least_mark rest = refl

written-ends : {rest : List Lexeme} → AreClean rest → ends (text_of_lexemes false rest) ≡ true
written-ends none = refl
written-ends (keyword_then h c) = refl
written-ends (name_then h c) = refl
written-ends (digits_then h c) = refl
written-ends (minus_then h c) = refl
written-ends (content_then c) = refl
written-ends (sign_then {rest = rest} h c) = sign-ends h rest

sign-read : {text : List ℕ} → IsMarkText text → (rest : List Lexeme) → AreClean rest
    → read (text ++ text_of_lexemes (holds_right (sign text)) rest) ≡ mark text ∷ read (text_of_lexemes (holds_right (sign text)) rest)
unfolding lead
sign-read open_mark rest c = one_token Mark (codes "(") 40 [] (text_of_lexemes true rest) refl
sign-read close_mark rest c = one_token Mark (codes ")") 41 [] (text_of_lexemes false rest) refl
sign-read comma_mark rest c = one_token Mark (codes ",") 44 [] (text_of_lexemes false rest) refl
sign-read point_mark rest c = one_token Mark (codes ".") 46 [] (text_of_lexemes true rest) refl
sign-read star_mark rest c = one_token Mark (codes "*") 42 [] (text_of_lexemes false rest) refl
sign-read equal_mark rest c = one_token Mark (codes "=") 61 [] (text_of_lexemes false rest) refl
sign-read differs_mark rest c = one_token Mark (codes "<>") 60 (62 ∷ []) (text_of_lexemes false rest) refl
sign-read less_mark rest c = one_token Mark (codes "<") 60 [] (text_of_lexemes false rest) (less-lead (text_of_lexemes false rest) (written-ends c))
sign-read at_most_mark rest c = one_token Mark (codes "<=") 60 (61 ∷ []) (text_of_lexemes false rest) refl
sign-read more_mark rest c = one_token Mark (codes ">") 62 [] (text_of_lexemes false rest) (more-lead (text_of_lexemes false rest) (written-ends c))
sign-read at_least_mark rest c = one_token Mark (codes ">=") 62 (61 ∷ []) (text_of_lexemes false rest) refl

-- Lexemes are read back from their text.
pub read-written : (held : Bool) {lexemes : List Lexeme} → AreClean lexemes → read (text_of_lexemes held lexemes) ≡ map symbol lexemes
read-written held none = nothing-read
read-written held (keyword_then {text} {rest} h c) =
    gap-skipped (held || false) text (text_of_lexemes false rest) ∙ word-read text (text_of_lexemes false rest) h (written-ends c)
    ∙ ap (λ others. word (map to_ascii_lowercase text) ∷ others) (read-written false c)
read-written held (name_then {text} {rest} h c) =
    gap-skipped (held || false) text (text_of_lexemes false rest) ∙ word-read text (text_of_lexemes false rest) h.spelled (written-ends c)
    ∙ ap (λ folded. word folded ∷ read (text_of_lexemes false rest)) h.folded ∙ ap (λ others. word text ∷ others) (read-written false c)
read-written held (digits_then {text} {rest} h c) =
    gap-skipped (held || false) text (text_of_lexemes false rest) ∙ number-read text (text_of_lexemes false rest) h (written-ends c)
    ∙ ap (λ others. number text ∷ others) (read-written false c)
read-written held (minus_then {text} {rest} h c) =
    gap-skipped (held || false) (codes "-") (text ++ text_of_lexemes false rest) ∙ minus-read text (text_of_lexemes false rest) h
    ∙ ap (λ others. mark (codes "-") ∷ others) (number-read text (text_of_lexemes false rest) h (written-ends c)
    ∙ ap (λ others. number text ∷ others) (read-written false c))
read-written held (content_then {text} {rest} c) =
    gap-skipped (held || false) (quoted_bytes text) (text_of_lexemes false rest) ∙ quoted-read text (text_of_lexemes false rest) (written-ends c)
    ∙ ap (λ others. quoted text ∷ others) (read-written false c)
read-written held (sign_then {text} {rest} h c) =
    gap-skipped (held || holds_left (sign text)) text (text_of_lexemes (holds_right (sign text)) rest) ∙ sign-read h rest c
    ∙ ap (λ others. mark text ∷ others) (read-written (holds_right (sign text)) c)
