-- The tokens of a script, which is a list of bytes in UTF-8.
--     lead bytes           what the bytes begin with: a gap between tokens or a token, and how many bytes it takes
--     tokens_of source     the tokens of the script, in order
--     in_quotes text       the spelling of a text between quotes
use Rattle.std.specs.Prelude.{ℕ, zero, suc, ◌+◌, ◌-◌, ◌==◌, ◌&&◌, not, if◌then◌else◌, Bool, nat_lt, nat_le, List, [], ◌∷◌, ◌++◌, length, map, find, flat_map, take_while, codes, option_map, Option, Some, None, eqb}
use Rattle.std.specs.Char.{is_ascii_whitespace, is_ascii_digit, to_ascii_lowercase}
use Rattle.std.specs.List.{starts_with}
use Rattle.beas_core.specs.Spelling.{begins_word, continues_word}
use Rattle.sql_tokens.specs.declared.token.Token.{Token}
use Rattle.sql_tokens.specs.declared.token.TokenKind.{TokenKind}
use Rattle.sql_tokens.specs.declared.token.TokenKind.TheVariants.{Word, Number, Quoted, Mark, Bad}

-- 10 is the line feed, which alone ends a line
abbrev pub is_in_line : ℕ → Bool
is_in_line byte = not (byte == 10)

-- the bytes of a character after its first
abbrev pub continues_char : ℕ → Bool
continues_char byte = nat_le 128 byte && nat_lt byte 192

abbrev pub longest_word : ℕ
longest_word = 64

-- the longer marks stand first, so that the longest is found
abbrev pub marks : List (List ℕ)
marks =
    codes "<>" ∷ codes "!=" ∷ codes "<=" ∷ codes ">=" ∷ codes "(" ∷ codes ")" ∷ codes "," ∷ codes ";" ∷ codes "."
    ∷ codes "*" ∷ codes "+" ∷ codes "-" ∷ codes "=" ∷ codes "<" ∷ codes ">" ∷ codes "@" ∷ []

abbrev pub quote : ℕ
quote = 39

-- each quote of the text stands twice
abbrev pub with_quotes_doubled : List ℕ → List ℕ
with_quotes_doubled text = flat_map (λ byte. if byte == quote then quote ∷ quote ∷ [] else byte ∷ []) text

abbrev pub in_quotes : List ℕ → List ℕ
in_quotes text = quote ∷ (with_quotes_doubled text ++ quote ∷ [])

-- the text whose spelling goes on with these bytes after its first quote, if it has an end: two quotes are one, a lone one is the end
abbrev pub quoted_text : List ℕ → Option (List ℕ)
quoted_text [] = None
quoted_text (a ∷ []) = if a == quote then Some [] else None
quoted_text (a ∷ b ∷ bytes) =
    if a == quote then (if b == quote then option_map (λ text. quote ∷ text) (quoted_text bytes) else Some [])
    else option_map (λ text. a ∷ text) (quoted_text (b ∷ bytes))

-- white space or a comment of so many bytes, or a token of this kind, this many bytes and this text
pub data Lead : Type 0 where
  Gap : (len : ℕ) → Lead
  Lexeme : (kind : TokenKind) (len : ℕ) (text : List ℕ) → Lead

-- a token whose text is its spelling
abbrev pub plain : TokenKind → List ℕ → Lead
plain kind spelling = Lexeme kind (length spelling) spelling

abbrev pub word : List ℕ → Lead
word spelling =
    if nat_lt longest_word (length spelling) then plain Bad spelling
    else Lexeme Word (length spelling) (map to_ascii_lowercase spelling)

-- without an end, all the rest is bad
abbrev pub quoted_or_bad : List ℕ → Option (List ℕ) → Lead
quoted_or_bad rest (Some text) = Lexeme Quoted (length (in_quotes text)) text
quoted_or_bad rest None = plain Bad rest

abbrev pub mark_or_bad : List ℕ → Option (List ℕ) → Lead
mark_or_bad char (Some mark) = plain Mark mark
mark_or_bad char None = plain Bad char

unfoldable pub lead : List ℕ → Lead
lead [] = Gap 0
lead (byte ∷ rest) =
    let bytes = byte ∷ rest in
    if is_ascii_whitespace byte then Gap 1
    else (if starts_with eqb bytes (codes "--") then Gap (length (take_while is_in_line bytes))
    else (if begins_word byte then word (take_while continues_word bytes)
    else (if is_ascii_digit byte then plain Number (take_while is_ascii_digit bytes)
    else (if byte == quote then quoted_or_bad bytes (quoted_text rest)
    else mark_or_bad (byte ∷ take_while continues_char rest) (find (starts_with eqb bytes) marks)))))

-- the token that stands first, if one does, then those that follow
abbrev pub first_then : Lead → ℕ → (ℕ → List Token) → List Token
first_then (Gap len) at after = after len
first_then (Lexeme kind len text) at after =
    record { kind = kind; from = at; to = at + len; text = text } ∷ after len

-- the tokens of the bytes from the place `at` on, the first `skip` of which belong to what stands before
unfoldable pub tokens_from : ℕ → ℕ → List ℕ → List Token
tokens_from at skip [] = []
tokens_from at (suc skip) (byte ∷ rest) = tokens_from (at + 1) skip rest
tokens_from at zero (byte ∷ rest) = first_then (lead (byte ∷ rest)) at (λ len. tokens_from (at + 1) (len - 1) rest)

abbrev pub tokens_of : List ℕ → List Token
tokens_of source = tokens_from 0 0 source
