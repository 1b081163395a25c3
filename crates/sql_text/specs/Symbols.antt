-- Tokens without their places, as the grammar knows them.
--     symbols tokens     what each token is, and its text
--     depth symbols      how deep the tokens are nested
use Rattle.std.specs.Prelude.{ℕ, ◌+◌, ◌-◌, ◌&&◌, ◌||◌, if◌then◌else◌, Bool, false, nat_le, max, List, [], ◌∷◌, map, codes, bytes_eq}
use Rattle.sql_tokens.specs.declared.token.Token.{Token}
use Rattle.sql_tokens.specs.declared.token.TokenKind.{TokenKind}
use Rattle.sql_tokens.specs.declared.token.TokenKind.TheVariants.{Word, Number, Quoted, Mark, Bad}

pub data Symbol : Type 0 where
  word : List ℕ → Symbol
  number : List ℕ → Symbol
  quoted : List ℕ → Symbol
  mark : List ℕ → Symbol
  bad : List ℕ → Symbol

abbrev pub symbol_of : TokenKind → List ℕ → Symbol
symbol_of Word text = word text
symbol_of Number text = number text
symbol_of Quoted text = quoted text
symbol_of Mark text = mark text
symbol_of Bad text = bad text

abbrev pub symbols : List Token → List Symbol
symbols tokens = map (λ token. symbol_of token.kind token.text) tokens

abbrev pub is_word : List ℕ → Symbol → Bool
is_word text (word other) = bytes_eq text other
is_word text _ = false

abbrev pub is_mark : List ℕ → Symbol → Bool
is_mark text (mark other) = bytes_eq text other
is_mark text _ = false

abbrev pub joins_blocks : Symbol → Bool
joins_blocks symbol = is_word (codes "union") symbol || is_word (codes "except") symbol

-- how many words UNION and EXCEPT a statement may have without being nested deeper
abbrev pub free_joins : ℕ
free_joins = 1024

-- the depth after a token, at a depth and after so many words UNION and EXCEPT
abbrev pub depth_after : ℕ → ℕ → Symbol → ℕ
depth_after depth joins symbol =
    if is_mark (codes "(") symbol || (joins_blocks symbol && nat_le free_joins joins) then depth + 1
    else if is_mark (codes ")") symbol then depth - 1 else depth

abbrev pub joins_after : ℕ → Symbol → ℕ
joins_after joins symbol = if joins_blocks symbol then joins + 1 else joins

abbrev pub depth_from : ℕ → ℕ → List Symbol → ℕ
depth_from depth joins [] = depth
depth_from depth joins (symbol ∷ rest) = max depth (depth_from (depth_after depth joins symbol) (joins_after joins symbol) rest)

-- the greatest depth of the walk over the tokens
abbrev pub depth : List Symbol → ℕ
depth symbols = depth_from 0 0 symbols
