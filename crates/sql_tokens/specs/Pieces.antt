-- The statements of a script: the lists of tokens between semicolons.
--     statements_of tokens     these lists, without the empty ones
--     pieces_of tokens         the places where they stand
--     FirstPieceIs source at tokens next
--                              these tokens stand from the place `at` of a script on, up to the first semicolon or else the end, and the
--                              next piece begins at the place `next`
--     AreFirst source at tokens
--                              these are the first tokens that stand from the place on
use Rattle.std.specs.Prelude.{◌≡◌, ◌<◌, ◌≤◌, ◌⊎◌, ◌++◌, ℕ, ◌+◌, ◌&&◌, Bool, true, false, nat_lt, List, [], ◌∷◌, length, drop, filter, codes, bytes_eq, All, IsCharBoundary}
use Rattle.std.specs.List.{slice_split}
use Rattle.sql_tokens.specs.declared.token.Token.{Token}
use Rattle.sql_tokens.specs.declared.token.Piece.{Piece}
use Rattle.sql_tokens.specs.declared.token.TokenKind.{TokenKind}
use Rattle.sql_tokens.specs.declared.token.TokenKind.TheVariants.{Mark}
use Rattle.sql_tokens.specs.Tokens.{tokens_from}

abbrev pub is_mark : TokenKind → Bool
is_mark Mark = true
is_mark _ = false

abbrev pub is_semicolon : Token → Bool
is_semicolon token = is_mark token.kind && bytes_eq token.text (codes ";")

abbrev pub statements_of : List Token → List (List Token)
statements_of tokens = filter (λ statement. nat_lt 0 (length statement)) (slice_split is_semicolon tokens)

-- where lists stand, one after another from the place `at` on with one token between two
abbrev pub places : ℕ → List (List Token) → List Piece
places at [] = []
places at (part ∷ parts) = record { from = at; to = at + length part } ∷ places (at + length part + 1) parts

abbrev pub without_empty : List Piece → List Piece
without_empty pieces = filter (λ piece. nat_lt piece.from piece.to) pieces

abbrev pub pieces_of : List Token → List Piece
pieces_of tokens = without_empty (places 0 (slice_split is_semicolon tokens))

-- the tokens from a place of a script on
abbrev pub tokens_past : ℕ → List ℕ → List Token
tokens_past at source = tokens_from at 0 (drop at source)

-- a semicolon stands after these tokens
pub record EndsAtSemicolon (source : List ℕ) (at : ℕ) (tokens : List Token) (next : ℕ) : Type 0 where
  pub semicolon : Token
  pub is : is_semicolon semicolon ≡ true
  pub cut : tokens_past at source ≡ tokens ++ semicolon ∷ tokens_past next source

-- or they are all that are left
pub record EndsWithScript (source : List ℕ) (at : ℕ) (tokens : List Token) (next : ℕ) : Type 0 where
  pub last : next ≡ length source
  pub all : tokens_past at source ≡ tokens

pub record FirstPieceIs (source : List ℕ) (at : ℕ) (tokens : List Token) (next : ℕ) : Type 0 where
  pub whole : All (λ token. is_semicolon token ≡ false) tokens
  pub ends : EndsAtSemicolon source at tokens next ⊎ EndsWithScript source at tokens next
  pub more : at < length source → at < next
  pub within : next ≤ length source
  pub cut : IsCharBoundary source next

abbrev pub AreFirst : List ℕ → ℕ → List Token → Type 0
AreFirst source at tokens = (left : List Token) × (tokens_past at source ≡ tokens ++ left)
