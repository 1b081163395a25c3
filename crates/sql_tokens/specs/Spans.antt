-- Where tokens stand, and how they are spelled.
--     AreInOrder from tokens end     each token stands after the one before it, all between these places
--     IsSpelled source token         the script's bytes from the token's first to its last spell its text
use Rattle.std.specs.Prelude.{◌≡◌, ◌<◌, ◌≤◌, ℕ, List, [], ◌∷◌, map, slice_range}
use Rattle.std.specs.Char.{to_ascii_lowercase}
use Rattle.sql_tokens.specs.declared.token.Token.{Token}
use Rattle.sql_tokens.specs.declared.token.TokenKind.{TokenKind}
use Rattle.sql_tokens.specs.declared.token.TokenKind.TheVariants.{Word, Number, Quoted, Mark, Bad}
use Rattle.sql_tokens.specs.Tokens.{in_quotes}

-- every token takes at least one byte
abbrev pub AreInOrder : ℕ → List Token → ℕ → Type 0
AreInOrder from [] end = from ≤ end
AreInOrder from (token ∷ tokens) end = (from ≤ token.from) × (token.from < token.to) × AreInOrder token.to tokens end

abbrev pub Spells : List ℕ → TokenKind → List ℕ → Type 0
Spells spelling Word text = text ≡ map to_ascii_lowercase spelling
Spells spelling Number text = text ≡ spelling
Spells spelling Quoted text = spelling ≡ in_quotes text
Spells spelling Mark text = text ≡ spelling
Spells spelling Bad text = text ≡ spelling

abbrev pub IsSpelled : List ℕ → Token → Type 0
IsSpelled source token = Spells (slice_range source token.from token.to) token.kind token.text
