-- A word GROUP among tokens with their places, and among what they are.
use Rattle.std.proofs.Common.{◌≡◌, List, [], ◌∷◌, refl, ap}
use Rattle.std.specs.Prelude.{◌||◌}
use Rattle.std.specs.List.{list_any}
use Rattle.sql_tokens.specs.declared.token.Token.{Token}
use Rattle.sql_text.specs.Symbols.{symbols}
use Rattle.token_reader.specs.Reading.{is_group, has_group}

pub any_group : (tokens : List Token) → has_group (symbols tokens) ≡ list_any is_group tokens
unfolding has_group
any_group [] = refl
any_group (t ∷ ts) = ap (λ b. is_group t || b) (any_group ts)
