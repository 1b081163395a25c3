-- Texts made of parts, as bytes.
--     concatenation parts     the parts one after another
--     with_commas parts       the parts with a comma and a space between them
use Rattle.std.specs.Prelude.{ℕ, List, [], ◌∷◌, ◌++◌, codes}
use Rattle.std.specs.List.{flat_map}

abbrev pub concatenation : List (List ℕ) → List ℕ
concatenation [] = []
concatenation (part ∷ []) = part
concatenation (part ∷ next ∷ parts) = part ++ concatenation (next ∷ parts)

abbrev pub with_commas : List (List ℕ) → List ℕ
with_commas [] = []
with_commas (part ∷ parts) = part ++ flat_map (λ other. codes ", " ++ other) parts
