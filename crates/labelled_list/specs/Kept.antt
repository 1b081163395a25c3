-- The codes of a tuple, wherever they lie.
--     kept_codes kept      those of a kept tuple, short or long
--     IsKept kept          a short one has no more codes than stand in place
use Rattle.std.specs.Prelude.{⊤, ◌≡◌, ◌≤◌, ℕ, List, length, take}
use Rattle.labelled_list.specs.declared.codes.Kept.{Kept}
use Rattle.labelled_list.specs.declared.codes.Kept.TheVariants.{Short, Long}

abbrev pub kept_codes : Kept → List ℕ
kept_codes (Short len codes) = take len codes
kept_codes (Long codes) = codes.items

abbrev pub IsKept : Kept → Type 0
IsKept (Short len codes) = (len ≤ 4) × (length codes ≡ 4)
IsKept (Long codes) = ⊤
