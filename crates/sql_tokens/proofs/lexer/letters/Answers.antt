use Rattle.std.proofs.Common.{◌≡◌, ◌++◌, ◌∷◌, [], List, ℕ, take, length, refl, ap, subst, sym, ◌∙◌}
use Rattle.std.specs.Prelude.{map, IsUtf8}
use Rattle.std.specs.Char.{to_ascii_lowercase}
use Rattle.std.proofs.lemmas.Str.{IsUtf8-from_ascii}
use Rattle.sql_tokens.proofs.Leads.{small-ascii}
use Rattle.sql_tokens.proofs.lexer.letters.Goals as goal

-- the letters stand first in the array
front : (word rest : List ℕ) → take (length word) (map to_ascii_lowercase (word ++ rest)) ≡ map to_ascii_lowercase word
front [] rest = refl
front (x ∷ word) rest = ap (λ (xs : List ℕ). to_ascii_lowercase x ∷ xs) (front word rest)

kept-is :
    (word copied rest kept : List ℕ) → kept ≡ map to_ascii_lowercase (copied ++ rest) → copied ≡ word →
    take (length word) kept ≡ map to_ascii_lowercase word
kept-is word copied rest kept e same =
    ap (take (length word)) (e ∙ ap (λ (xs : List ℕ). map to_ascii_lowercase (xs ++ rest)) same) ∙ front word rest

pub from_utf8_unchecked-small-requires : goal.from_utf8_unchecked-small-requires
from_utf8_unchecked-small-requires g c =
    let word = c.args.word.now in
    let same = kept-is word _ _ _ c.make_ascii_lowercase.ensures.after (c.copy_from_slice.ensures.after ∙ c.as_bytes.ensures.value) in
    subst IsUtf8 (sym same) (IsUtf8-from_ascii (map to_ascii_lowercase word) (small-ascii word c.requires.ascii))
