-- Lexemes that can be read back from their text.
use Rattle.std.proofs.Common.{ℕ, List, [], ◌∷◌, ◌++◌}
use Rattle.std.specs.Prelude.{codes, map}
use Rattle.std.specs.Char.{to_ascii_lowercase}
use Rattle.sql_text.specs.Canonical.{Lexeme, keyword, name, digits, content, sign}
use Rattle.sql_text.specs.Symbols.{Symbol, word, number, quoted, mark}
use Rattle.beas_laws.proofs.Lexicals.{IsWordText, IsNameText, IsDigitText}

abbrev pub symbol : Lexeme → Symbol
symbol (keyword text) = word (map to_ascii_lowercase text)
symbol (name text) = word text
symbol (digits text) = number text
symbol (content text) = quoted text
symbol (sign text) = mark text

-- a mark that the printer writes, but the minus
pub data IsMarkText : List ℕ → Type 0 where
  open_mark : IsMarkText (codes "(")
  close_mark : IsMarkText (codes ")")
  comma_mark : IsMarkText (codes ",")
  point_mark : IsMarkText (codes ".")
  star_mark : IsMarkText (codes "*")
  equal_mark : IsMarkText (codes "=")
  differs_mark : IsMarkText (codes "<>")
  less_mark : IsMarkText (codes "<")
  at_most_mark : IsMarkText (codes "<=")
  more_mark : IsMarkText (codes ">")
  at_least_mark : IsMarkText (codes ">=")

-- a minus stands only before digits
pub data AreClean : List Lexeme → Type 0 where
  none : AreClean []
  keyword_then : {text : List ℕ} {rest : List Lexeme} → IsWordText text → AreClean rest → AreClean (keyword text ∷ rest)
  name_then : {text : List ℕ} {rest : List Lexeme} → IsNameText text → AreClean rest → AreClean (name text ∷ rest)
  digits_then : {text : List ℕ} {rest : List Lexeme} → IsDigitText text → AreClean rest → AreClean (digits text ∷ rest)
  minus_then : {text : List ℕ} {rest : List Lexeme} → IsDigitText text → AreClean rest → AreClean (sign (codes "-") ∷ digits text ∷ rest)
  content_then : {text : List ℕ} {rest : List Lexeme} → AreClean rest → AreClean (content text ∷ rest)
  sign_then : {text : List ℕ} {rest : List Lexeme} → IsMarkText text → AreClean rest → AreClean (sign text ∷ rest)

pub clean-append : {xs ys : List Lexeme} → AreClean xs → AreClean ys → AreClean (xs ++ ys)
clean-append none other = other
clean-append (keyword_then h c) other = keyword_then h (clean-append c other)
clean-append (name_then h c) other = name_then h (clean-append c other)
clean-append (digits_then h c) other = digits_then h (clean-append c other)
clean-append (minus_then h c) other = minus_then h (clean-append c other)
clean-append (content_then c) other = content_then (clean-append c other)
clean-append (sign_then h c) other = sign_then h (clean-append c other)
