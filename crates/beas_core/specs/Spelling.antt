-- What texts spell: identifiers, and numbers within a range.
--     is_name text       the text is an identifier in lower case: a word that isn't reserved
--     name_of text       the text in lower case, where it is an identifier
--     number_within least most digits    the value of decimal digits alone, where it is from least to most
--     limit_in digits    the bound of a constraint: a number from 1 to 4294967295
use Rattle.std.specs.Prelude.{◌&&◌, ◌||◌, ◌==◌, Bool, not, if◌then◌else◌, nat_le, ℕ, List, [], ◌∷◌, length, codes, Option, Some, None, slice_index}
use Rattle.std.specs.List.{list_any, list_all}
use Rattle.std.specs.Char.{is_ascii_digit, is_ascii_alphabetic, is_ascii_uppercase}
use Rattle.std.specs.Str.{str_to_ascii_lowercase, bytes_eq}
use Rattle.std.specs.Str.Parse.{digits_value}

abbrev pub begins_word : ℕ → Bool
begins_word c = is_ascii_alphabetic c || (c == 95)

abbrev pub continues_word : ℕ → Bool
continues_word c = begins_word c || is_ascii_digit c

abbrev pub is_word : List ℕ → Bool
is_word text = begins_word (slice_index text 0) && list_all continues_word text && nat_le (length text) 64

unfoldable pub reserved_words : List (List ℕ)
reserved_words =
    codes "access" ∷ codes "all" ∷ codes "and" ∷ codes "as" ∷ codes "between" ∷ codes "by" ∷ codes "case" ∷ codes "create" ∷ codes "cross"
    ∷ codes "delete" ∷ codes "discover" ∷ codes "distinct" ∷ codes "drop" ∷ codes "except" ∷ codes "exists" ∷ codes "explain" ∷ codes "fetch"
    ∷ codes "from" ∷ codes "full" ∷ codes "group" ∷ codes "having" ∷ codes "in" ∷ codes "inner" ∷ codes "insert" ∷ codes "int" ∷ codes "integer"
    ∷ codes "intersect" ∷ codes "into" ∷ codes "is" ∷ codes "join" ∷ codes "left" ∷ codes "like" ∷ codes "limit" ∷ codes "load" ∷ codes "natural"
    ∷ codes "not" ∷ codes "null" ∷ codes "offset" ∷ codes "on" ∷ codes "or" ∷ codes "order" ∷ codes "outer" ∷ codes "right" ∷ codes "select"
    ∷ codes "table" ∷ codes "text" ∷ codes "union" ∷ codes "using" ∷ codes "values" ∷ codes "where" ∷ codes "with" ∷ []

-- the words that are no names, in lower case
unfoldable pub is_reserved : List ℕ → Bool
is_reserved word = list_any (λ r. bytes_eq r word) reserved_words

-- no letter is a capital
abbrev pub is_folded : List ℕ → Bool
is_folded text = not (list_any is_ascii_uppercase text)

unfoldable pub is_name : List ℕ → Bool
is_name text = is_word text && is_folded text && not (is_reserved text)

abbrev pub name_of : List ℕ → Option (List ℕ)
name_of text = if is_word text && not (is_reserved (str_to_ascii_lowercase text)) then Some (str_to_ascii_lowercase text) else None

-- the value of decimal digits, at least one, where it lies within a range
abbrev pub number_within : ℕ → ℕ → List ℕ → Option ℕ
number_within least most digits =
    if nat_le 1 (length digits) && list_all is_ascii_digit digits && nat_le least (digits_value 10 digits) && nat_le (digits_value 10 digits) most
    then Some (digits_value 10 digits) else None

abbrev pub limit_in : List ℕ → Option ℕ
limit_in digits = number_within 1 4294967295 digits
