-- Reading single tokens from left to right: what is read from the front of the tokens, and the tokens after it.
use Rattle.std.specs.Prelude.{◌≡◌, ℕ, if◌then◌else◌, Bool, true, false, List, [], ◌∷◌, codes, bytes_eq, Option, Some, None, Result, Ok, Err}
use Rattle.std.specs.List.{list_any}
use Rattle.beas_core.specs.declared.query.Sign.{Sign}
use Rattle.beas_core.specs.declared.query.Sign.TheVariants.{Equal, Differs, Less, AtMost, More, AtLeast}
use Rattle.beas_core.specs.Spelling.{is_name}
use Rattle.sql_tokens.specs.declared.token.Token.{Token}
use Rattle.sql_text.specs.Symbols.{Symbol, symbol_of, word, number, quoted, mark, is_word}
use Rattle.token_reader.specs.declared.reader.ReadError.{ReadError}
use Rattle.token_reader.specs.declared.reader.ReadError.TheVariants as errors

infixl 10 ◌>>=◌
abbrev pub ◌>>=◌ : {A B : Type 0} → Option A → (A → Option B) → Option B
(Some x) >>= f = f x
None >>= f = None

-- What a call answered, and the tokens that it left, are what reading gives, unless memory ran out.
abbrev pub GivesWithRest : {X : Type 0} → Result X ReadError → List Symbol → Option (X × List Symbol) → Type 0
GivesWithRest (Ok x) rest read = read ≡ Some (x, rest)
GivesWithRest (Err errors.Syntax) rest read = read ≡ None
GivesWithRest (Err errors.NoMemory) rest read = Unit {0}

-- The same of a call that answers nothing.
abbrev pub Passes : {X : Type 0} → Result X ReadError → List Symbol → Option (List Symbol) → Type 0
Passes (Ok x) rest read = read ≡ Some rest
Passes (Err errors.Syntax) rest read = read ≡ None
Passes (Err errors.NoMemory) rest read = Unit {0}

abbrev pub same : Symbol → Symbol → Bool
same (word a) (word b) = bytes_eq a b
same (mark a) (mark b) = bytes_eq a b
same _ _ = false

unfoldable pub starts : Symbol → List Symbol → Bool
starts symbol [] = false
starts symbol (first ∷ rest) = same symbol first

unfoldable pub rest_of : List Symbol → List Symbol
rest_of [] = []
rest_of (first ∷ rest) = rest

-- whether all of these stand at the front, so that a word that is also a name is told from it by the token after it
unfoldable pub begins_with : List Symbol → List Symbol → Bool
begins_with [] tokens = true
begins_with (symbol ∷ symbols) tokens = if starts symbol tokens then begins_with symbols (rest_of tokens) else false

unfoldable pub after_all : List Symbol → List Symbol → List Symbol
after_all [] tokens = tokens
after_all (symbol ∷ symbols) tokens = after_all symbols (rest_of tokens)

abbrev pub expect : Symbol → List Symbol → Option (List Symbol)
expect symbol tokens = if starts symbol tokens then Some (rest_of tokens) else None

unfoldable pub read_id : List Symbol → Option (List ℕ × List Symbol)
read_id (word n ∷ rest) = if is_name n then Some (n, rest) else None
read_id _ = None

-- whether an identifier is next
unfoldable pub starts_id : List Symbol → Bool
starts_id (word n ∷ rest) = is_name n
starts_id _ = false

unfoldable pub read_number : List Symbol → Option (List ℕ × List Symbol)
read_number (number n ∷ rest) = Some (n, rest)
read_number _ = None

unfoldable pub read_quoted : List Symbol → Option (List ℕ × List Symbol)
read_quoted (quoted n ∷ rest) = Some (n, rest)
read_quoted _ = None

-- whether a text between quotes is next
unfoldable pub starts_quoted : List Symbol → Bool
starts_quoted (quoted t ∷ rest) = true
starts_quoted _ = false

unfoldable pub sign_of : List ℕ → Option Sign
sign_of text =
    if bytes_eq (codes "=") text then Some Equal
    else if bytes_eq (codes "<>") text then Some Differs
    else if bytes_eq (codes "!=") text then Some Differs
    else if bytes_eq (codes "<") text then Some Less
    else if bytes_eq (codes "<=") text then Some AtMost
    else if bytes_eq (codes ">") text then Some More
    else if bytes_eq (codes ">=") text then Some AtLeast else None

unfoldable pub read_sign : List Symbol → Option (Sign × List Symbol)
read_sign (mark text ∷ rest) = sign_of text >>= λ sign. Some (sign, rest)
read_sign _ = None

abbrev pub is_group : Token → Bool
is_group token = is_word (codes "group") (symbol_of token.kind token.text)

-- whether a word GROUP is among the tokens: no query has one
unfoldable pub has_group : List Symbol → Bool
has_group tokens = list_any (is_word (codes "group")) tokens
