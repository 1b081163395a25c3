-- Words in lower case.
--     goes_on_folded c         a letter, not a capital, `_` or a digit
--     is_folded_word text      a word without capitals
use Rattle.std.specs.Prelude.{◌&&◌, Bool, not, nat_le, ℕ, List, length, slice_index}
use Rattle.std.specs.List.{list_all}
use Rattle.std.specs.Char.{is_ascii_uppercase}
use Rattle.beas_core.specs.Spelling.{begins_word, continues_word}

abbrev pub goes_on_folded : ℕ → Bool
goes_on_folded c = continues_word c && not (is_ascii_uppercase c)

abbrev pub is_folded_word : List ℕ → Bool
is_folded_word text = begins_word (slice_index text 0) && list_all goes_on_folded text && nat_le (length text) 64
