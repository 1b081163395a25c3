-- What a call came to, as a number.
use Rattle.std.specs.Prelude.{ℤ, pos, Result, Ok, Err}
use Rattle.beas_library.specs.declared.pieces.Why.{Why}
use Rattle.beas_library.specs.declared.pieces.Why.TheVariants.{TooLong, NotText, NoStatement, Several, NotAQuery, NoMemory}

abbrev pub done : ℤ
done = pos 0

abbrev pub closed : ℤ
closed = pos 1

abbrev pub no_memory : ℤ
no_memory = pos 2

abbrev pub no_room : ℤ
no_room = pos 3

abbrev pub too_long : ℤ
too_long = pos 4

abbrev pub not_text : ℤ
not_text = pos 5

abbrev pub no_statement : ℤ
no_statement = pos 6

abbrev pub several : ℤ
several = pos 7

abbrev pub not_a_query : ℤ
not_a_query = pos 8

abbrev pub absent : ℤ
absent = pos 9

abbrev pub bad_limit : ℤ
bad_limit = pos 10

abbrev pub status_of : Result (Unit {0}) Why → ℤ
status_of (Ok done_it) = done
status_of (Err TooLong) = too_long
status_of (Err NotText) = not_text
status_of (Err NoStatement) = no_statement
status_of (Err Several) = several
status_of (Err NotAQuery) = not_a_query
status_of (Err NoMemory) = no_memory
