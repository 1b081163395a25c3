-- Files in memory, and what a load of one is to answer.
--     content_of files name        the bytes of the first file with this name, if there is one
--     times names name             how often a name stands in a list
--     answer_within bytes limit    the bytes, or that they are more than the limit
--     answer_of content limit      the same, or a failure where there is no content
--     is_due files                 whether the next load was told to fail
--     next_answer files name limit what the next load is to answer where memory is there
use Rattle.std.specs.Prelude.{ℕ, Bool, List, Option, Some, None, Result, Ok, Err, length, bytes_eq, nat_eq, nat_lt, if◌then◌else◌}
use Rattle.std.specs.List.{find, count_by, list_any}
use Rattle.std.specs.Option.{option_map}
use Rattle.outside.specs.declared.files.FilesError.{FilesError}
use Rattle.outside.specs.declared.files.FilesError.TheVariants.{Failed, TooLong}
use Rattle.outside.specs.declared.shelf.Entry.{Entry}
use Rattle.outside.specs.declared.memory_files.MemoryFiles.{MemoryFiles}

abbrev pub content_of : List Entry → List ℕ → Option (List ℕ)
content_of files name = option_map (λ file. file.bytes) (find (λ file. bytes_eq file.name name) files)

abbrev pub times : List (List ℕ) → List ℕ → ℕ
times names name = count_by (λ n. bytes_eq n name) names

abbrev pub answer_within : List ℕ → ℕ → Result (List ℕ) FilesError
answer_within bytes limit = if nat_lt limit (length bytes) then Err (TooLong limit) else Ok bytes

abbrev pub answer_of : Option (List ℕ) → ℕ → Result (List ℕ) FilesError
answer_of None limit = Err Failed
answer_of (Some bytes) limit = answer_within bytes limit

abbrev pub is_due : MemoryFiles → Bool
is_due files = list_any (λ call. nat_eq call files.loads) files.failing

abbrev pub next_answer : MemoryFiles → List ℕ → ℕ → Result (List ℕ) FilesError
next_answer files name limit = if is_due files then Err Failed else answer_of (content_of files.shelf name) limit
