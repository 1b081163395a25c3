-- A sink that takes no more than a total of bytes, where it was told one.
--     part_taken total sent bytes      the part of the bytes that it takes after those sent
--     put_answer total sent bytes      success where that is all of them, else a failure
use Rattle.std.specs.Prelude.{◌-◌, ℕ, List, Option, Some, None, Result, Ok, Err, length, take, nat_lt, if◌then◌else◌}
use Rattle.outside.specs.declared.sink.SinkError.{SinkError}
use Rattle.outside.specs.declared.sink.SinkError.TheVariants.{Failed}

abbrev pub part_taken : Option ℕ → List ℕ → List ℕ → List ℕ
part_taken None sent bytes = bytes
part_taken (Some total) sent bytes = take (total - length sent) bytes

abbrev pub put_answer : Option ℕ → List ℕ → List ℕ → Result (Unit {0}) SinkError
put_answer total sent bytes = if nat_lt (length (part_taken total sent bytes)) (length bytes) then Err Failed else Ok tt
