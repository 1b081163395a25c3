-- The bytes of a text, wherever they lie.
--     kept_bytes      those of a kept text, short or long
use Rattle.std.specs.Prelude.{ℕ, List, string_bytes}
use Rattle.beas_core.specs.declared.text.Kept.{Kept}
use Rattle.beas_core.specs.declared.text.Kept.TheVariants.{Short, Long}

abbrev pub kept_bytes : Kept → List ℕ
kept_bytes (Short short) = short.bytes
kept_bytes (Long long) = string_bytes long
