-- A writer of csv that has part of an answer's records.
--     any_width                                   csv's default settings, but that records may differ in width
--     HasWritten contents writer before fields    it has written `before`, which is text, and then these fields of a record that goes on
use Rattle.std.specs.Prelude.{◌≡◌, ◌==◌, ◌||◌, ◌&&◌, true, not, ℕ, List, ◌++◌, length, Option, Some, IsUtf8}
use Rattle.csv.specs.declared.writer.Writer.{Writer}
use Rattle.csv.specs.declared.writer.WriterBuilder.{WriterBuilder}
use Rattle.csv.specs.Writing.{default_writer, with_flexible, is_blank, row_body, writer_setup, fields_written, has_written, text_written}

abbrev pub any_width : WriterBuilder
any_width = with_flexible default_writer true

-- `contents` is what is known of the bytes underneath; `blank` says that the writer will tell a record that shows no byte
pub record HasWritten {W : Type 0} (contents : W → Option (List ℕ)) (writer : Writer W) (before : List ℕ) (fields : List (List ℕ)) : Type 0 where
  pub setup : writer_setup writer ≡ any_width
  pub count : fields_written writer ≡ length fields
  pub blank : is_blank any_width fields ≡ (not (has_written writer) && ((length fields == 0) || (length fields == 1)))
  pub bytes : text_written contents writer ≡ Some (before ++ row_body any_width fields)
  pub text : IsUtf8 (before ++ row_body any_width fields)
