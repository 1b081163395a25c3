-- What a reader over a text has left.
--     left_of reader       the records that it has still to give
--     IsPlain reader       it reads with the default settings, widths may differ, and no record is a header to it
--     weight records       their fields, a record without fields counted as one
use Rattle.std.specs.Prelude.{◌≡◌, ◌+◌, if◌then◌else◌, ℕ, max, true, false, List, [], ◌∷◌, length, Some, unwrap_or}
use Rattle.std.proofs.Common.{Bor}
use Rattle.csv.specs.Reading.{default_config, has_failed, is_flexible, Ready, reader_config, reader_state, reader_trim, records_from, source_of}
use Rattle.csv.specs.declared.reader.Reader.{Reader}
use Rattle.csv.specs.declared.reader.Trim.TheVariants as trim
use Rattle.csv_load.specs.CsvRows.{Record}

abbrev pub bytes_left : Reader (Bor (List ℕ)) → List ℕ
bytes_left reader = unwrap_or (source_of (λ rest. Some rest.now) reader) []

-- a reader that has failed gives no more
unfoldable pub left_of : Reader (Bor (List ℕ)) → List Record
left_of reader =
    if has_failed reader then []
    else records_from default_config (length (bytes_left reader) + 1) (reader_state reader) (bytes_left reader)

pub record IsPlainSetup (reader : Reader (Bor (List ℕ))) : Type 0 where
  pub config : reader_config reader ≡ default_config
  pub trim : reader_trim reader ≡ trim.None
  pub flexible : is_flexible reader ≡ true
  pub ready : Ready reader

abbrev pub IsPlain : Reader (Bor (List ℕ)) → Type 0
IsPlain reader = has_failed reader ≡ false → IsPlainSetup reader

-- how many records and fields there are, each record counted at least once
abbrev pub weight : List Record → ℕ
weight [] = 0
weight (fields ∷ records) = max 1 (length fields) + weight records
