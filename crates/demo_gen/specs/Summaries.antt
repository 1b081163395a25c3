-- The one line that a demonstration ends with.
--     totals_of outcomes      what is counted of its statements
--     summary_text totals     the line, as bytes
use Rattle.std.specs.Prelude.{◌-◌, ◌^◌, ℕ, Bool, true, false, List, [], ◌∷◌, length, map, max, min, codes, decimal, count_by, fold}
use Rattle.std.specs.List.{sum_by}
use Rattle.demo_gen.specs.declared.summary.Outcome.{Outcome}
use Rattle.demo_gen.specs.declared.summary.Outcome.TheVariants.{Answered, Other, Refused}
use Rattle.beas_core.specs.Texts.{concatenation}

abbrev pub is_refused : Outcome → Bool
is_refused Refused = true
is_refused Other = false
is_refused (Answered rows reads bound) = false

-- what a statement adds: rows of its answer, reads, and the number announced, of a query that was answered alone
abbrev pub rows_in : Outcome → ℕ
rows_in Refused = 0
rows_in Other = 0
rows_in (Answered rows reads bound) = rows

abbrev pub reads_in : Outcome → ℕ
reads_in Refused = 0
reads_in Other = 0
reads_in (Answered rows reads bound) = reads

abbrev pub bound_in : Outcome → ℕ
bound_in Refused = 0
bound_in Other = 0
bound_in (Answered rows reads bound) = bound

pub record Totals : Type 0 where
  pub statements : ℕ
  pub refused : ℕ
  pub rows : ℕ
  pub reads : ℕ
  pub bound : ℕ

-- reads past 128 bits are shown as the greatest number that has them, and the greatest announced number is 0 where no query was answered
abbrev pub totals_of : List Outcome → Totals
totals_of outcomes = record {
  statements = length outcomes;
  refused = count_by is_refused outcomes;
  rows = sum_by rows_in outcomes;
  reads = min (sum_by reads_in outcomes) (2 ^ 128 - 1);
  bound = fold max 0 (map bound_in outcomes);
}

unfoldable pub summary_text : Totals → List ℕ
summary_text totals = concatenation (
    codes "statements " ∷ decimal totals.statements ∷ codes " refused " ∷ decimal totals.refused
    ∷ codes " rows " ∷ decimal totals.rows ∷ codes " reads " ∷ decimal totals.reads
    ∷ codes " greatest bound " ∷ decimal totals.bound ∷ codes "\n" ∷ [])
