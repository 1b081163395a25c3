use Rattle.std.proofs.Common.{◌≡◌, ◌^◌, ◌<◌, All, length, List, ap, subst, sym, arith}
use Rattle.std.proofs.lemmas.Result.{IfOk-weaker}
use Rattle.beas_core.specs.declared.value.Value.{Value}
use Rattle.csv_load.specs.CsvRows.{rows_in}
use Rattle.session.proofs.FileFacts.{file_gives_few, file_gives_narrow}
use Rattle.session.proofs.changes.rows_in_file.Goals as goal

pub returns-clause-few : goal.returns-clause-few
returns-clause-few c =
    let limits = c.args.limits.now in
    let columns = c.columns_of.result.now in
    let bytes = c.as_slice.result.now in
    IfOk-weaker c.rows_of.result (λ (rows : List (List Value)). rows ≡ rows_in limits.text columns bytes) (λ (rows : List (List Value)). length rows < 2 ^ 32)
    (λ rows e. omega (arith, ap length e, file_gives_few limits.text columns bytes, c.requires.short, limits.file_in_range.1, ap length c.as_slice.ensures))
    c.rows_of.ensures.rows

pub returns-clause-narrow : goal.returns-clause-narrow
returns-clause-narrow c =
    let limits = c.args.limits.now in
    let columns = c.columns_of.result.now in
    let bytes = c.as_slice.result.now in
    let Narrow : List (List Value) → Type 0 = All (λ (row : List Value). length row < 2 ^ 32) in
    IfOk-weaker c.rows_of.result (λ (rows : List (List Value)). rows ≡ rows_in limits.text columns bytes) Narrow
    (λ rows e. subst Narrow (sym e) (file_gives_narrow limits.text columns bytes (omega (arith, c.columns_of.ensures.few)))) c.rows_of.ensures.rows
