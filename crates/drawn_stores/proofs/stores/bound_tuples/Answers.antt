use Rattle.std.proofs.Common.{◌≡◌, ◌^◌, ◌<◌, All, length, List, subst, sym}
use Rattle.std.proofs.lemmas.Result.{IfOk-weaker}
use Rattle.beas_core.specs.declared.value.Value.{Value}
use Rattle.name_resolution.specs.Binding.{bound_rows}
use Rattle.session.proofs.TupleFacts.{tuples_give_narrow}
use Rattle.drawn_stores.proofs.stores.bound_tuples.Goals as goal

pub returns-clause-narrow : goal.returns-clause-narrow
returns-clause-narrow c =
    let Narrow : List (List Value) → Type 0 = All (λ (row : List Value). length row < 2 ^ 32) in
    let tuples = c.args.tuples.now in
    IfOk-weaker c.bind_rows.result (λ (rows : List (List Value)). rows ≡ bound_rows tuples) Narrow
    (λ rows e. subst Narrow (sym e) (tuples_give_narrow tuples c.requires.narrow)) c.bind_rows.ensures.rows
