use Rattle.std.proofs.Common.{◌≡◌, map}
use Rattle.std.specs.List.{filter, list_any, range_with_len}
use Rattle.beas_core.specs.Classes.{same_place, used_places}
use Rattle.reference_normal_form.proofs.needed.needed_columns.Given as goal

abbrev pub invariant-loop-column : goal.invariant-loop-column
invariant-loop-column l = l.columns
    ≡ map (λ c. record { 0 = c }) (filter (λ c. list_any (same_place (record { atom = l.atom; column = record { 0 = c } })) (used_places l.block))
    (range_with_len 0 l.column))
