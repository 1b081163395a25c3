-- The ways with one more step, from what each row of its table binds.
use Rattle.std.proofs.Common.{◌≡◌, ◌++◌, List, map, ap, ◌∙◌}
use Rattle.std.proofs.Math.Path.{fun_ext}
use Rattle.std.specs.List.{flat_map}
use Rattle.std.proofs.lemmas.Simd.{map-map}
use Rattle.beas_core.specs.declared.schema.Access.{Access}
use Rattle.beas_core.specs.declared.plan.DStep.{DStep}
use Rattle.beas_core.specs.declared.plan.Normal.{Normal}
use Rattle.beas_core.specs.Types.{TableRows, Bindings}
use Rattle.beas_core.specs.Derivations.{table_of}
use Rattle.beas_core.specs.Valuations.{bindings_of, with_row_for}

pub with_step_is : (tables : TableRows) (normal : Normal) (accesses : List Access) (found : List Bindings) (s : DStep) (fetched ways : List Bindings)
    → fetched ≡ map (bindings_of normal accesses s) (tables (table_of normal s.atom)) → ways ≡ flat_map (λ way. map (λ row. way ++ row) fetched) found
    → ways ≡ with_row_for tables normal accesses found s
with_step_is tables normal accesses found s fetched ways e h =
    h
    ∙ ap (λ rs. flat_map (λ way. map (λ row. way ++ row) rs) found) e
    ∙ ap (λ f. flat_map f found) (fun_ext (λ way. map-map (λ row. way ++ row) (bindings_of normal accesses s) (tables (table_of normal s.atom))))
