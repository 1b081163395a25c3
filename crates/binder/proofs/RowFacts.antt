-- One literal more of a row.
use Rattle.std.proofs.Common.{◌≡◌, ℕ, ◌+◌, ◌<◌, List, [], ◌∷◌, ◌++◌, length, take, get_or, ap, sym, ◌∙◌, Some}
use Rattle.std.specs.List.{cons_option}
use Rattle.std.proofs.lemmas.List.{take_more}
use Rattle.std.proofs.lemmas.List.Elements.{filter_map-append}
use Rattle.beas_core.specs.declared.value.Value.{Value}
use Rattle.sql_text.specs.declared.tree.Literal.{Literal}
use Rattle.name_resolution.specs.Binding.{value_of, bound_row}
use Rattle.name_resolution.specs.Meanings.{literal_meaning}

pub row_to : (literals : List Literal) (i : ℕ) (literal : Literal) (value : Value) → i < length literals → literal ≡ get_or literals i literal
    → value_of (literal_meaning literal) ≡ Some value → bound_row (take i literals) ++ value ∷ [] ≡ bound_row (take (i + 1) literals)
row_to literals i literal value below is has =
    sym (ap bound_row (take_more literals i literal below ∙ ap (λ l. take i literals ++ l ∷ []) (sym is))
    ∙ filter_map-append (λ l. value_of (literal_meaning l)) (take i literals) (literal ∷ [])
    ∙ ap (λ o. bound_row (take i literals) ++ cons_option o []) has)
