-- What is added to a text in turn.
use Rattle.std.proofs.Common.{◌≡◌, ◌++◌, ◌∙◌, List, ap, append_assoc}
use Rattle.json.specs.Token.{Token}
use Rattle.json.specs.Tree.{json_tokens}
use Rattle.beas_core.specs.declared.schema.Column.{Column}
use Rattle.beas_core.specs.declared.schema.ColumnId.{ColumnId}
use Rattle.plan_data.specs.PlanValue.{columns_value}

-- what is added after something is added after both
pub added : {A : Type 0} (a : List A) {b c : List A} (ts us : List A) → b ≡ a ++ ts → c ≡ b ++ us → c ≡ a ++ (ts ++ us)
added a ts us first second = second ∙ ap (λ x. x ++ us) first ∙ append_assoc a ts us

-- the same columns have the same names
pub columns_same : (out : List Token) {after : List Token} (cs ds : List Column) (is js : List ColumnId) → cs ≡ ds → is ≡ js
    → after ≡ out ++ json_tokens (columns_value cs is) → after ≡ out ++ json_tokens (columns_value ds js)
columns_same out cs ds is js c i written =
    written ∙ ap (λ x. out ++ json_tokens (columns_value x is)) c ∙ ap (λ x. out ++ json_tokens (columns_value ds x)) i
