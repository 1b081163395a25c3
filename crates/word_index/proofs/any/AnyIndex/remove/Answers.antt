use Rattle.std.proofs.Common.{◌++◌, ◌∷◌, ℕ, List, sym, subst}
use Rattle.beas_core.specs.declared.value.Value.{Value}
use Rattle.beas_core.specs.Groups.{member_columns}
use Rattle.access_index.specs.Index.{IsIndexOf}
use Rattle.word_index.specs.declared.any.AnyIndex.{AnyIndex}
use Rattle.code_index.specs.Reading.{CodeIndex, IsInOrderFor, Spells, read_index}
use Rattle.word_index.specs.Widths.{index_in}
use Rattle.word_index.proofs.any.AnyIndex.remove.Goals as goal

abbrev Fewer : CodeIndex → List ℕ → CodeIndex → Type 0
Fewer new row_codes index = (codes row : List Value) (front back : List (List Value)) → IsInOrderFor codes index
    → Spells codes (member_columns index.access) row_codes row → IsIndexOf (read_index codes index) (front ++ row ∷ back)
    → IsIndexOf (read_index codes new) (front ++ back)

pub returns-in-Zero-clause-rest : goal.returns-in-Zero-clause-rest
returns-in-Zero-clause-rest c =
    subst (λ (any : AnyIndex). Fewer c.remove.new.self c.args.row_codes.now (index_in any)) (sym c.in-Zero.is)
    c.remove.ensures.rest

pub returns-in-One-clause-rest : goal.returns-in-One-clause-rest
returns-in-One-clause-rest c =
    subst (λ (any : AnyIndex). Fewer c.remove-in-One.new.self c.args.row_codes.now (index_in any)) (sym c.in-One.is)
    c.remove-in-One.ensures.rest

pub returns-in-Two-clause-rest : goal.returns-in-Two-clause-rest
returns-in-Two-clause-rest c =
    subst (λ (any : AnyIndex). Fewer c.remove-in-Two.new.self c.args.row_codes.now (index_in any)) (sym c.in-Two.is)
    c.remove-in-Two.ensures.rest

pub returns-in-Three-clause-rest : goal.returns-in-Three-clause-rest
returns-in-Three-clause-rest c =
    subst (λ (any : AnyIndex). Fewer c.remove-in-Three.new.self c.args.row_codes.now (index_in any)) (sym c.in-Three.is)
    c.remove-in-Three.ensures.rest

pub returns-in-Four-clause-rest : goal.returns-in-Four-clause-rest
returns-in-Four-clause-rest c =
    subst (λ (any : AnyIndex). Fewer c.remove-in-Four.new.self c.args.row_codes.now (index_in any)) (sym c.in-Four.is)
    c.remove-in-Four.ensures.rest

pub returns-in-Long-clause-rest : goal.returns-in-Long-clause-rest
returns-in-Long-clause-rest c =
    subst (λ (any : AnyIndex). Fewer c.remove-in-Long.new.self c.args.row_codes.now (index_in any)) (sym c.in-Long.is)
    c.remove-in-Long.ensures.rest
