use Rattle.std.proofs.Common.{◌≡◌, [], ℕ, List, map, sym, subst}
use Rattle.std.specs.Prelude.{Option, MatchOption}
use Rattle.beas_core.specs.declared.value.Value.{Value}
use Rattle.beas_core.specs.Groups.{group_of}
use Rattle.access_index.specs.Index.{IsIndexOf}
use Rattle.word_index.specs.declared.any.AnyIndex.{AnyIndex}
use Rattle.code_index.specs.Reading.{CodeIndex, IsInOrderFor, AllKnown, read, read_index, codes_at}
use Rattle.word_index.specs.Widths.{index_in}
use Rattle.word_index.proofs.any.AnyIndex.find.Goals as goal

abbrev Finds : Option (ℕ × ℕ) → List ℕ → CodeIndex → Type 0
Finds found key index = (codes : List Value) (rows : List (List Value)) → IsInOrderFor codes index → AllKnown codes key → IsIndexOf (read_index codes index) rows
    → MatchOption found (group_of rows index.access (read codes key) ≡ [])
    (λ place. map (read codes) (codes_at index place.0) ≡ group_of rows index.access (read codes key))

pub returns-in-Zero-clause-group : goal.returns-in-Zero-clause-group
returns-in-Zero-clause-group c = subst (λ (any : AnyIndex). Finds c.find.result c.args.key.now (index_in any)) (sym c.in-Zero.is) c.find.ensures.group

pub returns-in-One-clause-group : goal.returns-in-One-clause-group
returns-in-One-clause-group c = subst (λ (any : AnyIndex). Finds c.find-in-One.result c.args.key.now (index_in any)) (sym c.in-One.is) c.find-in-One.ensures.group

pub returns-in-Two-clause-group : goal.returns-in-Two-clause-group
returns-in-Two-clause-group c = subst (λ (any : AnyIndex). Finds c.find-in-Two.result c.args.key.now (index_in any)) (sym c.in-Two.is) c.find-in-Two.ensures.group

pub returns-in-Three-clause-group : goal.returns-in-Three-clause-group
returns-in-Three-clause-group c = subst (λ (any : AnyIndex). Finds c.find-in-Three.result c.args.key.now (index_in any)) (sym c.in-Three.is) c.find-in-Three.ensures.group

pub returns-in-Four-clause-group : goal.returns-in-Four-clause-group
returns-in-Four-clause-group c = subst (λ (any : AnyIndex). Finds c.find-in-Four.result c.args.key.now (index_in any)) (sym c.in-Four.is) c.find-in-Four.ensures.group

pub returns-in-Long-clause-group : goal.returns-in-Long-clause-group
returns-in-Long-clause-group c = subst (λ (any : AnyIndex). Finds c.find-in-Long.result c.args.key.now (index_in any)) (sym c.in-Long.is) c.find-in-Long.ensures.group
