use Rattle.std.proofs.Common.{◌≡◌, ◌==◌, ◌+◌, length, get_or, ap, sym, ◌∙◌}
use Rattle.std.specs.Prelude.{Some, None, position}
use Rattle.beas_core.specs.declared.schema.ColumnId.{ColumnId}
use Rattle.code_index.proofs.ColumnFacts.{place_in_key, place_after_key, no_place}
use Rattle.code_index.proofs.codes.column_position.Goals as goal

pub returns-in-Some-clause-code : goal.returns-in-Some-clause-code
returns-in-Some-clause-code c =
    let access = c.args.access.now in
    let is = λ (other : ColumnId). other.0 == c.args.column.0 in
    let found : Some c.in-Some.at ≡ position is access.key = c.in-Some.ensures ∙ ap (position is) c.as_slice-key.ensures in
    (place_in_key access.key access.fetched c.args.column c.in-Some.at found).code

pub unreachable-requires : goal.unreachable-requires
unreachable-requires c =
    let access = c.args.access.now in
    let is = λ (other : ColumnId). other.0 == c.args.column.0 in
    let none : None ≡ position is access.key = c.in_default.ensures ∙ ap (position is) c.as_slice-key.ensures in
    let none_after : None ≡ position is access.fetched = c.in-None.ensures ∙ ap (position is) c.as_slice-fetched.ensures in
    no_place access.key access.fetched c.args.column c.requires none none_after

pub returns-clause-code : goal.returns-clause-code
returns-clause-code c =
    let access = c.args.access.now in
    let at = c.in-Some-position_among.at in
    let is = λ (other : ColumnId). other.0 == c.args.column.0 in
    let none : None ≡ position is access.key = c.in_default.ensures ∙ ap (position is) c.as_slice-key.ensures in
    let found : Some at ≡ position is access.fetched = c.in-Some-position_among.ensures ∙ ap (position is) c.as_slice-fetched.ensures in
    λ tuple w.
    (place_after_key access.key access.fetched c.args.column at none found).code tuple w
    ∙ ap (λ keys. get_or tuple (length keys + at) 0) (sym c.as_slice-key.ensures)
