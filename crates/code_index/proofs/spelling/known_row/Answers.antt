use Rattle.std.proofs.Common.{◌≡◌, ◌∙◌, ◌<◌, length, ap, refl, sym, subst, arith, get_or, length-set}
use Rattle.std.specs.Prelude.{pos}
use Rattle.std.proofs.lemmas.List.{get_or-map, length-map}
use Rattle.beas_core.specs.declared.value.Value.TheVariants.{Int}
use Rattle.beas_core.specs.declared.schema.ColumnId.{ColumnId}
use Rattle.beas_core.specs.Groups.{value_at, project, member_columns}
use Rattle.code_index.specs.Spelling.{HasCode}
use Rattle.code_index.proofs.Members.{members_long}
use Rattle.code_index.proofs.SpellingFacts.{found_code, no_code, all_coded_at, spelled, few_columns, written_next, narrow}
use Rattle.code_index.proofs.spelling.known_row.Goals as goal

pub overflow_add-i-end : goal.overflow_add-i-end
overflow_add-i-end c =
    let a = c.args.access.now in
    let keys = few_columns 64 a.key c.requires.key_once c.requires.key_columns in
    let fetched = few_columns 64 a.fetched c.requires.fetched_once c.requires.fetched_columns in
    omega (arith, keys, fetched, c.len.ensures, c.len-2.ensures)

pub loop-i-init : goal.loop-i-init
loop-i-init c = record { len = refl; right = λ j d l. absurd (omega (arith, l)) }

pub returns-in-None : goal.returns-in-None
returns-in-None c all =
    let a = c.args.access.now in
    let members = member_columns a in
    let row = c.args.row.now in
    let codes = c.args.codes.now in
    let i = c.loop-i.i in
    let column = c.column_at-column.result in
    let within : i < length members = omega (arith, c.loop-i-test.true, c.len.ensures, c.len-2.ensures, members_long a.key a.fetched) in
    let here : get_or (project members row) i (Int (pos 0)) ≡ value_at row column =
    get_or-map (value_at row) members i column (Int (pos 0)) within ∙ ap (value_at row) (sym c.column_at-column.ensures) in
    let coded = all_coded_at codes (project members row) i (Int (pos 0)) all (omega (arith, within, length-map members (value_at row))) in
    no_code codes (value_at row column) (sym c.known_code.ensures ∙ c.in-None.is) (subst (HasCode codes) here coded)

pub loop-i-preserved : goal.loop-i-preserved
loop-i-preserved c =
    let a = c.args.access.now in
    let members = member_columns a in
    let column = c.column_at-column.result in
    let within : c.loop-i.i < length members = omega (arith, c.loop-i-test.true, c.len.ensures, c.len-2.ensures, members_long a.key a.fetched) in
    let small : column.0 < 64 = subst (λ (x : ColumnId). x.0 < 64) (sym c.column_at-column.ensures) (narrow a c.requires c.loop-i.i column within) in
    record {
      len = length-set c.loop-i.row_codes column.0 c.in-Some.code ∙ c.loop-i.invariant.len;
      right = written_next c.args.codes.now c.loop-i.row_codes c.args.row.now members c.loop-i.i column c.in-Some.code within c.column_at-column.ensures
          (omega (arith, small, c.loop-i.invariant.len))
          (found_code c.args.codes.now (value_at c.args.row.now column) c.in-Some.code (sym c.known_code.ensures ∙ c.in-Some.is)) c.loop-i.invariant.right;
    }

pub returns : goal.returns
returns c =
    let a = c.args.access.now in
    spelled c.args.codes.now c.loop-i.row_codes c.args.row.now (member_columns a)
    (λ j d l. c.loop-i.invariant.right j d (omega (arith, l, c.loop-i-test.false, c.len.ensures, c.len-2.ensures, members_long a.key a.fetched)))
