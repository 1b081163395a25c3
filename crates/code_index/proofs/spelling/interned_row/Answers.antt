use Rattle.std.proofs.Common.{◌∙◌, ◌<◌, rules, length, sym, subst, arith, get_or, length-set}
use Rattle.beas_core.specs.declared.schema.ColumnId.{ColumnId}
use Rattle.beas_core.specs.Groups.{value_at, member_columns}
use Rattle.code_index.specs.Reading.{row_code}
use Rattle.code_index.proofs.Growth.{kept_codes}
use Rattle.code_index.proofs.Members.{members_long}
use Rattle.code_index.proofs.SpellingFacts.{found_code, spelled, few_columns, written_next, narrow, code_stays, kept_twice}
use Rattle.code_index.proofs.spelling.interned_row.Goals as goal

pub overflow_add-i-end : goal.overflow_add-i-end
overflow_add-i-end c =
    let a = c.args.access.now in
    let keys = few_columns 64 a.key c.requires.key_once c.requires.key_columns in
    let fetched = few_columns 64 a.fetched c.requires.fetched_once c.requires.fetched_columns in
    omega (arith, keys, fetched, c.len.ensures, c.len-2.ensures)

pub loop-i-init : goal.loop-i-init
loop-i-init c = record { len = search rules; kept = kept_codes c.args.codes.now; right = λ j d l. absurd (omega (arith, l)) }

pub returns-in_err-row_codes-clause-kept : goal.returns-in_err-row_codes-clause-kept
returns-in_err-row_codes-clause-kept c =
    kept_twice c.args.codes.now c.loop-i.codes c.interned_in.new.codes c.loop-i.invariant.kept c.interned_in.ensures.kept

pub loop-i-preserved : goal.loop-i-preserved
loop-i-preserved c =
    let a = c.args.access.now in
    let members = member_columns a in
    let column = c.column_at-column.result in
    let within : c.loop-i.i < length members = omega (arith, c.loop-i-test.true, c.len.ensures, c.len-2.ensures, members_long a.key a.fetched) in
    let small : column.0 < 64 = subst (λ (x : ColumnId). x.0 < 64) (sym c.column_at-column.ensures) (narrow a c.requires c.loop-i.i column within) in
    let more = c.interned_in.new.codes in
    record {
      len = length-set c.loop-i.row_codes column.0 c.in_ok-row_codes.field-0 ∙ c.loop-i.invariant.len;
      kept = kept_twice c.args.codes.now c.loop-i.codes more c.loop-i.invariant.kept c.interned_in.ensures.kept;
      right = written_next more c.loop-i.row_codes c.args.row.now members c.loop-i.i column c.in_ok-row_codes.field-0 within c.column_at-column.ensures
          (omega (arith, small, c.loop-i.invariant.len))
          (found_code more (value_at c.args.row.now column) c.in_ok-row_codes.field-0 c.in_ok-row_codes.ensures.code)
          (λ j d l. code_stays c.loop-i.codes more c.interned_in.ensures.kept (row_code c.loop-i.row_codes (get_or members j d))
          (value_at c.args.row.now (get_or members j d)) (c.loop-i.invariant.right j d l));
    }

pub returns-clause-kept : goal.returns-clause-kept
returns-clause-kept c = c.loop-i.invariant.kept

pub returns-clause-spells : goal.returns-clause-spells
returns-clause-spells c =
    let a = c.args.access.now in
    spelled c.loop-i.codes c.loop-i.row_codes c.args.row.now (member_columns a)
    (λ j d l. c.loop-i.invariant.right j d (omega (arith, l, c.loop-i-test.false, c.len.ensures, c.len-2.ensures, members_long a.key a.fetched)))
