use Rattle.std.proofs.Common.{◌++◌, sym, subst}
use Rattle.std.proofs.lemmas.Result.{on_ok_weaker}
use Rattle.beas_core.specs.declared.schema.Access.{Access}
use Rattle.beas_core.specs.Groups.{member_columns}
use Rattle.access_index.specs.Index.{Index, IsIndexOf}
use Rattle.code_index.specs.Reading.{Spells}
use Rattle.word_index.specs.Widths.{index_in}
use Rattle.word_index.proofs.rows.add_row.Goals as goal

pub add-requires-clause-in_order : goal.add-requires-clause-in_order
add-requires-clause-in_order c = c.interned_row.ensures.kept.in_order (index_in c.args.index.now) c.requires.in_order

pub add-requires-clause-known : goal.add-requires-clause-known
add-requires-clause-known c =
    (subst (λ (a : Access). Spells c.interned_row.new.codes (member_columns a) c.interned_row.new.row_codes c.args.row.now) c.access.ensures
    c.in_ok-interned_row.ensures.spells).known

pub returns-in_err-interned_row-clause-in_order : goal.returns-in_err-interned_row-clause-in_order
returns-in_err-interned_row-clause-in_order c = c.interned_row.ensures.kept.in_order (index_in c.args.index.now) c.requires.in_order

pub returns-clause-ok : goal.returns-clause-ok
returns-clause-ok c =
    let spells = subst (λ (a : Access). Spells c.interned_row.new.codes (member_columns a) c.interned_row.new.row_codes c.args.row.now) c.access.ensures
    c.in_ok-interned_row.ensures.spells in
    on_ok_weaker c.add.result (λ ok front back is. ok c.args.row.now front back spells
    (subst (λ (i : Index). IsIndexOf i (front ++ back)) (sym (c.interned_row.ensures.kept.same (index_in c.args.index.now) c.requires.in_order)) is))
    c.add.ensures.ok
