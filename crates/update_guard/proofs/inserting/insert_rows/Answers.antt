use Rattle.std.proofs.Common.{◌≡◌, ◌∙◌, ◌+◌, ◌++◌, [], length, get_or, ap, sym, subst, set, arith, Option, None}
use Rattle.std.specs.Prelude.{nat_lt}
use Rattle.std.specs.Option.{option_or}
use Rattle.beas_core.specs.declared.refusal.Refusal.{Refusal}
use Rattle.beas_core.specs.declared.refusal.Refusal.TheVariants.{TooMany}
use Rattle.beas_core.specs.declared.refusal.Counted.TheVariants.{Rows}
use Rattle.beas_core.specs.Results.{IsRefusedAs, refused_if}
use Rattle.catalogue.specs.Refusing.{broken_bound}
use Rattle.catalogue.specs.Schema.{accesses_on}
use Rattle.update_guard.specs.Guarding.{IndexesOf}
use Rattle.update_guard.proofs.InsertFacts.{always_err, refused_on}
use Rattle.update_guard.proofs.inserting.insert_rows.Goals as goal

pub returns-in_err-add_rows-clause-indexes : goal.returns-in_err-add_rows-clause-indexes
returns-in_err-add_rows-clause-indexes g c = always_err c.from_residual-in_err-add_rows.result
    (λ all live is. c.in_err-add_rows.ensures.err all c.args.store.now live is)

pub returns-in-Ok-clause-added : goal.returns-in-Ok-clause-added
returns-in-Ok-clause-added g c all live is =
    subst (λ xs. IndexesOf c.args.catalogue.now.accesses (set all c.args.table.0 (c.args.store.now ++ xs)) (g.I.Indexes.seen c.add_rows.new.indexes)) c.as_slice.ensures
    (c.in_ok-add_rows.ensures.added all c.args.store.now live is)

pub returns-clause-indexes : goal.returns-clause-indexes
returns-clause-indexes g c all live is =
    c.remove_rows.ensures.taken all c.args.store.now live
    (subst (λ xs. IndexesOf c.args.catalogue.now.accesses (set all c.args.table.0 (c.args.store.now ++ xs)) (g.I.Indexes.seen c.add_rows.new.indexes))
    (c.as_slice.ensures ∙ sym (c.as_slice-in-Err.ensures ∙ c.in-Err.ensures.stay)) (c.in_ok-add_rows.ensures.added all c.args.store.now live is))

pub returns-in_err-add_rows-clause-refused : goal.returns-in_err-add_rows-clause-refused
returns-in_err-add_rows-clause-refused g c all live is indexed hold =
    let test = nat_lt c.args.limits.now.rows (length c.args.store.now + length c.args.rows) in
    let mine = accesses_on c.args.catalogue.now.accesses c.args.table in
    let R : Option Refusal → Type 0 = λ o. IsRefusedAs c.from_residual-in_err-add_rows.result o in
    let few : refused_if test (TooMany Rows c.args.limits.now.rows) ≡ None =
    ap (λ n. refused_if (nat_lt c.args.limits.now.rows n) (TooMany Rows c.args.limits.now.rows))
    (omega (arith, c.len.ensures, c.len-2.ensures)) ∙ c.in_ok-refuse_too_many.ensures in
    subst R (sym (ap (λ o. option_or o (broken_bound mine c.args.store.now c.args.rows)) few))
    (subst (λ rs. R (broken_bound mine c.args.store.now rs)) c.as_slice.ensures
    (subst (λ own. R (broken_bound mine own c.as_slice.result.now)) is
    (refused_on (Unit {0}) (Unit {0}) c.from_residual-in_err-add_rows.result c.in_err-add_rows.field-0.0
    (broken_bound mine (get_or all c.args.table.0 []) c.as_slice.result.now)
    c.from_residual-in_err-add_rows.ensures (c.in_err-add_rows.ensures.refused all live indexed hold))))
