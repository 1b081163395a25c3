use Rattle.std.proofs.Common.{◌≡◌, ◌∙◌, ◌+◌, ℕ, Bool, List, [], not, ap, sym, length, Some, None, is_some}
use Rattle.std.specs.Prelude.{option_map, unwrap_or, find, zip}
use Rattle.beas_core.specs.declared.refusal.Refusal.{Refusal}
use Rattle.beas_core.specs.declared.refusal.Refusal.TheVariants.{WrongType}
use Rattle.beas_core.specs.declared.schema.Column.{Column}
use Rattle.beas_core.specs.Types.{Row}
use Rattle.catalogue.specs.Database.{RowFits, has_kind}
use Rattle.catalogue.specs.Refusing.{misfit}
use Rattle.catalogue.proofs.ListFacts.{none_from_map}
use Rattle.update_guard.proofs.ScanFacts.{scan_found, scan_next, scan_end, all_more, all_taken, list_all-from_find}
use Rattle.update_guard.proofs.checking.refuse_types.Goals as goal

abbrev misfits : List Column → ℕ × Row → Bool
misfits columns r = is_some (misfit columns r.1)

abbrev refusal : List Column → ℕ × Row → Refusal
refusal columns r = WrongType r.0 (unwrap_or (misfit columns r.1) [])

fits : (columns : List Column) (row : Row) → length row ≡ length columns → misfit columns row ≡ None → RowFits columns row
fits columns row wide none = record {
  width = wide;
  types = list_all-from_find (λ p. has_kind p.0.kind p.1) (zip columns row)
      (none_from_map (λ p. p.0.name) (find (λ p. not (has_kind p.0.kind p.1)) (zip columns row)) none);
}

pub returns-in-Some-clause-refused : goal.returns-in-Some-clause-refused
returns-in-Some-clause-refused c =
    let columns = c.args.columns.now in
    let row = c.index-rows-i.result in
    let is : misfit columns row ≡ Some c.in-Some.column.now = ap (misfit columns) (sym c.as_slice.ensures) ∙ sym c.in-Some.ensures in
    ap (option_map (refusal columns)) (c.loop-i.invariant.none
    ∙ scan_found (misfits columns) c.args.rows.now c.loop-i.i row c.loop-i-test.true c.index-rows-i.is (ap is_some is))
    ∙ ap (λ o. Some (WrongType (c.loop-i.i + 1) (unwrap_or o []))) is ∙ ap (λ n. Some (WrongType (c.loop-i.i + 1) n)) (sym c.in_ok-copy-in-Some.ensures)

pub loop-i-preserved : goal.loop-i-preserved
loop-i-preserved c =
    let columns = c.args.columns.now in
    let row = c.index-rows-i.result in
    let none : misfit columns row ≡ None = ap (misfit columns) (sym c.as_slice.ensures) ∙ sym c.in-None.ensures in
    let wide : length row ≡ length columns = ap length c.index-rows-i.is ∙ c.requires.wide c.loop-i.i row c.loop-i-test.true in
    record {
      none = c.loop-i.invariant.none ∙ scan_next (misfits columns) c.args.rows.now c.loop-i.i row c.loop-i-test.true c.index-rows-i.is (ap is_some none);
      fit = all_more (RowFits columns) c.args.rows.now c.loop-i.i row c.loop-i-test.true c.index-rows-i.is c.loop-i.invariant.fit (fits columns row wide none);
    }

pub returns-clause-refused : goal.returns-clause-refused
returns-clause-refused c =
    ap (option_map (refusal c.args.columns.now)) (c.loop-i.invariant.none
    ∙ scan_end (misfits c.args.columns.now) 1 c.args.rows.now c.loop-i.i c.loop-i-test.false)

pub returns-clause-fit : goal.returns-clause-fit
returns-clause-fit c = all_taken (RowFits c.args.columns.now) c.args.rows.now c.loop-i.i c.loop-i-test.false c.loop-i.invariant.fit
