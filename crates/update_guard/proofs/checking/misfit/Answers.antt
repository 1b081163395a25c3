use Rattle.std.proofs.Common.{◌∙◌, ◌<◌, ◌∷◌, Bool, not, ap, sym, drop, length, get_or, arith, add-one, Some, cond, suc}
use Rattle.std.specs.Prelude.{find, option_map, zip}
use Rattle.beas_core.specs.declared.schema.Column.{Column}
use Rattle.beas_core.specs.declared.value.Value.{Value}
use Rattle.catalogue.specs.Database.{has_kind}
use Rattle.update_guard.proofs.ScanFacts.{drop-zip, drop-zip_end}
use Rattle.update_guard.proofs.checking.misfit.Goals as goal

abbrev fails : Column × Value → Bool
fails p = not (has_kind p.0.kind p.1)

pub returns-then-not-has_kind : goal.returns-then-not-has_kind
returns-then-not-has_kind c =
    let column = c.index-columns-i.result in
    let value = c.index-row-i.result in
    let long : c.loop-i.i < length c.args.row.now = omega (arith, c.loop-i-test.true, c.requires) in
    let here = drop-zip c.args.columns.now c.args.row.now c.loop-i.i column value c.loop-i-test.true long in
    sym (ap (option_map (λ p. p.0.name)) (c.loop-i.invariant ∙ ap (find fails) (here
    ∙ ap (λ x. (x, get_or c.args.row.now c.loop-i.i value) ∷ drop (suc c.loop-i.i) (zip c.args.columns.now c.args.row.now)) (sym c.index-columns-i.is)
    ∙ ap (λ v. (column, v) ∷ drop (suc c.loop-i.i) (zip c.args.columns.now c.args.row.now)) (sym c.index-row-i.is))
    ∙ ap (λ b. cond (not b) (Some (column, value)) (find fails (drop (suc c.loop-i.i) (zip c.args.columns.now c.args.row.now))))
    (sym c.has_kind.ensures ∙ c.if-not-has_kind.true)))

pub loop-i-preserved : goal.loop-i-preserved
loop-i-preserved c =
    let column = c.index-columns-i.result in
    let value = c.index-row-i.result in
    let long : c.loop-i.i < length c.args.row.now = omega (arith, c.loop-i-test.true, c.requires) in
    let here = drop-zip c.args.columns.now c.args.row.now c.loop-i.i column value c.loop-i-test.true long in
    c.loop-i.invariant ∙ ap (find fails) (here
    ∙ ap (λ x. (x, get_or c.args.row.now c.loop-i.i value) ∷ drop (suc c.loop-i.i) (zip c.args.columns.now c.args.row.now)) (sym c.index-columns-i.is)
    ∙ ap (λ v. (column, v) ∷ drop (suc c.loop-i.i) (zip c.args.columns.now c.args.row.now)) (sym c.index-row-i.is))
    ∙ ap (λ b. cond (not b) (Some (column, value)) (find fails (drop (suc c.loop-i.i) (zip c.args.columns.now c.args.row.now))))
    (sym c.has_kind.ensures ∙ c.if-not-has_kind.false)
    ∙ ap (λ j. find fails (drop j (zip c.args.columns.now c.args.row.now))) (sym (add-one c.loop-i.i))

pub returns : goal.returns
returns c =
    sym (ap (option_map (λ p. p.0.name)) (c.loop-i.invariant ∙ ap (find fails) (drop-zip_end c.args.columns.now c.args.row.now c.loop-i.i c.loop-i-test.false)))
