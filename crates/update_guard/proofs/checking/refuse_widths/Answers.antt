use Rattle.std.proofs.Common.{◌≡◌, ◌∙◌, ◌+◌, ◌==◌, ℕ, Bool, not, ap, sym, length, Some}
use Rattle.std.specs.Prelude.{option_map}
use Rattle.std.proofs.lemmas.Bool.{eq-eqb, ne_eqb}
use Rattle.beas_core.specs.declared.refusal.Refusal.{Refusal}
use Rattle.beas_core.specs.declared.refusal.Refusal.TheVariants.{WrongWidth}
use Rattle.beas_core.specs.Types.{Row}
use Rattle.update_guard.proofs.ScanFacts.{scan_found, scan_next, scan_end, all_more, all_taken}
use Rattle.update_guard.proofs.checking.refuse_widths.Goals as goal

abbrev other_width : ℕ → ℕ × Row → Bool
other_width width r = not (length r.1 == width)

abbrev refusal : ℕ → ℕ × Row → Refusal
refusal width r = WrongWidth r.0 (length r.1) width

pub returns-then-len-columns-clause-refused : goal.returns-then-len-columns-clause-refused
returns-then-len-columns-clause-refused c =
    let width = length c.args.columns.now in
    let row = c.index-rows-i.result in
    let e = ap not (ne_eqb (length row) width (λ s. c.if-len-columns.true (c.len.ensures ∙ s))) in
    ap (option_map (refusal width)) (c.loop-i.invariant.none
    ∙ scan_found (other_width width) c.args.rows.now c.loop-i.i row c.loop-i-test.true c.index-rows-i.is e)
    ∙ ap (λ n. Some (WrongWidth (c.loop-i.i + 1) n width)) (sym c.len-then-len-columns.ensures)

pub loop-i-preserved : goal.loop-i-preserved
loop-i-preserved c =
    let width = length c.args.columns.now in
    let row = c.index-rows-i.result in
    let same : length row ≡ width = sym c.len.ensures ∙ c.if-len-columns.false in
    record {
      none = c.loop-i.invariant.none ∙ scan_next (other_width width) c.args.rows.now c.loop-i.i row c.loop-i-test.true c.index-rows-i.is
          (ap not (eq-eqb (length row) width same));
      wide = all_more (λ r. length r ≡ width) c.args.rows.now c.loop-i.i row c.loop-i-test.true c.index-rows-i.is c.loop-i.invariant.wide same;
    }

pub returns-clause-refused : goal.returns-clause-refused
returns-clause-refused c =
    let width = length c.args.columns.now in
    ap (option_map (refusal width)) (c.loop-i.invariant.none ∙ scan_end (other_width width) 1 c.args.rows.now c.loop-i.i c.loop-i-test.false)

pub returns-clause-wide : goal.returns-clause-wide
returns-clause-wide c = all_taken (λ r. length r ≡ length c.args.columns.now) c.args.rows.now c.loop-i.i c.loop-i-test.false c.loop-i.invariant.wide
